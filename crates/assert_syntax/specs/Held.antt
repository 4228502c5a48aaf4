-- Meaning. Forms of lines as the code holds them: over the words of their lines.
use Rattle.std.specs.Prelude.{ℕ, List, codes}
use Rattle.blif_lines.specs.Laws.{text_of_words}
use Rattle.assert_syntax.specs.declared.form.Clause as held_clause
use Rattle.assert_syntax.specs.declared.form.Form as held_form
use Rattle.assert_syntax.specs.declared.form.Form.TheVariants.{Vars, Ste, Gste, Edge, Clause, Weak, End, Wrong}
use Rattle.assert_syntax.specs.declared.form.Guard.{Guard}
use Rattle.assert_syntax.specs.declared.form.Guard.TheVariants.{Absent, Words}
use Rattle.assert_syntax.specs.Forms as said

-- the text of a guard
abbrev pub guard_held : Guard → List ℕ
guard_held Absent = codes "1"
guard_held (Words words) = text_of_words words.now

-- the clause with the texts of its words
abbrev pub clause_held : held_clause.Clause → said.Clause
clause_held clause = record {
  side = clause.side;
  node = clause.node.now;
  value = text_of_words clause.value.now;
  guard = guard_held clause.guard;
  span = clause.span;
}

-- the form, wherever its words lie in memory
abbrev pub form_held : held_form.Form → said.Form
form_held (Vars names) = said.vars names.now
form_held (Ste name reset) = said.ste name.now reset
form_held (Gste name vertex reset) = said.gste name.now vertex.now reset
form_held (Edge from to) = said.edge from.now to.now
form_held (Clause clause) = said.clause (clause_held clause)
form_held (Weak node times) = said.weak node.now times
form_held End = said.ending
form_held Wrong = said.wrong
