-- The first fault, from what the earlier lines say.
use Rattle.std.proofs.Common.{ℕ, suc, ◌≡◌, ◌≤◌, refl, ap, List, [], ◌∷◌, ◌++◌, length, Bool, true, false, if◌then◌else◌, Option, Some, None, arith, nat_le, ◌&&◌}
use Rattle.ste_base.specs.Limits.{most_variables}
use Rattle.assert_syntax.specs.declared.form.LineFault.{LineFault}
use Rattle.assert_syntax.specs.declared.form.LineFault.TheVariants.{Bad, Many}
use Rattle.assert_syntax.specs.Forms.{Entry, Form}
use Rattle.assert_syntax.specs.Forms as form
use Rattle.assert_syntax.specs.Parses.{Parse}
use Rattle.assert_syntax.specs.Places.{Context, context_behind, context_of, fault_or, first_double, first_task_fault, form_fault, line_fault, may_stand_at, names_fault, vertices_behind}
use Rattle.assert_syntax.specs.private.Drafts.{HasRoom}

-- the first faulty line, where the earlier lines say this
abbrev pub fault_from : Parse → Context → List Entry → Option (ℕ × LineFault)
fault_from parse context [] = None
fault_from parse context (line ∷ lines) =
    fault_or line.line (line_fault parse context line.form) (fault_from parse (context_behind context line.form) lines)

-- what the earlier lines say is all that is asked of them
pub same_fault : (parse : Parse) (earlier lines : List Entry) → first_task_fault parse earlier lines ≡ fault_from parse (context_of earlier) lines
same_fault parse earlier [] = refl
same_fault parse earlier (line ∷ lines) =
    ap (fault_or line.line (line_fault parse (context_of earlier) line.form)) (same_fault parse (line ∷ earlier) lines)

-- a line that may stand, and in which nothing is wrong
pub no_fault : (parse : Parse) (context : Context) (form : Form) → may_stand_at form context.place ≡ true → form_fault parse context form ≡ None → line_fault parse context form ≡ None
no_fault parse context form may none = rw may none

-- a line that may stand has the fault of its form
pub form_decides : (parse : Parse) (context : Context) (form : Form) (found : Option LineFault) → may_stand_at form context.place ≡ true → form_fault parse context form ≡ found → line_fault parse context form ≡ found
form_decides parse context form found may e = rw may e

pub bad_position : (parse : Parse) (context : Context) (form : Form) → may_stand_at form context.place ≡ false → line_fault parse context form ≡ Some Bad
bad_position parse context form may = rw may refl

if_none : (c : Bool) → (if c then None else Some Many) ≡ None → c ≡ true
if_none true e = refl
if_none false e = absurd (cc e)

both_true : (a b : Bool) → (a && b) ≡ true → (a ≡ true) × (b ≡ true)
both_true true b e = (refl, e)
both_true false b e = absurd (cc e)

names_fit : (most : ℕ) (double : Option (List ℕ)) (names : List (List ℕ)) → names_fault most double names ≡ None → length names ≤ most
names_fit most (Some name) names e = absurd (cc e)
names_fit most None names e = let h = if_none (nat_le (length names) most) e in grind (arith, h)

-- behind a line without a fault there are no more of anything than there may be
pub room_behind : (parse : Parse) (context : Context) (form : Form) → form_fault parse context form ≡ None → HasRoom context → HasRoom (context_behind context form)
room_behind parse context (form.vars names) e room = record { vars = names_fit most_variables (first_double context.vars names) (context.vars ++ names) e; names = room.names; vertices = room.vertices; edges = room.edges }
room_behind parse context (form.ste name reset) e room = record { vars = room.vars; names = names_fit 256 (first_double context.names (name ∷ [])) (context.names ++ name ∷ []) e; vertices = room.vertices; edges = room.edges }
room_behind parse context (form.gste name vertex reset) e room = record { vars = room.vars; names = names_fit 256 (first_double context.names (name ∷ [])) (context.names ++ name ∷ []) e; vertices = omega arith; edges = omega arith }
room_behind parse context (form.edge from to) e room =
    let vertices = vertices_behind (form.edge from to) context.vertices in
    let h = both_true (nat_le (length vertices) 1000) (nat_le (suc context.edges) 10000) (if_none (nat_le (length vertices) 1000 && nat_le (suc context.edges) 10000) e) in
    record { vars = room.vars; names = room.names; vertices = grind (arith, h.0); edges = grind (arith, h.1) }
room_behind parse context (form.clause clause) e room = room
room_behind parse context (form.weak node times) e room = room
room_behind parse context form.ending e room = record { vars = room.vars; names = room.names; vertices = room.vertices; edges = room.edges }
room_behind parse context form.wrong e room = room
