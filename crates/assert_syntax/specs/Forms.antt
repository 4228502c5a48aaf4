-- Meaning. What the words of a task line spell, wherever the line stands. The rules are this
-- project's own choice.
use Rattle.std.specs.Prelude.{ℕ, ◌∷◌, [], List, length, take, drop, Bool, true, false, Option, Some, None, unwrap_or, if◌then◌else◌, nat_le, bytes_eq, codes}
use Rattle.std.specs.List.{list_all, position}
use Rattle.blif_lines.specs.Laws.{text_of_words}
use Rattle.assert_syntax.specs.declared.form.Moment.{Moment}
use Rattle.assert_syntax.specs.declared.form.Moment.TheVariants as moment
use Rattle.assert_syntax.specs.declared.form.Side.{Side}
use Rattle.assert_syntax.specs.declared.form.Side.TheVariants.{Antecedent, Consequent}
use Rattle.assert_syntax.specs.declared.form.Span.{Span}
use Rattle.assert_syntax.specs.declared.form.Span.TheVariants.{Absent, During, Late}
use Rattle.assert_syntax.specs.Words.{ends_expression, is_variable, moment_of}

-- a line of an antecedent or of a consequent: the texts of its value and of its guard, which may be
-- no expressions
pub record Clause : Type 0 where
  pub side : Side
  pub node : List ℕ
  pub value : List ℕ
  pub guard : List ℕ
  pub span : Span

-- what the words of a line spell, wherever the line stands
pub data Form : Type 0 where
  -- it declares these variables
  vars : List (List ℕ) → Form
  -- it starts an assertion: name and reset
  ste : List ℕ → Bool → Form
  -- it starts a graph: name, initial vertex and reset
  gste : List ℕ → List ℕ → Bool → Form
  -- it starts an edge between two vertices
  edge : List ℕ → List ℕ → Form
  -- it is a line of an antecedent or of a consequent
  clause : Clause → Form
  -- it weakens a net, perhaps at these times
  weak : List ℕ → Span → Form
  -- it ends a task
  ending : Form
  -- it may stand nowhere
  wrong : Form

-- a line's number and its form
pub record Entry : Type 0 where
  pub line : ℕ
  pub form : Form

-- what the words behind `.vars` spell: one or more variables
abbrev pub vars_of : List (List ℕ) → Form
vars_of [] = wrong
vars_of (word ∷ words) = if list_all is_variable (word ∷ words) then vars (word ∷ words) else wrong

-- what the words behind `.ste` spell: a name, and perhaps `reset`
abbrev pub ste_of : List (List ℕ) → Form
ste_of (name ∷ []) = ste name false
ste_of (name ∷ reset ∷ []) = if bytes_eq reset (codes "reset") then ste name true else wrong
ste_of other = wrong

-- what the words behind `.gste` spell: a name, the initial vertex, and perhaps `reset`
abbrev pub gste_of : List (List ℕ) → Form
gste_of (name ∷ vertex ∷ []) = gste name vertex false
gste_of (name ∷ vertex ∷ reset ∷ []) =
    if bytes_eq reset (codes "reset") then gste name vertex true else wrong
gste_of other = wrong

-- what the words behind `.edge` spell
abbrev pub edge_of : List (List ℕ) → Form
edge_of (from ∷ to ∷ []) = edge from to
edge_of other = wrong

-- what the words behind `.end` spell
abbrev pub end_of : List (List ℕ) → Form
end_of [] = ending
end_of other = wrong

-- the times from one moment to another: the first is not above the second, unless one of them is
-- late
abbrev pub span_between : Moment → Moment → Option Span
span_between (moment.At from) (moment.At to) =
    if nat_le from to then Some (During from to) else None
span_between moment.Never to = None
span_between from moment.Never = None
span_between from to = Some Late

-- the times that end a line: none, or `from N to M`
abbrev pub span_of : List (List ℕ) → Option Span
span_of [] = Some Absent
span_of (from ∷ first ∷ to ∷ last ∷ []) =
    if bytes_eq from (codes "from") then (if bytes_eq to (codes "to")
    then span_between (moment_of first) (moment_of last) else None)
    else None
span_of other = None

-- the number of words up to the first that ends an expression, or to the end of the line
abbrev pub expression_length : List (List ℕ) → ℕ
expression_length words = unwrap_or (position ends_expression words) (length words)

-- a clause, where its line ends in times that have their form
abbrev pub clause_with : Side → List ℕ → List ℕ → List ℕ → Option Span → Form
clause_with side node value guard None = wrong
clause_with side node value guard (Some span) =
    clause (record { side = side; node = node; value = value; guard = guard; span = span })

-- a clause with a guard, by the words behind `when`
abbrev pub guarded_form : Side → List ℕ → List ℕ → List (List ℕ) → Form
guarded_form side node value words =
    let size = expression_length words in
    clause_with side node value (text_of_words (take size words)) (span_of (drop size words))

-- a clause by the words behind its value; without `when` the guard is 1
abbrev pub valued_form : Side → List ℕ → List ℕ → List (List ℕ) → Form
valued_form side node value [] = clause_with side node value (codes "1") (span_of [])
valued_form side node value (word ∷ words) =
    if bytes_eq word (codes "when") then guarded_form side node value words
    else clause_with side node value (codes "1") (span_of (word ∷ words))

-- What the words behind `.ant` or `.con` spell. The text of an expression is its words with a blank
-- between; it goes up to the first `when` or `from`, or to the end of the line.
abbrev pub clause_of : Side → List (List ℕ) → Form
clause_of side (node ∷ equals ∷ words) =
    let size = expression_length words in
    if bytes_eq equals (codes "=") then valued_form side node (text_of_words (take size words))
    (drop size words) else wrong
clause_of side other = wrong

-- a weakening, where its line ends in times that have their form
abbrev pub weak_with : List ℕ → Option Span → Form
weak_with node None = wrong
weak_with node (Some span) = weak node span

-- what the words behind `.weak` spell: a node, and perhaps times
abbrev pub weak_of : List (List ℕ) → Form
weak_of [] = wrong
weak_of (node ∷ words) = weak_with node (span_of words)

-- the form of a line by its words
abbrev pub task_form_of : List (List ℕ) → Form
task_form_of [] = wrong
task_form_of (first ∷ words) =
    if bytes_eq first (codes ".vars") then vars_of words
    else if bytes_eq first (codes ".ste") then ste_of words
    else if bytes_eq first (codes ".gste") then gste_of words
    else if bytes_eq first (codes ".edge") then edge_of words
    else if bytes_eq first (codes ".ant") then clause_of Antecedent words
    else if bytes_eq first (codes ".con") then clause_of Consequent words
    else if bytes_eq first (codes ".weak") then weak_of words
    else if bytes_eq first (codes ".end") then end_of words
    else wrong
