-- Meaning in plain terms, and a law: where a task line may stand, what is wrong with a line, and
-- that the first fault is by these.
use Rattle.std.specs.Prelude.{◌≡◌, ◌⊎◌, ◌<◌, ℕ, suc, ◌++◌, ◌∷◌, [], List, length, map, filter, take, drop, Bool, true, false, Option, Some, None, slice_get, bytes_eq}
use Rattle.std.specs.List.{Contains, flat_map}
use Rattle.ste_base.specs.Limits.{most_variables}
use Rattle.indexmap.specs.IndexSet.{insert_all}
use Rattle.bool_expr.specs.Grammar.{Expression, nesting}
use Rattle.bool_expr.specs.Read.{Spells}
use Rattle.bool_expr.specs.Tokens.{Token, tokens_of, variable}
use Rattle.assert_syntax.specs.declared.form.LineFault.{LineFault}
use Rattle.assert_syntax.specs.declared.form.LineFault.TheVariants.{Bad, Deep, Double, Unknown, Many}
use Rattle.assert_syntax.specs.declared.form.Span.{Span}
use Rattle.assert_syntax.specs.declared.form.Span.TheVariants as span
use Rattle.assert_syntax.specs.declared.position.Position.{Position}
use Rattle.assert_syntax.specs.declared.position.Position.TheVariants.{Assertion, Graph, Edge, Ended}
use Rattle.assert_syntax.specs.Forms.{Entry, Form}
use Rattle.assert_syntax.specs.Forms as form
use Rattle.assert_syntax.specs.Parses.{Parse, IsParse}
use Rattle.assert_syntax.specs.Places.{first_task_fault}

-- the form of each line
abbrev pub forms_of : List Entry → List Form
forms_of lines = map (λ line. line.form) lines

-- the line at place k has this form
abbrev pub HasForm : List Entry → ℕ → Form → Type 0
HasForm lines k form = slice_get (forms_of lines) k ≡ Some form

-- the position that a line of this form opens, where it opens one: it starts an assertion, a graph
-- or an edge, or ends a task
abbrev pub opens : Form → Option Position
opens (form.ste name reset) = Some Assertion
opens (form.gste name vertex reset) = Some Graph
opens (form.edge from to) = Some Edge
opens form.ending = Some Ended
opens other = None

-- no line before place i opens a position
abbrev pub IsFirst : List Entry → ℕ → Type 0
IsFirst lines i = (k : ℕ) (form : Form) → k < i → HasForm lines k form → opens form ≡ None

-- the nearest line before place i that opens a position opens this one
pub record IsBehind (lines : List Entry) (i : ℕ) (position : Position) : Type 0 where
  pub start : ℕ
  pub head : Form
  pub earlier : start < i
  pub here : HasForm lines start head
  pub opened : opens head ≡ Some position
  pub nearest : (k : ℕ) (form : Form) → start < k → k < i → HasForm lines k form → opens form ≡ None

-- a clause or a weakening with these times may stand at place i: without times behind an edge, and
-- with times in an assertion
abbrev pub ClauseStands : List Entry → ℕ → Span → Type 0
ClauseStands lines i span.Absent = IsBehind lines i Edge
ClauseStands lines i times = IsBehind lines i Assertion

-- A line of this form may stand at place i: `.vars` before the first task, `.ste` and `.gste`
-- anywhere, `.edge` in a graph, `.end` in a task.
abbrev pub Stands : List Entry → ℕ → Form → Type 0
Stands lines i (form.vars names) = IsFirst lines i
Stands lines i (form.ste name reset) = Unit {0}
Stands lines i (form.gste name vertex reset) = Unit {0}
Stands lines i (form.edge from to) = IsBehind lines i Graph ⊎ IsBehind lines i Edge
Stands lines i (form.clause clause) = ClauseStands lines i clause.span
Stands lines i (form.weak node times) = ClauseStands lines i times
Stands lines i form.ending = IsBehind lines i Assertion
    ⊎ (IsBehind lines i Graph ⊎ IsBehind lines i Edge)
Stands lines i form.wrong = ⊥

-- the variables that a line declares, and those of the lines before place i
abbrev pub declares : Form → List (List ℕ)
declares (form.vars names) = names
declares other = []

abbrev pub declared : List Entry → ℕ → List (List ℕ)
declared lines i = flat_map declares (take i (forms_of lines))

-- the task that a line names, and those of the lines before place i
abbrev pub names_task : Form → List (List ℕ)
names_task (form.ste name reset) = name ∷ []
names_task (form.gste name vertex reset) = name ∷ []
names_task other = []

abbrev pub tasks_named : List Entry → ℕ → List (List ℕ)
tasks_named lines i = flat_map names_task (take i (forms_of lines))

-- the first of these words that is one of the names, or one of the words before it
pub record IsFirstDouble (names words : List (List ℕ)) (word : List ℕ) : Type 0 where
  pub before : List (List ℕ)
  pub after : List (List ℕ)
  pub stands : words ≡ before ++ word ∷ after
  pub double : Contains (names ++ before) word
  pub first : (one : List (List ℕ)) (other : List ℕ) (rest : List (List ℕ)) →
      before ≡ one ++ other ∷ rest → Contains (names ++ one) other → ⊥

-- the first variable of these tokens that is none of the names
pub record IsFirstUndeclared (names : List (List ℕ)) (tokens : List Token) (word : List ℕ) :
    Type 0 where
  pub before : List Token
  pub after : List Token
  pub stands : tokens ≡ before ++ variable word ∷ after
  pub undeclared : Contains names word → ⊥
  pub first : (other : List ℕ) → Contains before (variable other) → Contains names other

-- the vertices that a line mentions, and the number of edges that it starts
abbrev pub mentions : Form → List (List ℕ)
mentions (form.gste name vertex reset) = vertex ∷ []
mentions (form.edge from to) = from ∷ to ∷ []
mentions other = []

abbrev pub starts_edge : Form → Bool
starts_edge (form.edge from to) = true
starts_edge other = false

-- the nearest line before place i that starts a graph stands at this place
pub record IsGraphAt (lines : List Entry) (i start : ℕ) : Type 0 where
  pub head : Form
  pub earlier : start < i
  pub here : HasForm lines start head
  pub opened : opens head ≡ Some Graph
  pub nearest : (k : ℕ) (form : Form) → start < k → k < i → HasForm lines k form →
      opens form ≡ Some Graph → ⊥

-- With the line at place i the graph has more than 1,000 different vertices or more than 10,000
-- edges.
pub record IsLargeGraph (lines : List Entry) (i : ℕ) : Type 0 where
  pub start : ℕ
  pub graph : IsGraphAt lines i start
  pub large : let forms = drop start (take (suc i) (forms_of lines)) in
      (1000 < length (insert_all bytes_eq [] (flat_map mentions forms)))
      ⊎ (10000 < length (filter starts_edge forms))

-- a time is above 100,000
abbrev pub IsLate : Span → Type 0
IsLate span.Late = Unit {0}
IsLate other = ⊥

-- the text spells no expression, or one that is nested above 100
abbrev pub SpellsNone : List ℕ → Type 0
SpellsNone text = (d : Expression) → ¬ Spells d text

abbrev pub SpellsDeep : List ℕ → Type 0
SpellsDeep text = (d : Expression) × Spells d text × (100 < nesting d)

-- a line of this form at place i is bad: it may not stand there, or has a text for an expression
-- that spells none
abbrev pub HasNoExpression : Form → Type 0
HasNoExpression (form.clause clause) = SpellsNone clause.value ⊎ SpellsNone clause.guard
HasNoExpression other = ⊥

abbrev pub IsBad : List Entry → ℕ → Form → Type 0
IsBad lines i form = (¬ Stands lines i form) ⊎ HasNoExpression form

-- it has an expression that is nested above 100
abbrev pub IsDeep : Form → Type 0
IsDeep (form.clause clause) = SpellsDeep clause.value ⊎ SpellsDeep clause.guard
IsDeep other = ⊥

-- it declares a variable, or names a task, a second time: the first such name
abbrev pub IsDouble : List Entry → ℕ → Form → List ℕ → Type 0
IsDouble lines i (form.vars names) word = IsFirstDouble (declared lines i) names word
IsDouble lines i (form.ste name reset) word = IsFirstDouble (tasks_named lines i) (name ∷ []) word
IsDouble lines i (form.gste name vertex reset) word =
    IsFirstDouble (tasks_named lines i) (name ∷ []) word
IsDouble lines i other word = ⊥

-- its expressions use a variable that is not declared before it: the first such, first in the value
-- and then in the guard
abbrev pub IsUnknown : List Entry → ℕ → Form → List ℕ → Type 0
IsUnknown lines i (form.clause clause) word =
    IsFirstUndeclared (declared lines i) (tokens_of clause.value ++ tokens_of clause.guard) word
IsUnknown lines i other word = ⊥

-- with it there are too many of something, or one of its times is above 100,000
abbrev pub IsMany : List Entry → ℕ → Form → Type 0
IsMany lines i (form.vars names) = most_variables < length (declared lines (suc i))
IsMany lines i (form.ste name reset) = 256 < length (tasks_named lines (suc i))
IsMany lines i (form.gste name vertex reset) = 256 < length (tasks_named lines (suc i))
IsMany lines i (form.edge from to) = IsLargeGraph lines i
IsMany lines i (form.clause clause) = IsLate clause.span
IsMany lines i (form.weak node times) = IsLate times
IsMany lines i other = ⊥

-- this is wrong with a line of this form at place i
abbrev pub HasFault : List Entry → ℕ → Form → LineFault → Type 0
HasFault lines i form Bad = IsBad lines i form
HasFault lines i form Deep = IsDeep form
HasFault lines i form (Double word) = IsDouble lines i form word
HasFault lines i form (Unknown word) = IsUnknown lines i form word
HasFault lines i form Many = IsMany lines i form

-- the kinds of faults that go before this one on a line
abbrev pub GoesBefore : LineFault → LineFault → Type 0
GoesBefore Bad Bad = ⊥
GoesBefore Bad other = Unit {0}
GoesBefore Deep Bad = ⊥
GoesBefore Deep Deep = ⊥
GoesBefore Deep other = Unit {0}
GoesBefore (Double word) (Unknown other) = Unit {0}
GoesBefore (Double word) Many = Unit {0}
GoesBefore (Unknown word) Many = Unit {0}
GoesBefore one other = ⊥

-- the first faulty line has this number, and this is wrong with it first
pub record IsFirstFault (lines : List Entry) (number : ℕ) (kind : LineFault) : Type 0 where
  pub place : ℕ
  pub entry : Entry
  pub here : slice_get lines place ≡ Some entry
  pub numbered : entry.line ≡ number
  pub faulty : HasFault lines place entry.form kind
  pub kinds : (other : LineFault) → GoesBefore other kind → ¬ HasFault lines place entry.form other
  pub least : (k : ℕ) (form : Form) (other : LineFault) → k < place → HasForm lines k form →
      ¬ HasFault lines k form other

-- Law: the first fault is that of the first line that has one, and where there is none no line has
-- one.
pub record FirstFaultIsLeast : Type 0 where
  pub some : (parse : Parse) (lines : List Entry) (number : ℕ) (kind : LineFault) → IsParse parse →
      first_task_fault parse [] lines ≡ Some (number, kind) → IsFirstFault lines number kind
  pub none : (parse : Parse) (lines : List Entry) → IsParse parse →
      first_task_fault parse [] lines ≡ None →
      (k : ℕ) (form : Form) (kind : LineFault) → HasForm lines k form → ¬ HasFault lines k form kind
