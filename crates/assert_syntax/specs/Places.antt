-- Meaning. Where a task line may stand and what it may name, read from the lines before it, the
-- nearest first; and the first faulty line.
use Rattle.std.specs.Prelude.{ℕ, suc, ◌++◌, ◌∷◌, [], List, length, Bool, true, false, Option, Some, None, if◌then◌else◌, nat_le, ◌&&◌, ◌||◌, bytes_eq}
use Rattle.std.specs.List.{list_any}
use Rattle.ste_base.specs.Limits.{most_variables}
use Rattle.indexmap.specs.IndexSet.{insert_all}
use Rattle.bool_expr.specs.Grammar.{Expression, spelling}
use Rattle.bool_expr.specs.Read.{first_unknown, number_in}
use Rattle.assert_syntax.specs.declared.form.LineFault.{LineFault}
use Rattle.assert_syntax.specs.declared.form.LineFault.TheVariants.{Bad, Deep, Double, Unknown, Many}
use Rattle.assert_syntax.specs.declared.form.Span.{Span}
use Rattle.assert_syntax.specs.declared.form.Span.TheVariants as span
use Rattle.assert_syntax.specs.declared.position.Position.{Position}
use Rattle.assert_syntax.specs.declared.position.Position.TheVariants.{Start, Assertion, Graph, Edge, Ended}
use Rattle.assert_syntax.specs.Forms.{Entry, Form}
use Rattle.assert_syntax.specs.Forms as form
use Rattle.assert_syntax.specs.Parses.{Parse, is_deep}

-- no task stands before this position
abbrev pub is_start : Position → Bool
is_start Start = true
is_start other = false

-- a task is open at this position
abbrev pub is_inside : Position → Bool
is_inside Start = false
is_inside Ended = false
is_inside other = true

-- a graph is open at this position
abbrev pub holds_edges : Position → Bool
holds_edges Graph = true
holds_edges Edge = true
holds_edges other = false

-- a clause or a weakening with these times may stand here: without times behind an edge, and with
-- times in an assertion
abbrev pub span_fits : Span → Position → Bool
span_fits span.Absent Edge = true
span_fits span.Absent other = false
span_fits times Assertion = true
span_fits times other = false

-- a line of this form may stand here
abbrev pub may_stand_at : Form → Position → Bool
may_stand_at (form.vars names) position = is_start position
may_stand_at (form.ste name reset) position = true
may_stand_at (form.gste name vertex reset) position = true
may_stand_at (form.edge from to) position = holds_edges position
may_stand_at (form.clause clause) position = span_fits clause.span position
may_stand_at (form.weak node times) position = span_fits times position
may_stand_at form.ending position = is_inside position
may_stand_at form.wrong position = false

-- the position behind a line of this form
abbrev pub position_behind : Form → Position → Position
position_behind (form.ste name reset) position = Assertion
position_behind (form.gste name vertex reset) position = Graph
position_behind (form.edge from to) position = Edge
position_behind form.ending position = Ended
position_behind other position = position

-- the variables that are declared behind a line of this form
abbrev pub vars_behind : Form → List (List ℕ) → List (List ℕ)
vars_behind (form.vars names) vars = vars ++ names
vars_behind other vars = vars

-- the names of the tasks that are started behind a line of this form
abbrev pub names_behind : Form → List (List ℕ) → List (List ℕ)
names_behind (form.ste name reset) names = names ++ name ∷ []
names_behind (form.gste name vertex reset) names = names ++ name ∷ []
names_behind other names = names

-- the vertices of the last graph behind a line of this form, in the order of first mention
abbrev pub vertices_behind : Form → List (List ℕ) → List (List ℕ)
vertices_behind (form.gste name vertex reset) vertices = vertex ∷ []
vertices_behind (form.edge from to) vertices = insert_all bytes_eq vertices (from ∷ to ∷ [])
vertices_behind other vertices = vertices

-- the number of edges of the last graph behind a line of this form
abbrev pub edges_behind : Form → ℕ → ℕ
edges_behind (form.gste name vertex reset) edges = 0
edges_behind (form.edge from to) edges = suc edges
edges_behind other edges = edges

-- what the lines before a line say of it
pub record Context : Type 0 where
  -- where it stands
  pub place : Position
  -- the variables that are declared
  pub vars : List (List ℕ)
  -- the names of the tasks
  pub names : List (List ℕ)
  -- the vertices and the number of edges of the last graph
  pub vertices : List (List ℕ)
  pub edges : ℕ

-- the same behind a line of this form
abbrev pub context_behind : Context → Form → Context
context_behind context form = record {
  place = position_behind form context.place;
  vars = vars_behind form context.vars;
  names = names_behind form context.names;
  vertices = vertices_behind form context.vertices;
  edges = edges_behind form context.edges;
}

-- what these lines say of the next
abbrev pub context_of : List Entry → Context
context_of [] = record { place = Start; vars = []; names = []; vertices = []; edges = 0 }
context_of (line ∷ earlier) = context_behind (context_of earlier) line.form

-- the first of the words that is one of the names, or a word before it
abbrev pub first_double : List (List ℕ) → List (List ℕ) → Option (List ℕ)
first_double names [] = None
first_double names (word ∷ words) =
    if list_any (bytes_eq word) names then Some word else first_double (names ++ word ∷ []) words

-- what is wrong with names, of which one may be a double, where there may be so many
abbrev pub names_fault : ℕ → Option (List ℕ) → List (List ℕ) → Option LineFault
names_fault most (Some name) names = Some (Double name)
names_fault most None names = if nat_le (length names) most then None else Some Many

-- what is wrong with a graph of these vertices and so many edges
abbrev pub graph_fault : List (List ℕ) → ℕ → Option LineFault
graph_fault vertices edges =
    if nat_le (length vertices) 1000 && nat_le edges 10000 then None else Some Many

-- what is wrong with times
abbrev pub span_fault : Span → Option LineFault
span_fault span.Late = Some Many
span_fault other = None

-- what is wrong with a clause whose value and guard have these first variables that are not
-- declared
abbrev pub unknown_fault : Option (List ℕ) → Option (List ℕ) → Span → Option LineFault
unknown_fault (Some name) guard times = Some (Unknown name)
unknown_fault None (Some name) times = Some (Unknown name)
unknown_fault None None times = span_fault times

-- what is wrong with a clause whose value and guard are these expressions
abbrev pub clause_fault : List (List ℕ) → Option Expression → Option Expression → Span →
    Option LineFault
clause_fault vars None guard times = Some Bad
clause_fault vars (Some value) None times = Some Bad
clause_fault vars (Some value) (Some guard) times =
    if is_deep value || is_deep guard then Some Deep
    else unknown_fault (first_unknown (number_in vars) (spelling value))
    (first_unknown (number_in vars) (spelling guard)) times

-- what is wrong with a line of this form that may stand where it does
abbrev pub form_fault : Parse → Context → Form → Option LineFault
form_fault parse context (form.vars names) =
    names_fault most_variables (first_double context.vars names)
    (vars_behind (form.vars names) context.vars)
form_fault parse context (form.ste name reset) =
    names_fault 256 (first_double context.names (name ∷ []))
    (names_behind (form.ste name reset) context.names)
form_fault parse context (form.gste name vertex reset) =
    names_fault 256 (first_double context.names (name ∷ []))
    (names_behind (form.gste name vertex reset) context.names)
form_fault parse context (form.edge from to) =
    graph_fault (vertices_behind (form.edge from to) context.vertices) (suc context.edges)
form_fault parse context (form.clause clause) =
    clause_fault context.vars (parse clause.value) (parse clause.guard) clause.span
form_fault parse context (form.weak node times) = span_fault times
form_fault parse context other = None

-- what is wrong with a line of this form
abbrev pub line_fault : Parse → Context → Form → Option LineFault
line_fault parse context form =
    if may_stand_at form context.place then form_fault parse context form else Some Bad

-- the fault of a line of this number, or else the later one
abbrev pub fault_or : ℕ → Option LineFault → Option (ℕ × LineFault) → Option (ℕ × LineFault)
fault_or line (Some fault) later = Some (line, fault)
fault_or line None later = later

-- the number of the first faulty line and what is wrong with it, behind these earlier lines
abbrev pub first_task_fault : Parse → List Entry → List Entry → Option (ℕ × LineFault)
first_task_fault parse earlier [] = None
first_task_fault parse earlier (line ∷ lines) =
    fault_or line.line (line_fault parse (context_of earlier) line.form)
    (first_task_fault parse (line ∷ earlier) lines)
