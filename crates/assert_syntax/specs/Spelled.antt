-- Meaning. The tasks that lines spell, with trees for expressions; what belongs to a line is read
-- from the lines behind it.
use Rattle.std.specs.Prelude.{ℕ, ◌∷◌, [], List, length, map, Bool, true, false, if◌then◌else◌, unwrap_or, bytes_eq}
use Rattle.std.specs.List.{position}
use Rattle.bool_expr.specs.Tree.{Tree, tree_of}
use Rattle.assert_syntax.specs.declared.form.Side.{Side}
use Rattle.assert_syntax.specs.declared.form.Side.TheVariants.{Antecedent, Consequent}
use Rattle.assert_syntax.specs.declared.form.Span.{Span}
use Rattle.assert_syntax.specs.declared.form.Span.TheVariants as span
use Rattle.assert_syntax.specs.declared.tasks.RawBind.{RawBind}
use Rattle.assert_syntax.specs.declared.tasks.RawEdge.{RawEdge}
use Rattle.assert_syntax.specs.declared.tasks.RawMark.{RawMark}
use Rattle.assert_syntax.specs.declared.tasks.RawQuint.{RawQuint}
use Rattle.assert_syntax.specs.declared.tasks.RawTask.{RawTask}
use Rattle.assert_syntax.specs.declared.tasks.RawWeak.{RawWeak}
use Rattle.assert_syntax.specs.declared.tasks.RawTask.TheVariants.{Ste, Gste}
use Rattle.assert_syntax.specs.Forms.{Clause, Entry, Form}
use Rattle.assert_syntax.specs.Forms as form
use Rattle.assert_syntax.specs.Parses.{Parse, tree_over}
use Rattle.assert_syntax.specs.Places.{vars_behind, vertices_behind}

-- a quintuple, with trees for its expressions
pub record RawQuintTree : Type 0 where
  pub line : ℕ
  pub guard : Tree
  pub node : List ℕ
  pub value : Tree
  pub from : ℕ
  pub to : ℕ

-- a binding without times, with trees for its expressions
pub record RawBindTree : Type 0 where
  pub line : ℕ
  pub guard : Tree
  pub node : List ℕ
  pub value : Tree

-- a weakening of an assertion, and a weakened net of an edge
pub record RawWeakTree : Type 0 where
  pub line : ℕ
  pub node : List ℕ
  pub from : ℕ
  pub to : ℕ

pub record MarkTree : Type 0 where
  pub line : ℕ
  pub node : List ℕ

-- an edge, with trees for its expressions
pub record RawEdgeTree : Type 0 where
  pub line : ℕ
  pub from : ℕ
  pub to : ℕ
  pub ant : List RawBindTree
  pub con : List RawBindTree
  pub weak : List MarkTree

-- a task, with trees for its expressions
pub data RawTaskTree : Type 0 where
  -- line, name, reset, antecedent, consequent and weakenings
  assertion : ℕ → List ℕ → Bool → List RawQuintTree → List RawQuintTree → List RawWeakTree →
      RawTaskTree
  -- line, name, reset, vertices and edges
  graph : ℕ → List ℕ → Bool → List (List ℕ) → List RawEdgeTree → RawTaskTree

-- the trees of what is read
abbrev pub raw_quint_tree : RawQuint → RawQuintTree
raw_quint_tree quint =
    record {
      line = quint.line;
      guard = tree_of quint.guard;
      node = quint.node;
      value = tree_of quint.value;
      from = quint.from;
      to = quint.to;
    }

abbrev pub raw_bind_tree : RawBind → RawBindTree
raw_bind_tree bind =
    record {
      line = bind.line;
      guard = tree_of bind.guard;
      node = bind.node;
      value = tree_of bind.value;
    }

abbrev pub raw_weak_tree : RawWeak → RawWeakTree
raw_weak_tree weak = record { line = weak.line; node = weak.node; from = weak.from; to = weak.to }

abbrev pub mark_tree : RawMark → MarkTree
mark_tree mark = record { line = mark.line; node = mark.node }

abbrev pub raw_edge_tree : RawEdge → RawEdgeTree
raw_edge_tree edge = record {
  line = edge.line;
  from = edge.from;
  to = edge.to;
  ant = map raw_bind_tree edge.ant;
  con = map raw_bind_tree edge.con;
  weak = map mark_tree edge.weak;
}

abbrev pub raw_task_tree : RawTask → RawTaskTree
raw_task_tree (Ste line name reset ant con weak) =
    assertion line name reset (map raw_quint_tree ant) (map raw_quint_tree con)
    (map raw_weak_tree weak)
raw_task_tree (Gste line name reset vertices edges) =
    graph line name reset vertices (map raw_edge_tree edges)

-- the two times of a clause or of a weakening; without times both are 0
abbrev pub from_of : Span → ℕ
from_of (span.During from to) = from
from_of other = 0

abbrev pub to_of : Span → ℕ
to_of (span.During from to) = to
to_of other = 0

-- the clause of a line as a quintuple, over these variables
abbrev pub quint_said : Parse → List (List ℕ) → ℕ → Clause → RawQuintTree
quint_said parse vars line clause = record {
  line = line;
  guard = tree_over vars (parse clause.guard);
  node = clause.node;
  value = tree_over vars (parse clause.value);
  from = from_of clause.span;
  to = to_of clause.span;
}

-- the clause of a line as a binding without times, over these variables
abbrev pub bind_said : Parse → List (List ℕ) → ℕ → Clause → RawBindTree
bind_said parse vars line clause = record {
  line = line;
  guard = tree_over vars (parse clause.guard);
  node = clause.node;
  value = tree_over vars (parse clause.value);
}

-- both are the same side
abbrev pub is_side : Side → Side → Bool
is_side Antecedent Antecedent = true
is_side Consequent Consequent = true
is_side other side = false

-- the quintuples of one side up to the next line that starts a task
abbrev pub quints_with : Parse → Side → List (List ℕ) → ℕ → Form → List RawQuintTree →
    List RawQuintTree
quints_with parse side vars line (form.clause clause) later =
    if is_side side clause.side then quint_said parse vars line clause ∷ later else later
quints_with parse side vars line (form.ste name reset) later = []
quints_with parse side vars line (form.gste name vertex reset) later = []
quints_with parse side vars line other later = later

abbrev pub quints_of : Parse → Side → List (List ℕ) → List Entry → List RawQuintTree
quints_of parse side vars [] = []
quints_of parse side vars (line ∷ lines) =
    quints_with parse side vars line.line line.form (quints_of parse side
    (vars_behind line.form vars) lines)

-- the bindings of one side up to the next line that starts an edge or a task
abbrev pub binds_with : Parse → Side → List (List ℕ) → ℕ → Form → List RawBindTree →
    List RawBindTree
binds_with parse side vars line (form.clause clause) later =
    if is_side side clause.side then bind_said parse vars line clause ∷ later else later
binds_with parse side vars line (form.edge from to) later = []
binds_with parse side vars line (form.ste name reset) later = []
binds_with parse side vars line (form.gste name vertex reset) later = []
binds_with parse side vars line other later = later

abbrev pub binds_of : Parse → Side → List (List ℕ) → List Entry → List RawBindTree
binds_of parse side vars [] = []
binds_of parse side vars (line ∷ lines) =
    binds_with parse side vars line.line line.form (binds_of parse side (vars_behind line.form vars)
    lines)

-- the weakenings up to the next line that starts a task
abbrev pub weaks_with : ℕ → Form → List RawWeakTree → List RawWeakTree
weaks_with line (form.weak node times) later =
    record { line = line; node = node; from = from_of times; to = to_of times } ∷ later
weaks_with line (form.ste name reset) later = []
weaks_with line (form.gste name vertex reset) later = []
weaks_with line other later = later

abbrev pub weaks_of : List Entry → List RawWeakTree
weaks_of [] = []
weaks_of (line ∷ lines) = weaks_with line.line line.form (weaks_of lines)

-- the weakened nets up to the next line that starts an edge or a task
abbrev pub marks_with : ℕ → Form → List MarkTree → List MarkTree
marks_with line (form.weak node times) later = record { line = line; node = node } ∷ later
marks_with line (form.edge from to) later = []
marks_with line (form.ste name reset) later = []
marks_with line (form.gste name vertex reset) later = []
marks_with line other later = later

abbrev pub marks_of : List Entry → List MarkTree
marks_of [] = []
marks_of (line ∷ lines) = marks_with line.line line.form (marks_of lines)

-- the number of a vertex: its place among the vertices
abbrev pub vertex_number : List (List ℕ) → List ℕ → ℕ
vertex_number vertices word = unwrap_or (position (bytes_eq word) vertices) (length vertices)

-- the vertices with those that are mentioned up to the next line that starts a task
abbrev pub vertices_with : Form → List (List ℕ) → List (List ℕ) → List (List ℕ)
vertices_with (form.ste name reset) vertices later = vertices
vertices_with (form.gste name vertex reset) vertices later = vertices
vertices_with other vertices later = later

abbrev pub vertices_of : List (List ℕ) → List Entry → List (List ℕ)
vertices_of vertices [] = vertices
vertices_of vertices (line ∷ lines) =
    vertices_with line.form vertices (vertices_of (vertices_behind line.form vertices) lines)

-- the edge of a line between these vertices, with the clauses of the lines behind it
abbrev pub edge_said : Parse → List (List ℕ) → List (List ℕ) → ℕ → List ℕ → List ℕ → List Entry →
    RawEdgeTree
edge_said parse vars vertices line from to lines = record {
  line = line;
  from = vertex_number vertices from;
  to = vertex_number vertices to;
  ant = binds_of parse Antecedent vars lines;
  con = binds_of parse Consequent vars lines;
  weak = marks_of lines;
}

-- the edges up to the next line that starts a task, behind these vertices
abbrev pub edges_with : Parse → List (List ℕ) → List (List ℕ) → ℕ → Form → List Entry →
    List RawEdgeTree → List RawEdgeTree
edges_with parse vars vertices line (form.edge from to) lines later =
    edge_said parse vars (vertices_behind (form.edge from to) vertices) line from to lines ∷ later
edges_with parse vars vertices line (form.ste name reset) lines later = []
edges_with parse vars vertices line (form.gste name vertex reset) lines later = []
edges_with parse vars vertices line other lines later = later

abbrev pub edges_of : Parse → List (List ℕ) → List (List ℕ) → List Entry → List RawEdgeTree
edges_of parse vars vertices [] = []
edges_of parse vars vertices (line ∷ lines) =
    edges_with parse vars vertices line.line line.form lines
    (edges_of parse (vars_behind line.form vars) (vertices_behind line.form vertices) lines)

-- a task for each line that starts one, behind lines that declare these variables
abbrev pub tasks_with : Parse → List (List ℕ) → ℕ → Form → List Entry → List RawTaskTree →
    List RawTaskTree
tasks_with parse vars line (form.ste name reset) lines later =
    assertion line name reset (quints_of parse Antecedent vars lines)
    (quints_of parse Consequent vars lines) (weaks_of lines) ∷ later
tasks_with parse vars line (form.gste name vertex reset) lines later =
    graph line name reset (vertices_of (vertex ∷ []) lines)
    (edges_of parse vars (vertex ∷ []) lines) ∷ later
tasks_with parse vars line other lines later = later

abbrev pub tasks_of : Parse → List (List ℕ) → List Entry → List RawTaskTree
tasks_of parse vars [] = []
tasks_of parse vars (line ∷ lines) =
    tasks_with parse vars line.line line.form lines (tasks_of parse (vars_behind line.form vars)
    lines)

-- the variables with those that the lines declare
abbrev pub vars_with : List (List ℕ) → List Entry → List (List ℕ)
vars_with vars [] = vars
vars_with vars (line ∷ lines) = vars_with (vars_behind line.form vars) lines
