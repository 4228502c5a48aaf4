-- For private functions. What a line adds to what is read, said by what is still to come.
use Rattle.std.specs.Prelude.{◌≡◌, ◌≤◌, ℕ, ◌+◌, ◌++◌, ◌∷◌, [], List, length, map, Option, Some, None, Result, Ok, Err}
use Rattle.assert_syntax.specs.declared.draft.Draft.{Draft}
use Rattle.assert_syntax.specs.declared.draft.OpenTask.{OpenTask}
use Rattle.assert_syntax.specs.declared.draft.OpenTask.TheVariants.{Closed, Ste, Gste}
use Rattle.assert_syntax.specs.declared.fault.TaskFault.{TaskFault}
use Rattle.assert_syntax.specs.declared.form.Side.TheVariants.{Antecedent, Consequent}
use Rattle.assert_syntax.specs.declared.tasks.RawEdge.{RawEdge}
use Rattle.assert_syntax.specs.Forms.{Entry}
use Rattle.assert_syntax.specs.Parses.{Parse}
use Rattle.assert_syntax.specs.Places.{Context, context_behind, form_fault}
use Rattle.assert_syntax.specs.Spelled.{RawTaskTree, RawEdgeTree, assertion, graph, raw_bind_tree, raw_edge_tree, mark_tree, raw_quint_tree, raw_task_tree, raw_weak_tree, binds_of, edges_of, marks_of, quints_of, tasks_of, vertices_of, weaks_of}
use Rattle.assert_syntax.specs.Reads.{IsFault}

-- the open edge with the bindings and the weakened nodes to come
abbrev pub grown_edge : Parse → List (List ℕ) → Option RawEdge → List Entry → List RawEdgeTree
grown_edge parse vars None rest = []
grown_edge parse vars (Some edge) rest = record {
  line = edge.line;
  from = edge.from;
  to = edge.to;
  ant = map raw_bind_tree edge.ant ++ binds_of parse Antecedent vars rest;
  con = map raw_bind_tree edge.con ++ binds_of parse Consequent vars rest;
  weak = map mark_tree edge.weak ++ marks_of rest;
} ∷ []

-- the open task with all that still belongs to it
abbrev pub open_task_with : Parse → List (List ℕ) → List (List ℕ) → OpenTask → List Entry →
    List RawTaskTree
open_task_with parse vars vertices Closed rest = []
open_task_with parse vars vertices (Ste head name reset ant con weak) rest =
    assertion head name reset (map raw_quint_tree ant ++ quints_of parse Antecedent vars rest)
    (map raw_quint_tree con ++ quints_of parse Consequent vars rest)
    (map raw_weak_tree weak ++ weaks_of rest) ∷ []
open_task_with parse vars vertices (Gste head name reset edges edge) rest =
    graph head name reset (vertices_of vertices rest)
    (map raw_edge_tree edges ++ (grown_edge parse vars edge rest
    ++ edges_of parse vars vertices rest)) ∷ []

-- the tasks that are read, the open one with what still belongs to it, and the later ones
abbrev pub finish : Parse → Context → Draft → List Entry → List RawTaskTree
finish parse context draft rest =
    map raw_task_tree draft.tasks ++ (open_task_with parse context.vars context.vertices draft.task
    rest
    ++ tasks_of parse context.vars rest)

-- the number of open tasks
abbrev pub open_count : OpenTask → ℕ
open_count Closed = 0
open_count other = 1

-- each task has a name
abbrev pub IsCounted : Context → Draft → Type 0
IsCounted context draft = length draft.tasks + open_count draft.task ≤ length context.names

-- what a line that may stand where it does is answered with, between these two contexts, and what
-- it makes of the draft
abbrev pub IsStep : Parse → Context → Context → Draft → Draft → Entry →
    Result (Unit {0}) TaskFault → Type 0
IsStep parse old new before after entry (Ok done) =
    (form_fault parse old entry.form ≡ None) × (new ≡ context_behind old entry.form)
    × ((rest : List Entry) → finish parse new after rest ≡ finish parse old before (entry ∷ rest))
    × (IsCounted old before → IsCounted new after)
IsStep parse old new before after entry (Err fault) =
    IsFault entry.line (form_fault parse old entry.form) fault
