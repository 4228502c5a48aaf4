-- Meaning. What tasks say where nets stand for the names of nodes, with trees for expressions.
use Rattle.std.specs.Prelude.{ℕ, List, map, Option, unwrap_or}
use Rattle.bool_expr.specs.Tree.{tree_of}
use Rattle.ste_model.specs.Trees.{QuintTree, BindTree, EdgeTree, TaskTree, WeakTree, assertion, graph}
use Rattle.assert_syntax.specs.declared.tasks.RawBind.{RawBind}
use Rattle.assert_syntax.specs.declared.tasks.RawEdge.{RawEdge}
use Rattle.assert_syntax.specs.declared.tasks.RawMark.{RawMark}
use Rattle.assert_syntax.specs.declared.tasks.RawQuint.{RawQuint}
use Rattle.assert_syntax.specs.declared.tasks.RawTask.{RawTask}
use Rattle.assert_syntax.specs.declared.tasks.RawWeak.{RawWeak}
use Rattle.assert_syntax.specs.declared.tasks.RawTask.TheVariants.{Ste, Gste}

-- the net that a text names, with 0 for a text that names none
abbrev pub net_by : (List ℕ → Option ℕ) → List ℕ → ℕ
net_by net_of text = unwrap_or (net_of text) 0

-- what a quintuple says, where each name is the net of this number
abbrev pub quint_bound : (List ℕ → ℕ) → RawQuint → QuintTree
quint_bound net quint =
    record {
      guard = tree_of quint.guard;
      node = net quint.node;
      value = tree_of quint.value;
      from = quint.from;
      to = quint.to;
    }

-- the same of a binding of an edge, of an edge, and of a task
abbrev pub bind_bound : (List ℕ → ℕ) → RawBind → BindTree
bind_bound net bind =
    record { guard = tree_of bind.guard; node = net bind.node; value = tree_of bind.value }

-- what a weakening says, and the net that a weakened net of an edge is
abbrev pub weak_bound : (List ℕ → ℕ) → RawWeak → WeakTree
weak_bound net weak = record { node = net weak.node; from = weak.from; to = weak.to }

abbrev pub mark_bound : (List ℕ → ℕ) → RawMark → ℕ
mark_bound net mark = net mark.node

abbrev pub edge_bound : (List ℕ → ℕ) → RawEdge → EdgeTree
edge_bound net edge = record {
  from = edge.from;
  to = edge.to;
  ant = map (bind_bound net) edge.ant;
  con = map (bind_bound net) edge.con;
  weak = map (mark_bound net) edge.weak;
}

abbrev pub task_bound : (List ℕ → ℕ) → RawTask → TaskTree
task_bound net (Ste line name reset ant con weak) =
    assertion name reset (map (quint_bound net) ant) (map (quint_bound net) con)
    (map (weak_bound net) weak)
task_bound net (Gste line name reset vertices edges) =
    graph name reset vertices (map (edge_bound net) edges)
