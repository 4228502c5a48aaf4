-- Meaning. What tasks say, with trees for their expressions: two tasks that say the same differ
-- only in where they lie in memory.
use Rattle.std.specs.Prelude.{ℕ, Bool, List, map}
use Rattle.bool_expr.specs.Tree.{Tree, tree_of}
use Rattle.ste_model.specs.declared.task.Bind.{Bind}
use Rattle.ste_model.specs.declared.task.Edge.{Edge}
use Rattle.ste_model.specs.declared.task.Quint.{Quint}
use Rattle.ste_model.specs.declared.task.Task.{Task}
use Rattle.ste_model.specs.declared.task.Weakening.{Weakening}
use Rattle.ste_model.specs.declared.task.Task.TheVariants.{Ste, Gste}
use Rattle.ste_model.specs.Edges.{weakened_on}

-- a quintuple; its node is the number of a net
pub record QuintTree : Type 0 where
  pub guard : Tree
  pub node : ℕ
  pub value : Tree
  pub from : ℕ
  pub to : ℕ

-- a binding of an edge
pub record BindTree : Type 0 where
  pub guard : Tree
  pub node : ℕ
  pub value : Tree

-- a weakening; its node is the number of a net
pub record WeakTree : Type 0 where
  pub node : ℕ
  pub from : ℕ
  pub to : ℕ

-- an edge; its weakened nets are numbers of nets
pub record EdgeTree : Type 0 where
  pub from : ℕ
  pub to : ℕ
  pub ant : List BindTree
  pub con : List BindTree
  pub weak : List ℕ

-- a task
pub data TaskTree : Type 0 where
  -- name, reset, antecedent, consequent and weakenings
  assertion : List ℕ → Bool → List QuintTree → List QuintTree → List WeakTree → TaskTree
  -- name, reset, vertices and edges
  graph : List ℕ → Bool → List (List ℕ) → List EdgeTree → TaskTree

-- the same of what the program holds
abbrev pub quint_tree : Quint → QuintTree
quint_tree quint =
    record {
      guard = tree_of quint.guard;
      node = quint.node.0;
      value = tree_of quint.value;
      from = quint.from;
      to = quint.to;
    }

abbrev pub bind_tree : Bind → BindTree
bind_tree bind =
    record { guard = tree_of bind.guard; node = bind.node.0; value = tree_of bind.value }

abbrev pub weak_tree : Weakening → WeakTree
weak_tree weakening = record { node = weakening.node.0; from = weakening.from; to = weakening.to }

abbrev pub edge_tree : Edge → EdgeTree
edge_tree edge = record {
  from = edge.from;
  to = edge.to;
  ant = map bind_tree edge.ant;
  con = map bind_tree edge.con;
  weak = weakened_on edge;
}

abbrev pub task_tree : Task → TaskTree
task_tree (Ste task) =
    assertion task.name task.reset (map quint_tree task.ant) (map quint_tree task.con)
    (map weak_tree task.weak)
task_tree (Gste task) = graph task.name task.reset task.vertices (map edge_tree task.edges)
