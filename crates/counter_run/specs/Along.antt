-- Meaning. A path of a graph, by the numbers of its edges, along which a run can be made.
use Rattle.std.specs.Prelude.{◌≡◌, ℕ, Bool, List, All, IsTrue}
use Rattle.net_core.specs.Run.{Cut}
use Rattle.ste_model.specs.declared.task.Edge.{Edge}
use Rattle.ste_model.specs.declared.task.Graph.{Graph}
use Rattle.ste_model.specs.Edges.{AreNumbers, IsPathFrom, bind_cuts}

-- no net is asked for both bits
abbrev pub DoAgree : List Cut → Type 0
DoAgree cuts =
    All (λ one. All (λ other. IsTrue one.on → IsTrue other.on → one.node ≡ other.node →
    one.value ≡ other.value) cuts) cuts

-- these are the numbers of a path from vertex 0, and under the assignment no edge of it binds a net
-- to both bits
pub record IsNumberedPath (graph : Graph) (bits : List Bool) (numbers : List ℕ) : Type 0 where
  pub path : List Edge
  pub are : AreNumbers graph numbers path
  pub is_path : IsPathFrom graph.edges 0 path
  pub agree : All (λ edge. DoAgree (bind_cuts edge.ant bits)) path
