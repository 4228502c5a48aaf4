use Rattle.std.proofs.Common.{ℕ, ◌<◌, get_or}
use Rattle.std.specs.Prelude.{All}
use Rattle.net_core.specs.Run.{IsUndriven}
use Rattle.ste_model.specs.declared.task.Edge.{Edge}
use Rattle.ste_model.proofs.binding.are_edges_free.Given as goal

abbrev pub invariant-loop-edge : goal.invariant-loop-edge
invariant-loop-edge l = (k : ℕ) (d : Edge) → k < l.edge-index → All (λ bind. IsUndriven l.net.raw bind.node.0) (get_or l.edges k d).ant
