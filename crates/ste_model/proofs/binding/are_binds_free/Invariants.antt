use Rattle.std.proofs.Common.{ℕ, ◌<◌, get_or}
use Rattle.net_core.specs.Run.{IsUndriven}
use Rattle.ste_model.specs.declared.task.Bind.{Bind}
use Rattle.ste_model.proofs.binding.are_binds_free.Given as goal

abbrev pub invariant-loop-bind : goal.invariant-loop-bind
invariant-loop-bind l = (k : ℕ) (d : Bind) → k < l.bind-index → IsUndriven l.net.raw (get_or l.binds k d).node.0
