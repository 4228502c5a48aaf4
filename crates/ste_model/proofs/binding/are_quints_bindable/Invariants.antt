use Rattle.std.proofs.Common.{ℕ, ◌<◌, get_or}
use Rattle.ste_model.specs.declared.task.Quint.{Quint}
use Rattle.ste_model.specs.Shown.{IsQuintBindable}
use Rattle.ste_model.proofs.binding.are_quints_bindable.Given as goal

abbrev pub invariant-loop-quint : goal.invariant-loop-quint
invariant-loop-quint l = (k : ℕ) (d : Quint) → k < l.quint-index → IsQuintBindable l.net.raw l.weak (get_or l.quints k d)
