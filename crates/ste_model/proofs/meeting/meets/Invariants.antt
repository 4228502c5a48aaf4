use Rattle.std.proofs.Common.{ℕ, ◌<◌, get_or}
use Rattle.ste_model.specs.declared.task.Quint.{Quint}
use Rattle.ste_model.specs.Runs.{run_of}
use Rattle.ste_model.specs.private.Meeting.{IsMet}
use Rattle.ste_model.proofs.meeting.meets.Given as goal

abbrev pub invariant-loop-quint : goal.invariant-loop-quint
invariant-loop-quint l = (k : ℕ) (d : Quint) → k < l.quint-index → IsMet (run_of l.run) l.bits (get_or l.quints k d)
