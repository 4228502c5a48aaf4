use Rattle.std.proofs.Common.{◌≡◌, take, filter}
use Rattle.std.specs.Prelude.{nat_lt}
use Rattle.ste_engine.proofs.timeline.lasting_beyond.Given as goal

abbrev pub invariant-loop-timed_cut : goal.invariant-loop-timed_cut
invariant-loop-timed_cut l = l.some.items ≡ filter (λ timed_cut. nat_lt l.t timed_cut.to) (take l.timed_cut-index l.fn.timed_cuts)
