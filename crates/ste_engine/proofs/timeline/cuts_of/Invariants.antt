use Rattle.std.proofs.Common.{◌≡◌, take}
use Rattle.ste_engine.specs.private.TimedCuts.{cuts_of}
use Rattle.ste_engine.proofs.timeline.cuts_of.Given as goal

abbrev pub invariant-loop-timed_cut : goal.invariant-loop-timed_cut
invariant-loop-timed_cut l = l.cuts.items ≡ cuts_of (take l.timed_cut-index l.timed_cuts)
