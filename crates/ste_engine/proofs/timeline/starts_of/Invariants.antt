use Rattle.std.proofs.Common.{take}
use Rattle.ste_engine.specs.private.Times.{AreStarts}
use Rattle.ste_engine.proofs.timeline.starts_of.Given as goal

-- the first of what is asked stand where they begin
abbrev pub invariant-loop-timed_cut : goal.invariant-loop-timed_cut
invariant-loop-timed_cut l = AreStarts (take l.timed_cut-index l.timed_cuts) l.depth l.starts.items
