use Rattle.std.proofs.Common.{◌≡◌, [], replicate, List}
use Rattle.ste_engine.specs.declared.timed_cuts.TimedCut.{TimedCut}
use Rattle.ste_engine.proofs.timeline.no_starts.Given as goal

abbrev pub invariant-loop : goal.invariant-loop
invariant-loop l = l.starts.items ≡ replicate {A = List TimedCut} l.counter []
