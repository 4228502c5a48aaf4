use Rattle.std.proofs.Common.{◌≡◌, ◌++◌, drop}
use Rattle.ste_engine.specs.private.Places.{fixed_timed_cuts}
use Rattle.ste_engine.proofs.place.fixed_timed_cuts.Given as goal

-- with the rest it is all
abbrev pub invariant-loop-k : goal.invariant-loop-k
invariant-loop-k l = l.timed_cuts.items ++ fixed_timed_cuts l.bits l.k (drop l.k l.quints) ≡ fixed_timed_cuts l.bits 0 l.quints
