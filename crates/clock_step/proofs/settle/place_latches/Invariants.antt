use Rattle.std.proofs.Common.{◌≡◌, ℕ, Bool, length, map}
use Rattle.clock_step.specs.private.Settled.{AreLatched}
use Rattle.clock_step.proofs.settle.place_latches.Given as goal

-- the latches so far have their bits
abbrev pub invariant-loop-k : goal.invariant-loop-k
invariant-loop-k l = record {
  long : length l.bits ≡ l.net.raw.nets;
  latched : (bit : ℕ → Bool) → l.held ≡ map (λ latch. bit latch.output.0) l.net.raw.latches → AreLatched l.net.raw 0 bit l.fn.bits → AreLatched l.net.raw l.k bit l.bits;
}
