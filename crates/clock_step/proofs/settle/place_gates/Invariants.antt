use Rattle.std.proofs.Common.{◌≡◌, ℕ, Bool, length}
use Rattle.net_core.specs.Run.{AreGateBits}
use Rattle.clock_step.specs.private.Settled.{AreSettled}
use Rattle.clock_step.proofs.settle.place_gates.Given as goal

-- the gates so far have their bits
abbrev pub invariant-loop-n : goal.invariant-loop-n
invariant-loop-n l = record {
  long : length l.bits ≡ l.net.raw.nets;
  settled : (bit : ℕ → Bool) → AreGateBits l.net.raw bit → AreSettled l.net.raw l.net.settled 0 bit l.fn.bits → AreSettled l.net.raw l.net.settled l.n bit l.bits;
}
