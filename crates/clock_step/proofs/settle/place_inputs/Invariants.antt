use Rattle.std.proofs.Common.{◌≡◌, ℕ, length, take}
use Rattle.clock_step.specs.Simulation.{bit_in}
use Rattle.clock_step.specs.Determined.{bit_at}
use Rattle.clock_step.proofs.settle.place_inputs.Given as goal

-- the nodes so far have their bits, and each other net has 0
abbrev pub invariant-loop-k : goal.invariant-loop-k
invariant-loop-k l = record {
  long : length l.bits ≡ length l.fn.bits;
  placed : (id : ℕ) → bit_at l.bits id ≡ bit_in (take l.k l.nodes) l.row id;
}
