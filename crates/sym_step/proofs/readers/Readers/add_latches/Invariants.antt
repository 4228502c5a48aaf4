use Rattle.std.proofs.Common.{◌+◌, ◌<◌, ℕ, get_or, length}
use Rattle.net_core.specs.declared.raw.Latch.{Latch}
use Rattle.sym_step.specs.private.Readers.{AreAdded, IsBetween}
use Rattle.sym_step.proofs.readers.Readers.add_latches.Given as goal

-- the first latches stand in their lists
abbrev pub invariant-loop-number : goal.invariant-loop-number
invariant-loop-number l = record {
  added : AreAdded l.fn.self l.self;
  here : (k : ℕ) (d : Latch) → k < l.number → IsBetween l.self (length l.net.raw.gates + k) (get_or l.net.raw.latches k d);
}
