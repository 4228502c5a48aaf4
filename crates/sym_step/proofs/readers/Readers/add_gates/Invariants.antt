use Rattle.std.proofs.Common.{◌<◌, ℕ, get_or}
use Rattle.net_core.specs.declared.raw.Gate.{Gate}
use Rattle.sym_step.specs.private.Readers.{AreAdded, ReadsAs}
use Rattle.sym_step.proofs.readers.Readers.add_gates.Given as goal

-- the first gates stand in their lists
abbrev pub invariant-loop-number : goal.invariant-loop-number
invariant-loop-number l = record {
  added : AreAdded l.fn.self l.self;
  here : (k : ℕ) (d : Gate) → k < l.number → ReadsAs l.self k (get_or l.net.raw.gates k d);
}
