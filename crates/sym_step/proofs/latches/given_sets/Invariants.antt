use Rattle.std.proofs.Common.{◌<◌, ℕ, All, get_or, length}
use Rattle.std.specs.Prelude.{◌⊎◌}
use Rattle.net_core.specs.declared.raw.Latch.{Latch}
use Rattle.sym_step.specs.private.Demands.{nodes_of}
use Rattle.sym_step.specs.private.Latches.{IsAmong, IsInPlace, IsSetOf}
use Rattle.sym_step.proofs.latches.given_sets.Given as goal

-- the sets of those of the first latches that do not have theirs yet
abbrev pub invariant-loop-l : goal.invariant-loop-l
invariant-loop-l l = record {
  own : All (IsSetOf l.net.raw l.told l.demands.weak l.nets) l.sets.items;
  each : (k : ℕ) (d : Latch) → k < l.l → k < length l.net.raw.latches
      → IsAmong l.sets.items (get_or l.net.raw.latches k d).output.0 ⊎ IsInPlace l.told (nodes_of l.demands.weak l.demands.cuts) l.nets k (get_or l.net.raw.latches k d);
}
