use Rattle.std.proofs.Common.{◌≡◌, ℕ, Bool, false, drop, get_or, length}
use Rattle.std.specs.Prelude.{◌||◌}
use Rattle.net_core.specs.Possible.{is_weakened}
use Rattle.sym_step.specs.Step.{ids_of}
use Rattle.sym_step.proofs.demands.weak_flags.Given as goal

-- with the rest the flags tell which nets are weakened
abbrev pub invariant-loop-node : goal.invariant-loop-node
invariant-loop-node l = record {
  long : length l.flags.items ≡ l.nets;
  told : (id : ℕ) → (get_or l.flags.items id false || is_weakened (ids_of (drop l.node-index l.weak)) id) ≡ is_weakened (ids_of l.weak) id;
}
