use Rattle.std.proofs.Common.{◌≡◌, ℕ, Bool, false, true, drop, get_or, length}
use Rattle.sym_step.specs.Frame.{is_listed}
use Rattle.sym_step.proofs.demands.flag_weakened.Given as goal

-- the rest are the weakened nets without a flag
abbrev pub invariant-loop-node : goal.invariant-loop-node
invariant-loop-node l = record {
  long : length l.flags.items ≡ length l.fn.flags.items;
  wide : length l.first.items ≡ length l.fn.first.items;
  flagged : (id : ℕ) → get_or l.flags.items id false ≡ false → is_listed (drop l.node-index l.weak) id ≡ is_listed l.weak id;
  places : (id : ℕ) → get_or l.flags.items id false ≡ true → get_or l.first.items id 0 ≡ l.count;
}
