use Rattle.std.proofs.Common.{◌≡◌, ◌++◌, drop, length, map, take}
use Rattle.net_core.specs.private.Literals.{half_at}
use Rattle.net_core.proofs.literals_at.add_half.Given as goal

-- the rows that are left decide
abbrev pub invariant-loop-place : goal.invariant-loop-place
invariant-loop-place l = record {
  kept : take (length l.fn.stack.items) l.stack.items ≡ l.fn.stack.items;
  half : map (λ row. row.now) (drop (length l.fn.stack.items) l.stack.items) ++ half_at l.position l.bit (map (λ row. row.now) (drop l.place l.fn.stack.items)) ≡ half_at l.position l.bit (map (λ row. row.now) (drop l.begin l.fn.stack.items));
}
