use Rattle.std.proofs.Common.{◌≡◌, ◌++◌, drop, length, map, take}
use Rattle.net_core.specs.Cases.{half_of_rows}
use Rattle.gate_sets.proofs.by_halves.add_half.Given as goal

-- the rows that are left decide
abbrev pub invariant-loop-place : goal.invariant-loop-place
invariant-loop-place l = record {
  kept : take (length l.fn.stack.items) l.stack.items ≡ l.fn.stack.items;
  half : map (λ row. row.now) (drop (length l.fn.stack.items) l.stack.items) ++ half_of_rows l.bit (map (λ row. row.now) (drop l.place l.fn.stack.items)) ≡ half_of_rows l.bit (map (λ row. row.now) (drop l.begin l.fn.stack.items));
}
