use Rattle.std.proofs.Common.{◌≡◌, ◌++◌, drop, length, map, take}
use Rattle.net_core.specs.Cases.{without_first}
use Rattle.gate_sets.proofs.by_halves.add_behind.Given as goal

-- the rows that are left decide
abbrev pub invariant-loop-place : goal.invariant-loop-place
invariant-loop-place l = record {
  kept : take (length l.fn.stack.items) l.stack.items ≡ l.fn.stack.items;
  rest : map (λ row. row.now) (drop (length l.fn.stack.items) l.stack.items) ++ map without_first (map (λ row. row.now) (drop l.place l.fn.stack.items)) ≡ map without_first (map (λ row. row.now) (drop l.begin l.fn.stack.items));
}
