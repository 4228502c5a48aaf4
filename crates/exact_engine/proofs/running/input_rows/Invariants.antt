use Rattle.std.proofs.Common.{◌≡◌, ℕ, ◌<◌, ◌*◌, All, false, drop, get_or, length, map, take}
use Rattle.exact_engine.proofs.running.input_rows.Given as goal

-- the first rows have their bits
abbrev pub invariant-loop-k : goal.invariant-loop-k
invariant-loop-k l = record {
  tall : length l.rows.items ≡ l.k;
  wide : All (λ row. length row ≡ l.times) l.rows.items;
  columns : (t : ℕ) → t < l.times → map (λ row. get_or row t false) l.rows.items ≡ take l.k (drop (t * l.each) l.bits);
}
