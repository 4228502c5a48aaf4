-- Items counted down from a limit.
use Rattle.std.proofs.Common.{ℕ, ◌+◌, ◌-◌, ◌≡◌, refl, arith, Bool, true, false, nat_le, nat_lt, ◌&&◌}

pub few_items : (a b : ℕ) → nat_lt 0 (20001 - a - b) ≡ nat_le (a + b) 20000
few_items a b = grind (arith)

last_first : (a b c : Bool) → (c && (a && b)) ≡ (a && (b && c))
last_first true true true = refl
last_first true true false = refl
last_first true false true = refl
last_first true false false = refl
last_first false true true = refl
last_first false true false = refl
last_first false false true = refl
last_first false false false = refl

pub few_items_first : (a b : ℕ) (ant con : Bool) → (nat_lt 0 (20001 - a - b) && (ant && con)) ≡ (ant && (con && nat_le (a + b) 20000))
few_items_first a b ant con = rw (few_items a b) (last_first ant con (nat_le (a + b) 20000))
