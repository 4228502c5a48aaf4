-- The numbers of variables.
use Rattle.std.proofs.Common.{ℕ, suc, ◌+◌, ◌≡◌, refl, sym, ◌∙◌, arith, List, [], ◌∷◌, Bool, true, false, not, Option, Some, None, bytes_eq, length, nat_lt, if◌then◌else◌}
use Rattle.std.specs.List.{position, prefix_len}
use Rattle.bool_expr.specs.Read.{number_in, place_from}

-- the place of the first of these, where there are so many
abbrev place_at : ℕ → ℕ → ℕ → Option ℕ
place_at n k m = if nat_lt k m then Some (n + k) else None

place_more : (n k m : ℕ) → place_at (suc n) k m ≡ place_at n (1 + k) (suc m)
place_more n k m = grind (arith)

with_test : (n : ℕ) (v name : List ℕ) (vars : List (List ℕ)) (b : Bool) → bytes_eq v name ≡ b → place_at (suc n) (prefix_len (λ other. not (bytes_eq other name)) vars) (length vars) ≡ place_from (suc n) vars name → place_at n (prefix_len (λ other. not (bytes_eq other name)) (v ∷ vars)) (length (v ∷ vars)) ≡ place_from n (v ∷ vars) name
with_test n v name vars true e rest = rw e (grind (arith))
with_test n v name vars false e rest = rw e (sym (place_more n (prefix_len (λ other. not (bytes_eq other name)) vars) (length vars)) ∙ rest)

place_is : (n : ℕ) (vars : List (List ℕ)) (name : List ℕ) → place_at n (prefix_len (λ other. not (bytes_eq other name)) vars) (length vars) ≡ place_from n vars name
place_is n [] name = refl
place_is n (v ∷ vars) name = with_test n v name vars (bytes_eq v name) refl (place_is (suc n) vars name)

from_zero : (k m : ℕ) → (if nat_lt k m then Some k else None) ≡ place_at 0 k m
from_zero k m = grind (arith)

pub position_is : (vars : List (List ℕ)) (name : List ℕ) → position (λ other. bytes_eq other name) vars ≡ number_in vars name
position_is vars name = from_zero (prefix_len (λ other. not (bytes_eq other name)) vars) (length vars) ∙ place_is 0 vars name
