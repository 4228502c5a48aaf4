-- Ranks that never rise along a use show what is not reached.
use Rattle.std.proofs.Common.{◌≡◌, ◌<◌, ◌≤◌, ℕ, zero, suc, List, [], ◌∷◌, length, Option, None, Some, get_or, slice_get, arith, refl, subst}
use Rattle.std.specs.Prelude.{option_and_then}
use Rattle.hierarchy.specs.Reach.{Reaches, led_to}
use Rattle.hierarchy.specs.private.Ranks.{AreRanks}
use Rattle.hierarchy.proofs.Members.{contains_from_in, in_get}

module _ (graph : List (List ℕ)) (ranks : List ℕ) (never : AreRanks graph ranks) where
  within : (us : List (List ℕ)) (m n to : ℕ) → slice_get (get_or us m []) n ≡ Some to → m < length us
  within [] m n to e = absurd (cc)
  within (u ∷ us) zero n to e = omega arith
  within (u ∷ us) (suc m) n to e = let r = within us m n to e in omega arith

  one_step : (m n to : ℕ) → slice_get (get_or graph m []) n ≡ Some to → get_or ranks to 0 ≤ get_or ranks m 0
  one_step m n to e =
      let c = contains_from_in (get_or graph m []) to (in_get (get_or graph m []) n to e) in
      subst (λ j. get_or ranks j 0 ≤ get_or ranks m 0) c.2 (never m (within graph m n to e) c.0 to c.1)

  pub ranks_down : (path : List ℕ) (from to : ℕ) → led_to graph from path ≡ Some to → get_or ranks to 0 ≤ get_or ranks from 0
  ranks_down [] from to e = let same : from ≡ to = cc in subst (λ k. get_or ranks k 0 ≤ get_or ranks from 0) same (omega arith)
  ranks_down (n ∷ above) from to e = by (led_to graph from above) refl e (λ m found. ranks_down above from m found)
    where
      by : (o : Option ℕ) → led_to graph from above ≡ o → option_and_then (λ m. slice_get (get_or graph m []) n) o ≡ Some to → ((m : ℕ) → led_to graph from above ≡ Some m → get_or ranks m 0 ≤ get_or ranks from 0) → get_or ranks to 0 ≤ get_or ranks from 0
      by None is e again = absurd (cc)
      by (Some m) is e again = let first = again m is in let last = one_step m n to e in omega arith

pub not_reached : (graph : List (List ℕ)) (ranks : List ℕ) (from to one other : ℕ) → AreRanks graph ranks → one ≡ get_or ranks from 0 → other ≡ get_or ranks to 0 → one < other → Reaches graph from to → ⊥
not_reached graph ranks from to one other never e f less reached = let down = ranks_down graph ranks never reached.0 from to reached.1 in absurd (omega arith)
