-- The order of assignments.
use Rattle.std.proofs.Common.{◌≡◌, ℕ, suc, zero, Bool, true, false, List, [], ◌∷◌, length, arith, refl, ap, inl, inr}
use Rattle.std.specs.Prelude.{◌⊎◌, take, slice_get, Some}
use Rattle.ste_model.specs.Assignments.{IsBefore, AssignmentsAreOrdered}

-- one more bit in front of both changes nothing
behind_front : (bit : Bool) (one other : List Bool) → IsBefore one other → IsBefore (bit ∷ one) (bit ∷ other)
behind_front bit one other h = record { place = suc h.place; same = ap (λ bits. bit ∷ bits) h.same; earlier = h.earlier; later = h.later }

in_front : (bit : Bool) (one other : List Bool) → (one ≡ other) ⊎ (IsBefore one other ⊎ IsBefore other one) → (bit ∷ one ≡ bit ∷ other) ⊎ (IsBefore (bit ∷ one) (bit ∷ other) ⊎ IsBefore (bit ∷ other) (bit ∷ one))
in_front bit one other (inl e) = inl (ap (λ bits. bit ∷ bits) e)
in_front bit one other (inr (inl h)) = inr (inl (behind_front bit one other h))
in_front bit one other (inr (inr h)) = inr (inr (behind_front bit other one h))

either : (one other : List Bool) → length one ≡ length other → (one ≡ other) ⊎ (IsBefore one other ⊎ IsBefore other one)
either [] [] e = inl refl
either [] (bit ∷ other) e = absurd (omega arith)
either (bit ∷ one) [] e = absurd (omega arith)
either (false ∷ one) (true ∷ other) e = inr (inl (record { place = 0; same = refl; earlier = refl; later = refl }))
either (true ∷ one) (false ∷ other) e = inr (inr (record { place = 0; same = refl; earlier = refl; later = refl }))
either (false ∷ one) (false ∷ other) e = in_front false one other (either one other (omega arith))
either (true ∷ one) (true ∷ other) e = in_front true one other (either one other (omega arith))

-- at two places where lists differ in both ways, the earlier has one bit in both
once_at : (one other : List Bool) (j k : ℕ) → take j one ≡ take j other → slice_get one j ≡ Some false → slice_get other j ≡ Some true → take k other ≡ take k one → slice_get other k ≡ Some false → slice_get one k ≡ Some true → ⊥
once_at [] other j k a b c d e f = cc
once_at (x ∷ one) [] j k a b c d e f = cc
once_at (x ∷ one) (y ∷ other) zero zero a b c d e f = cc
once_at (x ∷ one) (y ∷ other) zero (suc k) a b c d e f = cc
once_at (x ∷ one) (y ∷ other) (suc j) zero a b c d e f = cc
once_at (x ∷ one) (y ∷ other) (suc j) (suc k) a b c d e f = once_at one other j k (cc a) b c (cc d) e f

pub assignments_are_ordered : AssignmentsAreOrdered
assignments_are_ordered = record {
  either = either;
  once = λ one other h g. once_at one other h.place g.place h.same h.earlier h.later g.same g.earlier g.later;
}
