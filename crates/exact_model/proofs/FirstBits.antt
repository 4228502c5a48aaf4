-- What holds of assignments by their first bits holds over these variables and over more.
use Rattle.std.proofs.Common.{◌≡◌, ℕ, zero, suc, ◌-◌, ◌≤◌, Bool, true, false, List, [], ◌∷◌, ◌++◌, take, drop, length, arith, sym, ◌∙◌, ap, subst, replicate, Some}
use Rattle.std.specs.Prelude.{slice_get}
use Rattle.std.proofs.Math.Seq.{take-append_seam}
use Rattle.std.proofs.lemmas.List.{length-append, length-replicate, length-take, take-append-drop, take-append-le}
use Rattle.std.proofs.lemmas.Option.{slice_get_within}
use Rattle.ste_model.specs.Assignments.{EachAssignment, IsBefore, SomeAssignment}
use Rattle.ste_model.specs.Least.{IsLeast}

still_there : (xs ys : List Bool) (k : ℕ) (x : Bool) → slice_get xs k ≡ Some x → slice_get (xs ++ ys) k ≡ Some x
still_there [] ys k x e = absurd (cc e)
still_there (y ∷ xs) ys zero x e = e
still_there (y ∷ xs) ys (suc k) x e = still_there xs ys k x e

-- what stands behind changes nothing of the order
pub with_more : (one other xs ys : List Bool) → IsBefore one other → IsBefore (one ++ xs) (other ++ ys)
with_more one other xs ys h =
    let a = slice_get_within one h.place false h.earlier in
    let b = slice_get_within other h.place true h.later in
    record {
      place = h.place;
      same = take-append-le h.place one xs (omega (arith, a)) ∙ h.same ∙ sym (take-append-le h.place other ys (omega (arith, b)));
      earlier = still_there one xs h.place false h.earlier;
      later = still_there other ys h.place true h.later;
    }

module _ (vars total : ℕ) (wide : vars ≤ total) where
  -- the bits with 0 for each further variable
  abbrev pub with_zeros : List Bool → List Bool
  with_zeros bits = bits ++ replicate (total - vars) false

  zeros_long : (bits : List Bool) → length bits ≡ vars → length (with_zeros bits) ≡ total
  zeros_long bits long =
      let a = length-append bits (replicate (total - vars) false) in
      let b : length (replicate (total - vars) false) ≡ total - vars = length-replicate (total - vars) false in
      omega (arith, a, b, long, wide)

  front_of : (bits : List Bool) → length bits ≡ vars → take vars (with_zeros bits) ≡ bits
  front_of bits long = ap (λ (k : ℕ). take k (with_zeros bits)) (sym long) ∙ take-append_seam bits (replicate (total - vars) false)

  take_long : (bits : List Bool) → length bits ≡ total → length (take vars bits) ≡ vars
  take_long bits long = simp (length-take) (omega (arith, long, wide))

  module _ (P : List Bool → Type 0) (there : (bits : List Bool) → length bits ≡ total → P bits → P (take vars bits)) (back : (bits : List Bool) → length bits ≡ total → P (take vars bits) → P bits) where
    up : (bits : List Bool) → length bits ≡ vars → P bits → P (with_zeros bits)
    up bits long h = back (with_zeros bits) (zeros_long bits long) (subst P (sym (front_of bits long)) h)

    down : (bits : List Bool) → length bits ≡ vars → P (with_zeros bits) → P bits
    down bits long h = subst P (front_of bits long) (there (with_zeros bits) (zeros_long bits long) h)

    pub some_down : SomeAssignment total P → SomeAssignment vars P
    some_down some = (take vars some.0, take_long some.0 some.1, there some.0 some.1 some.2)

    pub some_up : SomeAssignment vars P → SomeAssignment total P
    some_up some = (with_zeros some.0, zeros_long some.0 some.1, up some.0 some.1 some.2)

    pub each_down : EachAssignment total P → EachAssignment vars P
    each_down each = λ bits long. down bits long (each (with_zeros bits) (zeros_long bits long))

    pub each_up : EachAssignment vars P → EachAssignment total P
    each_up each = λ bits long. back bits long (each (take vars bits) (take_long bits long))

    pub least_down : (bits : List Bool) → IsLeast total P bits → IsLeast vars P (take vars bits)
    least_down bits h = record {
      long = take_long bits h.long;
      has = there bits h.long h.has;
      least = λ other long has before. h.least (with_zeros other) (zeros_long other long) (up other long has)
          (subst (IsBefore (with_zeros other)) (take-append-drop vars bits) (with_more other (take vars bits) (replicate (total - vars) false) (drop vars bits) before));
    }
