-- Lists of sets, one a latch: their order, their union, and those that are empty.
use Rattle.std.proofs.Common.{◌≡◌, ℕ, zero, suc, Bool, true, false, List, [], ◌∷◌, map, length, arith, ap, refl}
use Rattle.std.specs.Prelude.{◌≢◌, All, ◌||◌}
use Rattle.std.specs.List.{AllZip}
use Rattle.std.proofs.lemmas.Bool.{or_left, or_right}
use Rattle.net_core.specs.declared.bit_set.BitSet.{BitSet}
use Rattle.net_core.specs.declared.raw.Latch.{Latch}
use Rattle.net_core.specs.Sets.{IsIn, IsWithin, neither}
use Rattle.net_core.proofs.Possible.{the_set}

-- ---- order

pub sets_trans : (a b c : List BitSet) → AllZip IsWithin a b → AllZip IsWithin b c → AllZip IsWithin a c
sets_trans [] [] [] h g = tt
sets_trans [] [] (z ∷ c) h g = absurd g
sets_trans [] (y ∷ b) c h g = absurd h
sets_trans (x ∷ a) [] c h g = absurd h
sets_trans (x ∷ a) (y ∷ b) [] h g = absurd g
sets_trans (x ∷ a) (y ∷ b) (z ∷ c) h g = (λ bit i. g.0 bit (h.0 bit i), sets_trans a b c h.1 g.1)

pub as_long : (a b : List BitSet) → AllZip IsWithin a b → length a ≡ length b
as_long [] [] h = refl
as_long [] (y ∷ b) h = absurd h
as_long (x ∷ a) [] h = absurd h
as_long (x ∷ a) (y ∷ b) h = let rest = as_long a b h.1 in omega arith

-- what latches take grows with the sets of their inputs
pub next_grows : (small large : ℕ → BitSet) → ((id : ℕ) → IsWithin (small id) (large id)) → (latches : List Latch) → AllZip IsWithin (map (λ latch. small latch.input.0) latches) (map (λ latch. large latch.input.0) latches)
next_grows small large grow [] = tt
next_grows small large grow (latch ∷ latches) = (grow latch.input.0, next_grows small large grow latches)

-- ---- empty sets

pub nothing_within : (bit : Bool) (set : BitSet) → set ≡ neither → IsIn bit set → ⊥
nothing_within false set e h = let f = ap (λ (s : BitSet). s.zero) e in cc
nothing_within true set e h = let f = ap (λ (s : BitSet). s.one) e in cc

pub empty_within : (a b : List BitSet) → length a ≡ length b → All (λ set. set ≡ neither) a → AllZip IsWithin a b
empty_within [] [] e none = tt
empty_within [] (y ∷ b) e none = absurd (omega arith)
empty_within (x ∷ a) [] e none = absurd (omega arith)
empty_within (x ∷ a) (y ∷ b) e none = (λ bit h. absurd (nothing_within bit x (none 0 x (omega arith)) h), empty_within a b (omega arith) (λ k d l. none (suc k) d (omega arith)))

pub is_neither : (zero one : Bool) → (zero ≡ true → ⊥) → (one ≡ true → ⊥) → the_set zero one ≡ neither
is_neither false false z o = refl
is_neither true one z o = absurd (z refl)
is_neither false true z o = absurd (o refl)

pub not_neither : (small large : BitSet) → IsWithin small large → small ≢ neither → large ≢ neither
not_neither small large grow some e = some (is_neither small.zero small.one (λ h. nothing_within false large e (grow false h)) (λ h. nothing_within true large e (grow true h)))

-- no set for any latch
pub empties : (latches : List Latch) (sets : List BitSet) → length sets ≡ length latches → AllZip IsWithin (map (λ latch. neither) latches) sets
empties [] [] e = tt
empties [] (y ∷ sets) e = absurd (omega arith)
empties (l ∷ latches) [] e = absurd (omega arith)
empties (l ∷ latches) (y ∷ sets) e = (λ bit h. absurd (nothing_within bit neither refl h), empties latches sets (omega arith))

pub all_neither : (latches : List Latch) → All (λ set. set ≡ neither) (map (λ latch. neither) latches)
all_neither [] k d l = absurd (omega arith)
all_neither (x ∷ latches) zero d l = refl
all_neither (x ∷ latches) (suc k) d l = all_neither latches k d (omega arith)

-- ---- unions

-- the bits that are in at least one of the sets
abbrev pub join_set : BitSet → BitSet → BitSet
join_set a b = record { zero = a.zero || b.zero; one = a.one || b.one }

-- the union, latch by latch
abbrev pub join_sets : List BitSet → List BitSet → List BitSet
join_sets [] b = b
join_sets (x ∷ a) [] = x ∷ a
join_sets (x ∷ a) (y ∷ b) = join_set x y ∷ join_sets a b

pub or_least : {A : Type 0} (a b : Bool) → (a ≡ true → A) → (b ≡ true → A) → (a || b) ≡ true → A
or_least true b f g e = f refl
or_least false b f g e = g e

pub join_long : (a b : List BitSet) → length a ≡ length b → length (join_sets a b) ≡ length b
join_long [] b e = refl
join_long (x ∷ a) [] e = e
join_long (x ∷ a) (y ∷ b) e = let h = join_long a b (omega arith) in omega arith

set_left : (a b : BitSet) → IsWithin a (join_set a b)
set_left a b false h = or_left a.zero b.zero h
set_left a b true h = or_left a.one b.one h

set_right : (a b : BitSet) → IsWithin b (join_set a b)
set_right a b false h = or_right a.zero b.zero h
set_right a b true h = or_right a.one b.one h

set_least : (a b c : BitSet) → IsWithin a c → IsWithin b c → IsWithin (join_set a b) c
set_least a b c f g false h = or_least a.zero b.zero (f false) (g false) h
set_least a b c f g true h = or_least a.one b.one (f true) (g true) h

pub join_left : (a b : List BitSet) → length a ≡ length b → AllZip IsWithin a (join_sets a b)
join_left [] [] e = tt
join_left [] (y ∷ b) e = absurd (omega arith)
join_left (x ∷ a) [] e = absurd (omega arith)
join_left (x ∷ a) (y ∷ b) e = (set_left x y, join_left a b (omega arith))

pub join_right : (a b : List BitSet) → length a ≡ length b → AllZip IsWithin b (join_sets a b)
join_right [] [] e = tt
join_right [] (y ∷ b) e = absurd (omega arith)
join_right (x ∷ a) [] e = absurd (omega arith)
join_right (x ∷ a) (y ∷ b) e = (set_right x y, join_right a b (omega arith))

pub join_least : (a b c : List BitSet) → AllZip IsWithin a c → AllZip IsWithin b c → AllZip IsWithin (join_sets a b) c
join_least [] b c f g = g
join_least (x ∷ a) [] c f g = f
join_least (x ∷ a) (y ∷ b) [] f g = absurd f
join_least (x ∷ a) (y ∷ b) (z ∷ c) f g = (set_least x y z f.0 g.0, join_least a b c f.1 g.1)
