-- The number of bits of a table of a graph, and sequences whose size grows until they are done.
use Rattle.std.proofs.Common.{◌≡◌, ℕ, ◌<◌, ◌≤◌, ◌+◌, ◌*◌, zero, suc, Bool, true, false, List, [], ◌∷◌, length, arith, refl, subst, inl, inr}
use Rattle.std.specs.Prelude.{◌⊎◌}
use Rattle.std.specs.List.{AllZip}
use Rattle.std.proofs.lemmas.Bool.{cases_lt}
use Rattle.net_core.specs.declared.bit_set.BitSet.{BitSet}
use Rattle.net_core.specs.Sets.{IsWithin}
use Rattle.ste_model.specs.GraphTable.{IsStateWithin, VertexState}

-- a sequence whose size grows until it is done is done after as many steps as the bound
counted : (size : ℕ → ℕ) (Done : ℕ → Type 0) → ((n : ℕ) → size (suc n) ≤ size n → Done n) → ((n : ℕ) → Done n → Done (suc n)) → (n : ℕ) → Done n ⊎ (n ≤ size n)
counted size Done stops stays zero = inr (omega arith)
counted size Done stops stays (suc n) = elim (counted size Done stops stays n) [
  | inl done ↦ inl (stays n done)
  | inr large ↦ elim (cases_lt (size n) (size (suc n))) [
    | inl more ↦ inr (omega arith)
    | inr same ↦ inl (stays n (stops n same))
  ]
]

pub settles : (size : ℕ → ℕ) (Done : ℕ → Type 0) (bound : ℕ) → ((n : ℕ) → size (suc n) ≤ size n → Done n) → ((n : ℕ) → Done n → Done (suc n)) → ((n : ℕ) → size n ≤ bound) → Done bound
settles size Done bound stops stays small = elim (counted size Done stops stays bound) [
  | inl done ↦ done
  | inr large ↦ let h = small (suc bound) in stops bound (omega arith)
]

-- ---- one vertex

ones : Bool → ℕ
ones false = 0
ones true = 1

set_size : List BitSet → ℕ
set_size [] = 0
set_size (set ∷ sets) = ones set.zero + ones set.one + set_size sets

pub state_size : VertexState → ℕ
state_size state = ones state.reached + set_size state.latches

ones_le : (a b : Bool) → (a ≡ true → b ≡ true) → ones a ≤ ones b
unfolding ones
ones_le false b h = omega arith
ones_le true false h = absurd (cc (h refl))
ones_le true true h = omega arith

ones_same : (a b : Bool) → ones b ≤ ones a → b ≡ true → a ≡ true
unfolding ones
ones_same true b h e = refl
ones_same false false h e = e
ones_same false true h e = absurd (omega arith)

sets_le : (a b : List BitSet) → AllZip IsWithin a b → set_size a ≤ set_size b
unfolding set_size
sets_le [] [] h = omega arith
sets_le [] (y ∷ b) h = absurd h
sets_le (x ∷ a) [] h = absurd h
sets_le (x ∷ a) (y ∷ b) h =
    let zeros = ones_le x.zero y.zero (h.0 false) in
    let others = ones_le x.one y.one (h.0 true) in
    let rest = sets_le a b h.1 in
    omega arith

set_same : (x y : BitSet) → ones y.zero ≤ ones x.zero → ones y.one ≤ ones x.one → IsWithin y x
set_same x y z o false i = ones_same x.zero y.zero z i
set_same x y z o true i = ones_same x.one y.one o i

sets_same : (a b : List BitSet) → AllZip IsWithin a b → set_size b ≤ set_size a → AllZip IsWithin b a
unfolding set_size
sets_same [] [] h l = tt
sets_same [] (y ∷ b) h l = absurd h
sets_same (x ∷ a) [] h l = absurd h
sets_same (x ∷ a) (y ∷ b) h l =
    let zeros = ones_le x.zero y.zero (h.0 false) in
    let others = ones_le x.one y.one (h.0 true) in
    let rest = sets_le a b h.1 in
    (set_same x y (omega arith) (omega arith), sets_same a b h.1 (omega arith))

pub state_le : (a b : VertexState) → IsStateWithin a b → state_size a ≤ state_size b
unfolding state_size
state_le a b h = let one = ones_le a.reached b.reached h.0 in let rest = sets_le a.latches b.latches h.1 in omega arith

-- what is within and no smaller is the same
pub state_same : (a b : VertexState) → IsStateWithin a b → state_size b ≤ state_size a → IsStateWithin b a
unfolding state_size
state_same a b h l =
    let one = ones_le a.reached b.reached h.0 in
    let rest = sets_le a.latches b.latches h.1 in
    (ones_same a.reached b.reached (omega arith), sets_same a.latches b.latches h.1 (omega arith))

ones_small : (a : Bool) → ones a ≤ 1
unfolding ones
ones_small false = omega arith
ones_small true = omega arith

sets_small : (a : List BitSet) → set_size a ≤ 2 * length a
unfolding set_size
sets_small [] = omega arith
sets_small (x ∷ a) = let z = ones_small x.zero in let o = ones_small x.one in let rest = sets_small a in omega arith

pub state_small : (a : VertexState) (n : ℕ) → length a.latches ≡ n → state_size a ≤ 2 * n + 1
unfolding state_size
state_small a n e = let one = ones_small a.reached in let rest = sets_small a.latches in omega arith

-- ---- all vertices

pub total : (ℕ → ℕ) → ℕ → ℕ
total f zero = 0
total f (suc n) = f n + total f n

total_le : (f g : ℕ → ℕ) → ((n : ℕ) → f n ≤ g n) → (n : ℕ) → total f n ≤ total g n
unfolding total
total_le f g h zero = omega arith
total_le f g h (suc n) = let here = h n in let rest = total_le f g h n in omega arith

pub total_same : (f g : ℕ → ℕ) → ((n : ℕ) → f n ≤ g n) → (n : ℕ) → total g n ≤ total f n → (k : ℕ) → k < n → g k ≤ f k
unfolding total
total_same f g h zero l k m = absurd (omega arith)
total_same f g h (suc n) l k m =
    let here = h n in
    let rest = total_le f g h n in
    elim (cases_lt k n) [
      | inl less ↦ total_same f g h n (omega arith) k less
      | inr more ↦ let e : n ≡ k = omega arith in subst (λ (i : ℕ). g i ≤ f i) e (omega arith)
    ]

pub total_small : (f : ℕ → ℕ) (c : ℕ) → ((n : ℕ) → f n ≤ c) → (n : ℕ) → total f n ≤ n * c
unfolding total
total_small f c h zero = omega arith
total_small f c h (suc n) = let here = h n in let rest = total_small f c h n in omega arith
