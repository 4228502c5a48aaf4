-- Sums of functions at one assignment: over parts of a list, over the sets of all nets, and over consequents.
use Rattle.std.proofs.Common.{◌≡◌, ℕ, ◌<◌, zero, suc, Bool, true, false, not, List, [], ◌∷◌, ◌++◌, map, arith, sym, ap, refl, subst, ◌∙◌, inl, inr}
use Rattle.std.specs.Prelude.{Any, IsTrue, ◌↔◌, ◌⊎◌, ◌&&◌, ◌||◌}
use Rattle.std.specs.List.{flat_map}
use Rattle.std.proofs.lemmas.Bool.{and_from, and_parts, cases_lt, or_cases, or_left, or_right}
use Rattle.std.proofs.lemmas.List.{map-append}
use Rattle.net_core.specs.declared.bit_set.BitSet.{BitSet}
use Rattle.net_core.specs.declared.raw.RawNet.{RawNet}
use Rattle.net_core.specs.Run.{Cut}
use Rattle.net_core.specs.Sets.{IsEmptyAt, both, neither, only}
use Rattle.ste_base.specs.Functions.{Function}
use Rattle.net_core.specs.Work.{SymbolicCut, SymbolicSet, conjunction, sets_below, no_bit, set_at, some_empty, sum}
use Rattle.net_core.proofs.GateSets.{sum_cons}
use Rattle.bool_expr.specs.Value.{value_of}
use Rattle.ste_model.specs.declared.task.Bind.{Bind}
use Rattle.ste_model.specs.Edges.{bind_at, bind_cuts}
use Rattle.ste_model.specs.GraphWork.{symbolic_binds}

-- ---- lists

pub any_first : {X : Type 0} (P : X → Type 0) (x : X) (xs : List X) → P x → Any P (x ∷ xs)
any_first P x xs h = (0, x, omega arith, refl, h)

pub any_later : {X : Type 0} (P : X → Type 0) (x : X) (xs : List X) → Any P xs → Any P (x ∷ xs)
any_later P x xs any = (suc any.0, any.1, let l = any.2 in omega arith, any.3, any.4)

pub any_cases : {X : Type 0} (P : X → Type 0) (x : X) (xs : List X) → Any P (x ∷ xs) → P x ⊎ Any P xs
any_cases P x xs (zero, y, l, e, h) = inl (subst P (sym e) h)
any_cases P x xs (suc k, y, l, e, h) = inr (k, y, omega (arith, l), e, h)

pub any_none : {X : Type 0} (P : X → Type 0) → ¬ Any P []
any_none P any = let l = any.2 in absurd (omega arith)

-- ---- sums

sum_append : (fs gs : List Function) (bits : List Bool) → sum (fs ++ gs) bits ≡ (sum fs bits || sum gs bits)
sum_append [] gs bits = refl
sum_append (f ∷ fs) gs bits =
    sum_cons f (fs ++ gs) bits ∙ ap (λ b. f bits || b) (sum_append fs gs bits) ∙ by (f bits) (sum fs bits) (sum gs bits) ∙ ap (λ b. b || sum gs bits) (sym (sum_cons f fs bits))
  where
    by : (a b c : Bool) → (a || (b || c)) ≡ ((a || b) || c)
    by true b c = refl
    by false b c = refl

-- a sum of parts is 1 where some part is
pub sum_parts : {X : Type 0} (F : X → List Function) (xs : List X) (bits : List Bool) → IsTrue (sum (flat_map F xs) bits) ↔ Any (λ x. IsTrue (sum (F x) bits)) xs
sum_parts F [] bits = (λ h. absurd (cc h), λ any. absurd (any_none (λ x. IsTrue (sum (F x) bits)) any))
sum_parts F (x ∷ xs) bits = (
  λ h. elim (or_cases (sum (F x) bits) (sum (flat_map F xs) bits) (sym (sum_append (F x) (flat_map F xs) bits) ∙ h)) [
    | inl here ↦ any_first (λ y. IsTrue (sum (F y) bits)) x xs here
    | inr later ↦ any_later (λ y. IsTrue (sum (F y) bits)) x xs ((sum_parts F xs bits).0 later)
  ],
  λ any. sum_append (F x) (flat_map F xs) bits ∙ elim (any_cases (λ y. IsTrue (sum (F y) bits)) x xs any) [
    | inl here ↦ or_left (sum (F x) bits) (sum (flat_map F xs) bits) here
    | inr later ↦ or_right (sum (F x) bits) (sum (flat_map F xs) bits) ((sum_parts F xs bits).1 later)
  ],
)

pub sum_each : {X : Type 0} (F : X → Function) (xs : List X) (bits : List Bool) → IsTrue (sum (map F xs) bits) ↔ Any (λ x. IsTrue (F x bits)) xs
sum_each F [] bits = (λ h. absurd (cc h), λ any. absurd (any_none (λ x. IsTrue (F x bits)) any))
sum_each F (x ∷ xs) bits = (
  λ h. elim (or_cases (F x bits) (sum (map F xs) bits) (sym (sum_cons (F x) (map F xs) bits) ∙ h)) [
    | inl here ↦ any_first (λ y. IsTrue (F y bits)) x xs here
    | inr later ↦ any_later (λ y. IsTrue (F y bits)) x xs ((sum_each F xs bits).0 later)
  ],
  λ any. sum_cons (F x) (map F xs) bits ∙ elim (any_cases (λ y. IsTrue (F y bits)) x xs any) [
    | inl here ↦ or_left (F x bits) (sum (map F xs) bits) here
    | inr later ↦ or_right (F x bits) (sum (map F xs) bits) ((sum_each F xs bits).1 later)
  ],
)

-- ---- empty nets

parts_of : (z w o n : Bool) → ◌≡◌ {A = BitSet} (record { zero = z; one = o }) (record { zero = w; one = n }) → (z ≡ w) × (o ≡ n)
parts_of z w o n e = (ap (λ (s : BitSet). s.zero) e, ap (λ (s : BitSet). s.one) e)

empty_bits : (z o : Bool) → IsTrue (not (z || o)) ↔ ◌≡◌ {A = BitSet} (record { zero = z; one = o }) neither
empty_bits false false = (λ h. refl, λ e. refl)
empty_bits true o = (λ h. absurd (cc h), λ e. absurd (cc (parts_of true false o false e).0))
empty_bits false true = (λ h. absurd (cc h), λ e. absurd (cc (parts_of false false true false e).1))

first_empty : (sets : ℕ → SymbolicSet) (n : ℕ) (bits : List Bool) → IsTrue (sum (map no_bit (sets_below sets n)) bits) ↔ ((id : ℕ) × (id < n) × (set_at bits (sets id) ≡ neither))
first_empty sets zero bits = (λ h. absurd (cc h), λ at. absurd (let l = at.1 in omega arith))
first_empty sets (suc n) bits = (
  λ h. elim (or_cases (sum (map no_bit (sets_below sets n)) bits) (no_bit (sets n) bits) (sym last ∙ h)) [
    | inl early ↦ let at = (first_empty sets n bits).0 early in (at.0, let l = at.1 in omega arith, at.2)
    | inr here ↦ (n, omega arith, (empty_bits ((sets n).zero bits) ((sets n).one bits)).0 here)
  ],
  λ at. last ∙ elim (below at.0 at.1) [
    | inl early ↦ or_left (sum (map no_bit (sets_below sets n)) bits) (no_bit (sets n) bits) ((first_empty sets n bits).1 (at.0, early, at.2))
    | inr same ↦ or_right (sum (map no_bit (sets_below sets n)) bits) (no_bit (sets n) bits) ((empty_bits ((sets n).zero bits) ((sets n).one bits)).1 (subst (λ (k : ℕ). set_at bits (sets k) ≡ neither) same at.2))
  ],
)
  where
    alone : (f : Function) (bs : List Bool) → sum (f ∷ []) bs ≡ f bs
    alone f bs = refl

    last : sum (map no_bit (sets_below sets (suc n))) bits ≡ (sum (map no_bit (sets_below sets n)) bits || no_bit (sets n) bits)
    last = ap (λ (fs : List Function). sum fs bits) (map-append no_bit (sets_below sets n) (sets n ∷ [])) ∙ sum_append (map no_bit (sets_below sets n)) (no_bit (sets n) ∷ []) bits

    below : (k : ℕ) → k < suc n → (k < n) ⊎ (k ≡ n)
    below k l = elim (cases_lt k n) [ inl less ↦ inl less | inr more ↦ inr (omega arith) ]

pub empty_is : (net : RawNet) (sets : ℕ → SymbolicSet) (bits : List Bool) → IsTrue (some_empty net sets bits) ↔ IsEmptyAt net (λ id. set_at bits (sets id))
empty_is net sets bits = first_empty sets net.nets bits

-- ---- consequents

pub strong_bits : (z o x : Bool) → IsTrue ((x && (z && not o)) || (not x && (o && not z))) ↔ ◌≡◌ {A = BitSet} (record { zero = z; one = o }) (only (not x))
strong_bits true false true = (λ h. refl, λ e. refl)
strong_bits false true false = (λ h. refl, λ e. refl)
strong_bits z true true = (λ h. absurd (none z h), λ e. absurd (cc (parts_of z true true false e).1))
  where
    none : (b : Bool) → (b && false) || false ≡ true → ⊥
    none true h = cc h
    none false h = cc h
strong_bits true o false = (λ h. absurd (none o h), λ e. absurd (cc (parts_of true false o true e).0))
  where
    none : (b : Bool) → (b && false) ≡ true → ⊥
    none true h = cc h
    none false h = cc h
strong_bits false false true = (λ h. absurd (cc h), λ e. absurd (cc (parts_of false true false false e).0))
strong_bits false false false = (λ h. absurd (cc h), λ e. absurd (cc (parts_of false false false true e).1))

pub weak_bits : (z o : Bool) → IsTrue (z && o) ↔ ◌≡◌ {A = BitSet} (record { zero = z; one = o }) both
weak_bits true true = (λ h. refl, λ e. refl)
weak_bits true false = (λ h. absurd (cc h), λ e. absurd (cc (parts_of true true false true e).1))
weak_bits false o = (λ h. absurd (cc h), λ e. absurd (cc (parts_of false true o true e).0))

-- a finding by a function: what it says of a set at this assignment
module _ (finds : SymbolicSet → Function → Function) (Says : BitSet → Bool → Type 0) (bits : List Bool) (is : (w : SymbolicSet) (x : Function) → IsTrue (finds w x bits) ↔ Says (set_at bits w) (x bits)) (f : Function) (sets : ℕ → SymbolicSet) where
  -- where f is 1, what is found of a binding
  abbrev pub found_of : Bind → Function
  found_of bind = conjunction (conjunction (value_of bind.guard) (finds (sets bind.node.0) (value_of bind.value))) f

  abbrev pub FailsSo : Cut → Type 0
  FailsSo cut = IsTrue cut.on × Says (set_at bits (sets cut.node)) cut.value

  pub found_among : (binds : List Bind) → Any (λ bind. IsTrue (found_of bind bits)) binds ↔ (IsTrue (f bits) × Any FailsSo (bind_cuts binds bits))
  found_among [] = (λ any. absurd (any_none (λ bind. IsTrue (found_of bind bits)) any), λ h. absurd (any_none FailsSo h.1))
  found_among (bind ∷ binds) = (
    λ any. elim (any_cases (λ b. IsTrue (found_of b bits)) bind binds any) [
      | inl here ↦
          let p = and_parts (value_of bind.guard bits && finds (sets bind.node.0) (value_of bind.value) bits) (f bits) here in
          let q = and_parts (value_of bind.guard bits) (finds (sets bind.node.0) (value_of bind.value) bits) p.0 in
          (p.1, any_first FailsSo (bind_at bits bind) (bind_cuts binds bits) (q.0, (is (sets bind.node.0) (value_of bind.value)).0 q.1))
      | inr later ↦ let h = (found_among binds).0 later in (h.0, any_later FailsSo (bind_at bits bind) (bind_cuts binds bits) h.1)
    ],
    λ h. elim (any_cases FailsSo (bind_at bits bind) (bind_cuts binds bits) h.1) [
      | inl here ↦ any_first (λ b. IsTrue (found_of b bits)) bind binds
          (and_from (value_of bind.guard bits && finds (sets bind.node.0) (value_of bind.value) bits) (f bits)
          (and_from (value_of bind.guard bits) (finds (sets bind.node.0) (value_of bind.value) bits) here.0 ((is (sets bind.node.0) (value_of bind.value)).1 here.1)) h.0)
      | inr later ↦ any_later (λ b. IsTrue (found_of b bits)) bind binds ((found_among binds).1 (h.0, later))
    ],
  )

  -- the functions of all bindings, as the work functions have them
  map_three : (binds : List Bind) → map (λ g. conjunction g f) (map (λ (d : SymbolicCut). conjunction d.guard (finds (sets d.node) d.value)) (symbolic_binds binds)) ≡ map found_of binds
  map_three [] = refl
  map_three (bind ∷ binds) = ap (λ (fs : List Function). found_of bind ∷ fs) (map_three binds)

  pub found_is : (binds : List Bind) → IsTrue (sum (map (λ g. conjunction g f) (map (λ (d : SymbolicCut). conjunction d.guard (finds (sets d.node) d.value)) (symbolic_binds binds))) bits) ↔ (IsTrue (f bits) × Any FailsSo (bind_cuts binds bits))
  found_is binds =
      let each = sum_each found_of binds bits in
      let among = found_among binds in
      let same = ap (λ (fs : List Function). sum fs bits) (map_three binds) in (
        λ h. among.0 (each.0 (sym same ∙ h)),
        λ h. same ∙ each.1 (among.1 h),
      )
