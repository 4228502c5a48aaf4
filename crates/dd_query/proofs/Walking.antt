-- Walks to the least assignment.
use Rattle.std.proofs.Common.{◌≡◌, ◌≢◌, ℕ, zero, suc, ◌+◌, ◌<◌, ◌≤◌, Bool, true, false, List, [], ◌∷◌, ◌++◌, length, arith, sym, ap, refl, ◌∙◌, subst, inl, inr}
use Rattle.std.proofs.lemmas.List.{append_assoc}
use Rattle.std.specs.Prelude.{IsTrue, ◌==◌, take, slice_get, Some}
use Rattle.dd_nodes.specs.declared.node.Ref.{Ref}
use Rattle.dd_nodes.specs.Diagram.{Held, IsDiagram, IsFrom, child, walk}
use Rattle.dd_nodes.proofs.Walks.{child-from, from_cases, walk-constant}
use Rattle.ste_model.specs.Assignments.{IsBefore}
use Rattle.ste_model.specs.Least.{IsLeast}
use Rattle.dd_query.specs.declared.first.Lead.{Lead}
use Rattle.dd_query.specs.private.Leading.{Leads}

-- the lists behind the first bit are ordered as the whole
before_rest : (b : Bool) (one other : List Bool) → IsBefore (b ∷ one) (b ∷ other) → IsBefore one other
before_rest b one other h = by h.place h.same h.earlier h.later
  where
    by : (k : ℕ) → take k (b ∷ one) ≡ take k (b ∷ other) → slice_get (b ∷ one) k ≡ Some false → slice_get (b ∷ other) k ≡ Some true → IsBefore one other
    by zero same earlier later = absurd (cc (earlier, later))
    by (suc k) same earlier later = record { place = k; same = cc same; earlier = earlier; later = later }

-- nothing that begins with 1 stands before what begins with 0
not_before : (one other : List Bool) → ¬ IsBefore (true ∷ one) (false ∷ other)
not_before one other h = by h.place h.same h.earlier h.later
  where
    by : (k : ℕ) → take k (true ∷ one) ≡ take k (false ∷ other) → slice_get (true ∷ one) k ≡ Some false → slice_get (false ∷ other) k ≡ Some true → ⊥
    by zero same earlier later = cc earlier
    by (suc k) same earlier later = cc same

-- with a first bit: 0, or 1 where nothing that begins with 0 has the property
pub least_behind : (n : ℕ) (P : List Bool → Type 0) (b : Bool) (tail : List Bool) → (b ≡ true → (rest : List Bool) → length rest ≡ n → ¬ P (false ∷ rest)) → IsLeast n (λ rest. P (b ∷ rest)) tail → IsLeast (suc n) P (b ∷ tail)
least_behind n P b tail none least = record {
  long = ap suc least.long;
  has = least.has;
  least = λ other l h before. by b none least other l h before;
}
  where
    by : (c : Bool) → (c ≡ true → (rest : List Bool) → length rest ≡ n → ¬ P (false ∷ rest)) → IsLeast n (λ rest. P (c ∷ rest)) tail → (other : List Bool) → length other ≡ suc n → P other → ¬ IsBefore other (c ∷ tail)
    by c none least [] l h before = absurd (omega arith)
    by false none least (false ∷ rest) l h before = least.least rest (omega arith) h (before_rest false rest tail before)
    by false none least (true ∷ rest) l h before = not_before rest tail before
    by true none least (false ∷ rest) l h before = none refl rest (omega arith) h
    by true none least (true ∷ rest) l h before = least.least rest (omega arith) h (before_rest true rest tail before)

-- the function that is 0 everywhere has no 1
no_one : (h : Held) (v i : ℕ) (r : Ref) (bits : List Bool) → IsDiagram h v → r.0 ≡ 0 → ¬ IsTrue (walk h i r bits)
no_one h v i r bits d e one =
    let same : walk h i r bits ≡ (r.0 == 1) = walk-constant h v i r bits d (omega arith) in
    let is_not : (r.0 == 1) ≡ false = rw e in
    cc

-- what is least behind the next bit is least behind the bits so far
pub rest_behind : (h : Held) (v i : ℕ) (r : Ref) (lead : Lead) (bits new : List Bool) (Q : List Bool → Type 0) → IsDiagram h v → Leads h i r lead → new ≡ bits ++ lead.bit ∷ []
    → ((n : ℕ) (tail : List Bool) → n + i ≡ v → IsLeast n (λ rest. IsTrue (walk h i r rest)) tail → Q (bits ++ tail))
    → (n : ℕ) (tail : List Bool) → n + (i + 1) ≡ v → IsLeast n (λ rest. IsTrue (walk h (i + 1) lead.rest rest)) tail → Q (new ++ tail)
rest_behind h v i r lead bits new Q d leads is before n tail e least =
    let here : IsLeast n (λ rest. IsTrue (walk h (i + 1) (child h i lead.bit r) rest)) tail =
    subst (λ (x : Ref). IsLeast n (λ rest. IsTrue (walk h (i + 1) x rest)) tail) leads.rest least in
    let none : lead.bit ≡ true → (rest : List Bool) → length rest ≡ n → ¬ IsTrue (walk h i r (false ∷ rest)) =
    λ t rest l. no_one h v (i + 1) (child h i false r) rest d (leads.least t) in
    let whole = least_behind n (λ rest. IsTrue (walk h i r rest)) lead.bit tail none here in
    subst Q (sym (append_assoc bits (lead.bit ∷ []) tail) ∙ ap (λ (xs : List Bool). xs ++ tail) (sym is)) (before (suc n) (lead.bit ∷ tail) (omega arith) whole)

pub rest_from : (h : Held) (v i : ℕ) (r : Ref) (lead : Lead) → IsDiagram h v → IsFrom h i r → Leads h i r lead → IsFrom h (i + 1) lead.rest
rest_from h v i r lead d f leads = subst (λ (x : Ref). IsFrom h (i + 1) x) (sym leads.rest) (child-from h v i lead.bit r d f)

-- behind all variables the empty assignment is the least
pub least_at_end : (h : Held) (v i : ℕ) (r : Ref) → IsDiagram h v → v ≤ i → IsFrom h i r → r.0 ≢ 0 → IsLeast 0 (λ rest. IsTrue (walk h i r rest)) []
least_at_end h v i r d e f ne = record {
  long = refl;
  has = elim (from_cases h i r f) [
    | inl constant ↦ let is : r.0 ≡ 1 = omega arith in rw is
    | inr (n, at, above) ↦ let below : n.var < v = d.below r n at in absurd (omega arith)
  ];
  least = λ other l g before. by other l before.place before.earlier;
}
  where
    by : (other : List Bool) → length other ≡ 0 → (k : ℕ) → slice_get other k ≡ Some false → ⊥
    by [] l k earlier = cc earlier
    by (b ∷ other) l k earlier = absurd (omega arith)

pub append_nil : {X : Type 0} (xs : List X) → xs ++ [] ≡ xs
append_nil [] = refl
append_nil (x ∷ xs) = ap (λ ys. x ∷ ys) (append_nil xs)
