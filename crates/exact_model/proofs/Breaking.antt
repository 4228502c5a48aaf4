-- Where some quintuple is broken, as a sum of functions and as a fact of a run.
use Rattle.std.proofs.Common.{◌≡◌, ℕ, zero, suc, ◌<◌, ◌≤◌, Bool, true, false, not, List, [], ◌∷◌, ◌++◌, map, filter, length, get_or, arith, refl, sym, ◌∙◌, ap, subst, inl, inr}
use Rattle.std.specs.Prelude.{All, Any, IsTrue, ◌↔◌, ◌⊎◌, ◌||◌, if◌then◌else◌}
use Rattle.std.proofs.lemmas.Bool.{and_from, and_parts, both_ways, cases_lt, or_cases, or_left, or_right}
use Rattle.std.proofs.lemmas.List.{get_or_default}
use Rattle.std.proofs.lemmas.List.Elements.{All-contains, All-head, All-tail}
use Rattle.bool_expr.specs.Value.{flips, value_of}
use Rattle.net_core.specs.Run.{Cut}
use Rattle.ste_base.specs.Functions.{Function}
use Rattle.net_core.specs.Work.{SymbolicCut, sum}
use Rattle.net_core.proofs.GateSets.{sum_cons}
use Rattle.ste_model.specs.declared.task.Assertion.{Assertion}
use Rattle.ste_model.specs.declared.task.Quint.{Quint}
use Rattle.ste_model.specs.Asked.{cuts_at, depth, quint_at}
use Rattle.ste_model.specs.Breaks.{Breaks}
use Rattle.ste_model.specs.Holds.{RunMeets}
use Rattle.ste_model.specs.Need.{ReadBelow}
use Rattle.ste_model.specs.Work.{has_time, over_times, symbolic_cut, symbolic_cuts_at}
use Rattle.ste_model.proofs.Passes.{each_to, on_below}
use Rattle.ste_model.proofs.SumsAt.{any_cases, any_first, any_later, any_none, sum_each}
use Rattle.exact_model.specs.ExactWork.{all_broken, is_broken}
use Rattle.ste_model.specs.Expressions.{reads}
use Rattle.exact_model.proofs.Readings.{value_before}

-- ---- sums

sum_append : (fs gs : List Function) (bits : List Bool) → sum (fs ++ gs) bits ≡ (sum fs bits || sum gs bits)
sum_append [] gs bits = refl
sum_append (f ∷ fs) gs bits =
    sum_cons f (fs ++ gs) bits ∙ ap (λ b. f bits || b) (sum_append fs gs bits) ∙ by (f bits) (sum fs bits) (sum gs bits) ∙ ap (λ b. b || sum gs bits) (sym (sum_cons f fs bits))
  where
    by : (a b c : Bool) → (a || (b || c)) ≡ ((a || b) || c)
    by true b c = refl
    by false b c = refl

-- a sum over times is 1 where that of some time is
sum_times : (f : ℕ → List Function) (n : ℕ) (bits : List Bool) → IsTrue (sum (over_times f n) bits) ↔ ((t : ℕ) × (t < n) × IsTrue (sum (f t) bits))
sum_times f zero bits = (λ h. absurd (cc h), λ at. absurd (let l = at.1 in omega arith))
sum_times f (suc n) bits = (
  λ h. elim (or_cases (sum (over_times f n) bits) (sum (f n) bits) (sym (sum_append (over_times f n) (f n) bits) ∙ h)) [
    | inl early ↦ let at = (sum_times f n bits).0 early in (at.0, let l = at.1 in omega arith, at.2)
    | inr last ↦ (n, omega arith, last)
  ],
  λ at. sum_append (over_times f n) (f n) bits ∙ elim (cases_lt at.0 n) [
    | inl early ↦ or_left (sum (over_times f n) bits) (sum (f n) bits) ((sum_times f n bits).1 (at.0, early, at.2))
    | inr late ↦
        let same : at.0 ≡ n = let l = at.1 in omega arith in
        or_right (sum (over_times f n) bits) (sum (f n) bits) (subst (λ (k : ℕ). IsTrue (sum (f k) bits)) same at.2)
  ],
)

-- ---- one time

differs_is : (a x : Bool) → IsTrue (flips a x) ↔ (a ≡ not x)
differs_is false false = (λ h. h ∙ refl, λ e. absurd (cc e))
differs_is false true = (λ h. refl, λ e. refl)
differs_is true false = (λ h. refl, λ e. refl)
differs_is true true = (λ h. absurd (cc h), λ e. absurd (cc e))

-- under all these bits the expressions of the quintuple have the values that they have under the first of them
abbrev IsReadBefore : List Bool → List Bool → Quint → Type 0
IsReadBefore all bits q = (value_of q.guard all ≡ value_of q.guard bits) × (value_of q.value all ≡ value_of q.value bits)

module _ (bit : ℕ → ℕ → Function) (all bits : List Bool) (t : ℕ) where
  abbrev run : ℕ → ℕ → Bool
  run t id = bit t id all

  abbrev IsOne : SymbolicCut → Type 0
  IsOne d = IsTrue (is_broken (bit t) d all)

  -- what is broken among the quintuples that have the time, and among all, which apply only where they have it
  broken_is : (quints : List Quint) → All (IsReadBefore all bits) quints → Any IsOne (symbolic_cuts_at quints t) ↔ Any (Breaks (run t)) (cuts_at quints bits t)
  broken_is [] before = (λ any. absurd (any_none IsOne any), λ any. absurd (any_none (Breaks (run t)) any))
  broken_is (q ∷ quints) before = (
    λ any. to (has_time t q) refl (broken_is quints (All-tail (IsReadBefore all bits) q quints before)).0 any,
    λ any. from (has_time t q) refl (broken_is quints (All-tail (IsReadBefore all bits) q quints before)).1 (any_cases (Breaks (run t)) (quint_at bits t q) (cuts_at quints bits t) any),
  )
    where
      here : IsReadBefore all bits q
      here = All-head (IsReadBefore all bits) q quints before

      to : (b : Bool) → has_time t q ≡ b → (Any IsOne (symbolic_cuts_at quints t) → Any (Breaks (run t)) (cuts_at quints bits t)) → Any IsOne (map symbolic_cut (if b then q ∷ filter (has_time t) quints else filter (has_time t) quints)) → Any (Breaks (run t)) (cuts_at (q ∷ quints) bits t)
      to true runs rest any = elim (any_cases IsOne (symbolic_cut q) (symbolic_cuts_at quints t) any) [
        | inl now ↦
            let p = and_parts (value_of q.guard all) (flips (run t q.node.0) (value_of q.value all)) now in
            any_first (Breaks (run t)) (quint_at bits t q) (cuts_at quints bits t)
            (and_from (value_of q.guard bits) (has_time t q) (sym here.0 ∙ p.0) runs, (differs_is (run t q.node.0) (value_of q.value all)).0 p.1 ∙ ap not here.1)
        | inr later ↦ any_later (Breaks (run t)) (quint_at bits t q) (cuts_at quints bits t) (rest later)
      ]
      to false runs rest any = any_later (Breaks (run t)) (quint_at bits t q) (cuts_at quints bits t) (rest any)

      from : (b : Bool) → has_time t q ≡ b → (Any (Breaks (run t)) (cuts_at quints bits t) → Any IsOne (symbolic_cuts_at quints t)) → (Breaks (run t) (quint_at bits t q)) ⊎ Any (Breaks (run t)) (cuts_at quints bits t) → Any IsOne (map symbolic_cut (if b then q ∷ filter (has_time t) quints else filter (has_time t) quints))
      from true runs rest (inl now) =
          let p = and_parts (value_of q.guard bits) (has_time t q) now.0 in
          any_first IsOne (symbolic_cut q) (symbolic_cuts_at quints t)
          (and_from (value_of q.guard all) (flips (run t q.node.0) (value_of q.value all)) (here.0 ∙ p.0) ((differs_is (run t q.node.0) (value_of q.value all)).1 (now.1 ∙ ap not (sym here.1))))
      from true runs rest (inr later) = any_later IsOne (symbolic_cut q) (symbolic_cuts_at quints t) (rest later)
      from false runs rest (inl now) =
          let p = and_parts (value_of q.guard bits) (has_time t q) now.0 in
          absurd (both_ways (has_time t q) runs p.1)
      from false runs rest (inr later) = rest later

-- ---- all times

-- some quintuple is broken below the depth
abbrev pub BreaksSomewhere : Assertion → List Quint → List Bool → (ℕ → ℕ → Bool) → Type 0
BreaksSomewhere task quints bits run = (t : ℕ) × (t < depth task) × Any (Breaks (run t)) (cuts_at quints bits t)

pub before : (vars : ℕ) (bits rest : List Bool) (quints : List Quint) → length bits ≡ vars → ReadBelow vars quints → All (IsReadBefore (bits ++ rest) bits) quints
before vars bits rest quints long below k d l =
    let q = get_or quints k d in
    let p = and_parts (reads vars q.guard) (reads vars q.value) (below k d l) in
    (value_before vars bits rest long q.guard p.0, value_before vars bits rest long q.value p.1)

sum_is : (task : Assertion) (quints : List Quint) (bit : ℕ → ℕ → Function) (all bits : List Bool) → All (IsReadBefore all bits) quints → IsTrue (sum (all_broken task quints bit) all) ↔ BreaksSomewhere task quints bits (λ t id. bit t id all)
sum_is task quints bit all bits before = (
  λ h.
      let at = (sum_times at_time (depth task) all).0 h in
      (at.0, at.1, (broken_is bit all bits at.0 quints before).0 ((sum_each (is_broken (bit at.0)) (symbolic_cuts_at quints at.0) all).0 at.2)),
  λ at. (sum_times at_time (depth task) all).1 (at.0, at.1, (sum_each (is_broken (bit at.0)) (symbolic_cuts_at quints at.0) all).1 ((broken_is bit all bits at.0 quints before).1 at.2)),
)
  where
    at_time : ℕ → List Function
    at_time t = map (is_broken (bit t)) (symbolic_cuts_at quints t)

same_or_opposite : (a b : Bool) → ¬ (a ≡ not b) → a ≡ b
same_or_opposite false false h = refl
same_or_opposite false true h = absurd (h refl)
same_or_opposite true false h = absurd (h refl)
same_or_opposite true true h = refl

opposite_differs : (a b : Bool) → a ≡ b → a ≡ not b → ⊥
opposite_differs a false e f = cc
opposite_differs a true e f = cc

unbroken_meets : (task : Assertion) (quints : List Quint) (bits : List Bool) (run : ℕ → ℕ → Bool) → All (λ quint. quint.to ≤ depth task) quints → ¬ BreaksSomewhere task quints bits run → RunMeets (cuts_at quints bits) run
unbroken_meets task quints bits run ends none t k d l on =
    let cuts = cuts_at quints bits t in
    let cut = get_or cuts k d in
    let inside : t < depth task = on_below bits t (depth task) quints ends k d l on in
    same_or_opposite (run t cut.node) cut.value (λ e. none (t, inside, (k, cut, l, get_or_default cuts k cut d l, (on, e))))

meets_unbroken : (task : Assertion) (quints : List Quint) (bits : List Bool) (run : ℕ → ℕ → Bool) → RunMeets (cuts_at quints bits) run → ¬ BreaksSomewhere task quints bits run
meets_unbroken task quints bits run meets at =
    let any = at.2 in
    let same = All-contains (λ (c : Cut). IsTrue c.on → run at.0 c.node ≡ c.value) (cuts_at quints bits at.0) any.1 (meets at.0) (any.0, any.2, any.3) any.4.0 in
    opposite_differs (run at.0 any.1.node) any.1.value same any.4.1

-- the sum is 0 where the run with these bits meets what is asked, and 1 where it does not
module _ (task : Assertion) (quints : List Quint) (bit : ℕ → ℕ → Function) (all bits : List Bool) (ends : All (λ quint. quint.to ≤ depth task) quints) (reads : All (IsReadBefore all bits) quints) where
  pub met_is : sum (all_broken task quints bit) all ≡ false → RunMeets (cuts_at quints bits) (λ t id. bit t id all)
  met_is e = unbroken_meets task quints bits (λ t id. bit t id all) ends (λ some. both_ways (sum (all_broken task quints bit) all) e ((sum_is task quints bit all bits reads).1 some))

  pub is_met : RunMeets (cuts_at quints bits) (λ t id. bit t id all) → sum (all_broken task quints bit) all ≡ false
  is_met meets = by (sum (all_broken task quints bit) all) (sum_is task quints bit all bits reads).0
    where
      by : (b : Bool) → (IsTrue b → BreaksSomewhere task quints bits (λ t id. bit t id all)) → b ≡ false
      by false h = refl
      by true h = absurd (meets_unbroken task quints bits (λ t id. bit t id all) meets (h refl))

  pub broken_is_not_met : sum (all_broken task quints bit) all ≡ true → ¬ RunMeets (cuts_at quints bits) (λ t id. bit t id all)
  broken_is_not_met e meets = both_ways (sum (all_broken task quints bit) all) (is_met meets) e

  pub not_met_is_broken : ¬ RunMeets (cuts_at quints bits) (λ t id. bit t id all) → sum (all_broken task quints bit) all ≡ true
  not_met_is_broken fails = by (sum (all_broken task quints bit) all) met_is
    where
      by : (b : Bool) → (b ≡ false → RunMeets (cuts_at quints bits) (λ t id. bit t id all)) → b ≡ true
      by true h = refl
      by false h = absurd (fails (h refl))

pub ant_ends : (task : Assertion) → All (λ quint. quint.to ≤ depth task) task.ant
ant_ends task i e m = let h = each_to task.ant 0 i e m in omega arith

pub con_ends : (task : Assertion) → All (λ quint. quint.to ≤ depth task) task.con
con_ends task i e m = let h = each_to task.con 0 i e m in omega arith
