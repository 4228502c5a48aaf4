-- The place at which each assignment fails first, where all is constant at its time and nothing was found before.
use Rattle.std.proofs.Common.{◌≡◌, ℕ, zero, suc, ◌<◌, Bool, true, false, not, List, [], ◌∷◌, length, map, filter, get_or, Option, None, Some, refl, sym, ◌∙◌, ap, subst, arith, All, Contains, inl, inr}
use Rattle.std.specs.Prelude.{Any, IfSome, IsTrue, ◌↔◌, ◌⊎◌, ◌==◌, ◌&&◌, ◌||◌, if◌then◌else◌, nat_lt}
use Rattle.std.specs.List.{AllZip}
use Rattle.std.proofs.lemmas.Bool.{cases_eq, eqb-true, ltb-true}
use Rattle.std.proofs.lemmas.List.Elements.{All-head, All-tail}
use Rattle.bool_expr.specs.Value.{value_of}
use Rattle.dd_nodes.specs.declared.node.Ref.{Ref}
use Rattle.ste_base.specs.Functions.{Function}
use Rattle.dd_nodes.specs.Stores.{Means, Store, function}
use Rattle.dd_nodes.proofs.Stores.{IsGood}
use Rattle.dd_ops.proofs.Terminal.{one_bit, zero_bit}
use Rattle.dual_rail.specs.declared.rails.Rails.{Rails}
use Rattle.dual_rail.specs.Rail.{AreRails}
use Rattle.dual_rail.proofs.Works.{behind, here}
use Rattle.net_core.specs.declared.bit_set.BitSet.{BitSet}
use Rattle.net_core.specs.declared.raw.RawNet.{RawNet}
use Rattle.net_core.specs.Work.{SymbolicCut, SymbolicSet, disjunction, never, set_at, sum, whole}
use Rattle.ste_base.specs.declared.id.NodeId.{NodeId}
use Rattle.ste_model.specs.declared.task.Assertion.{Assertion}
use Rattle.ste_model.specs.declared.task.Quint.{Quint}
use Rattle.ste_model.specs.Asked.{cuts_at, depth, quint_at}
use Rattle.ste_model.specs.Need.{IsWholeTable}
use Rattle.ste_model.specs.Work.{constant_set, found_strong, found_weak, has_time, over_times, symbolic_cut, symbolic_cuts_at}
use Rattle.sym_step.specs.declared.cut.Cut.{Cut}
use Rattle.sym_step.specs.Step.{IsCutBy, rails_at}
use Rattle.engine_parts.specs.declared.failing.Failure.{Failure}
use Rattle.engine_parts.specs.declared.failing.Failure.TheVariants.{Strong, Weak}
use Rattle.ste_engine.specs.private.Firsts.{IsFirstAt, IsFirstPlace, are_fixed, first_at, is_first, is_fixed, place_or}
use Rattle.engine_parts.specs.Failing.{FailsBy, fails, first_failing, misses}
use Rattle.engine_parts.proofs.FirstFails.{IsTold, and_true, by_bits, not_here, test_is, told_behind, told_here}
use Rattle.ste_engine.proofs.Times.{through_has}

-- ---- constants

same_everywhere : (s : Store) (r : Ref) (bits other : List Bool) → IsGood s → r.0 < 2 → function s r bits ≡ function s r other
same_everywhere s r bits other d l = elim (cases_eq r.0 0) as (λ _. function s r bits ≡ function s r other) [
  | inl none ↦ zero_bit s r bits d none ∙ sym (zero_bit s r other d none)
  | inr some ↦ let one : r.0 ≡ 1 = omega (arith, l, some) in one_bit s r bits d one ∙ sym (one_bit s r other d one)
]

-- a constant has the bit that its function has under this assignment
fixed_means : (s : Store) (f : Function) (r : Ref) (bits : List Bool) → IsGood s → r.0 < 2 → length bits ≡ s.vars → Means s f r → Means s (λ _. f bits) r
fixed_means s f r bits d l long m = record { ref = m.ref; value = λ other k. same_everywhere s r other bits d l ∙ m.value bits long }

both_true : (a b : Bool) → (a && b) ≡ true → (a ≡ true) × (b ≡ true)
both_true true b e = (refl, e)
both_true false b e = absurd (cc e)

-- a consequent's guard and value are constants, and so is the set of its net
record IsFixed (r : Rails) (c : Cut) : Type 0 where
  zero : r.can0.0 < 2
  one : r.can1.0 < 2
  guard : c.guard.0 < 2
  value : c.value.0 < 2

fixed_one : (r : Rails) (c : Cut) → is_fixed r c ≡ true → IsFixed r c
fixed_one r c e =
    let both = both_true (nat_lt r.can0.0 2 && nat_lt r.can1.0 2) (nat_lt c.guard.0 2 && nat_lt c.value.0 2) e in
    let set = both_true (nat_lt r.can0.0 2) (nat_lt r.can1.0 2) both.0 in
    let asked = both_true (nat_lt c.guard.0 2) (nat_lt c.value.0 2) both.1 in
    record { zero = ltb-true r.can0.0 2 set.0; one = ltb-true r.can1.0 2 set.1; guard = ltb-true c.guard.0 2 asked.0; value = ltb-true c.value.0 2 asked.1 }

-- ---- the consequents of the time

module _ (failure : Failure) (s : Store) (d : IsGood s) (sets : ℕ → SymbolicSet) (nets : List Rails) (bits : List Bool) (long : length bits ≡ s.vars) (t : ℕ) where
  abbrev plain : ℕ → BitSet
  plain id = set_at bits (sets id)

  -- a quintuple that has the time
  fixed_is : (q : Quint) (c : Cut) → has_time t q ≡ true → AreRails s (sets q.node.0) (rails_at nets q.node.0) → IsCutBy s (symbolic_cut q) c → IsFixed (rails_at nets c.node.0) c
      → IsTrue (fails failure (rails_at nets c.node.0) c) ↔ FailsBy failure plain (quint_at bits t q)
  fixed_is q c has have is fixed =
      let g : Bool = value_of q.guard bits in
      let x : Bool = value_of q.value bits in
      let w : BitSet = plain q.node.0 in
      let r : Rails = rails_at nets c.node.0 in
      let given : AreRails s (sets q.node.0) r = subst (λ id. AreRails s (sets q.node.0) (rails_at nets id)) is.node have in
      let rails : AreRails s (constant_set w) r = record { zero = fixed_means s (sets q.node.0).zero r.can0 bits d fixed.zero long given.zero; one = fixed_means s (sets q.node.0).one r.can1 bits d fixed.one long given.one } in
      let e = by_bits failure s w g x (λ _. g) (λ _. x) r c (λ _. refl) (λ _. refl) d rails (fixed_means s (value_of q.guard) c.guard bits d fixed.guard long is.guard) (fixed_means s (value_of q.value) c.value bits d fixed.value long is.value) in
      let on = ap (λ k. k && misses failure w.zero w.one x) (and_true g (has_time t q) has) in
      let test = test_is failure plain (quint_at bits t q) in
      (λ h. test.0 (on ∙ (sym e ∙ h)), λ h. e ∙ (sym on ∙ test.1 h))

  first_told : (quints : List Quint) (cuts : List Cut) → All (λ quint. AreRails s (sets quint.node.0) (rails_at nets quint.node.0)) quints → AllZip (IsCutBy s) (symbolic_cuts_at quints t) cuts → IsTrue (are_fixed nets cuts)
      → IsTold failure plain (cuts_at quints bits t) (first_failing failure nets cuts)
  first_told [] [] have zip fixed = λ any. let lt = any.2 in absurd (omega (arith, lt))
  first_told [] (c ∷ cs) have zip fixed = absurd zip
  first_told (q ∷ qs) cuts have zip fixed = by (has_time t q) refl cuts (λ cs z f. first_told qs cs (All-tail (λ (quint : Quint). AreRails s (sets quint.node.0) (rails_at nets quint.node.0)) q qs have) z f) zip fixed
    where
      by : (b : Bool) → has_time t q ≡ b → (cs : List Cut)
          → ((ds : List Cut) → AllZip (IsCutBy s) (symbolic_cuts_at qs t) ds → IsTrue (are_fixed nets ds) → IsTold failure plain (cuts_at qs bits t) (first_failing failure nets ds))
          → AllZip (IsCutBy s) (map symbolic_cut (if b then q ∷ filter (has_time t) qs else filter (has_time t) qs)) cs → IsTrue (are_fixed nets cs) → IsTold failure plain (cuts_at (q ∷ qs) bits t) (first_failing failure nets cs)
      by true e [] rest z f = absurd z
      by true e (c ∷ cs) rest z f =
          told_here failure plain (quint_at bits t q) (cuts_at qs bits t) c.node (first_failing failure nets cs) (fails failure (rails_at nets c.node.0) c)
          (fixed_is q c e (All-head (λ (quint : Quint). AreRails s (sets quint.node.0) (rails_at nets quint.node.0)) q qs have) z.0 (fixed_one (rails_at nets c.node.0) c (both_true (is_fixed (rails_at nets c.node.0) c) (are_fixed nets cs) f).0)) (sym z.0.node)
          (rest cs z.1 (both_true (is_fixed (rails_at nets c.node.0) c) (are_fixed nets cs) f).1)
      by false e cs rest z f = told_behind failure plain (quint_at bits t q) (cuts_at qs bits t) (first_failing failure nets cs) (not_here failure plain bits t q e) (rest cs z f)

-- ---- the times before

-- where a consequent is found so
abbrev pub finding : Failure → SymbolicSet → Function → Function → Function
finding Strong = found_strong
finding Weak = found_weak

abbrev pub findings : Failure → (ℕ → SymbolicSet) → List SymbolicCut → List Function
findings failure sets cuts = map (λ (d : SymbolicCut). finding failure (sets d.node) d.guard d.value) cuts

-- the sum of what is found at the first n times
abbrev pub found_sum : Failure → Assertion → (ℕ → ℕ → SymbolicSet) → ℕ → Function
found_sum failure task table n = sum (over_times (λ t. findings failure (table t) (symbolic_cuts_at task.con t)) n)

neither_is : (a b : Bool) → (a || b) ≡ false → (a ≡ false) × (b ≡ false)
neither_is true b e = absurd (cc e)
neither_is false b e = (refl, e)

-- where a sum is 0 all its functions are
all_zero : (f : Function) (fs : List Function) (bits : List Bool) → whole disjunction f fs bits ≡ false → (f bits ≡ false) × ((g : Function) → Contains fs g → g bits ≡ false)
all_zero f [] bits e = (e, λ g has. let lt = has.1 in absurd (omega (arith, lt)))
all_zero f (h ∷ fs) bits e = go (all_zero (disjunction f h) fs bits e)
  where
    each : h bits ≡ false → ((g : Function) → Contains fs g → g bits ≡ false) → (g : Function) → Contains (h ∷ fs) g → g bits ≡ false
    each first rest g (zero, lt, is) = subst (λ (x : Function). x bits ≡ false) is first
    each first rest g (suc k, lt, is) = rest g (k, omega (arith, lt), is)

    go : ((f bits || h bits) ≡ false) × ((g : Function) → Contains fs g → g bits ≡ false) → (f bits ≡ false) × ((g : Function) → Contains (h ∷ fs) g → g bits ≡ false)
    go (both, rest) = let parts = neither_is (f bits) (h bits) both in (parts.0, each parts.1 rest)

strong_bit : (z o x : Bool) → (if x then z && not o else o && not z) ≡ ((x && (z && not o)) || (not x && (o && not z)))
strong_bit z o true = by (z && not o)
  where
    by : (b : Bool) → b ≡ (b || false)
    by true = refl
    by false = refl
strong_bit z o false = refl

finding_bit : (failure : Failure) (w : SymbolicSet) (g x : Function) (bits : List Bool) → (g bits && misses failure (w.zero bits) (w.one bits) (x bits)) ≡ finding failure w g x bits
finding_bit Strong w g x bits = ap (λ b. g bits && b) (strong_bit (w.zero bits) (w.one bits) (x bits))
finding_bit Weak w g x bits = refl

none_first : {A : Type 0} (P : A → Type 0) (x : A) (xs : List A) → ¬ P x → ¬ Any P xs → ¬ Any P (x ∷ xs)
none_first P x xs kept rest (zero, y, lt, at, fail) = kept (subst P (sym at) fail)
none_first P x xs kept rest (suc k, y, lt, at, fail) = rest (k, y, omega (arith, lt), at, fail)

none_found : (failure : Failure) (sets : ℕ → SymbolicSet) (quints : List Quint) (bits : List Bool) (t : ℕ) → ((g : Function) → Contains (findings failure sets (symbolic_cuts_at quints t)) g → g bits ≡ false)
    → ¬ Any (FailsBy failure (λ id. set_at bits (sets id))) (cuts_at quints bits t)
none_found failure sets [] bits t none = λ any. let lt = any.2 in absurd (omega (arith, lt))
none_found failure sets (q ∷ qs) bits t none = by (has_time t q) refl none (none_found failure sets qs bits t)
  where
    by : (b : Bool) → has_time t q ≡ b → ((g : Function) → Contains (map (λ (d : SymbolicCut). finding failure (sets d.node) d.guard d.value) (map symbolic_cut (if b then q ∷ filter (has_time t) qs else filter (has_time t) qs))) g → g bits ≡ false)
        → (((g : Function) → Contains (findings failure sets (symbolic_cuts_at qs t)) g → g bits ≡ false) → ¬ Any (FailsBy failure (λ id. set_at bits (sets id))) (cuts_at qs bits t)) → ¬ Any (FailsBy failure (λ id. set_at bits (sets id))) (cuts_at (q ∷ qs) bits t)
    by true e none rest =
        let g : Function = value_of q.guard in
        let x : Function = value_of q.value in
        let w : SymbolicSet = sets q.node.0 in
        let others : List Function = findings failure sets (symbolic_cuts_at qs t) in
        let zero_here : finding failure w g x bits ≡ false = none (finding failure w g x) (here (finding failure w g x) others) in
        let on = ap (λ k. k && misses failure (w.zero bits) (w.one bits) (x bits)) (and_true (g bits) (has_time t q) e) in
        none_first (FailsBy failure (λ id. set_at bits (sets id))) (quint_at bits t q) (cuts_at qs bits t)
        (λ fail. let f : false ≡ true = sym zero_here ∙ sym (finding_bit failure w g x bits) ∙ sym on ∙ (test_is failure (λ id. set_at bits (sets id)) (quint_at bits t q)).1 fail in absurd (cc f))
        (rest (λ h has. none h (behind (finding failure w g x) others h has)))
    by false e none rest = none_first (FailsBy failure (λ id. set_at bits (sets id))) (quint_at bits t q) (cuts_at qs bits t) (not_here failure (λ id. set_at bits (sets id)) bits t q e) (rest none)

none_before : (failure : Failure) (task : Assertion) (table : ℕ → ℕ → SymbolicSet) (bits : List Bool) (n : ℕ) → found_sum failure task table n bits ≡ false → (t : ℕ) → t < n → ¬ Any (FailsBy failure (λ id. set_at bits (table t id))) (cuts_at task.con bits t)
none_before failure task table bits n e t lt =
    none_found failure (table t) task.con bits t
    (λ g has. (all_zero never (over_times (λ k. findings failure (table k) (symbolic_cuts_at task.con k)) n) bits e).1 g (through_has (λ k. findings failure (table k) (symbolic_cuts_at task.con k)) t n lt g has))

-- ---- the place

pub first_place : (failure : Failure) (net : RawNet) (task : Assertion) (vars : ℕ) (table : ℕ → ℕ → SymbolicSet) → IsWholeTable net vars task table → (t u : Store) → IsGood t → IsGood u → t.vars ≡ vars → u.vars ≡ vars → (k : ℕ) → k < depth task
    → (nets : List Rails) (cuts : List Cut) (before : Ref) (node : NodeId) → Means t (found_sum failure task table k) before → ((id : ℕ) → id < net.nets → AreRails u (table k id) (rails_at nets id)) → All (λ quint. quint.node.0 < net.nets) task.con
    → AllZip (IsCutBy u) (symbolic_cuts_at task.con k) cuts → IsFirstAt failure nets cuts before node → IsFirstPlace vars net task failure (node, k)
first_place failure net task vars table whole t u gt gu tv uv k lt nets cuts before node m have inside zip at = λ bits long.
    let told : IsTold failure (λ id. set_at bits (table k id)) (cuts_at task.con bits k) (Some node) =
    subst (λ (o : Option NodeId). IsTold failure (λ id. set_at bits (table k id)) (cuts_at task.con bits k) o) at.first
    (first_told failure u gu (table k) nets bits (long ∙ sym uv) k task.con cuts (λ i d l. have (get_or task.con i d).node.0 (inside i d l)) zip at.fixed) in
    record {
      table = λ j id. set_at bits (table j id);
      possible = whole bits long;
      within = lt;
      number = told.number;
      cut = told.cut;
      here = told.here;
      fails = told.fails;
      node = told.node_is;
      first = told.first;
      earliest = none_before failure task table bits k (sym (m.value bits (long ∙ sym tv)) ∙ zero_bit t before bits gt at.nothing);
    }

-- a net that is found at a time is that of the first consequent that fails so, where nothing was found before
pub clear_at : (failure : Failure) (nets : List Rails) (cuts : List Cut) (before after : Ref) → IfSome (first_at failure nets cuts before after) (IsFirstAt failure nets cuts before)
clear_at failure nets cuts before after = by (is_first before after && are_fixed nets cuts) refl (first_failing failure nets cuts) refl
  where
    by : (b : Bool) → (is_first before after && are_fixed nets cuts) ≡ b → (o : Option NodeId) → first_failing failure nets cuts ≡ o → IfSome (if b then o else None) (IsFirstAt failure nets cuts before)
    by false e o is = tt
    by true e None is = tt
    by true e (Some node) is =
        let parts = both_true (is_first before after) (are_fixed nets cuts) e in
        record { nothing = eqb-true before.0 0 (both_true (before.0 == 0) (not (after.0 == 0)) parts.0).0; fixed = parts.1; first = is }

-- a place is that of before, or one of a net that is found at the time
pub old_or_clear : (node : Option NodeId) (time : ℕ) (old new : Option (NodeId × ℕ)) (P : NodeId → Type 0) → new ≡ place_or node time old → IfSome node P → IfSome new (λ place. (old ≡ Some place) ⊎ (P place.0 × (place.1 ≡ time)))
old_or_clear node time old new P is h = subst (λ (x : Option (NodeId × ℕ)). IfSome x (λ place. (old ≡ Some place) ⊎ (P place.0 × (place.1 ≡ time)))) (sym is) (by node old h)
  where
    by : (node : Option NodeId) (old : Option (NodeId × ℕ)) → IfSome node P → IfSome (place_or node time old) (λ place. (old ≡ Some place) ⊎ (P place.0 × (place.1 ≡ time)))
    by (Some node) old h = inr (h, refl)
    by None None h = tt
    by None (Some place) h = inl refl

-- a place that was told before, or one of this time
pub told_or_new : (old new : Option (NodeId × ℕ)) (P Q : NodeId × ℕ → Type 0) → IfSome new (λ place. (old ≡ Some place) ⊎ Q place) → IfSome old P → ((place : NodeId × ℕ) → Q place → P place) → IfSome new P
told_or_new old None P Q h o f = tt
told_or_new old (Some place) P Q (inl e) o f = subst (λ (x : Option (NodeId × ℕ)). IfSome x P) e o
told_or_new old (Some place) P Q (inr q) o f = f place q
