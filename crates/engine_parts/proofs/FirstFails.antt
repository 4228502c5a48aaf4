-- The first consequent that fails: by constants, and in the possible table.
use Rattle.std.proofs.Common.{◌≡◌, ℕ, zero, suc, ◌<◌, Bool, true, false, not, List, [], ◌∷◌, length, map, filter, Option, None, Some, refl, sym, ◌∙◌, ap, subst, arith, All}
use Rattle.std.specs.Prelude.{Any, IsTrue, ◌↔◌, ◌&&◌, if◌then◌else◌, slice_get}
use Rattle.std.specs.List.{AllZip}
use Rattle.std.proofs.lemmas.List.Elements.{All-head, All-tail}
use Rattle.bool_expr.specs.Value.{value_of}
use Rattle.dd_nodes.specs.declared.node.Ref.{Ref}
use Rattle.ste_base.specs.Functions.{Function}
use Rattle.dd_nodes.specs.Stores.{Means, Store}
use Rattle.dd_nodes.proofs.Stores.{IsGood}
use Rattle.dual_rail.specs.declared.rails.Rails.{Rails}
use Rattle.dual_rail.specs.Rail.{AreRails}
use Rattle.net_core.specs.declared.bit_set.BitSet.{BitSet}
use Rattle.net_core.specs.Run.{Cut as AskedCut}
use Rattle.net_core.specs.Sets.{both, only}
use Rattle.ste_base.specs.declared.id.NodeId.{NodeId}
use Rattle.ste_model.specs.declared.task.Quint.{Quint}
use Rattle.ste_model.specs.Asked.{cuts_at, quint_at}
use Rattle.ste_model.specs.Work.{constant_set, has_time, symbolic_cut, symbolic_cuts_at}
use Rattle.sym_step.specs.declared.cut.Cut.{Cut}
use Rattle.sym_step.specs.Step.{IsCutBy, rails_at}
use Rattle.engine_parts.specs.declared.failing.Failure.{Failure}
use Rattle.engine_parts.specs.declared.failing.Failure.TheVariants.{Strong, Weak}
use Rattle.engine_parts.specs.Failing.{FailsBy, constant_ref, fails, first_failing, fixed_quint, is_true, misses}
use Rattle.engine_parts.proofs.Constants.{constant_is}
use Rattle.engine_parts.proofs.Constants.{const_value}

-- ---- one consequent

strong_bits : (z o x : Bool) → IsTrue (if x then z && not o else o && not z) ↔ (record { zero = z; one = o } ≡ only (not x))
strong_bits true false true = (λ h. refl, λ e. refl)
strong_bits true true true = (λ h. absurd (cc h), λ e. absurd (let f : true ≡ false = ap (λ (s : BitSet). s.one) e in cc f))
strong_bits false o true = (λ h. absurd (cc h), λ e. absurd (let f : false ≡ true = ap (λ (s : BitSet). s.zero) e in cc f))
strong_bits false true false = (λ h. refl, λ e. refl)
strong_bits true true false = (λ h. absurd (cc h), λ e. absurd (let f : true ≡ false = ap (λ (s : BitSet). s.zero) e in cc f))
strong_bits z false false = (λ h. absurd (cc h), λ e. absurd (let f : false ≡ true = ap (λ (s : BitSet). s.one) e in cc f))

weak_bits : (z o : Bool) → IsTrue (z && o) ↔ (record { zero = z; one = o } ≡ both)
weak_bits true true = (λ h. refl, λ e. refl)
weak_bits false o = (λ h. absurd (cc h), λ e. absurd (let f : false ≡ true = ap (λ (s : BitSet). s.zero) e in cc f))
weak_bits true false = (λ h. absurd (cc h), λ e. absurd (let f : false ≡ true = ap (λ (s : BitSet). s.one) e in cc f))

with_guard : (g m : Bool) {A : Type 0} → IsTrue m ↔ A → IsTrue (g && m) ↔ (IsTrue g × A)
with_guard true m h = (λ t. (refl, h.0 t), λ p. h.1 p.1)
with_guard false m h = (λ t. absurd (cc t), λ p. absurd (cc p.0))

-- the test by bits is the definition
pub test_is : (failure : Failure) (sets : ℕ → BitSet) (c : AskedCut) → IsTrue (c.on && misses failure (sets c.node).zero (sets c.node).one c.value) ↔ FailsBy failure sets c
test_is Strong sets c = with_guard c.on _ (strong_bits (sets c.node).zero (sets c.node).one c.value)
test_is Weak sets c = with_guard c.on _ (weak_bits (sets c.node).zero (sets c.node).one)

bit_back : (b : Bool) → is_true (constant_ref b) ≡ b
bit_back true = refl
bit_back false = refl

bit_is : (s : Store) (f : Function) (r : Ref) (b : Bool) → ((bits : List Bool) → f bits ≡ b) → IsGood s → Means s f r → is_true r ≡ b
bit_is s f r b is d m = ap is_true (constant_is s f r b is d m) ∙ bit_back b

-- by constants it is the test by bits
pub by_bits : (failure : Failure) (s : Store) (w : BitSet) (g x : Bool) (G X : Function) (r : Rails) (c : Cut) → ((bits : List Bool) → G bits ≡ g) → ((bits : List Bool) → X bits ≡ x) → IsGood s → AreRails s (constant_set w) r → Means s G c.guard → Means s X c.value
    → fails failure r c ≡ (g && misses failure w.zero w.one x)
by_bits failure s w g x G X r c ig ix d rails guard value =
    let a = bit_is s G c.guard g ig d guard in
    let b = bit_is s (λ bits. w.zero) r.can0 w.zero (λ bits. refl) d rails.zero in
    let e = bit_is s (λ bits. w.one) r.can1 w.one (λ bits. refl) d rails.one in
    let f = bit_is s X c.value x ix d value in
    ap (λ k. k && misses failure (is_true r.can0) (is_true r.can1) (is_true c.value)) a
    ∙ ap (λ k. g && misses failure k (is_true r.can1) (is_true c.value)) b
    ∙ ap (λ k. g && misses failure w.zero k (is_true c.value)) e
    ∙ ap (λ k. g && misses failure w.zero w.one k) f

-- ---- the first of them

pub record IsFirstFail (failure : Failure) (sets : ℕ → BitSet) (cuts : List AskedCut) (node : NodeId) : Type 0 where
  pub number : ℕ
  pub cut : AskedCut
  pub here : slice_get cuts number ≡ Some cut
  pub fails : FailsBy failure sets cut
  pub node_is : node.0 ≡ cut.node
  pub first : (j : ℕ) (other : AskedCut) → j < number → slice_get cuts j ≡ Some other → ¬ FailsBy failure sets other

-- what is said of consequents: the net of the first that fails, or that none does
abbrev pub IsTold : Failure → (ℕ → BitSet) → List AskedCut → Option NodeId → Type 0
IsTold failure sets cuts None = ¬ Any (FailsBy failure sets) cuts
IsTold failure sets cuts (Some node) = IsFirstFail failure sets cuts node

pub told_behind : (failure : Failure) (sets : ℕ → BitSet) (c : AskedCut) (cuts : List AskedCut) (told : Option NodeId) → ¬ FailsBy failure sets c → IsTold failure sets cuts told → IsTold failure sets (c ∷ cuts) told
told_behind failure sets c cuts None kept h = go
  where
    go : ¬ Any (FailsBy failure sets) (c ∷ cuts)
    go (zero, x, lt, at, fail) = kept (subst (FailsBy failure sets) (sym at) fail)
    go (suc k, x, lt, at, fail) = h (k, x, omega (arith, lt), at, fail)
told_behind failure sets c cuts (Some node) kept h = record { number = suc h.number; cut = h.cut; here = h.here; fails = h.fails; node_is = h.node_is; first = before }
  where
    before : (j : ℕ) (other : AskedCut) → j < suc h.number → slice_get (c ∷ cuts) j ≡ Some other → ¬ FailsBy failure sets other
    before zero other l e fail = let same : c ≡ other = cc e in kept (subst (FailsBy failure sets) (sym same) fail)
    before (suc j) other l e fail = h.first j other (omega (arith, l)) e fail

pub and_true : (g h : Bool) → h ≡ true → (g && h) ≡ g
and_true g h e = ap (λ k. g && k) e ∙ by g
  where
    by : (b : Bool) → (b && true) ≡ b
    by true = refl
    by false = refl

pub and_false : (g h m : Bool) → h ≡ false → ((g && h) && m) ≡ false
and_false g h m e = ap (λ k. (g && k) && m) e ∙ by g
  where
    by : (b : Bool) → ((b && false) && m) ≡ false
    by true = refl
    by false = refl

-- a quintuple that has not the time does not fail
pub not_here : (failure : Failure) (sets : ℕ → BitSet) (bits : List Bool) (t : ℕ) (q : Quint) → has_time t q ≡ false → ¬ FailsBy failure sets (quint_at bits t q)
not_here failure sets bits t q has fail =
    let e : true ≡ false = sym ((test_is failure sets (quint_at bits t q)).1 fail) ∙ and_false (value_of q.guard bits) (has_time t q) (misses failure (sets q.node.0).zero (sets q.node.0).one (value_of q.value bits)) has in
    absurd (cc e)

-- one more consequent, by whether it fails
pub told_here : (failure : Failure) (sets : ℕ → BitSet) (c : AskedCut) (cuts : List AskedCut) (node : NodeId) (told : Option NodeId) (b : Bool) → IsTrue b ↔ FailsBy failure sets c → node.0 ≡ c.node → IsTold failure sets cuts told
    → IsTold failure sets (c ∷ cuts) (if b then Some node else told)
told_here failure sets c cuts node told true test e rest = record { number = 0; cut = c; here = refl; fails = test.0 refl; node_is = e; first = λ j other lt. absurd (omega (arith, lt)) }
told_here failure sets c cuts node told false test e rest = told_behind failure sets c cuts told (λ fail. let f : false ≡ true = test.1 fail in absurd (cc f)) rest

module _ (failure : Failure) (s : Store) (sets : ℕ → BitSet) (nets : List Rails) (bits : List Bool) (t : ℕ) (d : IsGood s) (have : (id : ℕ) → id < length nets → AreRails s (constant_set (sets id)) (rails_at nets id)) where
  abbrev fixed : List Quint → List Quint
  fixed quints = map (fixed_quint bits) quints

  -- a quintuple that has the time
  here_is : (q : Quint) (c : Cut) → has_time t q ≡ true → q.node.0 < length nets → IsCutBy s (symbolic_cut (fixed_quint bits q)) c
      → IsTrue (fails failure (rails_at nets c.node.0) c) ↔ FailsBy failure sets (quint_at bits t q)
  here_is q c has inside is =
      let g : Bool = value_of q.guard bits in
      let x : Bool = value_of q.value bits in
      let w : BitSet = sets q.node.0 in
      let rails : AreRails s (constant_set w) (rails_at nets c.node.0) = subst (λ id. AreRails s (constant_set w) (rails_at nets id)) is.node (have q.node.0 inside) in
      let e = by_bits failure s w g x _ _ (rails_at nets c.node.0) c (const_value g) (const_value x) d rails is.guard is.value in
      let on = ap (λ k. k && misses failure w.zero w.one x) (and_true g (has_time t q) has) in
      let test = test_is failure sets (quint_at bits t q) in
      (λ h. test.0 (on ∙ (sym e ∙ h)), λ h. e ∙ (sym on ∙ test.1 h))

  pub first_is : (quints : List Quint) (cuts : List Cut) → All (λ quint. quint.node.0 < length nets) quints → AllZip (IsCutBy s) (symbolic_cuts_at (fixed quints) t) cuts
      → IsTold failure sets (cuts_at quints bits t) (first_failing failure nets cuts)
  first_is [] [] inside zip = λ any. let lt = any.2 in absurd (omega (arith, lt))
  first_is [] (c ∷ cs) inside zip = absurd zip
  first_is (q ∷ qs) cuts inside zip = by (has_time t q) refl cuts (λ cs z. first_is qs cs (All-tail (λ (quint : Quint). quint.node.0 < length nets) q qs inside) z) zip
    where
      by : (b : Bool) → has_time t q ≡ b → (cs : List Cut) → ((ds : List Cut) → AllZip (IsCutBy s) (symbolic_cuts_at (fixed qs) t) ds → IsTold failure sets (cuts_at qs bits t) (first_failing failure nets ds)) → AllZip (IsCutBy s) (map symbolic_cut (if b then fixed_quint bits q ∷ filter (has_time t) (fixed qs) else filter (has_time t) (fixed qs))) cs
          → IsTold failure sets (cuts_at (q ∷ qs) bits t) (first_failing failure nets cs)
      by true e [] rest z = absurd z
      by true e (c ∷ cs) rest z =
          told_here failure sets (quint_at bits t q) (cuts_at qs bits t) c.node (first_failing failure nets cs) (fails failure (rails_at nets c.node.0) c) (here_is q c e (All-head (λ (quint : Quint). quint.node.0 < length nets) q qs inside) z.0) (sym z.0.node) (rest cs z.1)
      by false e cs rest z = told_behind failure sets (quint_at bits t q) (cuts_at qs bits t) (first_failing failure nets cs) (not_here failure sets bits t q e) (rest cs z)
