-- Quintuples are added, one after another.
use Rattle.std.proofs.Common.{◌≡◌, ℕ, zero, suc, ◌+◌, ◌<◌, ◌≤◌, Bool, true, false, List, [], ◌∷◌, ◌++◌, length, drop, get_or, map, filter, refl, sym, ◌∙◌, ap, subst, arith, Contains, Result, Ok, All}
use Rattle.std.specs.Prelude.{◌&&◌, nat_le, nat_lt, if◌then◌else◌}
use Rattle.std.proofs.Math.Seq.{drop-cons}
use Rattle.std.proofs.lemmas.List.{drop_all, get_or_default}
use Rattle.std.proofs.lemmas.List.Elements.{Contains-append_left, Contains-append_right}
use Rattle.bool_expr.specs.Value.{flips, value_of}
use Rattle.dd_nodes.specs.declared.node.Ref.{Ref}
use Rattle.ste_base.specs.Functions.{Function}
use Rattle.dd_nodes.specs.Stores.{Store, Keeps, Means, function}
use Rattle.dd_nodes.proofs.Stores.{IsGood, Means-keeps}
use Rattle.dd_nodes.proofs.Walks.{IsFrom-grows}
use Rattle.dd_ops.specs.declared.fault.OpFault.{OpFault}
use Rattle.dd_ops.specs.Answer.{Answer, xor_bit}
use Rattle.net_core.specs.Work.{SymbolicCut, chain, disjunction, whole}
use Rattle.ste_model.specs.declared.task.Quint.{Quint}
use Rattle.ste_model.specs.Expressions.{exclusive_disjunction}
use Rattle.ste_model.specs.Work.{has_time, symbolic_cut, symbolic_cuts_at}
use Rattle.dual_rail.specs.Rail.{Built, HasFunction}
use Rattle.dual_rail.proofs.Turns.{zip_at, zip_long}
use Rattle.dual_rail.proofs.Works.{SoFar, Within, Built-answer, Built-made, Built-wider, So-start, here}
use Rattle.exact_model.specs.ExactWork.{differs, is_broken}
use Rattle.exact_engine.specs.declared.timed_cut.TimedCut.{TimedCut}
use Rattle.exact_engine.specs.private.TimedCuts.{AreTimedCuts, IsTimedCut, IsTimedCutRef, timed_cut_work, broken, broken_at, broken_work, cuts_added, only_if, runs_at}
use Rattle.exact_engine.specs.private.Bits.{AreBits, net_ref}
use Rattle.exact_engine.specs.private.Joined.{Leads}
use Rattle.exact_engine.proofs.Leading.{leads_on}

xor_flips : (a b : Bool) → xor_bit a b ≡ flips a b
xor_flips true true = refl
xor_flips true false = refl
xor_flips false true = refl
xor_flips false false = refl

pub xor_built : (work : List Function) (f g : Function) (s t : Store) (a b : Ref) (result : Result Ref OpFault) → Contains work (exclusive_disjunction f g) → Means s f a → Means s g b
    → Answer (λ bits. xor_bit (function s a bits) (function s b bits)) s t result → Built work (HasFunction (exclusive_disjunction f g)) s t result
xor_built work f g s t a b result has ma mb x =
    Built-answer work (λ bits. xor_bit (function s a bits) (function s b bits)) (exclusive_disjunction f g) s t result has
    (λ bits l. ap (λ x. xor_bit x (function s b bits)) (ma.value bits l) ∙ ap (λ x. xor_bit (f bits) x) (mb.value bits l) ∙ xor_flips (f bits) (g bits)) x

-- ---- one quintuple

-- one that lacks the time adds nothing
pub not_added : (s : Store) (test : Bool) (f b g x : Function) (sum : Ref) → test ≡ false → Means s f sum → Built (timed_cut_work test f b g x) (HasFunction (whole disjunction f (only_if test (broken b g x)))) s s (Ok sum)
not_added s test f b g x sum e m =
    subst (λ (o : Bool). Built (timed_cut_work o f b g x) (HasFunction (whole disjunction f (only_if o (broken b g x)))) s s (Ok sum)) (sym e)
    (Built-made [] (HasFunction f) s s sum (So-start [] s) m)

pub is_added : (s t : Store) (test : Bool) (f b g x : Function) (result : Result Ref OpFault) → test ≡ true → Built (broken_work f b g x) (HasFunction (disjunction f (broken b g x))) s t result
    → Built (timed_cut_work test f b g x) (HasFunction (whole disjunction f (only_if test (broken b g x)))) s t result
is_added s t test f b g x result e made =
    subst (λ (o : Bool). Built (timed_cut_work o f b g x) (HasFunction (whole disjunction f (only_if o (broken b g x)))) s t result) (sym e) made

pub too_early : (t : ℕ) (timed_cut : TimedCut) → t < timed_cut.from → runs_at t timed_cut ≡ false
too_early t timed_cut l = let e : nat_le timed_cut.from t ≡ false = grind (arith, l) in ap (λ (b : Bool). b && nat_lt t timed_cut.to) e

pub too_late : (t : ℕ) (timed_cut : TimedCut) → timed_cut.from ≤ t → timed_cut.to ≤ t → runs_at t timed_cut ≡ false
too_late t timed_cut m l =
    let e : nat_lt t timed_cut.to ≡ false = grind (arith, l) in
    let f : nat_le timed_cut.from t ≡ true = grind (arith, m) in
    ap (λ (b : Bool). b && nat_lt t timed_cut.to) f ∙ e

pub in_time : (t : ℕ) (timed_cut : TimedCut) → timed_cut.from ≤ t → t < timed_cut.to → runs_at t timed_cut ≡ true
in_time t timed_cut m l =
    let e : nat_lt t timed_cut.to ≡ true = grind (arith, l) in
    let f : nat_le timed_cut.from t ≡ true = grind (arith, m) in
    ap (λ (b : Bool). b && nat_lt t timed_cut.to) f ∙ e

-- ---- lists of them

pub ask_keeps : (s t : Store) (q : Quint) (a : TimedCut) → IsGood s → IsGood t → Keeps s t → IsTimedCut s q a → IsTimedCut t q a
ask_keeps s t q a ds dt k h = record { node = h.node; from = h.from; to = h.to; guard = Means-keeps s t (value_of q.guard) a.guard ds dt k h.guard; value = Means-keeps s t (value_of q.value) a.value ds dt k h.value }

pub timed_cuts_keep : (s t : Store) (quints : List Quint) (timed_cuts : List TimedCut) → IsGood s → IsGood t → Keeps s t → AreTimedCuts s quints timed_cuts → AreTimedCuts t quints timed_cuts
timed_cuts_keep s t [] [] ds dt k h = tt
timed_cuts_keep s t [] (y ∷ ys) ds dt k h = absurd h
timed_cuts_keep s t (x ∷ xs) [] ds dt k h = absurd h
timed_cuts_keep s t (x ∷ xs) (y ∷ ys) ds dt k h = (ask_keeps s t x y ds dt k h.0, timed_cuts_keep s t xs ys ds dt k h.1)

pub ask_refs_keep : (s t : Store) (n : ℕ) (timed_cuts : List TimedCut) → Keeps s t → All (IsTimedCutRef s n) timed_cuts → All (IsTimedCutRef t n) timed_cuts
ask_refs_keep s t n timed_cuts k h i d l =
    let a = get_or timed_cuts i d in
    let p = h i d l in
    record { node = p.node; guard = IsFrom-grows s.held t.held 0 a.guard k.grows p.guard; value = IsFrom-grows s.held t.held 0 a.value k.grows p.value }

-- where the quintuples that have the time are broken, of a list with one more in front
cuts_cons : (bit : ℕ → Function) (t : ℕ) (q : Quint) (quints : List Quint) → broken_at bit (symbolic_cuts_at (q ∷ quints) t) ≡ only_if (has_time t q) (is_broken bit (symbolic_cut q)) ++ broken_at bit (symbolic_cuts_at quints t)
cuts_cons bit t q quints = by (has_time t q)
  where
    by : (b : Bool) → broken_at bit (map symbolic_cut (if b then q ∷ filter (has_time t) quints else filter (has_time t) quints)) ≡ only_if b (is_broken bit (symbolic_cut q)) ++ broken_at bit (symbolic_cuts_at quints t)
    by true = refl
    by false = refl

-- a quintuple that has the time is among them
cuts_have : (h : SymbolicCut → Function) (t : ℕ) (quints : List Quint) (k : ℕ) (q : Quint) → k < length quints → q ≡ get_or quints k q → has_time t q ≡ true → Contains (map h (symbolic_cuts_at quints t)) (h (symbolic_cut q))
cuts_have h t [] k q l is e = absurd (omega arith)
cuts_have h t (x ∷ xs) zero q l is e =
    let runs : has_time t x ≡ true = subst (λ (y : Quint). has_time t y ≡ true) is e in
    subst (λ (y : Quint). Contains (map h (symbolic_cuts_at (x ∷ xs) t)) (h (symbolic_cut y))) (sym is)
    (subst (λ (b : Bool). Contains (map h (map symbolic_cut (if b then x ∷ filter (has_time t) xs else filter (has_time t) xs))) (h (symbolic_cut x))) (sym runs) (here (h (symbolic_cut x)) (map h (symbolic_cuts_at xs t))))
cuts_have h t (x ∷ xs) (suc k) q l is e = by (has_time t x) (cuts_have h t xs k q (omega arith) is e)
  where
    by : (b : Bool) → Contains (map h (symbolic_cuts_at xs t)) (h (symbolic_cut q)) → Contains (map h (map symbolic_cut (if b then x ∷ filter (has_time t) xs else filter (has_time t) xs))) (h (symbolic_cut q))
    by true later = Contains-append_right (h (symbolic_cut x) ∷ []) (map h (symbolic_cuts_at xs t)) (h (symbolic_cut q)) later
    by false later = later

module _ (f : Function) (bit : ℕ → Function) (time : ℕ) (quints : List Quint) where
  abbrev work : List Function
  work = cuts_added f bit (symbolic_cuts_at quints time)

  abbrev target : Function
  target = whole disjunction f (broken_at bit (symbolic_cuts_at quints time))

  -- what is built for one of them is among all
  ask_within : (k : ℕ) (q : Quint) (h : Function) (test : Bool) → k < length quints → q ≡ get_or quints k q → has_time time q ≡ test
      → ((g : Function) → Contains (chain disjunction h (only_if test (is_broken bit (symbolic_cut q)))) g → Contains work g)
      → Within (timed_cut_work test h (bit q.node.0) (value_of q.guard) (value_of q.value)) work
  ask_within k q h false l is e within g (j, lt, same) = absurd (omega arith)
  ask_within k q h true l is e within g (zero, lt, same) =
      subst (λ (x : Function). Contains work x) same
      (Contains-append_right (chain disjunction f (broken_at bit (symbolic_cuts_at quints time))) (broken_at bit (symbolic_cuts_at quints time) ++ map (differs bit) (symbolic_cuts_at quints time)) (differs bit (symbolic_cut q))
      (Contains-append_right (broken_at bit (symbolic_cuts_at quints time)) (map (differs bit) (symbolic_cuts_at quints time)) (differs bit (symbolic_cut q)) (cuts_have (differs bit) time quints k q l is e)))
  ask_within k q h true l is e within g (suc zero, lt, same) =
      subst (λ (x : Function). Contains work x) same
      (Contains-append_right (chain disjunction f (broken_at bit (symbolic_cuts_at quints time))) (broken_at bit (symbolic_cuts_at quints time) ++ map (differs bit) (symbolic_cuts_at quints time)) (is_broken bit (symbolic_cut q))
      (Contains-append_left (broken_at bit (symbolic_cuts_at quints time)) (map (differs bit) (symbolic_cuts_at quints time)) (is_broken bit (symbolic_cut q)) (cuts_have (is_broken bit) time quints k q l is e)))
  ask_within k q h true l is e within g (suc (suc zero), lt, same) = within g (0, omega arith, same)
  ask_within k q h true l is e within g (suc (suc (suc j)), lt, same) = absurd (omega arith)

  -- one more
  pub ask_turn : (nets : ℕ) (refs : List Ref) (timed_cuts : List TimedCut) (s t u : Store) (k : ℕ) (timed_cut : TimedCut) (r sum : Ref) (result : Result Ref OpFault) → IsGood s → IsGood t → IsGood u → k < length timed_cuts → timed_cut ≡ get_or timed_cuts k timed_cut → timed_cut.node.0 < nets → r ≡ net_ref refs timed_cut.node.0
      → AreBits s nets bit refs → AreTimedCuts s quints timed_cuts → SoFar work s t
      → Leads disjunction target work (broken_at bit (symbolic_cuts_at (drop k quints) time)) t sum
      → ((h b g x : Function) → Means t h sum → Means t b r → Means t g timed_cut.guard → Means t x timed_cut.value → Built (timed_cut_work (runs_at time timed_cut) h b g x) (HasFunction (whole disjunction h (only_if (runs_at time timed_cut) (broken b g x)))) t u result)
      → Built work (Leads disjunction target work (broken_at bit (symbolic_cuts_at (drop (k + 1) quints) time))) s u result
  ask_turn nets refs timed_cuts s t u k timed_cut r sum result ds dt du l is inside is_r bits zip so leads call =
      let some : Quint = first_of quints k (let long = zip_long (IsTimedCut s) quints timed_cuts zip in omega (arith, l, long)) in
      let q : Quint = get_or quints k some in
      let lq : k < length quints = let long = zip_long (IsTimedCut s) quints timed_cuts zip in omega (arith, l, long) in
      let is_q : q ≡ get_or quints k q = sym (get_or_default quints k q some lq) in
      let fits : IsTimedCut s q timed_cut = subst (λ (a : TimedCut). IsTimedCut s q a) (sym is) (zip_at (IsTimedCut s) quints timed_cuts k some timed_cut zip l) in
      let now : IsTimedCut t q timed_cut = ask_keeps s t q timed_cut ds dt so.keeps fits in
      let node : timed_cut.node.0 ≡ q.node.0 = ap (λ n. n.0) fits.node in
      let runs : runs_at time timed_cut ≡ has_time time q = ap (λ (n : ℕ). nat_le n time && nat_lt time timed_cut.to) fits.from ∙ ap (λ (n : ℕ). nat_le q.from time && nat_lt time n) fits.to in
      let rest : List Function = broken_at bit (symbolic_cuts_at (drop (k + 1) quints) time) in
      let next : k + 1 ≡ suc k = omega arith in
      let quints_are : drop k quints ≡ q ∷ drop (k + 1) quints = drop-cons quints k some lq ∙ ap (λ (j : ℕ). q ∷ drop j quints) (sym next) in
      let split : broken_at bit (symbolic_cuts_at (drop k quints) time) ≡ only_if (has_time time q) (is_broken bit (symbolic_cut q)) ++ rest = ap (λ (xs : List Quint). broken_at bit (symbolic_cuts_at xs time)) quints_are ∙ cuts_cons bit time q (drop (k + 1) quints) in
      let means : Means t (bit q.node.0) r =
      subst (λ (x : Ref). Means t (bit q.node.0) x) (sym is_r) (subst (λ (i : ℕ). Means t (bit i) (net_ref refs timed_cut.node.0)) node (Means-keeps s t (bit timed_cut.node.0) (net_ref refs timed_cut.node.0) ds dt so.keeps (bits timed_cut.node.0 inside))) in
      leads_on disjunction target work (only_if (has_time time q) (is_broken bit (symbolic_cut q))) rest s t u sum result dt du so
      (subst (λ (xs : List Function). Leads disjunction target work xs t sum) split leads)
      (λ h m within.
      Built-wider work (timed_cut_work (has_time time q) h (bit q.node.0) (value_of q.guard) (value_of q.value)) (HasFunction (whole disjunction h (only_if (has_time time q) (is_broken bit (symbolic_cut q))))) t u result
      (ask_within k q h (has_time time q) lq is_q refl within)
      (subst (λ (o : Bool). Built (timed_cut_work o h (bit q.node.0) (value_of q.guard) (value_of q.value)) (HasFunction (whole disjunction h (only_if o (is_broken bit (symbolic_cut q))))) t u result) runs
      (call h (bit q.node.0) (value_of q.guard) (value_of q.value) m means now.guard now.value)))
    where
      first_of : (xs : List Quint) (j : ℕ) → j < length xs → Quint
      first_of [] j lt = absurd (omega arith)
      first_of (x ∷ xs) j lt = x

  pub cuts_behind : (k : ℕ) → length quints ≤ k → broken_at bit (symbolic_cuts_at (drop k quints) time) ≡ []
  cuts_behind k le = ap (λ (xs : List Quint). broken_at bit (symbolic_cuts_at xs time)) (drop_all k quints le)
