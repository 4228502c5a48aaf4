-- The times of an assertion, one after another.
use Rattle.std.proofs.Common.{◌≡◌, ℕ, zero, suc, ◌+◌, ◌<◌, List, [], ◌∷◌, ◌++◌, drop, refl, sym, ◌∙◌, ap, subst, arith, Contains, Result, inl, inr, ⊎_elim}
use Rattle.std.specs.List.{AllZip}
use Rattle.std.proofs.lemmas.Bool.{cases_lt}
use Rattle.std.proofs.lemmas.List.Elements.{Contains-append_left, Contains-append_right, Contains-append_cases}
use Rattle.ste_base.specs.Functions.{Function}
use Rattle.dd_nodes.specs.Stores.{Store, Keeps, Means}
use Rattle.dd_nodes.proofs.Stores.{IsGood}
use Rattle.dd_ops.specs.declared.fault.OpFault.{OpFault}
use Rattle.net_core.specs.declared.raw.RawNet.{RawNet}
use Rattle.net_core.specs.Work.{ArePossibleEach, SymbolicCut, SymbolicSet, chain, disjunction, negation, never, some_empty, sum, sums, time_work, whole}
use Rattle.ste_model.specs.declared.task.Assertion.{Assertion}
use Rattle.ste_base.specs.declared.id.NodeId.{NodeId}
use Rattle.ste_model.specs.Asked.{depth, weakened_at}
use Rattle.ste_model.specs.Need.{IsWholeTable}
use Rattle.ste_model.specs.Work.{all_empty, all_strong, all_weak, consequents_work, latches_at, over_times, quints_work, strong_findings, symbolic_asked_at, symbolic_cuts_at, task_work, weak_findings, work_at}
use Rattle.dual_rail.specs.declared.rails.Rails.{Rails}
use Rattle.dual_rail.specs.Rail.{AreRails, Built}
use Rattle.dual_rail.proofs.Turns.{within_more}
use Rattle.dual_rail.proofs.Works.{Built-wider, Rails-keep, SoFar, Within, behind, last}
use Rattle.sym_step.specs.declared.cut.Cut.{Cut}
use Rattle.sym_step.specs.Step.{IsCutBy, ids_of}
use Rattle.ste_engine.specs.declared.turn.Turned.{Turned}
use Rattle.ste_engine.specs.private.Finds.{AreFound, last_work}
use Rattle.ste_engine.specs.private.Turns.{AreTurnedRefs, IsTurned, asked_by, turned_work}
use Rattle.ste_engine.proofs.Family.{family_at}

-- ---- lists for each time
module _ (join : Function → Function → Function) where
  chain_append : (f : Function) (xs ys : List Function) → chain join f (xs ++ ys) ≡ chain join f xs ++ chain join (whole join f xs) ys
  chain_append f [] ys = refl
  chain_append f (x ∷ xs) ys = ap (λ zs. join f x ∷ zs) (chain_append (join f x) xs ys)

  whole_append : (f : Function) (xs ys : List Function) → whole join f (xs ++ ys) ≡ whole join (whole join f xs) ys
  whole_append f [] ys = refl
  whole_append f (x ∷ xs) ys = whole_append (join f x) xs ys

module _ (F : ℕ → List Function) where
  pub through_has : (n m : ℕ) → n < m → Within (F n) (over_times F m)
  through_has n zero lt f h = absurd (omega arith)
  through_has n (suc m) lt f h = elim (cases_lt n m) [
    | inl before ↦ Contains-append_left (over_times F m) (F m) f (through_has n m (omega arith) f h)
    | inr here ↦ Contains-append_right (over_times F m) (F m) f (subst (λ k. Contains (F k) f) (let e : n ≡ m = omega arith in e) h)
  ]

  sums_has : (n m : ℕ) → n < m → Within (chain disjunction (sum (over_times F n)) (F n)) (sums (over_times F m))
  sums_has n zero lt f h = absurd (omega arith)
  sums_has n (suc m) lt f h = subst (λ xs. Contains xs f) (sym (chain_append disjunction never (over_times F m) (F m))) (elim (cases_lt n m) [
    | inl before ↦ Contains-append_left (sums (over_times F m)) (chain disjunction (sum (over_times F m)) (F m)) f (sums_has n m (omega arith) f h)
    | inr here ↦ Contains-append_right (sums (over_times F m)) (chain disjunction (sum (over_times F m)) (F m)) f (subst (λ k. Contains (chain disjunction (sum (over_times F k)) (F k)) f) (let e : n ≡ m = omega arith in e) h)
  ])

  sum_next : (n : ℕ) → sum (over_times F (n + 1)) ≡ whole disjunction (sum (over_times F n)) (F n)
  sum_next n = ap (λ k. sum (over_times F k)) (let e : n + 1 ≡ suc n = omega arith in e) ∙ whole_append disjunction never (over_times F n) (F n)

-- ---- what is reached behind the first n times
abbrev pub empty_sum : RawNet → (ℕ → ℕ → SymbolicSet) → ℕ → Function
empty_sum net table n = sum (over_times (λ t. some_empty net (table t) ∷ []) n)

abbrev pub strong_sum : Assertion → (ℕ → ℕ → SymbolicSet) → ℕ → Function
strong_sum task table n = sum (over_times (λ t. strong_findings (table t) (symbolic_cuts_at task.con t)) n)

abbrev pub weak_sum : Assertion → (ℕ → ℕ → SymbolicSet) → ℕ → Function
weak_sum task table n = sum (over_times (λ t. weak_findings (table t) (symbolic_cuts_at task.con t)) n)

pub record ReachedAt (net : RawNet) (task : Assertion) (table : ℕ → ℕ → SymbolicSet) (s t : Store) (n : ℕ) (held : List Rails) (r : Turned) : Type 0 where
  pub so : SoFar (task_work net task table) s t
  pub next : AllZip (AreRails t) (latches_at net task table n) held
  pub contradictory : Means t (empty_sum net table n) r.contradictory
  pub found : AreFound (strong_sum task table n) (weak_sum task table n) t r.found
  pub nets : (k id : ℕ) → k < n → id < net.nets → (rails : Rails) × AreRails t (table k id) rails

-- what one time goes on with is held
pub turned_refs : (net : RawNet) (task : Assertion) (table : ℕ → ℕ → SymbolicSet) (s t : Store) (n : ℕ) (held : List Rails) (r : Turned) → ReachedAt net task table s t n held r → AreTurnedRefs t r
turned_refs net task table s t n held r p = record {
  contradictory = p.contradictory.ref;
  found = record { strong = p.found.strong.ref; weak = p.found.weak.ref };
}

module _ (net : RawNet) (task : Assertion) (table : ℕ → ℕ → SymbolicSet) where
  abbrev times : List Function
  times = over_times (work_at net task table) (depth task)

  abbrev none : Function
  none = negation (empty_sum net table (depth task))

  -- the functions for the results but the first
  abbrev last_part : List Function
  last_part = drop 1 (last_work (empty_sum net table (depth task)) (strong_sum task table (depth task)) (weak_sum task table (depth task)))

  abbrev after_weak : List Function
  after_weak = sums (all_weak task table) ++ last_part

  abbrev after_strong : List Function
  after_strong = sums (all_strong task table) ++ after_weak

  abbrev after_empty : List Function
  after_empty = sums (all_empty net task table) ++ none ∷ after_strong

  pub ant_in : Within (quints_work task.ant) (task_work net task table)
  ant_in f h = Contains-append_left (quints_work task.ant) (quints_work task.con ++ (times ++ after_empty)) f h

  pub con_in : Within (quints_work task.con) (task_work net task table)
  con_in f h = Contains-append_right (quints_work task.ant) (quints_work task.con ++ (times ++ after_empty)) f (Contains-append_left (quints_work task.con) (times ++ after_empty) f h)

  times_in : Within (times ++ after_empty) (task_work net task table)
  times_in f h = Contains-append_right (quints_work task.ant) (quints_work task.con ++ (times ++ after_empty)) f (Contains-append_right (quints_work task.con) (times ++ after_empty) f h)

  turn_in : (n : ℕ) → n < depth task → Within (work_at net task table n) (task_work net task table)
  turn_in n lt f h = times_in f (Contains-append_left times after_empty f (through_has (work_at net task table) n (depth task) lt f h))

  empties_in : Within (sums (all_empty net task table)) (task_work net task table)
  empties_in f h = times_in f (Contains-append_right times after_empty f (Contains-append_left (sums (all_empty net task table)) (none ∷ after_strong) f h))

  rest_in : Within (none ∷ after_strong) (task_work net task table)
  rest_in f h = times_in f (Contains-append_right times after_empty f (Contains-append_right (sums (all_empty net task table)) (none ∷ after_strong) f h))

  strong_in : Within (sums (all_strong task table)) (task_work net task table)
  strong_in f h = rest_in f (behind none after_strong f (Contains-append_left (sums (all_strong task table)) after_weak f h))

  weak_in : Within (sums (all_weak task table)) (task_work net task table)
  weak_in f h = rest_in f (behind none after_strong f (Contains-append_right (sums (all_strong task table)) after_weak f (Contains-append_left (sums (all_weak task table)) last_part f h)))

  pub last_in : Within (last_work (empty_sum net table (depth task)) (strong_sum task table (depth task)) (weak_sum task table (depth task))) (task_work net task table)
  last_in = within_more none last_part (task_work net task table) (rest_in none (0, omega arith, refl))
      (λ f h. rest_in f (behind none after_strong f (Contains-append_right (sums (all_strong task table)) after_weak f (Contains-append_right (sums (all_weak task table)) last_part f h))))

  abbrev pub turned_at : ℕ → List Function
  turned_at n = turned_work net (latches_at net task table n) (weakened_at task.weak n) (symbolic_cuts_at task.ant n) (symbolic_cuts_at task.con n) (table n) (empty_sum net table n) (strong_sum task table n) (weak_sum task table n)

  abbrev pub IsTurnedAt : ℕ → List Rails → Store → Turned → Type 0
  IsTurnedAt n = IsTurned net (symbolic_cuts_at task.con n) (table n) (empty_sum net table n) (strong_sum task table n) (weak_sum task table n)

  turned_in : (n : ℕ) → n < depth task → Within (turned_at n) (task_work net task table)
  turned_in n lt f h =
      let es = symbolic_cuts_at task.con n in
      let time : List Function = time_work net (latches_at net task table n) (symbolic_asked_at task n) (table n) in
      let cons : List Function = consequents_work (table n) es in
      let S : List Function = chain disjunction (strong_sum task table n) (strong_findings (table n) es) in
      let W : List Function = chain disjunction (weak_sum task table n) (weak_findings (table n) es) in
      let e : Function = disjunction (empty_sum net table n) (some_empty net (table n)) in
      ⊎_elim
      (λ (y : Contains time f). turn_in n lt f (Contains-append_left time cons f y))
      (λ (y : Contains (e ∷ (cons ++ (S ++ W))) f).
      within_more e (cons ++ (S ++ W)) (task_work net task table)
      (empties_in e (sums_has (λ t. some_empty net (table t) ∷ []) n (depth task) lt e (0, omega arith, refl)))
      (λ k z. ⊎_elim
      (λ (y : Contains cons k). turn_in n lt k (Contains-append_right time cons k y))
      (λ (y : Contains (S ++ W) k). ⊎_elim
      (λ (y : Contains S k). strong_in k (sums_has (λ t. strong_findings (table t) (symbolic_cuts_at task.con t)) n (depth task) lt k y))
      (λ (y : Contains W k). weak_in k (sums_has (λ t. weak_findings (table t) (symbolic_cuts_at task.con t)) n (depth task) lt k y))
      (Contains-append_cases S W k y))
      (Contains-append_cases cons (S ++ W) k z)) f y)
      (Contains-append_cases time (e ∷ (cons ++ (S ++ W))) f h)

  -- one time more
  pub time_call : (s t u : Store) (n : ℕ) (weak : List NodeId) (ant con : List Cut) (old new : List Rails) (before : Turned) (result : Result Turned OpFault) → IsWholeTable net s.vars task table → n < depth task
      → weakened_at task.weak n ≡ ids_of weak → AllZip (IsCutBy t) (symbolic_cuts_at task.ant n) ant → AllZip (IsCutBy t) (symbolic_cuts_at task.con n) con → ReachedAt net task table s t n old before
      → ((ls : List SymbolicSet) (weakened : List ℕ) (ds es : List SymbolicCut) (sets : ℕ → SymbolicSet) (c f h : Function) → AllZip (AreRails t) ls old → weakened ≡ ids_of weak → AllZip (IsCutBy t) ds ant → AllZip (IsCutBy t) es con
      → ArePossibleEach t.vars net ls (asked_by weakened ds) sets → Means t c before.contradictory → AreFound f h t before.found → Built (turned_work net ls weakened ds es sets c f h) (IsTurned net es sets c f h new) t u result)
      → Built (turned_at n) (IsTurnedAt n new) t u result
  time_call s t u n weak ant con old new before result whole lt weak_is fits_ant fits_con p call =
      call (latches_at net task table n) (weakened_at task.weak n) (symbolic_cuts_at task.ant n) (symbolic_cuts_at task.con n) (table n) (empty_sum net table n) (strong_sum task table n) (weak_sum task table n)
      p.next weak_is fits_ant fits_con
      (subst (λ v. ArePossibleEach v net (latches_at net task table n) (symbolic_asked_at task n) (table n)) (sym p.so.keeps.vars) (family_at net s.vars task table n whole lt)) p.contradictory p.found

  pub time_turn : (s t u : Store) (n : ℕ) (old new : List Rails) (before : Turned) (result : Result Turned OpFault) → IsGood t → IsGood u → n < depth task → ReachedAt net task table s t n old before
      → Built (turned_at n) (IsTurnedAt n new) t u result → Built (task_work net task table) (IsTurnedAt n new) s u result
  time_turn s t u n old new before result gt gu lt p b =
      last (task_work net task table) (IsTurnedAt n new) s t u result gt gu p.so (Built-wider (task_work net task table) (turned_at n) (IsTurnedAt n new) t u result (turned_in n lt) b)

  pub reached_next : (s t u : Store) (n : ℕ) (held new : List Rails) (before r : Turned) → IsGood t → IsGood u → Keeps t u → ReachedAt net task table s t n held before → SoFar (task_work net task table) s u → IsTurnedAt n new u r → ReachedAt net task table s u (n + 1) new r
  reached_next s t u n held new before r gt gu keeps old so p =
      let e : n + 1 ≡ suc n = omega arith in
      record {
        so = so;
        next = subst (λ k. AllZip (AreRails u) (latches_at net task table k) new) (sym e) p.next;
        contradictory = subst (λ f. Means u f r.contradictory) (sym (sum_next (λ t. some_empty net (table t) ∷ []) n)) p.contradictory;
        found = record {
          strong = subst (λ f. Means u f r.found.strong) (sym (sum_next (λ t. strong_findings (table t) (symbolic_cuts_at task.con t)) n)) p.found.strong;
          weak = subst (λ f. Means u f r.found.weak) (sym (sum_next (λ t. weak_findings (table t) (symbolic_cuts_at task.con t)) n)) p.found.weak;
        };
        nets = λ k id lt inside. elim (cases_lt k n) [
          | inl earlier ↦ let h = old.nets k id earlier inside in (h.0, Rails-keep t u (table k id) h.0 gt gu keeps h.1)
          | inr late ↦ let same : n ≡ k = omega (arith, lt, late) in subst (λ (j : ℕ). (rails : Rails) × AreRails u (table j id) rails) same (p.nets id inside)
        ];
      }
