-- What is found: the functions of each part are among those of the whole, and one turn of the loop over consequents.
use Rattle.std.proofs.Common.{◌≡◌, ℕ, zero, suc, ◌+◌, ◌<◌, false, List, [], ◌∷◌, ◌++◌, length, take, get_or, map, refl, sym, ◌∙◌, ap, subst, arith, Contains, Result}
use Rattle.std.specs.List.{AllZip}
use Rattle.std.proofs.lemmas.List.{get_or_default}
use Rattle.std.proofs.lemmas.List.Elements.{Contains-append_left, Contains-append_right}
use Rattle.dd_nodes.specs.declared.node.Ref.{Ref}
use Rattle.ste_base.specs.Functions.{Function}
use Rattle.dd_nodes.specs.Stores.{Store, IsRef, Keeps, Means, function}
use Rattle.dd_nodes.proofs.Spending.{own}
use Rattle.dd_nodes.proofs.Stores.{IsGood}
use Rattle.dd_ops.specs.declared.fault.OpFault.{OpFault}
use Rattle.net_core.specs.Work.{SymbolicCut, SymbolicSet, chain, conjunction, disjunction, negation, whole}
use Rattle.dual_rail.specs.declared.rails.Rails.{Rails}
use Rattle.dual_rail.specs.Rail.{AreRails, AreRefs, Built, HasFunction}
use Rattle.dual_rail.proofs.Works.{Built-wider, Rails-keep, SoFar, Within, behind, last, own_set, set_where}
use Rattle.dual_rail.proofs.Turns.{within_more}
use Rattle.sym_step.specs.declared.cut.Cut.{Cut}
use Rattle.sym_step.specs.Step.{IsCutBy, rails_at}
use Rattle.sym_step.proofs.Cutting.{SymbolicCut-keeps, demand_at, demands_long}
use Rattle.ste_model.specs.Work.{both_bits, consequent_work, consequents_work, found_strong, found_weak, only_one, only_zero, refutes, strong_findings, weak_findings}
use Rattle.engine_parts.proofs.Opposites.{within_both, within_none}
use Rattle.ste_engine.specs.declared.results.Found.{Found}
use Rattle.engine_parts.specs.Refuting.{both_except_work, opposite_except_work, refutes_work}
use Rattle.ste_engine.specs.private.Finds.{AreFound, add_work, find_work, found_work, more_strong, more_weak, strong_work, weak_work}

-- ---- parts of the work

-- all but the two sums is among the functions for the consequent
module _ (f h : Function) (w : SymbolicSet) (g x : Function) (work : List Function) (strong : Contains work (disjunction f (found_strong w g x))) (weak : Contains work (disjunction h (found_weak w g x))) (rest : Within (consequent_work w g x) work) where
  at_place : (k : ℕ) (d : Function) → k < 11 → Contains work (get_or (consequent_work w g x) k d)
  at_place k d lt = rest (get_or (consequent_work w g x) k d) (k, lt, same k d lt)
    where
      same : (k : ℕ) (d : Function) → k < 11 → get_or (consequent_work w g x) k (get_or (consequent_work w g x) k d) ≡ get_or (consequent_work w g x) k d
      same k d lt = get_or_default (consequent_work w g x) k (get_or (consequent_work w g x) k d) d lt

  pub find_in : Within (find_work f h w g x) work
  find_in = within_both (strong_work f w g x) (weak_work h w g) work
      (within_both (refutes_work w x) (add_work f g (refutes w x)) work
      (within_both (both_except_work x w.zero w.one) (opposite_except_work x w.one w.zero ++ refutes w x ∷ []) work
      (within_more (negation w.one) (only_zero w ∷ conjunction x (only_zero w) ∷ []) work (at_place 3 x (omega arith))
      (within_more (only_zero w) (conjunction x (only_zero w) ∷ []) work (at_place 5 x (omega arith))
      (within_more (conjunction x (only_zero w)) [] work (at_place 7 x (omega arith)) (within_none work))))
      (within_both (opposite_except_work x w.one w.zero) (refutes w x ∷ []) work
      (within_more (negation x) (negation w.zero ∷ only_one w ∷ conjunction (negation x) (only_one w) ∷ []) work (at_place 4 x (omega arith))
      (within_more (negation w.zero) (only_one w ∷ conjunction (negation x) (only_one w) ∷ []) work (at_place 2 x (omega arith))
      (within_more (only_one w) (conjunction (negation x) (only_one w) ∷ []) work (at_place 6 x (omega arith))
      (within_more (conjunction (negation x) (only_one w)) [] work (at_place 8 x (omega arith)) (within_none work)))))
      (within_more (refutes w x) [] work (at_place 9 x (omega arith)) (within_none work))))
      (within_more (found_strong w g x) (disjunction f (found_strong w g x) ∷ []) work (at_place 10 x (omega arith))
      (within_more (disjunction f (found_strong w g x)) [] work strong (within_none work))))
      (within_more (both_bits w) (found_weak w g x ∷ disjunction h (found_weak w g x) ∷ []) work (at_place 0 x (omega arith))
      (within_more (found_weak w g x) (disjunction h (found_weak w g x) ∷ []) work (at_place 1 x (omega arith))
      (within_more (disjunction h (found_weak w g x)) [] work weak (within_none work))))

-- ---- what is left of a call, by the references' own functions

pub strong_left : (s t : Store) (sum : Ref) (r : Rails) (c : Cut) (result : Result Ref OpFault) → IsRef s sum → AreRefs s r → IsRef s c.guard → IsRef s c.value
    → ((f : Function) (w : SymbolicSet) (h x : Function) → Means s f sum → AreRails s w r → Means s h c.guard → Means s x c.value → Built (strong_work f w h x) (HasFunction (disjunction f (found_strong w h x))) s t result)
    → Keeps s t
strong_left s t sum r c result a b d e call = (call (function s sum) (set_where s r) (function s c.guard) (function s c.value) (own s sum a) (own_set s r b) (own s c.guard d) (own s c.value e)).spends.keeps

-- ---- the loop

nothing : SymbolicCut
nothing = record { node = 0; guard = λ bits. false; value = λ bits. false }

module _ (F : SymbolicCut → Function) where
  chain_at : (f : Function) (ds : List SymbolicCut) (k : ℕ) (e : SymbolicCut) → k < length ds → Contains (chain disjunction f (map F ds)) (disjunction (whole disjunction f (map F (take k ds))) (F (get_or ds k e)))
  chain_at f [] k e lt = absurd (omega arith)
  chain_at f (x ∷ xs) zero e lt = (0, omega arith, refl)
  chain_at f (x ∷ xs) (suc k) e lt = behind (disjunction f (F x)) (chain disjunction (disjunction f (F x)) (map F xs)) (disjunction (whole disjunction (disjunction f (F x)) (map F (take k xs))) (F (get_or xs k e))) (chain_at (disjunction f (F x)) xs k e (omega arith))

  whole_suc : (f : Function) (ds : List SymbolicCut) (k : ℕ) (e : SymbolicCut) → k < length ds → whole disjunction f (map F (take (suc k) ds)) ≡ disjunction (whole disjunction f (map F (take k ds))) (F (get_or ds k e))
  whole_suc f [] k e lt = absurd (omega arith)
  whole_suc f (x ∷ xs) zero e lt = refl
  whole_suc f (x ∷ xs) (suc k) e lt = whole_suc (disjunction f (F x)) xs k e (omega arith)

  whole_at : (f : Function) (ds : List SymbolicCut) (k : ℕ) (e : SymbolicCut) → k < length ds → whole disjunction f (map F (take (k + 1) ds)) ≡ disjunction (whole disjunction f (map F (take k ds))) (F (get_or ds k e))
  whole_at f ds k e lt = ap (λ j. whole disjunction f (map F (take j ds))) (let i : k + 1 ≡ suc k = omega arith in i) ∙ whole_suc f ds k e lt

consequents_has : (sets : ℕ → SymbolicSet) (ds : List SymbolicCut) (k : ℕ) (e : SymbolicCut) → k < length ds → Within (consequent_work (sets (get_or ds k e).node) (get_or ds k e).guard (get_or ds k e).value) (consequents_work sets ds)
consequents_has sets [] k e lt = absurd (omega arith)
consequents_has sets (x ∷ xs) zero e lt = λ f h. Contains-append_left (consequent_work (sets x.node) x.guard x.value) (consequents_work sets xs) f h
consequents_has sets (x ∷ xs) (suc k) e lt = λ f h. Contains-append_right (consequent_work (sets x.node) x.guard x.value) (consequents_work sets xs) f (consequents_has sets xs k e (omega arith) f h)

-- one more consequent
pub find_turn : (sets : ℕ → SymbolicSet) (ds : List SymbolicCut) (f h : Function) (nets : List Rails) (cuts : List Cut) (s t u : Store) (k : ℕ) (c : Cut) (r : Rails) (found : Found) (result : Result Found OpFault)
    → IsGood s → IsGood t → IsGood u → k < length cuts → get_or cuts k c ≡ c → c.node.0 < length nets → r ≡ rails_at nets c.node.0
    → ((id : ℕ) → id < length nets → AreRails s (sets id) (rails_at nets id)) → AllZip (IsCutBy s) ds cuts → SoFar (found_work sets ds f h) s t
    → AreFound (more_strong sets (take k ds) f) (more_weak sets (take k ds) h) t found
    → ((a b : Function) (w : SymbolicSet) (g x : Function) → AreFound a b t found → AreRails t w r → Means t g c.guard → Means t x c.value
    → Built (find_work a b w g x) (AreFound (disjunction a (found_strong w g x)) (disjunction b (found_weak w g x))) t u result)
    → Built (found_work sets ds f h) (AreFound (more_strong sets (take (k + 1) ds) f) (more_weak sets (take (k + 1) ds) h)) s u result
find_turn sets ds f h nets cuts s t u k c r found result gs gt gu lt is inside at have zip so sums call =
    let n = demands_long s ds cuts zip in
    let d : SymbolicCut = get_or ds k nothing in
    let inside_ds : k < length ds = omega (arith, n) in
    let asked : IsCutBy t d c = SymbolicCut-keeps s t d c gs gt so.keeps (subst (IsCutBy s d) is (demand_at s ds cuts k nothing c zip lt)) in
    let w : SymbolicSet = sets d.node in
    let S : SymbolicCut → Function = λ (d : SymbolicCut). found_strong (sets d.node) d.guard d.value in
    let W : SymbolicCut → Function = λ (d : SymbolicCut). found_weak (sets d.node) d.guard d.value in
    let a : Function = more_strong sets (take k ds) f in
    let b : Function = more_weak sets (take k ds) h in
    let work : List Function = found_work sets ds f h in
    let strongs : List Function = chain disjunction f (strong_findings sets ds) in
    let weaks : List Function = chain disjunction h (weak_findings sets ds) in
    let rails : AreRails t w r = Rails-keep s t w r gs gt so.keeps (subst (λ (x : Rails). AreRails s w x) (sym at) (subst (λ (i : ℕ). AreRails s (sets i) (rails_at nets c.node.0)) (sym asked.node) (have c.node.0 inside))) in
    let strong_in : Contains work (disjunction a (S d)) = Contains-append_right (consequents_work sets ds) (strongs ++ weaks) (disjunction a (S d)) (Contains-append_left strongs weaks (disjunction a (S d)) (chain_at S f ds k nothing inside_ds)) in
    let weak_in : Contains work (disjunction b (W d)) = Contains-append_right (consequents_work sets ds) (strongs ++ weaks) (disjunction b (W d)) (Contains-append_right strongs weaks (disjunction b (W d)) (chain_at W h ds k nothing inside_ds)) in
    let within : Within (find_work a b w d.guard d.value) work = find_in a b w d.guard d.value work strong_in weak_in (λ x y. Contains-append_left (consequents_work sets ds) (strongs ++ weaks) x (consequents_has sets ds k nothing inside_ds x y)) in
    subst (λ (x : Function). Built work (AreFound x (more_weak sets (take (k + 1) ds) h)) s u result) (sym (whole_at S f ds k nothing inside_ds))
    (subst (λ (x : Function). Built work (AreFound (disjunction a (S d)) x) s u result) (sym (whole_at W h ds k nothing inside_ds))
    (last work (AreFound (disjunction a (S d)) (disjunction b (W d))) s t u result gt gu so
    (Built-wider work (find_work a b w d.guard d.value) (AreFound (disjunction a (S d)) (disjunction b (W d))) t u result within
    (call a b w d.guard d.value sums rails asked.guard asked.value))))
