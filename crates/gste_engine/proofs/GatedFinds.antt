-- What is found of the consequents of one edge, each where the edge is feasible: one turn of the loop over them.
use Rattle.std.proofs.Common.{◌≡◌, ℕ, zero, suc, ◌+◌, ◌<◌, List, [], ◌∷◌, ◌++◌, length, take, get_or, map, refl, sym, ◌∙◌, ap, subst, arith, Contains, Result}
use Rattle.std.specs.List.{AllZip}
use Rattle.std.proofs.lemmas.List.{get_or_default}
use Rattle.std.proofs.lemmas.List.Elements.{Contains-append_left, Contains-append_right}
use Rattle.dd_nodes.specs.declared.node.Ref.{Ref}
use Rattle.ste_base.specs.Functions.{Function}
use Rattle.dd_nodes.specs.Stores.{Store, IsRef, Keeps, Means, function}
use Rattle.dd_nodes.proofs.Spending.{own}
use Rattle.dd_nodes.proofs.Stores.{IsGood, Means-keeps}
use Rattle.dd_ops.specs.declared.fault.OpFault.{OpFault}
use Rattle.net_core.specs.Work.{SymbolicCut, SymbolicSet, chain, conjunction, disjunction, negation, never, whole}
use Rattle.dual_rail.specs.declared.rails.Rails.{Rails}
use Rattle.dual_rail.specs.Rail.{AreRails, AreRefs, Built, HasFunction}
use Rattle.dual_rail.proofs.Chains.{chain-has, whole-next}
use Rattle.dual_rail.proofs.Turns.{within_more, zip_at, zip_long}
use Rattle.dual_rail.proofs.Works.{Rails-keep, SoFar, Within, behind, here, own_set, set_where}
use Rattle.sym_step.specs.declared.cut.Cut.{Cut}
use Rattle.sym_step.specs.Step.{IsCutBy}
use Rattle.sym_step.proofs.Cutting.{SymbolicCut-keeps, demand_at, demands_long}
use Rattle.engine_parts.specs.Refuting.{both_except_work, opposite_except_work, refutes_work}
use Rattle.engine_parts.proofs.Opposites.{within_both, within_none}
use Rattle.ste_model.specs.Work.{both_bits, consequent_work, consequents_work, found_strong, found_weak, only_one, only_zero, refutes, strong_findings, weak_findings}
use Rattle.gste_engine.specs.declared.found.Findings.{Findings}
use Rattle.gste_engine.specs.private.EdgeFinds.{AreFindings, AreFindingsRefs, gated_add_work, gated_by, gated_find_work, gated_finding, gated_finds_work, gated_strong_work, gated_weak_work, more_gated_strong, more_gated_weak}
use Rattle.gste_engine.proofs.Turning.{turned}

-- ---- references

pub gated_left : (s t : Store) (sum : Ref) (r : Rails) (c : Cut) (gate : Ref) (result : Result Ref OpFault) → IsRef s sum → AreRefs s r → IsRef s c.guard → IsRef s c.value → IsRef s gate
    → ((f : Function) (w : SymbolicSet) (h x z : Function) → Means s f sum → AreRails s w r → Means s h c.guard → Means s x c.value → Means s z gate → Built (gated_strong_work f w h x z) (HasFunction (disjunction f (conjunction (found_strong w h x) z))) s t result)
    → Keeps s t
gated_left s t sum r c gate result a b d e h call =
    (call (function s sum) (set_where s r) (function s c.guard) (function s c.value) (function s gate) (own s sum a) (own_set s r b) (own s c.guard d) (own s c.value e) (own s gate h)).spends.keeps

pub own_findings : (t : Store) (r : Findings) → AreFindingsRefs t r → AreFindings (function t r.strong) (function t r.weak) (function t r.feasible) t r
own_findings t r h = record { strong = own t r.strong h.strong; weak = own t r.weak h.weak; feasible = own t r.feasible h.feasible }

-- ---- parts of the work

-- all but the two findings and the two sums is among the functions for the consequent
module _ (f h : Function) (w : SymbolicSet) (g x z : Function) (work : List Function) (strong_one : Contains work (conjunction (found_strong w g x) z)) (weak_one : Contains work (conjunction (found_weak w g x) z))
    (strong : Contains work (disjunction f (conjunction (found_strong w g x) z))) (weak : Contains work (disjunction h (conjunction (found_weak w g x) z))) (rest : Within (consequent_work w g x) work) where
  at_place : (k : ℕ) (d : Function) → k < 11 → Contains work (get_or (consequent_work w g x) k d)
  at_place k d lt = rest (get_or (consequent_work w g x) k d) (k, lt, same k d lt)
    where
      same : (k : ℕ) (d : Function) → k < 11 → get_or (consequent_work w g x) k (get_or (consequent_work w g x) k d) ≡ get_or (consequent_work w g x) k d
      same k d lt = get_or_default (consequent_work w g x) k (get_or (consequent_work w g x) k d) d lt

  pub gated_find_in : Within (gated_find_work f h w g x z) work
  gated_find_in = within_both (gated_strong_work f w g x z) (gated_weak_work h w g z) work
      (within_both (refutes_work w x) (gated_add_work f g (refutes w x) z) work
      (within_both (both_except_work x w.zero w.one) (opposite_except_work x w.one w.zero ++ refutes w x ∷ []) work
      (within_more (negation w.one) (only_zero w ∷ conjunction x (only_zero w) ∷ []) work (at_place 3 x (omega arith))
      (within_more (only_zero w) (conjunction x (only_zero w) ∷ []) work (at_place 5 x (omega arith))
      (within_more (conjunction x (only_zero w)) [] work (at_place 7 x (omega arith)) (within_none work))))
      (within_both (opposite_except_work x w.one w.zero) (refutes w x ∷ []) work
      (within_more (negation x) (negation w.zero ∷ only_one w ∷ conjunction (negation x) (only_one w) ∷ []) work (at_place 4 x (omega arith))
      (within_more (negation w.zero) (only_one w ∷ conjunction (negation x) (only_one w) ∷ []) work (at_place 2 x (omega arith))
      (within_more (only_one w) (conjunction (negation x) (only_one w) ∷ []) work (at_place 6 x (omega arith))
      (within_more (conjunction (negation x) (only_one w)) [] work (at_place 8 x (omega arith)) (within_none work)))))
      (within_more (refutes w x) [] work (at_place 9 x (omega arith)) (within_none work))))
      (within_more (found_strong w g x) (gated_finding g (refutes w x) z ∷ disjunction f (gated_finding g (refutes w x) z) ∷ []) work (at_place 10 x (omega arith))
      (within_more (gated_finding g (refutes w x) z) (disjunction f (gated_finding g (refutes w x) z) ∷ []) work strong_one
      (within_more (disjunction f (gated_finding g (refutes w x) z)) [] work strong (within_none work)))))
      (within_more (both_bits w) (gated_add_work h g (both_bits w) z) work (at_place 0 x (omega arith))
      (within_more (found_weak w g x) (gated_finding g (both_bits w) z ∷ disjunction h (gated_finding g (both_bits w) z) ∷ []) work (at_place 1 x (omega arith))
      (within_more (gated_finding g (both_bits w) z) (disjunction h (gated_finding g (both_bits w) z) ∷ []) work weak_one
      (within_more (disjunction h (gated_finding g (both_bits w) z)) [] work weak (within_none work)))))

consequents_has : (sets : ℕ → SymbolicSet) (ds : List SymbolicCut) (k : ℕ) (e : SymbolicCut) → k < length ds → Within (consequent_work (sets (get_or ds k e).node) (get_or ds k e).guard (get_or ds k e).value) (consequents_work sets ds)
consequents_has sets [] k e lt = absurd (omega arith)
consequents_has sets (x ∷ xs) zero e lt = λ f h. Contains-append_left (consequent_work (sets x.node) x.guard x.value) (consequents_work sets xs) f h
consequents_has sets (x ∷ xs) (suc k) e lt = λ f h. Contains-append_right (consequent_work (sets x.node) x.guard x.value) (consequents_work sets xs) f (consequents_has sets xs k e (omega arith) f h)

-- ---- findings that are gated

module _ (F : SymbolicCut → Function) (z : Function) where
  abbrev gates : List SymbolicCut → List Function
  gates ds = gated_by z (map F ds)

  gates_long : (ds : List SymbolicCut) → length (gates ds) ≡ length ds
  gates_long [] = refl
  gates_long (d ∷ ds) = ap suc (gates_long ds)

  gates_at : (ds : List SymbolicCut) (k : ℕ) (d : Function) (e : SymbolicCut) → k < length ds → get_or (gates ds) k d ≡ conjunction (F (get_or ds k e)) z
  gates_at [] k d e lt = absurd (omega arith)
  gates_at (x ∷ xs) zero d e lt = refl
  gates_at (x ∷ xs) (suc k) d e lt = gates_at xs k d e (omega arith)

  gates_take : (ds : List SymbolicCut) (k : ℕ) → take k (gates ds) ≡ gates (take k ds)
  gates_take ds zero = refl
  gates_take [] (suc k) = refl
  gates_take (x ∷ xs) (suc k) = ap (λ (fs : List Function). conjunction (F x) z ∷ fs) (gates_take xs k)

  gates_have : (ds : List SymbolicCut) (k : ℕ) (e : SymbolicCut) → k < length ds → Contains (gates ds) (conjunction (F (get_or ds k e)) z)
  gates_have [] k e lt = absurd (omega arith)
  gates_have (x ∷ xs) zero e lt = here (conjunction (F x) z) (gates xs)
  gates_have (x ∷ xs) (suc k) e lt = behind (conjunction (F x) z) (gates xs) (conjunction (F (get_or xs k e)) z) (gates_have xs k e (omega arith))

  gates_chain : (f : Function) (ds : List SymbolicCut) (k : ℕ) (e : SymbolicCut) → k < length ds → Contains (chain disjunction f (gates ds)) (disjunction (whole disjunction f (gates (take k ds))) (conjunction (F (get_or ds k e)) z))
  gates_chain f ds k e lt =
      subst (λ (x : Function). Contains (chain disjunction f (gates ds)) (disjunction (whole disjunction f (gates (take k ds))) x)) (gates_at ds k never e lt)
      (subst (λ (fs : List Function). Contains (chain disjunction f (gates ds)) (disjunction (whole disjunction f fs) (get_or (gates ds) k never))) (gates_take ds k)
      (chain-has disjunction f (gates ds) k never (let n = gates_long ds in omega (arith, n, lt))))

  gates_whole : (f : Function) (ds : List SymbolicCut) (k : ℕ) (e : SymbolicCut) → k < length ds → whole disjunction f (gates (take (k + 1) ds)) ≡ disjunction (whole disjunction f (gates (take k ds))) (conjunction (F (get_or ds k e)) z)
  gates_whole f ds k e lt =
      ap (whole disjunction f) (sym (gates_take ds (k + 1))) ∙ whole-next disjunction f (gates ds) k never (let n = gates_long ds in omega (arith, n, lt))
      ∙ ap (λ (fs : List Function). disjunction (whole disjunction f fs) (get_or (gates ds) k never)) (gates_take ds k)
      ∙ ap (λ (x : Function). disjunction (whole disjunction f (gates (take k ds))) x) (gates_at ds k never e lt)

-- ---- the loop

nothing : SymbolicCut
nothing = record { node = 0; guard = never; value = never }

-- one more consequent
pub gated_turn : (sets : ℕ → SymbolicSet) (ds : List SymbolicCut) (z f h e : Function) (seen : List Rails) (cuts : List Cut) (s t u : Store) (k : ℕ) (c : Cut) (r : Rails) (gate : Ref) (found : Findings) (result : Result Findings OpFault)
    → IsGood s → IsGood t → IsGood u → k < length cuts → get_or cuts k c ≡ c → get_or seen k r ≡ r
    → AllZip (λ d r. AreRails s (sets d.node) r) ds seen → AllZip (IsCutBy s) ds cuts → Means s z gate → SoFar (gated_finds_work sets ds z f h) s t
    → AreFindings (more_gated_strong sets (take k ds) z f) (more_gated_weak sets (take k ds) z h) e t found
    → ((a b d : Function) (w : SymbolicSet) (g x y : Function) → AreFindings a b d t found → AreRails t w r → Means t g c.guard → Means t x c.value → Means t y gate
    → Built (gated_find_work a b w g x y) (AreFindings (disjunction a (conjunction (found_strong w g x) y)) (disjunction b (conjunction (found_weak w g x) y)) d) t u result)
    → Built (gated_finds_work sets ds z f h) (AreFindings (more_gated_strong sets (take (k + 1) ds) z f) (more_gated_weak sets (take (k + 1) ds) z h) e) s u result
gated_turn sets ds z f h e seen cuts s t u k c r gate found result gs gt gu lt is at have zip mz so sums call =
    let n = demands_long s ds cuts zip in
    let d : SymbolicCut = get_or ds k nothing in
    let inside_ds : k < length ds = omega (arith, n) in
    let asked : IsCutBy t d c = SymbolicCut-keeps s t d c gs gt so.keeps (subst (IsCutBy s d) is (demand_at s ds cuts k nothing c zip lt)) in
    let w : SymbolicSet = sets d.node in
    let S : SymbolicCut → Function = λ (d : SymbolicCut). found_strong (sets d.node) d.guard d.value in
    let W : SymbolicCut → Function = λ (d : SymbolicCut). found_weak (sets d.node) d.guard d.value in
    let a : Function = more_gated_strong sets (take k ds) z f in
    let b : Function = more_gated_weak sets (take k ds) z h in
    let work : List Function = gated_finds_work sets ds z f h in
    let all : List Function = consequents_work sets ds in
    let weak_ones : List Function = gated_by z (weak_findings sets ds) in
    let strong_ones : List Function = gated_by z (strong_findings sets ds) in
    let strongs : List Function = chain disjunction f strong_ones in
    let weaks : List Function = chain disjunction h weak_ones in
    let front : Within (all ++ (weak_ones ++ strong_ones)) work = λ x y. Contains-append_left (all ++ (weak_ones ++ strong_ones)) (strongs ++ weaks) x y in
    let end : Within (strongs ++ weaks) work = λ x y. Contains-append_right (all ++ (weak_ones ++ strong_ones)) (strongs ++ weaks) x y in
    let m = zip_long (λ (d : SymbolicCut) (r : Rails). AreRails s (sets d.node) r) ds seen have in
    let read : AreRails s w (get_or seen k r) = zip_at (λ (d : SymbolicCut) (r : Rails). AreRails s (sets d.node) r) ds seen k nothing r have (omega (arith, n, m, lt)) in
    let rails : AreRails t w r = Rails-keep s t w r gs gt so.keeps (subst (λ (x : Rails). AreRails s w x) at read) in
    let strong_one : Contains work (conjunction (S d) z) = front (conjunction (S d) z) (Contains-append_right all (weak_ones ++ strong_ones) (conjunction (S d) z) (Contains-append_right weak_ones strong_ones (conjunction (S d) z) (gates_have S z ds k nothing inside_ds))) in
    let weak_one : Contains work (conjunction (W d) z) = front (conjunction (W d) z) (Contains-append_right all (weak_ones ++ strong_ones) (conjunction (W d) z) (Contains-append_left weak_ones strong_ones (conjunction (W d) z) (gates_have W z ds k nothing inside_ds))) in
    let strong_in : Contains work (disjunction a (conjunction (S d) z)) = end (disjunction a (conjunction (S d) z)) (Contains-append_left strongs weaks (disjunction a (conjunction (S d) z)) (gates_chain S z f ds k nothing inside_ds)) in
    let weak_in : Contains work (disjunction b (conjunction (W d) z)) = end (disjunction b (conjunction (W d) z)) (Contains-append_right strongs weaks (disjunction b (conjunction (W d) z)) (gates_chain W z h ds k nothing inside_ds)) in
    let within : Within (gated_find_work a b w d.guard d.value z) work = gated_find_in a b w d.guard d.value z work strong_one weak_one strong_in weak_in (λ x y. front x (Contains-append_left all (weak_ones ++ strong_ones) x (consequents_has sets ds k nothing inside_ds x y))) in
    subst (λ (x : Function). Built work (AreFindings x (more_gated_weak sets (take (k + 1) ds) z h) e) s u result) (sym (gates_whole S z f ds k nothing inside_ds))
    (subst (λ (x : Function). Built work (AreFindings (disjunction a (conjunction (S d) z)) x e) s u result) (sym (gates_whole W z h ds k nothing inside_ds))
    (turned work (gated_find_work a b w d.guard d.value z) (AreFindings (disjunction a (conjunction (S d) z)) (disjunction b (conjunction (W d) z)) e) s t u result gt gu within so
    (call a b e w d.guard d.value z sums rails asked.guard asked.value (Means-keeps s t z gate gs gt so.keeps mz))))
