-- What is found on the edges of a graph, one edge after another.
use Rattle.std.proofs.Common.{◌≡◌, ℕ, zero, suc, ◌+◌, ◌<◌, List, [], ◌∷◌, ◌++◌, length, take, get_or, map, refl, sym, ◌∙◌, ap, subst, arith, All, Contains, Result}
use Rattle.std.specs.List.{AllZip, flat_map}
use Rattle.std.proofs.lemmas.Grind.{flat_map-append}
use Rattle.std.proofs.lemmas.List.{append-nil, map_more, take_more}
use Rattle.std.proofs.lemmas.List.Elements.{Contains-append_left, Contains-append_right}
use Rattle.ste_base.specs.Functions.{Function}
use Rattle.dd_nodes.specs.Stores.{Store, IsRef, Keeps, Means}
use Rattle.dd_nodes.proofs.Members.{Contains-none}
use Rattle.dd_nodes.proofs.Stores.{IsGood}
use Rattle.dd_ops.specs.declared.fault.OpFault.{OpFault}
use Rattle.net_core.specs.declared.raw.RawNet.{RawNet}
use Rattle.net_core.specs.Run.{IsSettled}
use Rattle.net_core.specs.Work.{ArePossibleEach, SymbolicCut, SymbolicSet, chain, disjunction, never, sum, sums, whole}
use Rattle.dual_rail.specs.declared.rails.Rails.{Rails}
use Rattle.dual_rail.specs.Rail.{AreRails, Built}
use Rattle.dual_rail.proofs.Turns.{within_more}
use Rattle.dual_rail.proofs.Works.{SoFar, Within, behind, here}
use Rattle.sym_step.specs.declared.cut.Cut.{Cut}
use Rattle.sym_step.specs.Step.{IsCutBy, IsCutOf}
use Rattle.sym_step.proofs.Cutting.{SymbolicCut-keeps}
use Rattle.sym_step.proofs.Whole.{sets_exist}
use Rattle.engine_parts.proofs.Opposites.{within_both}
use Rattle.ste_model.specs.declared.task.Edge.{Edge}
use Rattle.ste_model.specs.GraphWork.{SymbolicState, edge_work, feasible_where, found_work, strong_on, symbolic_asked_on, symbolic_binds, weak_on}
use Rattle.gste_engine.specs.declared.edge.EdgeFound.{EdgeFound}
use Rattle.gste_engine.specs.declared.found.Findings.{Findings}
use Rattle.gste_engine.specs.declared.state.State.{State}
use Rattle.gste_engine.specs.Tables.{AreStateRefs, HasStates, IsEdgeFound, IsState}
use Rattle.gste_engine.specs.private.EdgeFinds.{AreAllFound, AreFindings, HaveRefs, IsWithEdge, all_found_work, asked_work, edge_kept, feasible_of, kept_of, parts_of, strong_of, weak_of, with_edge_work, with_found_work}
use Rattle.gste_engine.proofs.AllGiven.{ArePossibleOn, flat_has}
use Rattle.gste_engine.proofs.KeptRefs.{Refs-held, refs_both}
use Rattle.gste_engine.proofs.Lists.{zip_weaker}
use Rattle.gste_engine.proofs.StateRefs.{State-keeps, own_is, own_long, own_state}
use Rattle.gste_engine.proofs.Turning.{turned}

-- ---- sums of lists, one behind another

pub whole_append : (f : Function) (xs ys : List Function) → whole disjunction f (xs ++ ys) ≡ whole disjunction (whole disjunction f xs) ys
whole_append f [] ys = refl
whole_append f (x ∷ xs) ys = whole_append (disjunction f x) xs ys

chain_front : (f : Function) (xs ys : List Function) → Within (chain disjunction f xs) (chain disjunction f (xs ++ ys))
chain_front f [] ys g h = absurd (Contains-none g h)
chain_front f (x ∷ xs) ys g h =
    within_more (disjunction f x) (chain disjunction (disjunction f x) xs) (disjunction f x ∷ chain disjunction (disjunction f x) (xs ++ ys)) (here (disjunction f x) (chain disjunction (disjunction f x) (xs ++ ys)))
    (λ k q. behind (disjunction f x) (chain disjunction (disjunction f x) (xs ++ ys)) k (chain_front (disjunction f x) xs ys k q)) g h

chain_back : (f : Function) (xs ys : List Function) → Within (chain disjunction (whole disjunction f xs) ys) (chain disjunction f (xs ++ ys))
chain_back f [] ys g h = h
chain_back f (x ∷ xs) ys g h = behind (disjunction f x) (chain disjunction (disjunction f x) (xs ++ ys)) g (chain_back (disjunction f x) xs ys g h)

module _ {X : Type 0} (F : X → List Function) where
  pub flat_more : (xs : List X) (k : ℕ) (d : X) → k < length xs → flat_map F (take (k + 1) xs) ≡ flat_map F (take k xs) ++ F (get_or xs k d)
  flat_more xs k d lt = ap (flat_map F) (take_more xs k d lt) ∙ flat_map-append F (take k xs) (get_or xs k d ∷ []) ∙ ap (λ ys. flat_map F (take k xs) ++ ys) (append-nil (F (get_or xs k d)))

  pub flat_whole : (f : Function) (xs : List X) (k : ℕ) (d : X) → k < length xs → whole disjunction f (flat_map F (take (k + 1) xs)) ≡ whole disjunction (whole disjunction f (flat_map F (take k xs))) (F (get_or xs k d))
  flat_whole f xs k d lt = ap (whole disjunction f) (flat_more xs k d lt) ∙ whole_append f (flat_map F (take k xs)) (F (get_or xs k d))

  pub flat_chain : (f : Function) (xs : List X) (k : ℕ) (d : X) → k < length xs → Within (chain disjunction (whole disjunction f (flat_map F (take k xs))) (F (get_or xs k d))) (chain disjunction f (flat_map F xs))
  flat_chain f [] k d lt g h = absurd (omega arith)
  flat_chain f (x ∷ xs) zero d lt g h = chain_front f (F x) (flat_map F xs) g h
  flat_chain f (x ∷ xs) (suc k) d lt g h =
      chain_back f (F x) (flat_map F xs) g
      (flat_chain (whole disjunction f (F x)) xs k d (omega arith) g
      (subst (λ (y : Function). Contains (chain disjunction y (F (get_or xs k d))) g) (whole_append f (F x) (flat_map F (take k xs))) h))

module _ {X : Type 0} (E : X → Function) where
  pub each_chain : (f : Function) (xs : List X) (k : ℕ) (d : X) → k < length xs → Contains (chain disjunction f (map E xs)) (disjunction (whole disjunction f (map E (take k xs))) (E (get_or xs k d)))
  each_chain f [] k d lt = absurd (omega arith)
  each_chain f (x ∷ xs) zero d lt = here (disjunction f (E x)) (chain disjunction (disjunction f (E x)) (map E xs))
  each_chain f (x ∷ xs) (suc k) d lt = behind (disjunction f (E x)) (chain disjunction (disjunction f (E x)) (map E xs)) (disjunction (whole disjunction (disjunction f (E x)) (map E (take k xs))) (E (get_or xs k d))) (each_chain (disjunction f (E x)) xs k d (omega arith))

  pub each_whole : (f : Function) (xs : List X) (k : ℕ) (d : X) → k < length xs → whole disjunction f (map E (take (k + 1) xs)) ≡ disjunction (whole disjunction f (map E (take k xs))) (E (get_or xs k d))
  each_whole f xs k d lt = ap (whole disjunction f) (map_more E xs k d lt) ∙ whole_append f (map E (take k xs)) (E (get_or xs k d) ∷ [])

-- ---- one edge

module _ (net : RawNet) (edge : Edge) (source : SymbolicState) (sets : ℕ → SymbolicSet) (f h e : Function) where
  abbrev rest_work : List Function
  rest_work = with_found_work sets (symbolic_binds edge.con) (feasible_where net source sets) f h e

  pub asked_in : Within (asked_work edge) (with_edge_work net edge source sets f h e)
  asked_in y has = Contains-append_left (asked_work edge) (edge_work net edge source sets ++ rest_work) y has

  pub edge_in : Within (edge_work net edge source sets) (with_edge_work net edge source sets f h e)
  edge_in y has = Contains-append_right (asked_work edge) (edge_work net edge source sets ++ rest_work) y (Contains-append_left (edge_work net edge source sets) rest_work y has)

  pub rest_in : Within (with_found_work sets (symbolic_binds edge.con) (feasible_where net source sets) f h e) (with_edge_work net edge source sets f h e)
  rest_in y has = Contains-append_right (asked_work edge) (edge_work net edge source sets ++ rest_work) y (Contains-append_right (edge_work net edge source sets) rest_work y has)

-- what is left of a call, by the references' own functions
pub edge_left : (s t : Store) (net : RawNet) (edge : Edge) (r : State) (result : Result EdgeFound OpFault) → IsSettled net → AreStateRefs s net r
    → ((f : Function) (ls : List SymbolicSet) (family : ℕ → SymbolicSet) → Means s f r.reached → AllZip (AreRails s) ls r.latches → ArePossibleEach s.vars net ls (symbolic_asked_on edge) family
    → Built (edge_work net edge (record { reached = f; latches = ls }) family) (IsEdgeFound net (record { reached = f; latches = ls }) family) s t result)
    → (x : SymbolicState) × (sets : ℕ → SymbolicSet) × Built (edge_work net edge x sets) (IsEdgeFound net x sets) s t result
edge_left s t net edge r result settled refs call =
    let x : SymbolicState = own_state s r in
    let is : IsState s x r = own_is s net r refs in
    let family = sets_exist net s.vars x.latches (symbolic_asked_on edge) settled (own_long s net r refs) in
    (x, family.0, call x.reached x.latches family.0 is.reached is.latches family.1)

pub Cuts-keep : (s t : Store) (ds : List SymbolicCut) (cuts : List Cut) → IsGood s → IsGood t → Keeps s t → AllZip (IsCutBy s) ds cuts → AllZip (IsCutBy t) ds cuts
Cuts-keep s t ds cuts gs gt k zip = zip_weaker (IsCutBy s) (IsCutBy t) ds cuts (λ d c h. SymbolicCut-keeps s t d c gs gt k h) zip

-- what cuts are of, one by one
module _ (t : Store) (net : RawNet) (cuts : List Cut) (are : All (IsCutOf t net) cuts) where
  pub cuts_inside : (nets : List Rails) → length nets ≡ net.nets → All (λ c. c.node.0 < length nets) cuts
  cuts_inside nets long = λ k d lt. subst (λ n. (get_or cuts k d).node.0 < n) (sym long) (are k d lt).node

  pub cuts_guards : All (λ c. IsRef t c.guard) cuts
  cuts_guards = λ k d lt. (are k d lt).guard

  pub cuts_values : All (λ c. IsRef t c.value) cuts
  cuts_values = λ k d lt. (are k d lt).value

-- ---- one more edge

pub record FoundSoFar (net : RawNet) (states : ℕ → SymbolicState) (sets : Edge → ℕ → SymbolicSet) (edges : List Edge) (s t : Store) (k : ℕ) (r : Findings) : Type 0 where
  pub so : SoFar (all_found_work net states sets edges) s t
  pub all : AreAllFound net states sets (take k edges) t r

module _ (net : RawNet) (states : ℕ → SymbolicState) (sets : Edge → ℕ → SymbolicSet) (edges : List Edge) (table : List State) (s t u : Store) (k : ℕ) (edge : Edge) (source : State) (found : Findings) (gs : IsGood s) (gt : IsGood t) (gu : IsGood u) (lt : k < length edges) (is : edge ≡ get_or edges k edge) (inside : edge.from < length table) (is_source : source ≡ get_or table edge.from source) (has : HasStates states (length table) s table) (possible : ArePossibleOn s.vars net states sets edges) (keeps : Keeps s t) (p : FoundSoFar net states sets edges s t k found) where
  -- the sums so far
  abbrev pub strong_before : Function
  strong_before = sum (strong_of net states sets (take k edges))

  abbrev pub weak_before : Function
  weak_before = sum (weak_of net states sets (take k edges))

  abbrev pub feasible_before : Function
  feasible_before = sum (feasible_of net states sets (take k edges))

  abbrev pub IsDone : Store → Findings → Type 0
  IsDone = IsWithEdge net edge (states edge.from) (sets edge) strong_before weak_before feasible_before

  abbrev pub done_work : List Function
  done_work = with_edge_work net edge (states edge.from) (sets edge) strong_before weak_before feasible_before

  abbrev pub Call : Result Findings OpFault → Type 0
  Call result = (r : Function) (ls : List SymbolicSet) (family : ℕ → SymbolicSet) (f h e : Function) → Means t r source.reached → AllZip (AreRails t) ls source.latches → ArePossibleEach t.vars net ls (symbolic_asked_on edge) family → AreFindings f h e t found
      → Built (with_edge_work net edge (record { reached = r; latches = ls }) family f h e) (IsWithEdge net edge (record { reached = r; latches = ls }) family f h e) t u result

  pub found_call : (result : Result Findings OpFault) → Call result → Built done_work IsDone t u result
  found_call result call =
      let x : SymbolicState = states edge.from in
      let h : IsState t x source = State-keeps s t x source gs gt keeps (subst (λ (r : State). IsState s x r) (sym is_source) (has.each edge.from source inside)) in
      let family = subst (λ (e : Edge). ArePossibleEach s.vars net (states e.from).latches (symbolic_asked_on e) (sets e)) (sym is) (possible k edge lt) in
      call x.reached x.latches (sets edge) strong_before weak_before feasible_before h.reached h.latches (subst (λ v. ArePossibleEach v net x.latches (symbolic_asked_on edge) (sets edge)) (sym keeps.vars) family) p.all.found

  abbrev whole_work : List Function
  whole_work = all_found_work net states sets edges

  abbrev strong_sums : List Function
  strong_sums = sums (strong_of net states sets edges)

  abbrev weak_sums : List Function
  weak_sums = sums (weak_of net states sets edges)

  abbrev feasible_sums : List Function
  feasible_sums = sums (feasible_of net states sets edges)

  parts_in : Within (asked_work edge ++ (edge_work net edge (states edge.from) (sets edge) ++ found_work net edge (states edge.from) (sets edge))) whole_work
  parts_in y c =
      let P : Edge → List Function = λ (e : Edge). asked_work e ++ (edge_work net e (states e.from) (sets e) ++ found_work net e (states e.from) (sets e)) in
      Contains-append_left (parts_of net states sets edges) (strong_sums ++ (weak_sums ++ feasible_sums)) y (flat_has P edges k edge lt y (subst (λ (e : Edge). Contains (P e) y) is c))

  strong_in : Within (chain disjunction strong_before (strong_on net edge (states edge.from) (sets edge))) whole_work
  strong_in y c =
      let S : Edge → List Function = λ (e : Edge). strong_on net e (states e.from) (sets e) in
      Contains-append_right (parts_of net states sets edges) (strong_sums ++ (weak_sums ++ feasible_sums)) y
      (Contains-append_left strong_sums (weak_sums ++ feasible_sums) y
      (flat_chain S never edges k edge lt y (subst (λ (e : Edge). Contains (chain disjunction strong_before (S e)) y) is c)))

  weak_in : Within (chain disjunction weak_before (weak_on net edge (states edge.from) (sets edge))) whole_work
  weak_in y c =
      let W : Edge → List Function = λ (e : Edge). weak_on net e (states e.from) (sets e) in
      Contains-append_right (parts_of net states sets edges) (strong_sums ++ (weak_sums ++ feasible_sums)) y
      (Contains-append_right strong_sums (weak_sums ++ feasible_sums) y (Contains-append_left weak_sums feasible_sums y
      (flat_chain W never edges k edge lt y (subst (λ (e : Edge). Contains (chain disjunction weak_before (W e)) y) is c))))

  feasible_in : Contains whole_work (disjunction feasible_before (feasible_where net (states edge.from) (sets edge)))
  feasible_in =
      let E : Edge → Function = λ (e : Edge). feasible_where net (states e.from) (sets e) in
      let y : Function = disjunction feasible_before (E edge) in
      Contains-append_right (parts_of net states sets edges) (strong_sums ++ (weak_sums ++ feasible_sums)) y
      (Contains-append_right strong_sums (weak_sums ++ feasible_sums) y (Contains-append_right weak_sums feasible_sums y
      (subst (λ (e : Edge). Contains feasible_sums (disjunction feasible_before (E e))) (sym is) (each_chain E never edges k edge lt))))

  done_in : Within done_work whole_work
  done_in =
      let x : SymbolicState = states edge.from in
      let asks : List Function = asked_work edge in
      let own : List Function = edge_work net edge x (sets edge) in
      let finds : List Function = found_work net edge x (sets edge) in
      let strongs : List Function = chain disjunction strong_before (strong_on net edge x (sets edge)) in
      let weaks : List Function = chain disjunction weak_before (weak_on net edge x (sets edge)) in
      let last : List Function = disjunction feasible_before (feasible_where net x (sets edge)) ∷ [] in
      within_both asks (own ++ ((finds ++ (strongs ++ weaks)) ++ last)) whole_work
      (λ y c. parts_in y (Contains-append_left asks (own ++ finds) y c))
      (within_both own ((finds ++ (strongs ++ weaks)) ++ last) whole_work
      (λ y c. parts_in y (Contains-append_right asks (own ++ finds) y (Contains-append_left own finds y c)))
      (within_both (finds ++ (strongs ++ weaks)) last whole_work
      (within_both finds (strongs ++ weaks) whole_work
      (λ y c. parts_in y (Contains-append_right asks (own ++ finds) y (Contains-append_right own finds y c)))
      (within_both strongs weaks whole_work strong_in weak_in))
      (within_more (disjunction feasible_before (feasible_where net x (sets edge))) [] whole_work feasible_in (λ y c. absurd (Contains-none y c)))))

  pub found_turn : (result : Result Findings OpFault) → Call result → Built whole_work IsDone s u result
  found_turn result call = turned whole_work done_work IsDone s t u result gt gu done_in p.so (found_call result call)

  pub found_next : (r : Findings) → Keeps t u → IsDone u r → AreAllFound net states sets (take (k + 1) edges) u r
  found_next r more m =
      let S : Edge → List Function = λ (e : Edge). strong_on net e (states e.from) (sets e) in
      let W : Edge → List Function = λ (e : Edge). weak_on net e (states e.from) (sets e) in
      let E : Edge → Function = λ (e : Edge). feasible_where net (states e.from) (sets e) in
      let K : Edge → List Function = λ (e : Edge). edge_kept net e (sets e) in
      let strong_is : whole disjunction strong_before (S edge) ≡ sum (strong_of net states sets (take (k + 1) edges)) = ap (λ (e : Edge). whole disjunction strong_before (S e)) is ∙ sym (flat_whole S never edges k edge lt) in
      let weak_is : whole disjunction weak_before (W edge) ≡ sum (weak_of net states sets (take (k + 1) edges)) = ap (λ (e : Edge). whole disjunction weak_before (W e)) is ∙ sym (flat_whole W never edges k edge lt) in
      let feasible_is : disjunction feasible_before (E edge) ≡ sum (feasible_of net states sets (take (k + 1) edges)) = ap (λ (e : Edge). disjunction feasible_before (E e)) is ∙ sym (each_whole E never edges k edge lt) in
      record {
        found = record {
          strong = subst (λ (y : Function). Means u y r.strong) strong_is m.found.strong;
          weak = subst (λ (y : Function). Means u y r.weak) weak_is m.found.weak;
          feasible = subst (λ (y : Function). Means u y r.feasible) feasible_is m.found.feasible;
        };
        kept = subst (HaveRefs u) (sym (flat_more K edges k edge lt))
            (refs_both u (kept_of net sets (take k edges)) (K (get_or edges k edge)) (Refs-held t u (kept_of net sets (take k edges)) gt gu more p.all.kept) (subst (λ (e : Edge). HaveRefs u (K e)) is m.kept));
      }
