-- The sets of the nets that consequents name stay where the references of the edge's source stay.
use Rattle.std.proofs.Common.{◌≡◌, ◌≢◌, ℕ, ◌<◌, Bool, List, [], ◌∷◌, length, get_or, map, sym, ap, subst, All}
use Rattle.std.specs.List.{AllZip}
use Rattle.std.proofs.lemmas.List.Elements.{All-head, All-tail}
use Rattle.dd_nodes.specs.Stores.{Store, Keeps}
use Rattle.dd_nodes.proofs.Spending.{Means-same}
use Rattle.dd_nodes.proofs.Stores.{IsGood}
use Rattle.dual_rail.specs.declared.rails.Rails.{Rails}
use Rattle.dual_rail.specs.Rail.{AreRails, AreRefs}
use Rattle.dual_rail.proofs.Works.{Rails-keep, refs_of}
use Rattle.net_core.specs.declared.bit_set.BitSet.{BitSet}
use Rattle.net_core.specs.declared.raw.RawNet.{RawNet}
use Rattle.net_core.specs.Possible.{ArePossible}
use Rattle.net_core.specs.Run.{IsSettled}
use Rattle.net_core.specs.Work.{ArePossibleEach, SymbolicSet, asked_under, set_at}
use Rattle.net_core.proofs.Possible.{one_family}
use Rattle.ste_model.specs.declared.task.Bind.{Bind}
use Rattle.ste_model.specs.declared.task.Edge.{Edge}
use Rattle.ste_model.specs.GraphTable.{VertexState}
use Rattle.ste_model.specs.GraphWork.{SymbolicState, state_at, symbolic_asked_on, symbolic_binds}
use Rattle.sym_step.specs.Step.{HaveSets, rails_at}
use Rattle.sym_step.specs.Frame.{nets_of}
use Rattle.gste_engine.specs.declared.edge.EdgeFound.{EdgeFound}
use Rattle.gste_engine.specs.declared.state.State.{State}
use Rattle.gste_engine.specs.Tables.{HasStates, IsEdgeFound, IsState}
use Rattle.gste_engine.specs.private.Rounds.{AreGivenFrom, IsGivenFrom}
use Rattle.gste_engine.specs.private.Seen.{AreSeen, IsSeenFrom, rails_of}
use Rattle.gste_engine.proofs.AllGiven.{ArePossibleOn}
use Rattle.gste_engine.proofs.Lists.{zip_right, zip_weaker}
use Rattle.gste_engine.proofs.NextTables.{one_state}
use Rattle.gste_engine.proofs.StateRefs.{State-keeps}

-- each binding's net has its set, where there is such a net
abbrev pub AreSeenBy : Store → RawNet → (ℕ → SymbolicSet) → List Bind → List Rails → Type 0
AreSeenBy t net sets binds seen = AllZip (λ bind r. bind.node.0 < net.nets → AreRails t (sets bind.node.0) r) binds seen

rails_same : (t : Store) (v w : SymbolicSet) (r : Rails) → ((bits : List Bool) → length bits ≡ t.vars → set_at bits v ≡ set_at bits w) → AreRails t v r → AreRails t w r
rails_same t v w r same h = record {
  zero = Means-same t v.zero w.zero r.can0 (λ bits l. ap (λ (b : BitSet). b.zero) (same bits l)) h.zero;
  one = Means-same t v.one w.one r.can1 (λ bits l. ap (λ (b : BitSet). b.one) (same bits l)) h.one;
}

module _ (t : Store) (net : RawNet) (edge : Edge) (source : State) (seen : List Rails) (settled : IsSettled net) (p : IsSeenFrom t net edge source seen) (y : SymbolicState) (vs : ℕ → SymbolicSet) (hy : IsState t y source) (possible : ArePossibleEach t.vars net y.latches (symbolic_asked_on edge) vs) where
  state_same : (bits : List Bool) → length bits ≡ t.vars → state_at bits p.state ≡ state_at bits y
  state_same bits l = one_state t p.state y source bits l p.is_source hy

  sets_same : (id : ℕ) (bits : List Bool) → length bits ≡ t.vars → set_at bits (p.sets id) ≡ set_at bits (vs id)
  sets_same id bits l =
      one_family net (map (set_at bits) p.state.latches) (asked_under bits (symbolic_asked_on edge)) settled (λ i. set_at bits (p.sets i)) (λ i. set_at bits (vs i)) (p.possible bits l)
      (subst (λ (state : VertexState). ArePossible net state.latches (asked_under bits (symbolic_asked_on edge)) (λ i. set_at bits (vs i))) (sym (state_same bits l)) (possible bits l)) id

  -- whatever the functions of its source and its sets are
  pub nets_stay : (id : ℕ) → id < net.nets → (r : Rails) × AreRails t (vs id) r
  nets_stay id lt = let h = p.nets id lt in (h.0, rails_same t (p.sets id) (vs id) h.0 (sets_same id) h.1)

  pub seen_stays : AreSeenBy t net vs edge.con seen
  seen_stays = zip_weaker (λ (bind : Bind) (r : Rails). bind.node.0 < net.nets → AreRails t (p.sets bind.node.0) r) (λ (bind : Bind) (r : Rails). bind.node.0 < net.nets → AreRails t (vs bind.node.0) r) edge.con seen
      (λ bind r h lt. rails_same t (p.sets bind.node.0) (vs bind.node.0) r (sets_same bind.node.0) (h lt)) p.seen

pub Seen-keeps : (s t : Store) (net : RawNet) (edge : Edge) (source : State) (seen : List Rails) → IsGood s → IsGood t → Keeps s t → IsSeenFrom s net edge source seen → IsSeenFrom t net edge source seen
Seen-keeps s t net edge source seen gs gt keeps p = record {
  state = p.state;
  sets = p.sets;
  is_source = State-keeps s t p.state source gs gt keeps p.is_source;
  possible = subst (λ v. ArePossibleEach v net p.state.latches (symbolic_asked_on edge) p.sets) (sym keeps.vars) p.possible;
  nets = λ id lt. let h = p.nets id lt in (h.0, Rails-keep s t (p.sets id) h.0 gs gt keeps h.1);
  seen = zip_weaker (λ (bind : Bind) (r : Rails). bind.node.0 < net.nets → AreRails s (p.sets bind.node.0) r) (λ (bind : Bind) (r : Rails). bind.node.0 < net.nets → AreRails t (p.sets bind.node.0) r) edge.con seen
      (λ bind r h lt. Rails-keep s t (p.sets bind.node.0) r gs gt keeps (h lt)) p.seen;
}

-- ---- what is read off the sets of all nets

pub seen_zip : (t : Store) (net : RawNet) (sets : ℕ → SymbolicSet) (nets : List Rails) → HaveSets net sets t nets → (binds : List Bind) → AreSeenBy t net sets binds (map (rails_of nets) binds)
seen_zip t net sets nets have [] = tt
seen_zip t net sets nets have (bind ∷ binds) = (λ lt. have bind.node.0 lt, seen_zip t net sets nets have binds)

pub edge_seen : (net : RawNet) (states : ℕ → SymbolicState) (sets : Edge → ℕ → SymbolicSet) (edges : List Edge) (table : List State) (s u : Store) (k : ℕ) (edge : Edge) (source : State) (found : EdgeFound) → IsGood s → IsGood u → k < length edges → edge ≡ get_or edges k edge → edge.from < length table → source ≡ get_or table edge.from source → HasStates states (length table) s table → ArePossibleOn s.vars net states sets edges
    → Keeps s u → IsEdgeFound net (states edge.from) (sets edge) u found → IsSeenFrom u net edge source (map (rails_of (nets_of found.frame)) edge.con)
edge_seen net states sets edges table s u k edge source found gs gu lt is inside is_source has possible keeps h =
    let x : SymbolicState = states edge.from in
    let old : IsState s x source = subst (λ (r : State). IsState s x r) (sym is_source) (has.each edge.from source inside) in
    let family = subst (λ (e : Edge). ArePossibleEach s.vars net (states e.from).latches (symbolic_asked_on e) (sets e)) (sym is) (possible k edge lt) in
    record {
      state = x;
      sets = sets edge;
      is_source = State-keeps s u x source gs gu keeps old;
      possible = subst (λ v. ArePossibleEach v net x.latches (symbolic_asked_on edge) (sets edge)) (sym keeps.vars) family;
      nets = λ id l. (rails_at (nets_of found.frame) id, h.nets id l);
      seen = seen_zip u net (sets edge) (nets_of found.frame) h.nets edge.con;
    }

-- ---- by cuts

pub wanted_zip : (t : Store) (net : RawNet) (sets : ℕ → SymbolicSet) (binds : List Bind) (seen : List Rails) → All (λ bind. bind.node.0 < net.nets) binds → AreSeenBy t net sets binds seen → AllZip (λ d r. AreRails t (sets d.node) r) (symbolic_binds binds) seen
wanted_zip t net sets [] [] inside h = tt
wanted_zip t net sets [] (r ∷ seen) inside h = absurd h
wanted_zip t net sets (bind ∷ binds) [] inside h = absurd h
wanted_zip t net sets (bind ∷ binds) (r ∷ seen) inside h = (h.0 (All-head (λ (b : Bind). b.node.0 < net.nets) bind binds inside), wanted_zip t net sets binds seen (All-tail (λ (b : Bind). b.node.0 < net.nets) bind binds inside) h.1)

pub wanted_refs : (t : Store) (net : RawNet) (sets : ℕ → SymbolicSet) (binds : List Bind) (seen : List Rails) → All (λ bind. bind.node.0 < net.nets) binds → AreSeenBy t net sets binds seen → All (AreRefs t) seen
wanted_refs t net sets binds seen inside h = zip_right (λ d (r : Rails). AreRails t (sets d.node) r) (AreRefs t) (symbolic_binds binds) seen (λ d r is. refs_of t (sets d.node) r is) (wanted_zip t net sets binds seen inside h)

-- ---- one of all edges

module _ (t : Store) (net : RawNet) (edges : List Edge) (table : List State) (k : ℕ) (edge : Edge) (source : State) (lt : k < length edges) (is : edge ≡ get_or edges k edge) (is_source : source ≡ get_or table edge.from source) where
  pub known_given : (givens : List State) (given : State) → given ≡ get_or givens k given → AreGivenFrom t net edges table givens → IsGivenFrom t net edge source given
  known_given givens given is_given p =
      subst (λ (x : State). IsGivenFrom t net edge source x) (sym is_given)
      (subst (λ (x : State). IsGivenFrom t net edge x (get_or givens k given)) (sym is_source)
      (subst (λ (e : Edge). IsGivenFrom t net e (get_or table e.from source) (get_or givens k given)) (sym is) (p.each k edge source given lt)))

  pub known_seen : (all : List (List Rails)) (seen : List Rails) → seen ≡ get_or all k seen → AreSeen t net edges table all → source.reached.0 ≢ 0 → IsSeenFrom t net edge source seen
  known_seen all seen is_seen p reached =
      subst (λ (x : List Rails). IsSeenFrom t net edge source x) (sym is_seen)
      (subst (λ (x : State). IsSeenFrom t net edge x (get_or all k seen)) (sym is_source)
      (subst (λ (e : Edge). IsSeenFrom t net e (get_or table e.from source) (get_or all k seen)) (sym is)
      (p.each k edge source seen lt (subst (λ (e : Edge). (get_or table e.from source).reached.0 ≢ 0) is (subst (λ (x : State). x.reached.0 ≢ 0) is_source reached)))))
