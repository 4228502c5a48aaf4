use Rattle.std.proofs.Common.{◌≡◌, ◌+◌, ◌<◌, ℕ, List, drop, length, map, get_or, sym, ◌∙◌, ap, subst, arith, All, Ok, Err}
use Rattle.std.proofs.lemmas.List.{get_or_default, length-map}
use Rattle.ste_base.specs.Functions.{Function}
use Rattle.dd_nodes.specs.Stores.{Store}
use Rattle.dd_nodes.proofs.Stores.{Keeps-refl, Keeps-trans}
use Rattle.dual_rail.specs.Rail.{Built}
use Rattle.dual_rail.proofs.Works.{Built-made, So-start, lost, more, pass}
use Rattle.net_core.specs.declared.raw.RawNet.{RawNet}
use Rattle.net_core.specs.Run.{IsSettled}
use Rattle.net_core.proofs.Ordered.{settled_by_order}
use Rattle.sym_step.specs.Frame.{bare, nets_of}
use Rattle.ste_model.specs.declared.task.Edge.{Edge}
use Rattle.ste_model.specs.declared.task.Graph.{Graph}
use Rattle.ste_model.specs.GraphNeed.{BindsReadBelow}
use Rattle.gste_engine.specs.declared.edge.EdgeFound.{EdgeFound}
use Rattle.gste_engine.specs.declared.links.End.TheVariants.{From}
use Rattle.gste_engine.specs.declared.links.Links.{Links}
use Rattle.gste_engine.specs.declared.rounds.EdgeResults.{EdgeResults}
use Rattle.gste_engine.specs.declared.state.State.{State}
use Rattle.gste_engine.specs.Tables.{AreEdgesOver, AreStateRefs, HasStates, IsEdgeFound, IsEdgeOver}
use Rattle.gste_engine.specs.private.Links.{AreLinks, IsNextAt}
use Rattle.gste_engine.specs.private.Rounds.{IsGivenFrom, AreEdgeResults, edges_work}
use Rattle.gste_engine.specs.private.Seen.{IsSeenFrom, rails_of}
use Rattle.gste_engine.proofs.AllGiven.{ArePossibleOn, edge_built, edge_given, own_has, own_possible, own_sets, own_table}
use Rattle.gste_engine.proofs.Arrivals.{no_edge}
use Rattle.gste_engine.proofs.KeptSeen.{edge_seen}
use Rattle.gste_engine.proofs.StateRefs.{All-states-keep, States-keep}
use Rattle.gste_engine.proofs.RoundResults.{results_begins, results_ends, results_turn}
use Rattle.gste_engine.proofs.rounds.evaluate_from.Goals as goal

-- the first edge that begins at a vertex, and the next one
first_of : (graph : Graph) (from : Links) (v k : ℕ) → AreLinks From (length graph.vertices) graph.edges from → v < length graph.vertices → k ≡ get_or from.first.items v k → IsNextAt From graph.edges v 0 k
first_of graph from v k links lt is =
    let read : get_or from.first.items v 0 ≡ k = get_or_default from.first.items v 0 k (let n = links.firsts in omega (arith, n, lt)) ∙ sym is in
    subst (λ (n : ℕ). IsNextAt From graph.edges v 0 n) read (links.first v lt)

next_of : (graph : Graph) (from : Links) (v k next : ℕ) → AreLinks From (length graph.vertices) graph.edges from → k < length graph.edges → (get_or graph.edges k no_edge).from ≡ v → next ≡ get_or from.next.items k next → IsNextAt From graph.edges v (k + 1) next
next_of graph from v k next links lt here is =
    let read : get_or from.next.items k 0 ≡ next = get_or_default from.next.items k 0 next (let n = links.nexts in omega (arith, n, lt)) ∙ sym is in
    subst (λ (n : ℕ). IsNextAt From graph.edges v (k + 1) n) read (subst (λ (w : ℕ). IsNextAt From graph.edges w (k + 1) (get_or from.next.items k 0)) here (links.next k no_edge (omega arith) lt))

pub loop-k-init : goal.loop-k-init
loop-k-init g c =
    let s : Store = g.N.Nodes.store c.args.nodes.now in
    let net : RawNet = c.args.net.now.raw in
    let graph : Graph = c.args.graph.now in
    let table : List State = c.args.table.now in
    let changed : List ℕ = c.args.changed.now in
    let i = c.args.i in
    let v = get_or changed i 0 in
    let k = c.index-k.result.now in
    let at : IsNextAt From graph.edges v 0 k = first_of graph c.args.from.now v k c.requires.from (c.requires.changed i 0 c.requires.inside) c.index-k.ensures in
    record {
      keeps = Keeps-refl s;
      here = at.here;
      edge_results = results_begins net graph table s changed i k c.args.known c.requires.inside at c.requires.known;
      so = λ states sets has possible. So-start (edges_work net states sets graph.edges) s;
    }

pub loop-k-preserved : goal.loop-k-preserved
loop-k-preserved g c =
    let s : Store = g.N.Nodes.store c.args.nodes.now in
    let t : Store = g.N.Nodes.store c.loop-k.nodes in
    let u : Store = g.N.Nodes.store c.edge_found.new.nodes in
    let gs = g.met.N.Nodes.diagram c.args.nodes.now in
    let gt = g.met.N.Nodes.diagram c.loop-k.nodes in
    let gu = g.met.N.Nodes.diagram c.edge_found.new.nodes in
    let net : RawNet = c.args.net.now.raw in
    let graph : Graph = c.args.graph.now in
    let settled : IsSettled net = settled_by_order net c.args.net.now.settled c.args.net.now.in_order in
    let table : List State = c.args.table.now in
    let changed : List ℕ = c.args.changed.now in
    let i = c.args.i in
    let v = get_or changed i 0 in
    let k = c.loop-k.k in
    let p = c.loop-k.invariant in
    let es : c.as_slice-edges.result.now ≡ graph.edges = c.as_slice-edges.ensures in
    let lt : k < length graph.edges = subst (λ (xs : List Edge). k < length xs) es c.loop-k-test.true in
    let edge : Edge = c.index-edges-k.result in
    let is : edge ≡ get_or graph.edges k edge = subst (λ (xs : List Edge). edge ≡ get_or xs k edge) es c.index-edges-k.is in
    let over : AreEdgesOver net t.vars (length table) graph.edges = subst (λ n. AreEdgesOver net n (length table) graph.edges) (sym p.keeps.vars) (subst (λ n. AreEdgesOver net s.vars n graph.edges) (sym c.requires.long) c.requires.graph.edges) in
    let start : edge.from < length table = (subst (IsEdgeOver net t.vars (length table)) (sym is) (over k edge lt)).start in
    let source : State = c.index-table-edge.result in
    let is_source : source ≡ get_or table edge.from source = c.index-table-edge.is in
    let refs : All (AreStateRefs t net) table = All-states-keep s t net table p.keeps c.requires.table in
    let states = own_table t net table gt refs in
    let sets = own_sets t net table gt refs settled in
    let has : HasStates states (length table) t table = own_has t net table gt refs in
    let possible : ArePossibleOn t.vars net states sets graph.edges = own_possible t net table gt refs settled graph.edges in
    let found : EdgeFound = c.in_ok-found.found in
    let given : State = record { reached = found.feasible; latches = found.next } in
    let b : Built (edges_work net states sets graph.edges) (IsEdgeFound net (states edge.from) (sets edge)) t u (Ok found) = edge_built net states sets graph.edges table t u k edge source (Ok found) gt gu lt is start is_source has possible c.in_ok-found.ensures.found in
    let keeps = b.spends.keeps in
    let made : IsGivenFrom u net edge source given = edge_given net states sets graph.edges table t u k edge source found gt gu lt is start is_source has possible keeps b.ok in
    let seen : IsSeenFrom u net edge source (map (rails_of (nets_of found.frame)) edge.con) = edge_seen net states sets graph.edges table t u k edge source found gt gu lt is start is_source has possible keeps b.ok in
    let old : EdgeResults = c.loop-k.edge_results in
    let new : EdgeResults = c.in_ok-edge_results.edge_results in
    let next = c.index-k-in-loop-k.result.now in
    let at : IsNextAt From graph.edges v (k + 1) next = next_of graph c.args.from.now v k next c.requires.from lt (p.here no_edge lt) c.index-k-in-loop-k.ensures in
    record {
      keeps = Keeps-trans s t u p.keeps keeps;
      here = at.here;
      edge_results = results_turn net graph table t u (drop (i + 1) changed) v k next edge source given (map (rails_of (nets_of found.frame)) edge.con) old new found.frame gt gu keeps lt is start is_source made seen c.in_ok-found.ensures.frame c.in_ok-edge_results.ensures at p.edge_results;
      so = λ states sets has possible.
          let there : ArePossibleOn t.vars net states sets graph.edges = subst (λ v. ArePossibleOn v net states sets graph.edges) (sym p.keeps.vars) possible in
          let mine = edge_built net states sets graph.edges table t u k edge source (Ok found) gt gu lt is start is_source (States-keep states (length table) s t table gs gt p.keeps has) there c.in_ok-found.ensures.found in
          more (edges_work net states sets graph.edges) (IsEdgeFound net (states edge.from) (sets edge)) s t u (Ok found) gt gu (p.so states sets has possible) mine;
    }

pub returns-in_err-found : goal.returns-in_err-found
returns-in_err-found g c = λ states sets has possible.
    let s : Store = g.N.Nodes.store c.args.nodes.now in
    let t : Store = g.N.Nodes.store c.loop-k.nodes in
    let u : Store = g.N.Nodes.store c.edge_found.new.nodes in
    let gs = g.met.N.Nodes.diagram c.args.nodes.now in
    let gt = g.met.N.Nodes.diagram c.loop-k.nodes in
    let gu = g.met.N.Nodes.diagram c.edge_found.new.nodes in
    let net : RawNet = c.args.net.now.raw in
    let graph : Graph = c.args.graph.now in
    let settled : IsSettled net = settled_by_order net c.args.net.now.settled c.args.net.now.in_order in
    let table : List State = c.args.table.now in
    let changed : List ℕ = c.args.changed.now in
    let i = c.args.i in
    let v = get_or changed i 0 in
    let k = c.loop-k.k in
    let p = c.loop-k.invariant in
    let es : c.as_slice-edges.result.now ≡ graph.edges = c.as_slice-edges.ensures in
    let lt : k < length graph.edges = subst (λ (xs : List Edge). k < length xs) es c.loop-k-test.true in
    let edge : Edge = c.index-edges-k.result in
    let is : edge ≡ get_or graph.edges k edge = subst (λ (xs : List Edge). edge ≡ get_or xs k edge) es c.index-edges-k.is in
    let over : AreEdgesOver net t.vars (length table) graph.edges = subst (λ n. AreEdgesOver net n (length table) graph.edges) (sym p.keeps.vars) (subst (λ n. AreEdgesOver net s.vars n graph.edges) (sym c.requires.long) c.requires.graph.edges) in
    let start : edge.from < length table = (subst (IsEdgeOver net t.vars (length table)) (sym is) (over k edge lt)).start in
    let source : State = c.index-table-edge.result in
    let is_source : source ≡ get_or table edge.from source = c.index-table-edge.is in
    let refs : All (AreStateRefs t net) table = All-states-keep s t net table p.keeps c.requires.table in
    let work : List Function = edges_work net states sets graph.edges in
    let Last : Store → EdgeResults → Type 0 = λ t edge_results. AreEdgeResults t net graph table (drop (i + 1) changed) 0 (length graph.edges) edge_results in
    let there : ArePossibleOn t.vars net states sets graph.edges = subst (λ v. ArePossibleOn v net states sets graph.edges) (sym p.keeps.vars) possible in
    let here : HasStates states (length table) t table = States-keep states (length table) s t table gs gt p.keeps has in
    let fault = c.in_err-found.field-0.0 in
    pass work (IsEdgeFound net (states edge.from) (sets edge)) Last s t u fault c.from_residual.result gt gu (p.so states sets has possible)
    (edge_built net states sets graph.edges table t u k edge source (Err fault) gt gu lt is start is_source here there c.in_err-found.ensures.found) c.from_residual.ensures.1

pub returns-in_err-edge_results : goal.returns-in_err-edge_results
returns-in_err-edge_results g c = λ states sets has possible.
    let s : Store = g.N.Nodes.store c.args.nodes.now in
    let t : Store = g.N.Nodes.store c.loop-k.nodes in
    let u : Store = g.N.Nodes.store c.edge_found.new.nodes in
    let gs = g.met.N.Nodes.diagram c.args.nodes.now in
    let gt = g.met.N.Nodes.diagram c.loop-k.nodes in
    let gu = g.met.N.Nodes.diagram c.edge_found.new.nodes in
    let net : RawNet = c.args.net.now.raw in
    let graph : Graph = c.args.graph.now in
    let settled : IsSettled net = settled_by_order net c.args.net.now.settled c.args.net.now.in_order in
    let table : List State = c.args.table.now in
    let changed : List ℕ = c.args.changed.now in
    let i = c.args.i in
    let v = get_or changed i 0 in
    let k = c.loop-k.k in
    let p = c.loop-k.invariant in
    let es : c.as_slice-edges.result.now ≡ graph.edges = c.as_slice-edges.ensures in
    let lt : k < length graph.edges = subst (λ (xs : List Edge). k < length xs) es c.loop-k-test.true in
    let edge : Edge = c.index-edges-k.result in
    let is : edge ≡ get_or graph.edges k edge = subst (λ (xs : List Edge). edge ≡ get_or xs k edge) es c.index-edges-k.is in
    let over : AreEdgesOver net t.vars (length table) graph.edges = subst (λ n. AreEdgesOver net n (length table) graph.edges) (sym p.keeps.vars) (subst (λ n. AreEdgesOver net s.vars n graph.edges) (sym c.requires.long) c.requires.graph.edges) in
    let start : edge.from < length table = (subst (IsEdgeOver net t.vars (length table)) (sym is) (over k edge lt)).start in
    let source : State = c.index-table-edge.result in
    let is_source : source ≡ get_or table edge.from source = c.index-table-edge.is in
    let refs : All (AreStateRefs t net) table = All-states-keep s t net table p.keeps c.requires.table in
    let work : List Function = edges_work net states sets graph.edges in
    let Last : Store → EdgeResults → Type 0 = λ t edge_results. AreEdgeResults t net graph table (drop (i + 1) changed) 0 (length graph.edges) edge_results in
    let there : ArePossibleOn t.vars net states sets graph.edges = subst (λ v. ArePossibleOn v net states sets graph.edges) (sym p.keeps.vars) possible in
    let here : HasStates states (length table) t table = States-keep states (length table) s t table gs gt p.keeps has in
    let found : EdgeFound = c.in_ok-found.found in
    let mine = edge_built net states sets graph.edges table t u k edge source (Ok found) gt gu lt is start is_source here there c.in_ok-found.ensures.found in
    lost work Last s u c.from_residual-in_err-edge_results.result
    (more work (IsEdgeFound net (states edge.from) (sets edge)) s t u (Ok found) gt gu (p.so states sets has possible) mine) c.from_residual-in_err-edge_results.ensures.1

pub returns : goal.returns
returns g c = λ states sets has possible.
    let s : Store = g.N.Nodes.store c.args.nodes.now in
    let t : Store = g.N.Nodes.store c.loop-k.nodes in
    let net : RawNet = c.args.net.now.raw in
    let graph : Graph = c.args.graph.now in
    let table : List State = c.args.table.now in
    let changed : List ℕ = c.args.changed.now in
    let i = c.args.i in
    let k = c.loop-k.k in
    let p = c.loop-k.invariant in
    let work : List Function = edges_work net states sets graph.edges in
    let Last : Store → EdgeResults → Type 0 = λ t edge_results. AreEdgeResults t net graph table (drop (i + 1) changed) 0 (length graph.edges) edge_results in
    let es : length c.as_slice-edges.result.now ≡ length graph.edges = ap (λ (xs : List Edge). length xs) c.as_slice-edges.ensures in
    Built-made work Last s t c.loop-k.edge_results (p.so states sets has possible)
    (results_ends net graph table t (drop (i + 1) changed) (get_or changed i 0) k c.loop-k.edge_results (omega (arith, es, c.loop-k-test.false)) p.edge_results)

pub loop-k-smaller : goal.loop-k-smaller
loop-k-smaller g c =
    let graph : Graph = c.args.graph.now in
    let k = c.loop-k.k in
    let lt : k < length graph.edges = subst (λ (xs : List Edge). k < length xs) c.as_slice-edges.ensures c.loop-k-test.true in
    let at = next_of graph c.args.from.now (get_or c.args.changed.now c.args.i 0) k c.index-k-in-loop-k.result.now c.requires.from lt (c.loop-k.invariant.here no_edge lt) c.index-k-in-loop-k.ensures in
    let low = at.low in
    omega (arith, low, lt)

pub edge_found-requires-clause-source : goal.edge_found-requires-clause-source
edge_found-requires-clause-source g c =
    let s : Store = g.N.Nodes.store c.args.nodes.now in
    let t : Store = g.N.Nodes.store c.loop-k.nodes in
    let net : RawNet = c.args.net.now.raw in
    let graph : Graph = c.args.graph.now in
    let table : List State = c.args.table.now in
    let k = c.loop-k.k in
    let es : c.as_slice-edges.result.now ≡ graph.edges = c.as_slice-edges.ensures in
    let lt : k < length graph.edges = subst (λ (xs : List Edge). k < length xs) es c.loop-k-test.true in
    let edge : Edge = c.index-edges-k.result in
    let is : edge ≡ get_or graph.edges k edge = subst (λ (xs : List Edge). edge ≡ get_or xs k edge) es c.index-edges-k.is in
    let start : edge.from < length graph.vertices = (subst (IsEdgeOver net s.vars (length graph.vertices)) (sym is) (c.requires.graph.edges k edge lt)).start in
    let source : State = c.index-table-edge.result in
    let refs : All (AreStateRefs t net) table = All-states-keep s t net table c.loop-k.invariant.keeps c.requires.table in
    let long = c.requires.long in
    subst (AreStateRefs t net) (sym c.index-table-edge.is) (refs edge.from source (omega (arith, long, start)))

pub with_edge-requires-clause-nets : goal.with_edge-requires-clause-nets
with_edge-requires-clause-nets g c = length-map c.in_ok-found.found.frame.board.nets.items bare ∙ c.in_ok-found.ensures.frame.long

pub edge_found-requires-clause-reads : goal.edge_found-requires-clause-reads
edge_found-requires-clause-reads g c =
    let s : Store = g.N.Nodes.store c.args.nodes.now in
    let net : RawNet = c.args.net.now.raw in
    let graph : Graph = c.args.graph.now in
    let k = c.loop-k.k in
    let es : c.as_slice-edges.result.now ≡ graph.edges = c.as_slice-edges.ensures in
    let lt : k < length graph.edges = subst (λ (xs : List Edge). k < length xs) es c.loop-k-test.true in
    let edge : Edge = c.index-edges-k.result in
    let is : edge ≡ get_or graph.edges k edge = subst (λ (xs : List Edge). edge ≡ get_or xs k edge) es c.index-edges-k.is in
    let over : IsEdgeOver net s.vars (length graph.vertices) edge = subst (IsEdgeOver net s.vars (length graph.vertices)) (sym is) (c.requires.graph.edges k edge lt) in
    subst (λ (n : ℕ). BindsReadBelow n edge.ant) (sym c.loop-k.invariant.keeps.vars) over.reads
