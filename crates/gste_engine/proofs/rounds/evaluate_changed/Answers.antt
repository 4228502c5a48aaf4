use Rattle.std.proofs.Common.{◌≡◌, ◌+◌, ℕ, List, [], drop, length, sym, subst, arith, All, Ok}
use Rattle.std.proofs.lemmas.List.{drop_all}
use Rattle.dd_nodes.specs.Stores.{Store}
use Rattle.dd_nodes.proofs.Stores.{Keeps-refl, Keeps-trans}
use Rattle.dual_rail.proofs.Works.{Built-made, So-start, more, pass}
use Rattle.net_core.specs.declared.raw.RawNet.{RawNet}
use Rattle.net_core.specs.Run.{IsSettled}
use Rattle.net_core.proofs.Ordered.{settled_by_order}
use Rattle.ste_model.specs.declared.task.Graph.{Graph}
use Rattle.gste_engine.specs.declared.rounds.EdgeResults.{EdgeResults}
use Rattle.gste_engine.specs.declared.state.State.{State}
use Rattle.gste_engine.specs.Tables.{AreStateRefs, IsGraphOver}
use Rattle.gste_engine.specs.private.Rounds.{AreEdgeResults, edges_work}
use Rattle.gste_engine.proofs.AllGiven.{ArePossibleOn, own_has, own_possible, own_sets, own_table}
use Rattle.gste_engine.proofs.StateRefs.{All-states-keep, States-keep}
use Rattle.gste_engine.proofs.rounds.evaluate_changed.Goals as goal

pub loop-i-init : goal.loop-i-init
loop-i-init g c =
    let s : Store = g.N.Nodes.store c.args.nodes.now in
    record {
      keeps = Keeps-refl s;
      edge_results = c.requires.known;
      so = λ states sets has possible. So-start (edges_work c.args.net.now.raw states sets c.args.graph.now.edges) s;
    }

pub loop-i-preserved : goal.loop-i-preserved
loop-i-preserved g c =
    let s : Store = g.N.Nodes.store c.args.nodes.now in
    let t : Store = g.N.Nodes.store c.loop-i.nodes in
    let u : Store = g.N.Nodes.store c.evaluate_from.new.nodes in
    let gs = g.met.N.Nodes.diagram c.args.nodes.now in
    let gt = g.met.N.Nodes.diagram c.loop-i.nodes in
    let gu = g.met.N.Nodes.diagram c.evaluate_from.new.nodes in
    let net : RawNet = c.args.net.now.raw in
    let graph : Graph = c.args.graph.now in
    let table : List State = c.args.table.now in
    let i = c.loop-i.i in
    let p = c.loop-i.invariant in
    let settled : IsSettled net = settled_by_order net c.args.net.now.settled c.args.net.now.in_order in
    let made : EdgeResults = c.in_ok-edge_results.edge_results in
    let Good : Store → EdgeResults → Type 0 = λ w r. AreEdgeResults w net graph table (drop (i + 1) c.args.changed.now) 0 (length graph.edges) r in
    let refs : All (AreStateRefs t net) table = All-states-keep s t net table p.keeps c.requires.table in
    let mine = c.in_ok-edge_results.ensures (own_table t net table gt refs) (own_sets t net table gt refs settled) (own_has t net table gt refs) (own_possible t net table gt refs settled graph.edges) in
    record {
      keeps = Keeps-trans s t u p.keeps mine.spends.keeps;
      edge_results = mine.ok;
      so = λ states sets has possible.
          let there : ArePossibleOn t.vars net states sets graph.edges = subst (λ v. ArePossibleOn v net states sets graph.edges) (sym p.keeps.vars) possible in
          more (edges_work net states sets graph.edges) Good s t u (Ok made) gt gu (p.so states sets has possible)
          (c.in_ok-edge_results.ensures states sets (States-keep states (length table) s t table gs gt p.keeps has) there);
    }

pub returns-in_err-edge_results : goal.returns-in_err-edge_results
returns-in_err-edge_results g c = λ states sets has possible.
    let s : Store = g.N.Nodes.store c.args.nodes.now in
    let t : Store = g.N.Nodes.store c.loop-i.nodes in
    let u : Store = g.N.Nodes.store c.evaluate_from.new.nodes in
    let gs = g.met.N.Nodes.diagram c.args.nodes.now in
    let gt = g.met.N.Nodes.diagram c.loop-i.nodes in
    let gu = g.met.N.Nodes.diagram c.evaluate_from.new.nodes in
    let net : RawNet = c.args.net.now.raw in
    let graph : Graph = c.args.graph.now in
    let table : List State = c.args.table.now in
    let i = c.loop-i.i in
    let p = c.loop-i.invariant in
    let Good : Store → EdgeResults → Type 0 = λ w r. AreEdgeResults w net graph table (drop (i + 1) c.args.changed.now) 0 (length graph.edges) r in
    let Last : Store → EdgeResults → Type 0 = λ w r. AreEdgeResults w net graph table [] 0 (length graph.edges) r in
    let there : ArePossibleOn t.vars net states sets graph.edges = subst (λ v. ArePossibleOn v net states sets graph.edges) (sym p.keeps.vars) possible in
    let fault = c.in_err-edge_results.field-0.0 in
    pass (edges_work net states sets graph.edges) Good Last s t u fault c.from_residual.result gt gu (p.so states sets has possible)
    (c.in_err-edge_results.ensures states sets (States-keep states (length table) s t table gs gt p.keeps has) there) c.from_residual.ensures.1

pub returns : goal.returns
returns g c = λ states sets has possible.
    let s : Store = g.N.Nodes.store c.args.nodes.now in
    let t : Store = g.N.Nodes.store c.loop-i.nodes in
    let net : RawNet = c.args.net.now.raw in
    let graph : Graph = c.args.graph.now in
    let table : List State = c.args.table.now in
    let i = c.loop-i.i in
    let p = c.loop-i.invariant in
    let Last : Store → EdgeResults → Type 0 = λ w r. AreEdgeResults w net graph table [] 0 (length graph.edges) r in
    let none : drop i c.args.changed.now ≡ [] = drop_all i c.args.changed.now (omega (arith, c.loop-i-test.false)) in
    Built-made (edges_work net states sets graph.edges) Last s t c.loop-i.edge_results (p.so states sets has possible)
    (subst (λ (xs : List ℕ). AreEdgeResults t net graph table xs 0 (length graph.edges) c.loop-i.edge_results) none p.edge_results)

pub evaluate_from-requires-clause-graph : goal.evaluate_from-requires-clause-graph
evaluate_from-requires-clause-graph g c = subst (λ v. IsGraphOver c.args.net.now.raw v c.args.graph.now) (sym c.loop-i.invariant.keeps.vars) c.requires.graph

pub evaluate_from-requires-clause-table : goal.evaluate_from-requires-clause-table
evaluate_from-requires-clause-table g c =
    All-states-keep (g.N.Nodes.store c.args.nodes.now) (g.N.Nodes.store c.loop-i.nodes) c.args.net.now.raw c.args.table.now c.loop-i.invariant.keeps c.requires.table

pub evaluate_from-requires-clause-known : goal.evaluate_from-requires-clause-known
evaluate_from-requires-clause-known g c = c.loop-i.invariant.edge_results
