use Rattle.std.proofs.Common.{ℕ, List, [], length, refl, sym, subst, All, Result, Ok, Err}
use Rattle.ste_base.specs.Functions.{Function}
use Rattle.dd_nodes.specs.Stores.{Store}
use Rattle.dd_ops.specs.declared.fault.OpFault.{OpFault}
use Rattle.dual_rail.specs.Rail.{Built}
use Rattle.dual_rail.proofs.Works.{Built-wider, So-start, first, last, pass}
use Rattle.net_core.specs.declared.raw.RawNet.{RawNet}
use Rattle.net_core.specs.Run.{IsSettled}
use Rattle.net_core.specs.Work.{SymbolicSet}
use Rattle.net_core.proofs.Ordered.{settled_by_order}
use Rattle.ste_model.specs.declared.task.Edge.{Edge}
use Rattle.ste_model.specs.declared.task.Graph.{Graph}
use Rattle.ste_model.specs.GraphWork.{SymbolicState}
use Rattle.gste_engine.specs.declared.rounds.EdgeResults.{EdgeResults}
use Rattle.gste_engine.specs.declared.state.State.{State}
use Rattle.gste_engine.specs.Tables.{AreStateRefs, HasStates, IsGraphOver}
use Rattle.gste_engine.specs.private.Rounds.{IsTurn, AreEdgeResults, edges_work, one_round_work}
use Rattle.gste_engine.specs.private.Sums.{arrivals_work}
use Rattle.gste_engine.proofs.AllGiven.{ArePossibleOn, given_of, own_has, own_possible, own_sets, own_table}
use Rattle.gste_engine.proofs.RoundParts.{arrivals_in, edges_in}
use Rattle.gste_engine.proofs.StateRefs.{All-states-keep, States-keep}
use Rattle.gste_engine.proofs.rounds.round.Goals as goal

-- what is promised of all edges
abbrev IsKnown : RawNet → Graph → List State → Store → EdgeResults → Type 0
IsKnown net graph table t edge_results = AreEdgeResults t net graph table [] 0 (length graph.edges) edge_results

abbrev GivesWave : RawNet → Graph → Store → Store → Result EdgeResults OpFault → List State → Type 0
GivesWave net graph s t result table = (states : ℕ → SymbolicState) (sets : Edge → ℕ → SymbolicSet) → HasStates states (length table) s table → ArePossibleOn s.vars net states sets graph.edges
    → Built (edges_work net states sets graph.edges) (IsKnown net graph table) s t result

pub returns-in_err-edge_results : goal.returns-in_err-edge_results
returns-in_err-edge_results g c = λ states sets has possible.
    let s : Store = g.N.Nodes.store c.args.nodes.now in
    let t : Store = g.N.Nodes.store c.evaluate_changed.new.nodes in
    let gs = g.met.N.Nodes.diagram c.args.nodes.now in
    let gt = g.met.N.Nodes.diagram c.evaluate_changed.new.nodes in
    let net : RawNet = c.args.net.now.raw in
    let graph : Graph = c.args.graph.now in
    let table : List State = c.args.start.table.items in
    let work : List Function = one_round_work net graph states sets in
    let here : HasStates states (length table) s table = record { long = refl; each = has.each } in
    let fault = c.in_err-edge_results.field-0.0 in
    let call : GivesWave net graph s t (Err fault) table = subst (GivesWave net graph s t (Err fault)) c.as_slice.ensures.value c.in_err-edge_results.ensures in
    pass work (IsKnown net graph table) (IsTurn net graph states sets) s s t fault c.from_residual.result gs gt (So-start work s)
    (Built-wider work (edges_work net states sets graph.edges) (IsKnown net graph table) s t (Err fault) (edges_in net graph states sets) (call states sets here possible)) c.from_residual.ensures.1

pub returns : goal.returns
returns g c = λ states sets has possible.
    let s : Store = g.N.Nodes.store c.args.nodes.now in
    let t : Store = g.N.Nodes.store c.evaluate_changed.new.nodes in
    let gs = g.met.N.Nodes.diagram c.args.nodes.now in
    let gt = g.met.N.Nodes.diagram c.evaluate_changed.new.nodes in
    let net : RawNet = c.args.net.now.raw in
    let graph : Graph = c.args.graph.now in
    let table : List State = c.args.start.table.items in
    let work : List Function = one_round_work net graph states sets in
    let here : HasStates states (length table) s table = record { long = refl; each = has.each } in
    let edge_results : EdgeResults = c.in_ok-edge_results.edge_results in
    let call : GivesWave net graph s t (Ok edge_results) table = subst (GivesWave net graph s t (Ok edge_results)) c.as_slice.ensures.value c.in_ok-edge_results.ensures in
    let a : Built work (IsKnown net graph table) s t (Ok edge_results) = Built-wider work (edges_work net states sets graph.edges) (IsKnown net graph table) s t (Ok edge_results) (edges_in net graph states sets) (call states sets here possible) in
    let keeps = a.spends.keeps in
    let u : Store = g.N.Nodes.store c.next_progress.new.nodes in
    let gu = g.met.N.Nodes.diagram c.next_progress.new.nodes in
    let part : List Function = arrivals_work net graph (given_of net states sets) in
    last work (IsTurn net graph states sets) s t u c.next_progress.result gt gu (first work (IsKnown net graph table) s t (Ok edge_results) a)
    (Built-wider work part (IsTurn net graph states sets) t u c.next_progress.result (arrivals_in net graph states sets)
    (c.next_progress.ensures states sets (record { long = has.long; each = (States-keep states (length table) s t table gs gt keeps here).each }) (subst (λ v. ArePossibleOn v net states sets graph.edges) (sym keeps.vars) possible)))

pub next_progress-requires-clause-graph : goal.next_progress-requires-clause-graph
next_progress-requires-clause-graph g c =
    let s : Store = g.N.Nodes.store c.args.nodes.now in
    let t : Store = g.N.Nodes.store c.evaluate_changed.new.nodes in
    let gs = g.met.N.Nodes.diagram c.args.nodes.now in
    let gt = g.met.N.Nodes.diagram c.evaluate_changed.new.nodes in
    let net : RawNet = c.args.net.now.raw in
    let graph : Graph = c.args.graph.now in
    let table : List State = c.args.start.table.items in
    let settled : IsSettled net = settled_by_order net c.args.net.now.settled c.args.net.now.in_order in
    let refs : All (AreStateRefs s net) table = c.requires.start.refs in
    let edge_results : EdgeResults = c.in_ok-edge_results.edge_results in
    let call : GivesWave net graph s t (Ok edge_results) table = subst (GivesWave net graph s t (Ok edge_results)) c.as_slice.ensures.value c.in_ok-edge_results.ensures in
    let mine = call (own_table s net table gs refs) (own_sets s net table gs refs settled) (own_has s net table gs refs) (own_possible s net table gs refs settled graph.edges) in
    subst (λ v. IsGraphOver net v graph) (sym mine.spends.keeps.vars) c.requires.graph

pub next_progress-requires-clause-table : goal.next_progress-requires-clause-table
next_progress-requires-clause-table g c =
    let s : Store = g.N.Nodes.store c.args.nodes.now in
    let t : Store = g.N.Nodes.store c.evaluate_changed.new.nodes in
    let gs = g.met.N.Nodes.diagram c.args.nodes.now in
    let gt = g.met.N.Nodes.diagram c.evaluate_changed.new.nodes in
    let net : RawNet = c.args.net.now.raw in
    let graph : Graph = c.args.graph.now in
    let table : List State = c.args.start.table.items in
    let settled : IsSettled net = settled_by_order net c.args.net.now.settled c.args.net.now.in_order in
    let refs : All (AreStateRefs s net) table = c.requires.start.refs in
    let edge_results : EdgeResults = c.in_ok-edge_results.edge_results in
    let call : GivesWave net graph s t (Ok edge_results) table = subst (GivesWave net graph s t (Ok edge_results)) c.as_slice.ensures.value c.in_ok-edge_results.ensures in
    let mine = call (own_table s net table gs refs) (own_sets s net table gs refs settled) (own_has s net table gs refs) (own_possible s net table gs refs settled graph.edges) in
    All-states-keep s t net table mine.spends.keeps refs

pub next_progress-requires-clause-known : goal.next_progress-requires-clause-known
next_progress-requires-clause-known g c =
    let s : Store = g.N.Nodes.store c.args.nodes.now in
    let t : Store = g.N.Nodes.store c.evaluate_changed.new.nodes in
    let gs = g.met.N.Nodes.diagram c.args.nodes.now in
    let gt = g.met.N.Nodes.diagram c.evaluate_changed.new.nodes in
    let net : RawNet = c.args.net.now.raw in
    let graph : Graph = c.args.graph.now in
    let table : List State = c.args.start.table.items in
    let settled : IsSettled net = settled_by_order net c.args.net.now.settled c.args.net.now.in_order in
    let refs : All (AreStateRefs s net) table = c.requires.start.refs in
    let edge_results : EdgeResults = c.in_ok-edge_results.edge_results in
    let call : GivesWave net graph s t (Ok edge_results) table = subst (GivesWave net graph s t (Ok edge_results)) c.as_slice.ensures.value c.in_ok-edge_results.ensures in
    let mine = call (own_table s net table gs refs) (own_sets s net table gs refs settled) (own_has s net table gs refs) (own_possible s net table gs refs settled graph.edges) in
    mine.ok
