use Rattle.std.proofs.Common.{ℕ, List, [], length, refl, subst, Result, Ok, Err}
use Rattle.ste_base.specs.Functions.{Function}
use Rattle.dd_nodes.specs.Stores.{Store}
use Rattle.dd_ops.specs.declared.fault.OpFault.{OpFault}
use Rattle.dual_rail.specs.Rail.{Built}
use Rattle.dual_rail.proofs.Works.{So-start, first, pass}
use Rattle.net_core.specs.declared.raw.RawNet.{RawNet}
use Rattle.net_core.specs.Work.{SymbolicSet}
use Rattle.ste_model.specs.declared.task.Edge.{Edge}
use Rattle.ste_model.specs.declared.task.Graph.{Graph}
use Rattle.ste_model.specs.GraphWork.{SymbolicState}
use Rattle.gste_engine.specs.declared.rounds.EdgeResults.{EdgeResults}
use Rattle.gste_engine.specs.declared.state.State.{State}
use Rattle.gste_engine.specs.Tables.{HasStates}
use Rattle.gste_engine.specs.private.Rounds.{AreEdgeResults, edges_work}
use Rattle.gste_engine.proofs.AllGiven.{ArePossibleOn}
use Rattle.gste_engine.proofs.StateRefs.{All-states-keep, States-keep}
use Rattle.gste_engine.specs.declared.rounds.Known.{Known}
use Rattle.gste_engine.specs.private.Rounds.{IsSettledOn}
use Rattle.gste_engine.proofs.RoundResults.{results_given, results_seen}
use Rattle.dual_rail.proofs.Works.{Built-made}
use Rattle.gste_engine.proofs.rounds.known_on.Goals as goal

-- what is promised of all edges
abbrev IsKnown : RawNet → Graph → List State → Store → EdgeResults → Type 0
IsKnown net graph table t edge_results = AreEdgeResults t net graph table [] 0 (length graph.edges) edge_results

abbrev GivesWave : RawNet → Graph → Store → Store → Result EdgeResults OpFault → List State → Type 0
GivesWave net graph s t result table = (states : ℕ → SymbolicState) (sets : Edge → ℕ → SymbolicSet) → HasStates states (length table) s table → ArePossibleOn s.vars net states sets graph.edges
    → Built (edges_work net states sets graph.edges) (IsKnown net graph table) s t result

pub returns-in_err-edge_results : goal.returns-in_err-edge_results
returns-in_err-edge_results g c = λ states sets has possible.
    let s : Store = g.N.Nodes.store c.args.nodes.now in
    let t : Store = g.N.Nodes.store c.evaluate_changed.new.nodes in
    let gs = g.met.N.Nodes.diagram c.args.nodes.now in
    let gt = g.met.N.Nodes.diagram c.evaluate_changed.new.nodes in
    let net : RawNet = c.args.net.now.raw in
    let graph : Graph = c.args.graph.now in
    let table : List State = c.args.last.table.items in
    let work : List Function = edges_work net states sets graph.edges in
    let here : HasStates states (length table) s table = record { long = refl; each = has.each } in
    let fault = c.in_err-edge_results.field-0.0 in
    let call : GivesWave net graph s t (Err fault) table = subst (GivesWave net graph s t (Err fault)) c.as_slice.ensures.value c.in_err-edge_results.ensures in
    pass work (IsKnown net graph table) (IsSettledOn net graph states) s s t fault c.from_residual.result gs gt (So-start work s) (call states sets here possible) c.from_residual.ensures.1

pub returns : goal.returns
returns g c = λ states sets has possible.
    let s : Store = g.N.Nodes.store c.args.nodes.now in
    let t : Store = g.N.Nodes.store c.evaluate_changed.new.nodes in
    let gs = g.met.N.Nodes.diagram c.args.nodes.now in
    let gt = g.met.N.Nodes.diagram c.evaluate_changed.new.nodes in
    let net : RawNet = c.args.net.now.raw in
    let graph : Graph = c.args.graph.now in
    let table : List State = c.args.last.table.items in
    let work : List Function = edges_work net states sets graph.edges in
    let here : HasStates states (length table) s table = record { long = refl; each = has.each } in
    let edge_results : EdgeResults = c.in_ok-edge_results.edge_results in
    let call : GivesWave net graph s t (Ok edge_results) table = subst (GivesWave net graph s t (Ok edge_results)) c.as_slice.ensures.value c.in_ok-edge_results.ensures in
    let a : Built work (IsKnown net graph table) s t (Ok edge_results) = call states sets here possible in
    let keeps = a.spends.keeps in
    let made : Known = record { table = c.args.last.table; givens = edge_results.givens; seen = edge_results.seen } in
    Built-made work (IsSettledOn net graph states) s t made (first work (IsKnown net graph table) s t (Ok edge_results) a)
    (record {
      has = record { long = has.long; each = (States-keep states (length table) s t table gs gt keeps here).each };
      refs = All-states-keep s t net table keeps c.requires.last.refs;
      given = results_given t net graph table edge_results a.ok;
      seen = results_seen t net graph table edge_results a.ok;
    })
