use Rattle.std.proofs.Common.{◌≡◌, List, [], length, refl, sym, subst, Result, Ok, Err}
use Rattle.std.specs.List.{AllZip}
use Rattle.ste_base.specs.Functions.{Function}
use Rattle.dd_nodes.specs.Stores.{Store}
use Rattle.dd_ops.specs.declared.fault.OpFault.{OpFault}
use Rattle.dual_rail.specs.Rail.{Built}
use Rattle.dual_rail.proofs.Works.{Built-made, So-start, first, pass}
use Rattle.net_core.specs.declared.raw.RawNet.{RawNet}
use Rattle.net_core.specs.Run.{IsSettled}
use Rattle.net_core.proofs.Ordered.{settled_by_order}
use Rattle.ste_model.specs.declared.task.Edge.{Edge}
use Rattle.ste_model.specs.declared.task.Graph.{Graph}
use Rattle.ste_model.specs.GraphWork.{SymbolicState}
use Rattle.gste_engine.specs.declared.rounds.Progress.{Progress}
use Rattle.gste_engine.specs.declared.rounds.Sweep.{Sweep}
use Rattle.gste_engine.specs.declared.rounds.EdgeResults.{EdgeResults}
use Rattle.gste_engine.specs.declared.state.State.{State}
use Rattle.gste_engine.specs.Tables.{AreEdgesOver, HasStates, IsState}
use Rattle.gste_engine.specs.private.Rounds.{AreGivenFrom, IsSwept, IsTurn}
use Rattle.gste_engine.specs.private.Sums.{HaveFunctions, arrivals_work}
use Rattle.gste_engine.proofs.AllGiven.{ArePossibleOn, given_of}
use Rattle.gste_engine.proofs.KeptGivens.{Givens-keep, givens_zip}
use Rattle.gste_engine.proofs.RoundEnds.{given_functions, turn_between, turn_has}
use Rattle.gste_engine.proofs.StateRefs.{States-keep}
use Rattle.gste_engine.proofs.RoundResults.{results_given, results_seen}
use Rattle.gste_engine.proofs.rounds.next_progress.Goals as goal

-- what is promised of all vertices that wait
abbrev IsDone : RawNet → Graph → List State → List State → Store → Sweep → Type 0
IsDone net graph table givens t sweep = IsSwept t net graph givens table [] sweep

abbrev GivesSweep : RawNet → Graph → List State → Store → Store → Result Sweep OpFault → List State → Type 0
GivesSweep net graph table t u result givens = (given : Edge → SymbolicState) → AllZip (λ edge r. IsState t (given edge) r) graph.edges givens → Built (arrivals_work net graph given) (IsDone net graph table givens) t u result

pub returns-in_err-sweep : goal.returns-in_err-sweep
returns-in_err-sweep g c = λ states sets has possible.
    let s : Store = g.N.Nodes.store c.args.nodes.now in
    let gs = g.met.N.Nodes.diagram c.args.nodes.now in
    let net : RawNet = c.args.net.now.raw in
    let graph : Graph = c.args.graph.now in
    let table : List State = c.args.table.items in
    let settled : IsSettled net = settled_by_order net c.args.net.now.settled c.args.net.now.in_order in
    let edge_results : EdgeResults = c.args.edge_results in
    let givens : List State = edge_results.givens.items in
    let known : AreGivenFrom s net graph.edges table givens = results_given s net graph table edge_results c.requires.known in
    let over : AreEdgesOver net s.vars (length graph.vertices) graph.edges = c.requires.graph.edges in
    let long : length table ≡ length graph.vertices = c.requires.long in
    let u : Store = g.N.Nodes.store c.sum_waiting.new.nodes in
    let gu = g.met.N.Nodes.diagram c.sum_waiting.new.nodes in
    let work : List Function = arrivals_work net graph (given_of net states sets) in
    let here : HasStates states (length table) s table = record { long = refl; each = has.each } in
    let zip : AllZip (λ edge r. IsState s (given_of net states sets edge) r) graph.edges givens = givens_zip s net graph.edges table givens states sets settled (subst (λ n. AreEdgesOver net s.vars n graph.edges) (sym long) over) here possible known in
    let fault = c.in_err-sweep.field-0.0 in
    let call : GivesSweep net graph table s u (Err fault) givens = subst (GivesSweep net graph table s u (Err fault)) c.as_slice.ensures.value c.in_err-sweep.ensures in
    pass work (IsDone net graph table givens) (IsTurn net graph states sets) s s u fault c.from_residual.result gs gu (So-start work s) (call (given_of net states sets) zip) c.from_residual.ensures.1

pub returns : goal.returns
returns g c = λ states sets has possible.
    let s : Store = g.N.Nodes.store c.args.nodes.now in
    let gs = g.met.N.Nodes.diagram c.args.nodes.now in
    let net : RawNet = c.args.net.now.raw in
    let graph : Graph = c.args.graph.now in
    let table : List State = c.args.table.items in
    let settled : IsSettled net = settled_by_order net c.args.net.now.settled c.args.net.now.in_order in
    let edge_results : EdgeResults = c.args.edge_results in
    let givens : List State = edge_results.givens.items in
    let known : AreGivenFrom s net graph.edges table givens = results_given s net graph table edge_results c.requires.known in
    let over : AreEdgesOver net s.vars (length graph.vertices) graph.edges = c.requires.graph.edges in
    let long : length table ≡ length graph.vertices = c.requires.long in
    let u : Store = g.N.Nodes.store c.sum_waiting.new.nodes in
    let gu = g.met.N.Nodes.diagram c.sum_waiting.new.nodes in
    let work : List Function = arrivals_work net graph (given_of net states sets) in
    let here : HasStates states (length table) s table = record { long = refl; each = has.each } in
    let zip : AllZip (λ edge r. IsState s (given_of net states sets edge) r) graph.edges givens = givens_zip s net graph.edges table givens states sets settled (subst (λ n. AreEdgesOver net s.vars n graph.edges) (sym long) over) here possible known in
    let sweep : Sweep = c.in_ok-sweep.sweep in
    let call : GivesSweep net graph table s u (Ok sweep) givens = subst (GivesSweep net graph table s u (Ok sweep)) c.as_slice.ensures.value c.in_ok-sweep.ensures in
    let b : Built work (IsDone net graph table givens) s u (Ok sweep) = call (given_of net states sets) zip in
    let keeps = b.spends.keeps in
    let made : Progress = record { table = sweep.table; givens = edge_results.givens; seen = edge_results.seen; changed = sweep.changed; flags = sweep.flags; frame = edge_results.frame } in
    Built-made work (IsTurn net graph states sets) s u made (first work (IsDone net graph table givens) s u (Ok sweep) b)
    (record {
      between = turn_between net graph table long s u edge_results sweep gs gu keeps over known (results_seen s net graph table edge_results c.requires.known) c.args.net.now.in_range c.requires.known.frame b.ok;
      has = turn_has net graph table long u givens sweep states sets settled (subst (λ v. AreEdgesOver net v (length graph.vertices) graph.edges) (sym keeps.vars) over)
          (record { long = long; each = (States-keep states (length table) s u table gs gu keeps here).each }) (subst (λ v. ArePossibleOn v net states sets graph.edges) (sym keeps.vars) possible) (Givens-keep s u net graph.edges table givens gs gu keeps known) b.ok;
    })

pub sum_waiting-requires-clause-givens : goal.sum_waiting-requires-clause-givens
sum_waiting-requires-clause-givens g c =
    let s : Store = g.N.Nodes.store c.args.nodes.now in
    let gs = g.met.N.Nodes.diagram c.args.nodes.now in
    let net : RawNet = c.args.net.now.raw in
    let graph : Graph = c.args.graph.now in
    let table : List State = c.args.table.items in
    let settled : IsSettled net = settled_by_order net c.args.net.now.settled c.args.net.now.in_order in
    let edge_results : EdgeResults = c.args.edge_results in
    let givens : List State = edge_results.givens.items in
    let known : AreGivenFrom s net graph.edges table givens = results_given s net graph table edge_results c.requires.known in
    let over : AreEdgesOver net s.vars (length graph.vertices) graph.edges = c.requires.graph.edges in
    let long : length table ≡ length graph.vertices = c.requires.long in
    subst (λ (xs : List State). HaveFunctions s net graph.edges xs) (sym c.as_slice.ensures.value) (given_functions net graph table long s givens settled gs over c.requires.table known)
