use Rattle.std.proofs.Common.{ℕ, List, length, sym, subst, Ok}
use Rattle.ste_base.specs.Functions.{Function}
use Rattle.dd_nodes.specs.Stores.{Store}
use Rattle.dual_rail.specs.Rail.{Built}
use Rattle.dual_rail.proofs.Works.{Built-made, So-start, first, pass}
use Rattle.net_core.specs.declared.raw.RawNet.{RawNet}
use Rattle.ste_model.specs.declared.task.Graph.{Graph}
use Rattle.ste_model.specs.GraphTable.{enough}
use Rattle.ste_model.specs.GraphWork.{SymbolicState}
use Rattle.gste_engine.specs.declared.rounds.Known.{Known}
use Rattle.gste_engine.specs.declared.state.State.{State}
use Rattle.gste_engine.specs.Tables.{HasStates, rounds_work}
use Rattle.gste_engine.specs.private.Rounds.{IsSettledOn}
use Rattle.gste_engine.proofs.rounds.settle.Goals as goal

abbrev HasLast : RawNet → Graph → (ℕ → ℕ → SymbolicState) → Store → List State → Type 0
HasLast net graph tables t rs = HasStates (tables (enough net graph)) (length graph.vertices) t rs

pub returns-in_err-last : goal.returns-in_err-last
returns-in_err-last g c = λ tables sets whole.
    let s : Store = g.N.Nodes.store c.args.nodes.now in
    let t : Store = g.N.Nodes.store c.settled_table.new.nodes in
    let gs = g.met.N.Nodes.diagram c.args.nodes.now in
    let gt = g.met.N.Nodes.diagram c.settled_table.new.nodes in
    let net : RawNet = c.args.net.now.raw in
    let graph : Graph = c.args.graph.now in
    let work : List Function = rounds_work net graph tables sets in
    let fault = c.in_err-last.field-0.0 in
    pass work (IsSettledOn net graph (tables (enough net graph))) (HasLast net graph tables) s s t fault c.from_residual.result gs gt (So-start work s) (c.in_err-last.ensures tables sets whole) c.from_residual.ensures.1

pub returns : goal.returns
returns g c = λ tables sets whole.
    let s : Store = g.N.Nodes.store c.args.nodes.now in
    let t : Store = g.N.Nodes.store c.settled_table.new.nodes in
    let gs = g.met.N.Nodes.diagram c.args.nodes.now in
    let gt = g.met.N.Nodes.diagram c.settled_table.new.nodes in
    let net : RawNet = c.args.net.now.raw in
    let graph : Graph = c.args.graph.now in
    let work : List Function = rounds_work net graph tables sets in
    let made : Known = c.in_ok-last.last in
    let a : Built work (IsSettledOn net graph (tables (enough net graph))) s t (Ok made) = c.in_ok-last.ensures tables sets whole in
    Built-made work (HasLast net graph tables) s t c.from.result (first work (IsSettledOn net graph (tables (enough net graph))) s t (Ok made) a)
    (subst (λ (rs : List State). HasLast net graph tables t rs) (sym {A = List State} c.from.ensures) a.ok.has)
