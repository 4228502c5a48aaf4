use Rattle.std.proofs.Common.{ℕ, List, sym, subst, arith, Ok}
use Rattle.ste_base.specs.Functions.{Function}
use Rattle.dd_nodes.specs.Stores.{Store}
use Rattle.dual_rail.specs.Rail.{Built}
use Rattle.dual_rail.proofs.Works.{Built-wider, So-start, Within, first, last, lost, pass}
use Rattle.net_core.specs.declared.raw.RawNet.{RawNet}
use Rattle.net_core.specs.Run.{IsSettled}
use Rattle.net_core.proofs.Ordered.{settled_by_order}
use Rattle.ste_model.specs.declared.task.Graph.{Graph}
use Rattle.ste_model.specs.GraphTable.{enough}
use Rattle.gste_engine.specs.declared.rounds.Progress.{Progress}
use Rattle.gste_engine.specs.Tables.{IsGraphOver, rounds_work}
use Rattle.gste_engine.specs.private.Rounds.{IsLast, IsSettledOn, edges_work}
use Rattle.gste_engine.proofs.AllGiven.{ArePossibleOn}
use Rattle.gste_engine.proofs.NextTables.{possible_each}
use Rattle.gste_engine.proofs.RoundEnds.{starts_between, starts_first}
use Rattle.gste_engine.proofs.RoundParts.{edges_in, round_in}
use Rattle.gste_engine.proofs.Starts.{whole_exists}
use Rattle.gste_engine.proofs.rounds.settled_table.Goals as goal

pub returns-in_err-ends : goal.returns-in_err-ends
returns-in_err-ends g c = λ tables sets whole.
    let s : Store = g.N.Nodes.store c.args.nodes.now in
    lost (rounds_work c.args.net.now.raw c.args.graph.now tables sets) (IsSettledOn c.args.net.now.raw c.args.graph.now (tables (enough c.args.net.now.raw c.args.graph.now))) s s c.from_residual.result
    (So-start (rounds_work c.args.net.now.raw c.args.graph.now tables sets) s) c.from_residual.ensures.1

pub returns-in_err-start : goal.returns-in_err-start
returns-in_err-start g c = λ tables sets whole.
    let s : Store = g.N.Nodes.store c.args.nodes.now in
    lost (rounds_work c.args.net.now.raw c.args.graph.now tables sets) (IsSettledOn c.args.net.now.raw c.args.graph.now (tables (enough c.args.net.now.raw c.args.graph.now))) s s c.from_residual-in_err-start.result
    (So-start (rounds_work c.args.net.now.raw c.args.graph.now tables sets) s) c.from_residual-in_err-start.ensures.1

pub returns-in_err-last : goal.returns-in_err-last
returns-in_err-last g c = λ tables sets whole.
    let s : Store = g.N.Nodes.store c.args.nodes.now in
    let t : Store = g.N.Nodes.store c.all_rounds.new.nodes in
    let gs = g.met.N.Nodes.diagram c.args.nodes.now in
    let gt = g.met.N.Nodes.diagram c.all_rounds.new.nodes in
    let net : RawNet = c.args.net.now.raw in
    let graph : Graph = c.args.graph.now in
    let work : List Function = rounds_work net graph tables sets in
    let fault = c.in_err-last.field-0.0 in
    pass work (IsLast net graph (tables (enough net graph))) (IsSettledOn net graph (tables (enough net graph))) s s t fault c.from_residual-in_err-last.result gs gt (So-start work s) (c.in_err-last.ensures tables sets whole) c.from_residual-in_err-last.ensures.1

pub returns : goal.returns
returns g c = λ tables sets whole.
    let s : Store = g.N.Nodes.store c.args.nodes.now in
    let t : Store = g.N.Nodes.store c.all_rounds.new.nodes in
    let gs = g.met.N.Nodes.diagram c.args.nodes.now in
    let gt = g.met.N.Nodes.diagram c.all_rounds.new.nodes in
    let net : RawNet = c.args.net.now.raw in
    let graph : Graph = c.args.graph.now in
    let u : Store = g.N.Nodes.store c.known_on.new.nodes in
    let gu = g.met.N.Nodes.diagram c.known_on.new.nodes in
    let N : ℕ = enough net graph in
    let work : List Function = rounds_work net graph tables sets in
    let end : Progress = c.in_ok-last.last in
    let a : Built work (IsLast net graph (tables N)) s t (Ok end) = c.in_ok-last.ensures tables sets whole in
    let part : List Function = edges_work net (tables N) (sets N) graph.edges in
    let within : Within part work = λ f h. round_in net graph tables sets N (omega arith) f (edges_in net graph (tables N) (sets N) f h) in
    let possible : ArePossibleOn t.vars net (tables N) (sets N) graph.edges = subst (λ v. ArePossibleOn v net (tables N) (sets N) graph.edges) (sym a.spends.keeps.vars) (possible_each net s.vars graph tables sets whole N) in
    last work (IsSettledOn net graph (tables N)) s t u c.known_on.result gt gu (first work (IsLast net graph (tables N)) s t (Ok end) a)
    (Built-wider work part (IsSettledOn net graph (tables N)) t u c.known_on.result within (c.known_on.ensures (tables N) (sets N) a.ok.has possible))

pub ends_of-requires-clause-from : goal.ends_of-requires-clause-from
ends_of-requires-clause-from g c = λ k d lt. (c.requires.graph.edges k d lt).start

pub all_rounds-requires-clause-start : goal.all_rounds-requires-clause-start
all_rounds-requires-clause-start g c =
    let s : Store = g.N.Nodes.store c.args.nodes.now in
    let gs = g.met.N.Nodes.diagram c.args.nodes.now in
    let net : RawNet = c.args.net.now.raw in
    let settled : IsSettled net = settled_by_order net c.args.net.now.settled c.args.net.now.in_order in
    starts_between s net c.args.graph.now c.in_ok-start.start settled gs c.requires.graph c.in_ok-start.ensures

pub all_rounds-requires-clause-first : goal.all_rounds-requires-clause-first
all_rounds-requires-clause-first g c = λ tables sets whole.
    let s : Store = g.N.Nodes.store c.args.nodes.now in
    let gs = g.met.N.Nodes.diagram c.args.nodes.now in
    let net : RawNet = c.args.net.now.raw in
    let settled : IsSettled net = settled_by_order net c.args.net.now.settled c.args.net.now.in_order in
    starts_first s net c.args.graph.now c.in_ok-start.start settled gs c.requires.graph c.in_ok-start.ensures tables sets whole

pub known_on-requires-clause-graph : goal.known_on-requires-clause-graph
known_on-requires-clause-graph g c =
    let s : Store = g.N.Nodes.store c.args.nodes.now in
    let t : Store = g.N.Nodes.store c.all_rounds.new.nodes in
    let gs = g.met.N.Nodes.diagram c.args.nodes.now in
    let gt = g.met.N.Nodes.diagram c.all_rounds.new.nodes in
    let net : RawNet = c.args.net.now.raw in
    let graph : Graph = c.args.graph.now in
    let settled : IsSettled net = settled_by_order net c.args.net.now.settled c.args.net.now.in_order in
    let w = whole_exists net s.vars graph settled in
    let mine = c.in_ok-last.ensures w.0 w.1 w.2 in
    subst (λ v. IsGraphOver net v graph) (sym mine.spends.keeps.vars) c.requires.graph

pub known_on-requires-clause-last : goal.known_on-requires-clause-last
known_on-requires-clause-last g c =
    let s : Store = g.N.Nodes.store c.args.nodes.now in
    let t : Store = g.N.Nodes.store c.all_rounds.new.nodes in
    let gs = g.met.N.Nodes.diagram c.args.nodes.now in
    let gt = g.met.N.Nodes.diagram c.all_rounds.new.nodes in
    let net : RawNet = c.args.net.now.raw in
    let graph : Graph = c.args.graph.now in
    let settled : IsSettled net = settled_by_order net c.args.net.now.settled c.args.net.now.in_order in
    let w = whole_exists net s.vars graph settled in
    let mine = c.in_ok-last.ensures w.0 w.1 w.2 in
    mine.ok.between
