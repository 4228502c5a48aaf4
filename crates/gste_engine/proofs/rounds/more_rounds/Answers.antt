use Rattle.std.proofs.Common.{◌≡◌, ◌+◌, ◌<◌, suc, List, length, sym, ◌∙◌, subst, arith, rules, Ok, Err}
use Rattle.std.specs.Prelude.{vec_len}
use Rattle.std.proofs.lemmas.Bool.{eqb-true}
use Rattle.ste_base.specs.Functions.{Function}
use Rattle.dd_nodes.specs.Stores.{Store}
use Rattle.dd_nodes.proofs.Stores.{Keeps-refl, Keeps-trans}
use Rattle.dual_rail.proofs.Works.{Built-made, So-start, first, pass}
use Rattle.net_core.specs.declared.raw.RawNet.{RawNet}
use Rattle.net_core.specs.Run.{IsSettled}
use Rattle.net_core.proofs.Ordered.{settled_by_order}
use Rattle.ste_model.specs.declared.task.Graph.{Graph}
use Rattle.ste_model.specs.GraphTable.{enough}
use Rattle.gste_engine.specs.declared.rounds.Progress.{Progress}
use Rattle.gste_engine.specs.declared.state.State.{State}
use Rattle.gste_engine.specs.Tables.{HasStates, IsGraphOver, rounds_work}
use Rattle.gste_engine.specs.private.Rounds.{IsProgress}
use Rattle.gste_engine.proofs.AllGiven.{own_has, own_possible, own_sets, own_table}
use Rattle.gste_engine.proofs.NextTables.{GivesNext, IsTurnAt, round_turn}
use Rattle.gste_engine.proofs.RoundEnds.{settled_here}
use Rattle.gste_engine.proofs.rounds.more_rounds.Goals as goal

pub loop-init : goal.loop-init
loop-init g c =
    let s : Store = g.N.Nodes.store c.args.nodes.now in
    record {
      keeps = Keeps-refl s;
      between = c.requires.start;
      so = λ tables sets n whole most has. record { so = So-start (rounds_work c.args.net.now.raw c.args.graph.now tables sets) s; has = subst (λ m. HasStates (tables m) (length c.args.graph.now.vertices) s c.args.start.table.items) (let e : n ≡ n + 0 = omega arith in e) has };
    }

pub loop-preserved : goal.loop-preserved
loop-preserved g c =
    let s : Store = g.N.Nodes.store c.args.nodes.now in
    let t : Store = g.N.Nodes.store c.loop.nodes in
    let gt = g.met.N.Nodes.diagram c.loop.nodes in
    let net : RawNet = c.args.net.now.raw in
    let graph : Graph = c.args.graph.now in
    let settled : IsSettled net = settled_by_order net c.args.net.now.settled c.args.net.now.in_order in
    let table : List State = c.loop.progress.table.items in
    let k = c.loop.counter in
    let p = c.loop.invariant in
    let refs = p.between.refs in
    let u : Store = g.N.Nodes.store c.round.new.nodes in
    let gu = g.met.N.Nodes.diagram c.round.new.nodes in
    let turn : Progress = c.in_ok-progress.progress in
    let call : GivesNext net graph table t u (Ok turn) = c.in_ok-progress.ensures in
    let mine = call (own_table t net table gt refs) (own_sets t net table gt refs settled) (record { long = p.between.long; each = (own_has t net table gt refs).each }) (own_possible t net table gt refs settled graph.edges) in
    let keeps = mine.spends.keeps in
    record {
      keeps = Keeps-trans s t u p.keeps keeps;
      between = mine.ok.between;
      so = λ tables sets n whole most has.
          let q = p.so tables sets n whole most has in
          let work : List Function = rounds_work net graph tables sets in
          let b = round_turn net graph tables sets s t u (n + k) table (Ok turn) settled gt gu whole (omega (arith, most, c.loop-test.true)) p.keeps q call in
          record {
            so = first work (IsTurnAt net graph tables (suc (n + k))) s u (Ok turn) b;
            has = subst (λ m. HasStates (tables m) (length graph.vertices) u turn.table.items) (let e : suc (n + k) ≡ n + (k + 1) = omega arith in e) b.ok.has;
          };
    }

pub returns-in_err-progress : goal.returns-in_err-progress
returns-in_err-progress g c = λ tables sets n whole most has.
    let s : Store = g.N.Nodes.store c.args.nodes.now in
    let t : Store = g.N.Nodes.store c.loop.nodes in
    let gs = g.met.N.Nodes.diagram c.args.nodes.now in
    let gt = g.met.N.Nodes.diagram c.loop.nodes in
    let net : RawNet = c.args.net.now.raw in
    let graph : Graph = c.args.graph.now in
    let settled : IsSettled net = settled_by_order net c.args.net.now.settled c.args.net.now.in_order in
    let table : List State = c.loop.progress.table.items in
    let k = c.loop.counter in
    let p = c.loop.invariant in
    let u : Store = g.N.Nodes.store c.round.new.nodes in
    let gu = g.met.N.Nodes.diagram c.round.new.nodes in
    let q = p.so tables sets n whole most has in
    let work : List Function = rounds_work net graph tables sets in
    let below : n + k < suc (enough net graph) = omega (arith, most, c.loop-test.true) in
    let fault = c.in_err-progress.field-0.0 in
    let call : GivesNext net graph table t u (Err fault) = c.in_err-progress.ensures in
    pass work (IsTurnAt net graph tables (suc (n + k))) (IsProgress net graph tables (n + c.args.count)) s s u fault c.from_residual.result gs gu (So-start work s)
    (round_turn net graph tables sets s t u (n + k) table (Err fault) settled gt gu whole below p.keeps q call) c.from_residual.ensures.1

pub returns-then-is_empty : goal.returns-then-is_empty
returns-then-is_empty g c = λ tables sets n whole most has.
    let s : Store = g.N.Nodes.store c.args.nodes.now in
    let t : Store = g.N.Nodes.store c.loop.nodes in
    let net : RawNet = c.args.net.now.raw in
    let graph : Graph = c.args.graph.now in
    let settled : IsSettled net = settled_by_order net c.args.net.now.settled c.args.net.now.in_order in
    let p = c.loop.invariant in
    let q = p.so tables sets n whole most has in
    let work : List Function = rounds_work net graph tables sets in
    let over : IsGraphOver net t.vars graph = subst (λ v. IsGraphOver net v graph) (sym p.keeps.vars) c.requires.graph in
    let view : vec_len c.loop.progress.changed ≡ length c.loop.progress.changed.items = search rules in
    let none : length c.loop.progress.changed.items ≡ 0 = sym view ∙ eqb-true (vec_len c.loop.progress.changed) 0 (sym c.is_empty.ensures ∙ c.if-is_empty.true) in
    Built-made work (IsProgress net graph tables (n + c.args.count)) s t c.loop.progress q.so
    (record { between = p.between; more = λ some. absurd (omega (arith, none, some)); done = λ e. settled_here net s.vars graph tables sets t (n + c.loop.counter) c.loop.progress settled whole p.keeps.vars over p.between e q.has })

pub returns : goal.returns
returns g c = λ tables sets n whole most has.
    let s : Store = g.N.Nodes.store c.args.nodes.now in
    let t : Store = g.N.Nodes.store c.loop.nodes in
    let net : RawNet = c.args.net.now.raw in
    let graph : Graph = c.args.graph.now in
    let settled : IsSettled net = settled_by_order net c.args.net.now.settled c.args.net.now.in_order in
    let k = c.loop.counter in
    let p = c.loop.invariant in
    let q = p.so tables sets n whole most has in
    let work : List Function = rounds_work net graph tables sets in
    let over : IsGraphOver net t.vars graph = subst (λ v. IsGraphOver net v graph) (sym p.keeps.vars) c.requires.graph in
    let end : k ≡ c.args.count = (let le = c.loop-test.false in let at = c.loop.auto.counter-end in omega (arith, le, at)) in
    Built-made work (IsProgress net graph tables (n + c.args.count)) s t c.loop.progress q.so
    (record { between = p.between; more = λ some. subst (λ m. HasStates (tables (n + m)) (length graph.vertices) t c.loop.progress.table.items) end q.has; done = λ e. settled_here net s.vars graph tables sets t (n + k) c.loop.progress settled whole p.keeps.vars over p.between e q.has })

pub round-requires-clause-graph : goal.round-requires-clause-graph
round-requires-clause-graph g c = subst (λ v. IsGraphOver c.args.net.now.raw v c.args.graph.now) (sym c.loop.invariant.keeps.vars) c.requires.graph

pub round-requires-clause-start : goal.round-requires-clause-start
round-requires-clause-start g c = c.loop.invariant.between
