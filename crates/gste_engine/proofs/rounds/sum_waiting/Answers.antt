use Rattle.std.proofs.Common.{◌≡◌, ℕ, List, [], drop, get_or, refl, subst, arith, Ok}
use Rattle.std.proofs.lemmas.List.{drop_all}
use Rattle.dd_nodes.specs.Stores.{Store}
use Rattle.dd_nodes.proofs.Stores.{Keeps-refl, Keeps-trans}
use Rattle.dual_rail.specs.Rail.{Built}
use Rattle.dual_rail.proofs.Works.{Built-made, So-start, lost, more, pass}
use Rattle.net_core.specs.declared.raw.RawNet.{RawNet}
use Rattle.ste_model.specs.declared.task.Graph.{Graph}
use Rattle.gste_engine.specs.declared.rounds.Sweep.{Sweep}
use Rattle.gste_engine.specs.declared.state.State.{State}
use Rattle.gste_engine.specs.Tables.{AreStateRefs, IsState}
use Rattle.gste_engine.specs.private.Rounds.{IsSwept}
use Rattle.gste_engine.specs.private.Sums.{HaveFunctions, IsSumOf, arrivals_work, summed_at}
use Rattle.gste_engine.proofs.StateRefs.{state_refs}
use Rattle.gste_engine.proofs.SumsStay.{sum_made}
use Rattle.gste_engine.proofs.Sweeps.{Are-keep, Have-keeps, have_long, swept_turn}
use Rattle.gste_engine.proofs.rounds.sum_waiting.Goals as goal

pub loop-i-init : goal.loop-i-init
loop-i-init g c =
    let s : Store = g.N.Nodes.store c.args.nodes.now in
    record {
      keeps = Keeps-refl s;
      swept = c.requires.start;
      so = λ given zip. So-start (arrivals_work c.args.net.now.raw c.args.graph.now given) s;
    }

pub loop-i-preserved : goal.loop-i-preserved
loop-i-preserved g c =
    let s : Store = g.N.Nodes.store c.args.nodes.now in
    let t : Store = g.N.Nodes.store c.loop-i.nodes in
    let u : Store = g.N.Nodes.store c.sum_of.new.nodes in
    let gs = g.met.N.Nodes.diagram c.args.nodes.now in
    let gt = g.met.N.Nodes.diagram c.loop-i.nodes in
    let gu = g.met.N.Nodes.diagram c.sum_of.new.nodes in
    let net : RawNet = c.args.net.now.raw in
    let graph : Graph = c.args.graph.now in
    let givens : List State = c.args.givens.now in
    let list : List ℕ = c.args.list.now in
    let i = c.loop-i.i in
    let p = c.loop-i.invariant in
    let vertex = get_or list i 0 in
    let sum : State = c.in_ok-sum.sum in
    let have : HaveFunctions t net graph.edges givens = Have-keeps s t net graph.edges givens gs gt p.keeps c.requires.givens in
    let mine : Built (arrivals_work net graph have.given) (λ w r. IsState w (summed_at net graph.reset have.given graph.edges vertex) r) t u (Ok sum) = c.in_ok-sum.ensures have.given have.are in
    let keeps = mine.spends.keeps in
    let made : IsSumOf u net graph givens vertex sum = sum_made u net graph givens vertex sum have.given (Are-keep t u graph.edges givens have.given gt gu keeps have.are) mine.ok in
    let refs : AreStateRefs u net sum = state_refs u net (summed_at net graph.reset have.given graph.edges vertex) sum (have_long net graph have.given vertex have.wide) mine.ok in
    record {
      keeps = Keeps-trans s t u p.keeps keeps;
      swept = swept_turn net graph givens c.args.start.table.items t u list i vertex sum c.loop-i.sweep c.in_ok-sweep.sweep gt gu keeps c.loop-i-test.true refl (c.requires.list i 0 c.loop-i-test.true) made refs c.in_ok-sweep.ensures p.swept;
      so = λ given zip.
          more (arrivals_work net graph given) (λ w r. IsState w (summed_at net graph.reset given graph.edges vertex) r) s t u (Ok sum) gt gu (p.so given zip)
          (c.in_ok-sum.ensures given (Are-keep s t graph.edges givens given gs gt p.keeps zip));
    }

pub returns-in_err-sum : goal.returns-in_err-sum
returns-in_err-sum g c = λ given zip.
    let s : Store = g.N.Nodes.store c.args.nodes.now in
    let t : Store = g.N.Nodes.store c.loop-i.nodes in
    let u : Store = g.N.Nodes.store c.sum_of.new.nodes in
    let gs = g.met.N.Nodes.diagram c.args.nodes.now in
    let gt = g.met.N.Nodes.diagram c.loop-i.nodes in
    let gu = g.met.N.Nodes.diagram c.sum_of.new.nodes in
    let net : RawNet = c.args.net.now.raw in
    let graph : Graph = c.args.graph.now in
    let givens : List State = c.args.givens.now in
    let p = c.loop-i.invariant in
    let vertex = get_or c.args.list.now c.loop-i.i 0 in
    let Good : Store → State → Type 0 = λ w r. IsState w (summed_at net graph.reset given graph.edges vertex) r in
    let Last : Store → Sweep → Type 0 = λ w r. IsSwept w net graph givens c.args.start.table.items [] r in
    let fault = c.in_err-sum.field-0.0 in
    pass (arrivals_work net graph given) Good Last s t u fault c.from_residual.result gt gu (p.so given zip)
    (c.in_err-sum.ensures given (Are-keep s t graph.edges givens given gs gt p.keeps zip)) c.from_residual.ensures.1

pub returns-in_err-sweep : goal.returns-in_err-sweep
returns-in_err-sweep g c = λ given zip.
    let s : Store = g.N.Nodes.store c.args.nodes.now in
    let t : Store = g.N.Nodes.store c.loop-i.nodes in
    let u : Store = g.N.Nodes.store c.sum_of.new.nodes in
    let gs = g.met.N.Nodes.diagram c.args.nodes.now in
    let gt = g.met.N.Nodes.diagram c.loop-i.nodes in
    let gu = g.met.N.Nodes.diagram c.sum_of.new.nodes in
    let net : RawNet = c.args.net.now.raw in
    let graph : Graph = c.args.graph.now in
    let givens : List State = c.args.givens.now in
    let p = c.loop-i.invariant in
    let vertex = get_or c.args.list.now c.loop-i.i 0 in
    let Good : Store → State → Type 0 = λ w r. IsState w (summed_at net graph.reset given graph.edges vertex) r in
    let Last : Store → Sweep → Type 0 = λ w r. IsSwept w net graph givens c.args.start.table.items [] r in
    let sum : State = c.in_ok-sum.sum in
    lost (arrivals_work net graph given) Last s u c.from_residual-in_err-sweep.result
    (more (arrivals_work net graph given) Good s t u (Ok sum) gt gu (p.so given zip) (c.in_ok-sum.ensures given (Are-keep s t graph.edges givens given gs gt p.keeps zip))) c.from_residual-in_err-sweep.ensures.1

pub returns : goal.returns
returns g c = λ given zip.
    let s : Store = g.N.Nodes.store c.args.nodes.now in
    let t : Store = g.N.Nodes.store c.loop-i.nodes in
    let net : RawNet = c.args.net.now.raw in
    let graph : Graph = c.args.graph.now in
    let givens : List State = c.args.givens.now in
    let i = c.loop-i.i in
    let p = c.loop-i.invariant in
    let Last : Store → Sweep → Type 0 = λ w r. IsSwept w net graph givens c.args.start.table.items [] r in
    let none : drop i c.args.list.now ≡ [] = drop_all i c.args.list.now (omega (arith, c.loop-i-test.false)) in
    Built-made (arrivals_work net graph given) Last s t c.loop-i.sweep (p.so given zip)
    (subst (λ (xs : List ℕ). IsSwept t net graph givens c.args.start.table.items xs c.loop-i.sweep) none p.swept)

pub sum_of-requires-clause-inside : goal.sum_of-requires-clause-inside
sum_of-requires-clause-inside g c = c.requires.list c.loop-i.i 0 c.loop-i-test.true

pub sum_of-requires-clause-givens : goal.sum_of-requires-clause-givens
sum_of-requires-clause-givens g c =
    Have-keeps (g.N.Nodes.store c.args.nodes.now) (g.N.Nodes.store c.loop-i.nodes) c.args.net.now.raw c.args.graph.now.edges c.args.givens.now (g.met.N.Nodes.diagram c.args.nodes.now) (g.met.N.Nodes.diagram c.loop-i.nodes) c.loop-i.invariant.keeps c.requires.givens

pub with_sum-requires-clause-table : goal.with_sum-requires-clause-table
with_sum-requires-clause-table g c = let n = c.loop-i.invariant.swept.long in let h = c.requires.list c.loop-i.i 0 c.loop-i-test.true in omega (arith, n, h)

pub with_sum-requires-clause-flags : goal.with_sum-requires-clause-flags
with_sum-requires-clause-flags g c = let n = c.loop-i.invariant.swept.flags in let h = c.requires.list c.loop-i.i 0 c.loop-i-test.true in omega (arith, n, h)
