use Rattle.std.proofs.Common.{◌≡◌, ◌<◌, List, [], All, length, get_or, sym, ◌∙◌, subst, arith, ap}
use Rattle.std.proofs.lemmas.List.{take_all}
use Rattle.dd_nodes.specs.Stores.{Store}
use Rattle.graph_path.specs.declared.hop.Hop.{Hop}
use Rattle.net_core.specs.declared.raw.RawNet.{RawNet}
use Rattle.engine_parts.specs.Failing.{FailsBy}
use Rattle.engine_parts.proofs.Nothing.{nothing_more, nothing_yet}
use Rattle.ste_model.specs.declared.task.Edge.{Edge}
use Rattle.ste_model.specs.GraphHops.{AreEdgeHops, IsEdgeHop}
use Rattle.gste_engine.specs.declared.state.State.{State}
use Rattle.gste_engine.specs.Tables.{AreStateRefs, IsEdgeOver}
use Rattle.gste_engine.specs.private.Taken.{table_at}
use Rattle.gste_engine.proofs.EdgeHops.{more_hops, source_is}
use Rattle.gste_engine.proofs.StateRefs.{All-states-keep}
use Rattle.gste_engine.proofs.hops.hops_of.Goals as goal

pub hop_of-requires-clause-con : goal.hop_of-requires-clause-con
hop_of-requires-clause-con g c =
    let edges : List Edge = c.args.graph.now.edges in
    let k = c.loop-k.k in
    let edge : Edge = c.index-edges-k.result in
    let all : c.as_slice-edges.result.now ≡ edges = c.as_slice-edges.ensures in
    let long = ap (λ (xs : List Edge). length xs) all in
    let lt : k < length edges = omega (arith, c.loop-k-test.true, long) in
    let is : edge ≡ get_or edges k edge = c.index-edges-k.is ∙ ap (λ (xs : List Edge). get_or xs k edge) all in
    subst (λ (e : Edge). All (λ bind. bind.node.0 < c.args.net.now.raw.nets) e.con) (sym is) (c.requires.con k edge lt).0

pub loop-k-init : goal.loop-k-init
loop-k-init g c =
    let s : Store = g.N.Nodes.store c.args.nodes.now in
    record {
      same = nothing_yet s;
      frame = c.in_ok-frame.ensures s (g.met.N.Nodes.diagram c.args.nodes.now);
      so = λ states has. subst (λ (hops : List Hop). AreEdgeHops (FailsBy c.args.failure) c.args.net.now.raw c.args.bits.now (table_at c.args.bits.now states) [] hops) (sym c.new-hops.ensures.items) tt;
    }

pub loop-k-preserved : goal.loop-k-preserved
loop-k-preserved g c =
    let s : Store = g.N.Nodes.store c.args.nodes.now in
    let t : Store = g.N.Nodes.store c.loop-k.nodes in
    let u : Store = g.N.Nodes.store c.hop_of.new.nodes in
    let gs = g.met.N.Nodes.diagram c.args.nodes.now in
    let gt = g.met.N.Nodes.diagram c.loop-k.nodes in
    let net : RawNet = c.args.net.now.raw in
    let bits = c.args.bits.now in
    let table : List State = c.args.table.now in
    let edges : List Edge = c.args.graph.now.edges in
    let k = c.loop-k.k in
    let edge : Edge = c.index-edges-k.result in
    let all : c.as_slice-edges.result.now ≡ edges = c.as_slice-edges.ensures in
    let long = ap (λ (xs : List Edge). length xs) all in
    let lt : k < length edges = omega (arith, c.loop-k-test.true, long) in
    let is : edge ≡ get_or edges k edge = c.index-edges-k.is ∙ ap (λ (xs : List Edge). get_or xs k edge) all in
    let over : IsEdgeOver net s.vars (length c.args.graph.now.vertices) edge = subst (IsEdgeOver net s.vars (length c.args.graph.now.vertices)) (sym is) (c.requires.graph.edges k edge lt) in
    let inside : edge.from < length table = subst (λ n. edge.from < n) (sym c.requires.vertices) over.start in
    let source : State = c.index-table-edge.result in
    let hop : Hop = c.in_ok-hop.hop in
    let p = c.loop-k.invariant in
    record {
      same = nothing_more s t u p.same c.in_ok-hop.ensures.same;
      frame = c.in_ok-hop.ensures.frame;
      so = λ states has.
          let R : Edge → Hop → Type 0 = IsEdgeHop (FailsBy c.args.failure) net bits (table_at bits states) in
          let one : R edge hop = c.in_ok-hop.ensures.hop states (source_is s t gs gt p.same states (length c.args.graph.now.vertices) table has edge.from source inside c.index-table-edge.is) in
          more_hops R edges c.loop-k.hops.items c.push.new.self.items k edge hop lt is c.in_ok-push.ensures.items (p.so states has) one;
    }

pub returns-clause-hops : goal.returns-clause-hops
returns-clause-hops g c = λ states has.
    let edges : List Edge = c.args.graph.now.edges in
    let k = c.loop-k.k in
    let long = ap (λ (xs : List Edge). length xs) c.as_slice-edges.ensures in
    subst (λ (xs : List Edge). AreEdgeHops (FailsBy c.args.failure) c.args.net.now.raw c.args.bits.now (table_at c.args.bits.now states) xs c.loop-k.hops.items) (take_all k edges (omega (arith, c.loop-k-test.false, long))) (c.loop-k.invariant.so states has)

pub hop_of-requires-clause-source : goal.hop_of-requires-clause-source
hop_of-requires-clause-source g c =
    let s : Store = g.N.Nodes.store c.args.nodes.now in
    let t : Store = g.N.Nodes.store c.loop-k.nodes in
    let net : RawNet = c.args.net.now.raw in
    let table : List State = c.args.table.now in
    let edges : List Edge = c.args.graph.now.edges in
    let k = c.loop-k.k in
    let edge : Edge = c.index-edges-k.result in
    let all : c.as_slice-edges.result.now ≡ edges = c.as_slice-edges.ensures in
    let long = ap (λ (xs : List Edge). length xs) all in
    let lt : k < length edges = omega (arith, c.loop-k-test.true, long) in
    let is : edge ≡ get_or edges k edge = c.index-edges-k.is ∙ ap (λ (xs : List Edge). get_or xs k edge) all in
    let over : IsEdgeOver net s.vars (length c.args.graph.now.vertices) edge = subst (IsEdgeOver net s.vars (length c.args.graph.now.vertices)) (sym is) (c.requires.graph.edges k edge lt) in
    let inside : edge.from < length table = subst (λ n. edge.from < n) (sym c.requires.vertices) over.start in
    let refs : All (AreStateRefs t net) table = All-states-keep s t net table c.loop-k.invariant.same.keeps c.requires.table in
    subst (AreStateRefs t net) (sym c.index-table-edge.is) (refs edge.from c.index-table-edge.result inside)

pub returns-in_err-hop-clause-same : goal.returns-in_err-hop-clause-same
returns-in_err-hop-clause-same g c =
    nothing_more (g.N.Nodes.store c.args.nodes.now) (g.N.Nodes.store c.loop-k.nodes) (g.N.Nodes.store c.hop_of.new.nodes) c.loop-k.invariant.same c.hop_of.ensures.same

pub returns-in_err-push-clause-same : goal.returns-in_err-push-clause-same
returns-in_err-push-clause-same g c =
    nothing_more (g.N.Nodes.store c.args.nodes.now) (g.N.Nodes.store c.loop-k.nodes) (g.N.Nodes.store c.hop_of.new.nodes) c.loop-k.invariant.same c.hop_of.ensures.same
