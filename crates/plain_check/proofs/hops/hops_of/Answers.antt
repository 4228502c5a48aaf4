use Rattle.std.proofs.Common.{◌<◌, ◌+◌, List, length, take, arith, sym, subst, ◌∙◌}
use Rattle.std.proofs.lemmas.List.{take_all}
use Rattle.ste_model.specs.declared.task.Edge.{Edge}
use Rattle.plain_check.specs.declared.hops.Hop.{Hop}
use Rattle.plain_check.specs.private.Hops.{AreHops, IsHopOf}
use Rattle.plain_check.specs.States.{states_of}
use Rattle.plain_check.proofs.OneRound.{item_of, state_there}
use Rattle.plain_check.proofs.Verdicts.{zip_more}
use Rattle.plain_check.proofs.hops.hops_of.Goals as goal

pub loop-edge-preserved : goal.loop-edge-preserved
loop-edge-preserved c =
    let net = c.args.net.now.raw in
    let edges = c.as_slice-edge-items.result.now in
    let edge = c.edge-item.result in
    let table = states_of net c.args.table.now in
    let from = item_of (λ (e : Edge). e.from < length c.args.graph.now.vertices) c.args.graph.now.edges edges c.loop-edge.edge-index edge c.as_slice-edge-items.ensures c.loop-edge-test.true c.edge-item.is c.requires.graph.from in
    let there = state_there net c.args.table.now edge.from c.index-table-edge.result (let n = c.requires.table.long in omega (arith, from)) c.index-table-edge.is in
    subst (λ (hops : List Hop). AreHops net c.args.bits.now table (take (c.loop-edge.edge-index + 1) edges) hops) (sym c.in_ok-push.ensures.items)
    (zip_more (IsHopOf net c.args.bits.now table) edges c.loop-edge.hops.items c.loop-edge.edge-index edge c.in_ok-hop_of.field-0 c.loop-edge-test.true c.edge-item.is c.loop-edge.invariant (c.in_ok-hop_of.ensures table there))

pub returns : goal.returns
returns c =
    let net = c.args.net.now.raw in
    let all = take_all c.loop-edge.edge-index c.as_slice-edge-items.result.now c.loop-edge-test.false ∙ c.as_slice-edge-items.ensures in
    subst (λ (edges : List Edge). AreHops net c.args.bits.now (states_of net c.args.table.now) edges c.loop-edge.hops.items) all c.loop-edge.invariant
