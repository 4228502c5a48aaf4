use Rattle.std.proofs.Common.{◌≡◌, ◌<◌, ◌+◌, ◌++◌, ◌∷◌, List, [], arith, sym, ap, subst, take, length, ◌∙◌}
use Rattle.std.proofs.lemmas.List.{take_all, take_more}
use Rattle.ste_model.specs.declared.task.Edge.{Edge}
use Rattle.ste_model.specs.GraphTable.{IsNext}
use Rattle.plain_check.specs.States.{states_of, with_edges}
use Rattle.plain_check.proofs.OneRound.{item_of, no_edges, start_next, state_there}
use Rattle.plain_check.proofs.rounds.round.Goals as goal

pub loop-edge-init : goal.loop-edge-init
loop-edge-init c =
    let net = c.args.net.now.raw in
    let now = states_of net c.args.table.now in
    record {
      states = c.in_ok-next.ensures.states;
      next = start_next net c.args.graph.now c.args.bits.now now (states_of net c.in_ok-next.next.items) c.in_ok-next.ensures.first c.in_ok-next.ensures.others [] (no_edges net c.args.bits.now now);
    }

pub loop-edge-preserved : goal.loop-edge-preserved
loop-edge-preserved c =
    let net = c.args.net.now.raw in
    let edges = c.as_slice-edge-items.result.now in
    let edge = c.edge-item.result in
    let more : take c.loop-edge.edge-index edges ++ edge ∷ [] ≡ take (c.loop-edge.edge-index + 1) edges = sym (take_more edges c.loop-edge.edge-index edge c.loop-edge-test.true ∙ ap (λ (e : Edge). take c.loop-edge.edge-index edges ++ e ∷ []) (sym c.edge-item.is)) in
    let from = item_of (λ (e : Edge). e.from < length c.args.graph.now.vertices) c.args.graph.now.edges edges c.loop-edge.edge-index edge c.as_slice-edge-items.ensures c.loop-edge-test.true c.edge-item.is c.requires.graph.from in
    let there = state_there net c.args.table.now edge.from c.index-table-edge.result (let n = c.requires.table.long in omega (arith, from)) c.index-table-edge.is in
    record {
      states = c.in_ok-follow.ensures.states c.args.graph.now c.loop-edge.invariant.states;
      next = subst (λ (es : List Edge). IsNext net (with_edges c.args.graph.now es) c.args.bits.now (states_of net c.args.table.now) (states_of net c.follow.new.next.items)) more
          (c.in_ok-follow.ensures.next c.args.graph.now (take c.loop-edge.edge-index edges) (states_of net c.args.table.now) there c.loop-edge.invariant.next);
    }

pub returns-clause-next : goal.returns-clause-next
returns-clause-next c =
    let net = c.args.net.now.raw in
    let all = take_all c.loop-edge.edge-index c.as_slice-edge-items.result.now c.loop-edge-test.false ∙ c.as_slice-edge-items.ensures in
    subst (λ (edges : List Edge). IsNext net (with_edges c.args.graph.now edges) c.args.bits.now (states_of net c.args.table.now) (states_of net c.loop-edge.next.items)) all c.loop-edge.invariant.next
