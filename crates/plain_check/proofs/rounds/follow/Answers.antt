use Rattle.std.proofs.Common.{◌≡◌, List, length, sym, subst, ◌∙◌}
use Rattle.std.proofs.lemmas.List.{length-set}
use Rattle.std.proofs.lemmas.List.Elements.{All-set}
use Rattle.net_core.specs.declared.bit_set.BitSet.{BitSet}
use Rattle.net_core.specs.Sets.{next_sets}
use Rattle.plain_check.specs.declared.rounds.State.{State}
use Rattle.plain_check.specs.private.Sets.{set_at}
use Rattle.plain_check.specs.States.{IsEdgeRow, latch_unions, states_of}
use Rattle.plain_check.proofs.OneRound.{add_edge, arrived_long, arrives, set_others, skip_edge}
use Rattle.plain_check.proofs.rounds.follow.Goals as goal

pub returns-in_default-clause-next : goal.returns-in_default-clause-next
returns-in_default-clause-next c = λ graph edges table is next.
    let net = c.args.net.now.raw in
    let none = subst (IsEdgeRow net c.args.bits.now table c.args.edge.now) c.in_default.is (c.in_ok-row.ensures table is) in
    skip_edge net graph c.args.bits.now table (states_of net c.args.next.now.items) edges c.args.edge.now none next

pub returns-clause-states : goal.returns-clause-states
returns-clause-states c = λ graph are.
    let net = c.args.net.now.raw in
    let items = c.args.next.now.items in
    let P = λ (state : State). length state.latches ≡ length net.latches in
    let old = subst P (sym c.index.ensures) (are.latches c.args.edge.now.to c.index.result.now c.requires.to) in
    record {
      long = length-set items c.args.edge.now.to c.in_ok-state.state ∙ are.long;
      latches = All-set P items c.args.edge.now.to c.in_ok-state.state (arrived_long net c.index.result.now.latches c.in_ok-state.state.latches (set_at c.as_slice.result.now) old c.in_ok-state.ensures.latches) are.latches;
    }

pub returns-clause-next : goal.returns-clause-next
returns-clause-next c = λ graph edges table is next.
    let net = c.args.net.now.raw in
    let items = c.args.next.now.items in
    let to = c.args.edge.now.to in
    let state = c.in_ok-state.state in
    let row = subst (IsEdgeRow net c.args.bits.now table c.args.edge.now) c.in-Some.is (c.in_ok-row.ensures table is) in
    let latches = subst (λ (r : List BitSet). state.latches ≡ latch_unions c.index.result.now.latches (next_sets net (set_at r))) c.as_slice.ensures c.in_ok-state.ensures.latches in
    add_edge net graph c.args.bits.now table (states_of net items) _ edges c.args.edge.now (set_at c.in-Some.row) c.settles.ensures next row.1
    (set_others net items to state)
    (arrives net items to c.index.result.now state (set_at c.in-Some.row) c.requires.to c.index.ensures (next.takes.long to) c.in_ok-state.ensures.reached latches)
