use Rattle.std.proofs.Common.{◌≡◌, ◌+◌, ◌*◌, ◌∙◌, ℕ, length, ap, subst, arith}
use Rattle.ste_model.specs.GraphTable.{IsNext, enough}
use Rattle.plain_check.specs.States.{states_of}
use Rattle.plain_check.proofs.LastRound.{IsRound, first_round, last_round, next_round}
use Rattle.plain_check.proofs.rounds.least_table.Goals as goal

pub loop-init : goal.loop-init
loop-init c =
    let net = c.args.net.now.raw in
    let w = length net.latches * 2 + 1 in
    let table = states_of net c.in_ok-table.table.items in
    record {
      states = c.in_ok-table.ensures.states;
      rounds = subst (λ (n : ℕ). IsRound net c.args.graph.now c.args.bits.now n table) (let e : 1 ≡ 0 * w + 1 = omega arith in e)
          (first_round net c.args.graph.now c.args.bits.now table c.in_ok-table.ensures.first c.in_ok-table.ensures.others);
    }

pub loop-2-preserved : goal.loop-2-preserved
loop-2-preserved c =
    let net = c.args.net.now.raw in
    let w = length net.latches * 2 + 1 in
    let table = states_of net c.loop-2.table.items in
    let next = states_of net c.in_ok-table-2.table.items in
    let n = c.loop.counter * w + c.loop-2.counter + 1 in
    let step = subst (λ t. IsNext net c.args.graph.now c.args.bits.now (states_of net t) next) c.deref.ensures.value c.in_ok-table-2.ensures.next in
    record {
      states = c.in_ok-table-2.ensures.states;
      rounds = subst (λ (m : ℕ). IsRound net c.args.graph.now c.args.bits.now m next) (let f : n + 1 ≡ c.loop.counter * w + (c.loop-2.counter + 1) + 1 = omega arith in f)
          (next_round net c.args.graph.now c.args.bits.now n table next c.loop-2.invariant.rounds step);
    }

pub returns-clause-least : goal.returns-clause-least
returns-clause-least c =
    let net = c.args.net.now.raw in
    let graph = c.args.graph.now in
    let w = length net.latches * 2 + 1 in
    let e : c.loop.counter ≡ length graph.vertices = omega (arith, c.loop-test.false, c.loop.auto.counter-end, c.len-end.ensures) in
    last_round net graph c.args.bits.now (c.loop.counter * w + 1) (states_of net c.loop.table.items) c.settles.ensures c.requires.graph.is_graph
    (ap (λ (k : ℕ). k * w + 1) e ∙ (let f : length graph.vertices * w + 1 ≡ enough net graph = omega arith in f)) c.loop.invariant.rounds
