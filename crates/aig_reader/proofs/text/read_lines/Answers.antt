use Rattle.std.proofs.Common.{arith, length, ◌+◌, ◌<◌, ◌≤◌, ◌≡◌}
use Rattle.blif_lines.specs.Lines.{is_line_feed, pieces}
use Rattle.aig_reader.proofs.Reading.{IsNext, bad_line, begun, end_here, finish, nothing_left, shorter, some_left, turn}
use Rattle.aig_reader.proofs.text.read_lines.Goals as goal

pub loop-rest-init : goal.loop-rest-init
loop-rest-init c = (
  begun c.args.head.now c.no_aig-aig.result c.new-defined.result.keys (pieces
      is_line_feed c.args.text.now) c.no_aig-aig.ensures c.new-defined.ensures.empty,
  omega arith,
)

pub returns-then-is_end : goal.returns-then-is_end
returns-then-is_end c =
    let some = some_left c.is_empty.result c.loop-rest.rest.now c.is_empty.ensures
    c.loop-rest-test.true in
    let next : IsNext c.args.head.now c.loop-rest.count c.loop-rest.rest.now c.cut.result.0.now
    c.cut.result.1.now c.line_feed.result c.in_ok-said.said = record {
      some = some;
      place =
          c.line_feed.ensures;
      front = c.cut.ensures.front;
      back = c.cut.ensures.back;
      says =
          c.in_ok-said.ensures;
    } in
    finish c.args.head.now c.loop-rest.aig c.loop-rest.defined.keys c.loop-rest.count
    c.loop-rest.rest.now c.args.text.now c.aig_if_complete.result
    (end_here c.args.head.now c.loop-rest.count c.loop-rest.rest.now c.cut.result.0.now
    c.cut.result.1.now c.line_feed.result c.in_ok-said.said c.is_end.result next
    c.is_end.ensures c.if-is_end.true)
    c.loop-rest.invariant.0 c.aig_if_complete.ensures

pub returns-then-not-good : goal.returns-then-not-good
returns-then-not-good c =
    let some = some_left c.is_empty.result c.loop-rest.rest.now c.is_empty.ensures
    c.loop-rest-test.true in
    let next : IsNext c.args.head.now c.loop-rest.count c.loop-rest.rest.now c.cut.result.0.now
    c.cut.result.1.now c.line_feed.result c.in_ok-said.said = record {
      some = some;
      place =
          c.line_feed.ensures;
      front = c.cut.ensures.front;
      back = c.cut.ensures.back;
      says =
          c.in_ok-said.ensures;
    } in
    bad_line c.args.head.now c.loop-rest.aig c.loop-rest.defined.keys c.loop-rest.count
    c.loop-rest.rest.now c.cut.result.0.now c.cut.result.1.now c.args.text.now
    c.line_feed.result c.in_ok-said.said c.is_end.result c.in_ok-good.good next c.is_end.ensures
    c.if-is_end.false c.in_ok-good.ensures.good c.if-not-good.true c.loop-rest.invariant.0

pub loop-rest-smaller : goal.loop-rest-smaller
loop-rest-smaller c =
    let some = some_left c.is_empty.result c.loop-rest.rest.now c.is_empty.ensures
    c.loop-rest-test.true in
    let less = shorter c.loop-rest.rest.now c.cut.result.1.now c.line_feed.result some
    c.cut.ensures.back in
    omega arith

pub loop-rest-preserved : goal.loop-rest-preserved
loop-rest-preserved c =
    let some = some_left c.is_empty.result c.loop-rest.rest.now c.is_empty.ensures
    c.loop-rest-test.true in
    let less = shorter c.loop-rest.rest.now c.cut.result.1.now c.line_feed.result some
    c.cut.ensures.back in
    let fits = c.loop-rest.invariant.1 in
    let next : IsNext c.args.head.now c.loop-rest.count c.loop-rest.rest.now c.cut.result.0.now
    c.cut.result.1.now c.line_feed.result c.in_ok-said.said = record {
      some = some;
      place =
          c.line_feed.ensures;
      front = c.cut.ensures.front;
      back = c.cut.ensures.back;
      says =
          c.in_ok-said.ensures;
    } in (
      turn c.args.head.now c.loop-rest.aig c.in_ok-aig.aig c.loop-rest.defined.keys
          c.stands.new.defined.keys c.loop-rest.count c.loop-rest.rest.now c.cut.result.0.now
          c.cut.result.1.now c.args.text.now c.line_feed.result c.in_ok-said.said c.is_end.result
          c.in_ok-good.good next c.is_end.ensures c.if-is_end.false c.in_ok-good.ensures.good
          c.if-not-good.false (c.in_ok-good.ensures.keys c.if-not-good.false) c.in_ok-aig.ensures
          c.loop-rest.invariant.0,
      omega arith,
    )

pub returns : goal.returns
returns c =
    let none : length c.loop-rest.rest.now ≡ 0 = grind arith in
    finish c.args.head.now c.loop-rest.aig c.loop-rest.defined.keys c.loop-rest.count
    c.loop-rest.rest.now c.args.text.now c.aig_if_complete-2.result
    (nothing_left c.args.head.now c.loop-rest.count c.loop-rest.rest.now none)
    c.loop-rest.invariant.0 c.aig_if_complete-2.ensures
