use Rattle.std.proofs.Common.{rules, arith, ◌+◌, ◌<◌, length, unwrap_or}
use Rattle.blif_lines.proofs.Words.{line_turn, shorter_turn}
use Rattle.blif_lines.proofs.lines.read_line.Goals as goal

pub loop-joins-preserved : goal.loop-joins-preserved
loop-joins-preserved c =
    let some : 0 < length c.loop-joins.rest.now = search rules in
    let s = shorter_turn c.loop-joins.next (unwrap_or c.line_feed.result (length c.loop-joins.rest.now)) c.args.number c.without_backslash-continued.result.1 c.cut.result.1.now c.loop-joins.rest.now c.args.text.now some c.cut.ensures.back c.loop-joins.invariant.1 c.loop-joins.invariant.2 in
    (line_turn c.loop-joins.joins c.without_backslash-continued.result.1 c.args.number c.loop-joins.next (c.loop-joins.next + 1) c.loop-joins.words c.add_words.new.words _ c.loop-joins.rest.now c.cut.result.0.now c.cut.result.1.now c.treat.result.now c.without_backslash-continued.result.0.now c.line_feed.result c.loop-joins-test.true (omega arith) some c.line_feed.ensures c.cut.ensures.front c.cut.ensures.back c.treat.ensures c.without_backslash-continued.ensures.body c.without_backslash-continued.ensures.continued c.in_ok-add_words.ensures c.loop-joins.invariant.0, s.0, s.1, s.2)
