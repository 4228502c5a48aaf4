use Rattle.blif_syntax.proofs.Turn.{read_begin, read_turn}
use Rattle.blif_syntax.proofs.read.read_models.Goals as goal

pub loop-line-init : goal.loop-line-init
loop-line-init c = read_begin c.new.result c.args.lines.now c.new.ensures

pub loop-line-preserved : goal.loop-line-preserved
loop-line-preserved c = read_turn c.args.lines.now c.loop-line.line-index c.line-item.result c.in_ok-entry.entry c.loop-line.draft c.in_ok-draft.draft c.is_some.result c.may_stand.result c.open_cover_of.result c.loop-line-test.true c.line-item.is c.in_ok-entry.ensures c.is_some.ensures c.open_cover_of.ensures c.may_stand.ensures c.if-not-may_stand.false c.in_ok-draft.ensures c.loop-line.invariant
