use Rattle.std.proofs.Common.{arith, sym}
use Rattle.dd_ops.proofs.Keeping.{absent, none_before}
use Rattle.dd_ops.proofs.memo.find_among.Goals as goal

pub loop-entry-init : goal.loop-entry-init
loop-entry-init c = λ k d lt. absurd (omega arith)

pub loop-entry-preserved : goal.loop-entry-preserved
loop-entry-preserved c = none_before c.args.entries.now c.loop-entry.entry-index _ c.args.x c.loop-entry-test.true c.loop-entry.invariant (sym c.if-eq.ensures)

pub returns-clause-none : goal.returns-clause-none
returns-clause-none c = absent c.args.entries.now c.args.x (λ k d lt. let end = c.loop-entry-test.false in c.loop-entry.invariant k d (omega arith))
