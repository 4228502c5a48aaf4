use Rattle.ste_rules.proofs.Digits.{above_here}
use Rattle.ste_rules.proofs.numbers.is_above_zero.Goals as goal

pub returns-then-digit-ne48 : goal.returns-then-digit-ne48
returns-then-digit-ne48 c = above_here c.args.digits.now c.loop-digit.digit-index c.loop-digit-test.true c.if-digit-ne48.true c.loop-digit.invariant.0 c.loop-digit.invariant.1
