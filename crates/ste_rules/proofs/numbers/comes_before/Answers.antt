use Rattle.ste_rules.proofs.Digits.{digit_here}
use Rattle.ste_rules.proofs.numbers.comes_before.Goals as goal

pub returns-then-digit-next : goal.returns-then-digit-next
returns-then-digit-next c = let inv = c.loop-digit.invariant in digit_here c.args.one.now c.args.other.now c.loop-digit.left.now c.in-Some.rest.now c.loop-digit.digit-index c.in-Some.next.now inv.0 c.loop-digit-test.true c.in-Some.ensures.cases.0 c.if-digit-next.true inv.1 inv.2 inv.3 inv.4 inv.5
