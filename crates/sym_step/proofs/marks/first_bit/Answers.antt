use Rattle.std.proofs.Common.{arith}
use Rattle.sym_step.proofs.Asleep.{none_before, none_left}
use Rattle.sym_step.proofs.marks.first_bit.Goals as goal

pub returns-then-rest-eq0-clause-clear : goal.returns-then-rest-eq0-clause-clear
returns-then-rest-eq0-clause-clear c = λ k le lt. none_left c.args.word c.args.from c.if-rest-eq0.true k le

pub returns-clause-clear : goal.returns-clause-clear
returns-clause-clear c = λ k le lt. none_before c.args.word c.args.from c.ranges.word.fits c.if-rest-eq0.false k le (omega (arith, lt, c.min.ensures))
