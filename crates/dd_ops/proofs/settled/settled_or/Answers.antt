use Rattle.std.proofs.Common.{sym, ◌∙◌, eqb-true}
use Rattle.dd_ops.proofs.Terminal.{or_equal, or_left_zero, or_left_one, or_right_zero, or_right_one}
use Rattle.dd_ops.proofs.settled.settled_or.Goals as goal

pub returns-then-eq-clause-some : goal.returns-then-eq-clause-some
returns-then-eq-clause-some c = or_equal c.args.x (eqb-true _ _ (sym c.eq.ensures ∙ c.if-eq.true))

pub returns-then-eq-2-clause-some : goal.returns-then-eq-2-clause-some
returns-then-eq-2-clause-some c = or_left_zero c.args.x (eqb-true _ _ (sym c.eq-2.ensures ∙ c.if-eq-2.true))

pub returns-then-eq-3-clause-some : goal.returns-then-eq-3-clause-some
returns-then-eq-3-clause-some c = or_left_one c.args.x (eqb-true _ _ (sym c.eq-3.ensures ∙ c.if-eq-3.true))

pub returns-then-eq-4-clause-some : goal.returns-then-eq-4-clause-some
returns-then-eq-4-clause-some c = or_right_zero c.args.x (eqb-true _ _ (sym c.eq-4.ensures ∙ c.if-eq-4.true))

pub returns-then-eq-5-clause-some : goal.returns-then-eq-5-clause-some
returns-then-eq-5-clause-some c = or_right_one c.args.x (eqb-true _ _ (sym c.eq-5.ensures ∙ c.if-eq-5.true))
