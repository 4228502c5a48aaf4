use Rattle.std.proofs.Common.{sym, ◌∙◌, eqb-true}
use Rattle.gate_sets.proofs.NetRefs.{constant_zero, constant_one}
use Rattle.gate_sets.proofs.flagged.is_constant.Goals as goal

pub returns-then-eq : goal.returns-then-eq
returns-then-eq c = λ yes s w d m. constant_zero s w c.args.r d (eqb-true _ _ (sym c.eq.ensures ∙ c.if-eq.true)) (eqb-true _ _ (sym c.eq-then-eq.ensures ∙ yes)) m

pub returns-then-eq-2 : goal.returns-then-eq-2
returns-then-eq-2 c = λ yes s w d m. constant_one s w c.args.r d (eqb-true _ _ (sym c.eq-else-eq.ensures ∙ c.if-eq-2.true)) (eqb-true _ _ (sym c.eq-then-eq-2.ensures ∙ yes)) m
