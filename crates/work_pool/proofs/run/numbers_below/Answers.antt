use Rattle.std.proofs.Common.{◌∙◌, [], ◌∷◌, ◌++◌, ap, sym}
use Rattle.work_pool.proofs.Numbers.{next_number}
use Rattle.work_pool.proofs.run.numbers_below.Goals as goal

pub loop-i-preserved : goal.loop-i-preserved
loop-i-preserved c = c.in_ok-push.ensures.items ∙ (ap (λ numbers. numbers ++ c.loop-i.i ∷ []) c.loop-i.invariant ∙ sym (next_number c.loop-i.i))
