use Rattle.std.proofs.Common.{◌∙◌, sym}
use Rattle.ste_rules.specs.Steps.{bad}
use Rattle.ste_rules.proofs.Told.{passed, passes, told_as}
use Rattle.ste_rules.proofs.given.read_given.Goals as goal

pub returns-in-Err : goal.returns-in-Err
returns-in-Err c = λ parse is. told_as c.args.line _ _ c.in-Err.fault (passes bad _ _ (sym c.may_grow.ensures ∙ c.if-not-may_grow.false)) (passed c.args.line _ _ c.in-Err.fault (c.in-Err.ensures.err parse is))
