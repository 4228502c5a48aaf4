use Rattle.std.proofs.Common.{◌∙◌, ap}
use Rattle.ste_rules.specs.Steps.{and_then, step_named}
use Rattle.ste_rules.specs.private.Held.{step_claim, steps_held}
use Rattle.ste_rules.proofs.Told.{passed, told_as}
use Rattle.ste_rules.proofs.steps.Steps.two_named.Goals as goal

pub returns-in-Err-clause-err : goal.returns-in-Err-clause-err
returns-in-Err-clause-err c = λ f. c.in-Err.ensures.err (λ first. and_then (step_named (steps_held c.args.self.now) c.args.other.now) (λ second. f first second))

pub returns-in-Err-step_named-clause-err : goal.returns-in-Err-step_named-clause-err
returns-in-Err-step_named-clause-err c = λ f. told_as c.args.line _ _ c.in-Err-step_named.fault (c.in-Ok.ensures.ok (λ first. and_then (step_named (steps_held c.args.self.now) c.args.other.now) (λ second. f first second))) (passed c.args.line (step_named (steps_held c.args.self.now) c.args.other.now) (λ second. f (step_claim c.in-Ok.first.now) second) c.in-Err-step_named.fault c.in-Err-step_named.ensures.err)

pub returns-in-Ok-step_named-clause-ok : goal.returns-in-Ok-step_named-clause-ok
returns-in-Ok-step_named-clause-ok c = λ f. c.in-Ok.ensures.ok (λ first. and_then (step_named (steps_held c.args.self.now) c.args.other.now) (λ second. f first second)) ∙ ap (λ r. and_then r (λ second. f (step_claim c.in-Ok.first.now) second)) c.in-Ok-step_named.ensures.ok
