use Rattle.std.proofs.Common.{◌∙◌, ap, sym}
use Rattle.ste_rules.specs.declared.form.Growth.TheVariants.{Both}
use Rattle.ste_rules.specs.Steps.{and_then, begun, empty_claim, fresh}
use Rattle.ste_rules.specs.private.Held.{steps_held}
use Rattle.ste_rules.proofs.Told.{passed, turned_as}
use Rattle.ste_rules.proofs.rules.read_identity.Goals as goal

pub returns-in-Err : goal.returns-in-Err
returns-in-Err c = λ parse net_of tasks. passed c.args.line (fresh (steps_held c.args.steps.now) c.args.name.now) (λ _. begun (steps_held c.args.steps.now) c.args.name.now empty_claim Both) c.in-Err.fault c.in-Err.ensures.err

pub returns-in-Ok : goal.returns-in-Ok
returns-in-Ok c = λ parse net_of tasks. turned_as c.args.line _ _ _ _ (ap (λ r. and_then r (λ _. begun (steps_held c.args.steps.now) c.args.name.now empty_claim Both)) c.in-Ok.ensures.ok ∙ ap (λ k. begun (steps_held c.args.steps.now) c.args.name.now k Both) (sym c.empty_step.ensures)) c.begin.ensures
