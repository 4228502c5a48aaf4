use Rattle.std.proofs.Common.{◌∙◌, ap, sym}
use Rattle.ste_rules.specs.declared.form.Growth.TheVariants.{Closed}
use Rattle.ste_rules.specs.Steps.{begun, both_claim}
use Rattle.ste_rules.specs.private.Held.{steps_held}
use Rattle.ste_rules.proofs.Told.{turned_as}
use Rattle.ste_rules.proofs.rules.read_both.Goals as goal

pub returns-in-Err : goal.returns-in-Err
returns-in-Err c = λ parse net_of tasks. c.in-Err.ensures.err (λ first second. begun (steps_held c.args.steps.now) c.args.name.now (both_claim first second) Closed)

pub returns : goal.returns
returns c = λ parse net_of tasks. turned_as c.args.line _ _ _ _ (c.in-Ok.ensures.ok (λ first second. begun (steps_held c.args.steps.now) c.args.name.now (both_claim first second) Closed) ∙ ap (λ k. begun (steps_held c.args.steps.now) c.args.name.now k Closed) (sym c.in_ok-step.ensures)) c.begin.ensures
