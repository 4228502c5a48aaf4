use Rattle.std.proofs.Common.{◌∙◌, ap, sym}
use Rattle.ste_rules.specs.declared.form.Growth.TheVariants.{Antecedent}
use Rattle.ste_rules.specs.Steps.{begun}
use Rattle.ste_rules.specs.private.Held.{steps_held}
use Rattle.ste_rules.proofs.Told.{turned_as}
use Rattle.ste_rules.proofs.rules.read_stronger.Goals as goal

pub returns-in-Err : goal.returns-in-Err
returns-in-Err c = λ parse net_of tasks. c.in-Err.ensures.err (λ claim. begun (steps_held c.args.steps.now) c.args.name.now claim Antecedent)

pub returns : goal.returns
returns c = λ parse net_of tasks. turned_as c.args.line _ _ _ _ (c.in-Ok.ensures.ok (λ claim. begun (steps_held c.args.steps.now) c.args.name.now claim Antecedent) ∙ ap (λ k. begun (steps_held c.args.steps.now) c.args.name.now k Antecedent) (sym c.in_ok-step.ensures)) c.begin.ensures
