use Rattle.std.proofs.Common.{◌∙◌, ap, sym, refl}
use Rattle.ste_rules.specs.declared.form.Growth.TheVariants.{Closed}
use Rattle.ste_rules.specs.Steps.{and_then, begun, unless, uncovered, is_cut, cut_claim}
use Rattle.ste_rules.specs.private.Held.{steps_held}
use Rattle.ste_rules.proofs.Told.{passes, fails, turned_as}
use Rattle.ste_rules.proofs.rules.read_cut.Goals as goal

pub returns-in-Err : goal.returns-in-Err
returns-in-Err c = λ parse net_of tasks. c.in-Err.ensures.err (λ first second. and_then (unless uncovered (is_cut first second)) (λ _. begun (steps_held c.args.steps.now) c.args.name.now (cut_claim first second) Closed))

pub returns-then-not-is_cut : goal.returns-then-not-is_cut
returns-then-not-is_cut c = λ parse net_of tasks. (refl, c.in-Ok.ensures.ok (λ first second. and_then (unless uncovered (is_cut first second)) (λ _. begun (steps_held c.args.steps.now) c.args.name.now (cut_claim first second) Closed)) ∙ fails uncovered _ _ (sym c.is_cut.ensures ∙ c.if-not-is_cut.true))

pub returns : goal.returns
returns c = λ parse net_of tasks. turned_as c.args.line _ _ _ _ (c.in-Ok.ensures.ok (λ first second. and_then (unless uncovered (is_cut first second)) (λ _. begun (steps_held c.args.steps.now) c.args.name.now (cut_claim first second) Closed)) ∙ passes uncovered _ _ (sym c.is_cut.ensures ∙ c.if-not-is_cut.false) ∙ ap (λ k. begun (steps_held c.args.steps.now) c.args.name.now k Closed) (sym c.in_ok-step.ensures)) c.begin.ensures
