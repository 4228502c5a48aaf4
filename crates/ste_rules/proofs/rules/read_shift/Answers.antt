use Rattle.std.proofs.Common.{◌≡◌, ◌∙◌, ap, sym, subst, refl, not, false}
use Rattle.std.specs.Option.{IfSome, IfNone}
use Rattle.ste_base.specs.Number.{number_of}
use Rattle.ste_rules.specs.declared.form.Growth.TheVariants.{Closed}
use Rattle.ste_rules.specs.Sizes.{claim_fits}
use Rattle.ste_rules.specs.Steps.{and_then, begun, unless, with_reset, later_claim}
use Rattle.ste_rules.specs.private.Held.{step_claim, steps_held}
use Rattle.ste_rules.specs.private.Turns.{IsAmount}
use Rattle.ste_rules.proofs.Told.{passes, fails, too_large, turned_as}
use Rattle.ste_rules.proofs.rules.read_shift.Goals as goal

pub returns-in-Err : goal.returns-in-Err
returns-in-Err c = λ parse net_of tasks. c.in-Err.ensures.err (λ claim. and_then (unless with_reset (not claim.reset)) (λ _. begun (steps_held c.args.steps.now) c.args.name.now (later_claim (number_of c.args.number.now) claim) Closed))

pub returns-then-has_reset : goal.returns-then-has_reset
returns-then-has_reset c = λ parse net_of tasks. (refl, c.in-Ok.ensures.ok (λ claim. and_then (unless with_reset (not claim.reset)) (λ _. begun (steps_held c.args.steps.now) c.args.name.now (later_claim (number_of c.args.number.now) claim) Closed)) ∙ fails with_reset _ _ (ap not c.if-has_reset.true))

pub returns-in-Some : goal.returns-in-Some
returns-in-Some c = λ parse net_of tasks. turned_as c.args.line _ _ _ _ (c.in-Ok.ensures.ok (λ claim. and_then (unless with_reset (not claim.reset)) (λ _. begun (steps_held c.args.steps.now) c.args.name.now (later_claim (number_of c.args.number.now) claim) Closed)) ∙ passes with_reset _ _ (ap not c.if-has_reset.false) ∙ ap (λ k. begun (steps_held c.args.steps.now) c.args.name.now k Closed) (sym (subst (λ f. IfSome f (λ made. step_claim made ≡ later_claim (number_of c.args.number.now) (step_claim c.in-Ok.step.now))) c.in-Some.is (c.in_ok-made.ensures.some (number_of c.args.number.now) (subst (λ w. IsAmount (number_of w) c.amount_of.result) c.bytes.ensures c.amount_of.ensures))))) c.begin.ensures

pub returns-in-None : goal.returns-in-None
returns-in-None c = λ parse net_of tasks. (refl, c.in-Ok.ensures.ok (λ claim. and_then (unless with_reset (not claim.reset)) (λ _. begun (steps_held c.args.steps.now) c.args.name.now (later_claim (number_of c.args.number.now) claim) Closed)) ∙ passes with_reset _ _ (ap not c.if-has_reset.false) ∙ too_large (steps_held c.args.steps.now) c.args.name.now (later_claim (number_of c.args.number.now) (step_claim c.in-Ok.step.now)) Closed (subst (λ f. IfNone f (claim_fits (later_claim (number_of c.args.number.now) (step_claim c.in-Ok.step.now)) ≡ false)) c.in-None.is (c.in_ok-made.ensures.none (number_of c.args.number.now) (subst (λ w. IsAmount (number_of w) c.amount_of.result) c.bytes.ensures c.amount_of.ensures))))
