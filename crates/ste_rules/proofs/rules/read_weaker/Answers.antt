use Rattle.std.proofs.Common.{◌≡◌, ◌∙◌, ap, sym, subst, refl, map, true, false}
use Rattle.std.specs.Option.{IfSome, IfNone}
use Rattle.ste_base.specs.Number.{number_of}
use Rattle.ste_rules.specs.declared.form.Growth.TheVariants.{Closed}
use Rattle.ste_rules.specs.Steps.{and_then, begun, unless, bad_number, are_consequents, weaker_claim}
use Rattle.ste_rules.specs.private.Held.{step_claim, steps_held}
use Rattle.ste_rules.proofs.Told.{passes, fails, turned_as}
use Rattle.ste_rules.proofs.rules.read_weaker.Goals as goal

pub returns-in-Err : goal.returns-in-Err
returns-in-Err c = λ parse net_of tasks. c.in-Err.ensures.err (λ claim. and_then (unless bad_number (are_consequents claim (map number_of c.args.numbers.now))) (λ _. begun (steps_held c.args.steps.now) c.args.name.now (weaker_claim (map number_of c.args.numbers.now) claim) Closed))

pub returns-in-Some : goal.returns-in-Some
returns-in-Some c = λ parse net_of tasks. turned_as c.args.line _ _ _ _ (c.in-Ok.ensures.ok (λ claim. and_then (unless bad_number (are_consequents claim (map number_of c.args.numbers.now))) (λ _. begun (steps_held c.args.steps.now) c.args.name.now (weaker_claim (map number_of c.args.numbers.now) claim) Closed)) ∙ passes bad_number _ _ (subst (λ f. IfSome f (λ _. are_consequents (step_claim c.in-Ok.step.now) (map number_of c.args.numbers.now) ≡ true)) c.in-Some.is c.in_ok-made.ensures.within) ∙ ap (λ k. begun (steps_held c.args.steps.now) c.args.name.now k Closed) (sym (subst (λ f. IfSome f (λ made. step_claim made ≡ weaker_claim (map number_of c.args.numbers.now) (step_claim c.in-Ok.step.now))) c.in-Some.is c.in_ok-made.ensures.some))) c.begin.ensures

pub returns-in-None : goal.returns-in-None
returns-in-None c = λ parse net_of tasks. (refl, c.in-Ok.ensures.ok (λ claim. and_then (unless bad_number (are_consequents claim (map number_of c.args.numbers.now))) (λ _. begun (steps_held c.args.steps.now) c.args.name.now (weaker_claim (map number_of c.args.numbers.now) claim) Closed)) ∙ fails bad_number _ _ (subst (λ f. IfNone f (are_consequents (step_claim c.in-Ok.step.now) (map number_of c.args.numbers.now) ≡ false)) c.in-None.is c.in_ok-made.ensures.none))
