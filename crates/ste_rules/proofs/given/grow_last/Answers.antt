use Rattle.std.proofs.Common.{◌∙◌, ◌++◌, ◌∷◌, [], ap, sym, refl, map, Ok}
use Rattle.ste_model.specs.Trees.{quint_tree}
use Rattle.ste_rules.specs.Sizes.{claim_fits}
use Rattle.ste_rules.specs.Steps.{and_then, grown_claim, many, unless}
use Rattle.ste_rules.specs.private.Held.{step_claim}
use Rattle.ste_rules.proofs.Times.{held_more, last_held}
use Rattle.ste_rules.proofs.Told.{fails, passed, passes, told_as}
use Rattle.ste_rules.proofs.given.grow_last.Goals as goal

pub returns-clause-ok : goal.returns-clause-ok
returns-clause-ok c = last_held c.args.steps.now.growth (quint_tree c.args.quint) c.args.steps.now.claims.items c.pop.new.self.items c.in-Some.step c.in-Some.ensures.items ∙ ap (λ r. and_then r (λ g. and_then (unless many (claim_fits g)) (λ _. Ok (map step_claim c.pop.new.self.items ++ g ∷ [])))) c.in_default-grow_step.ensures.ok ∙ passes many _ _ (sym c.step_fits.ensures ∙ c.if-not-step_fits.false) ∙ ap Ok (held_more c.push.new.self.items c.pop.new.self.items c.grow_step.new.step c.in_ok-push.ensures.items)

pub returns-in-Err-clause-err : goal.returns-in-Err-clause-err
returns-in-Err-clause-err c = told_as c.args.line _ _ c.in-Err.fault (last_held c.args.steps.now.growth (quint_tree c.args.quint) c.args.steps.now.claims.items c.pop.new.self.items c.in-Some.step c.in-Some.ensures.items) (passed c.args.line (grown_claim c.args.steps.now.growth (quint_tree c.args.quint) (step_claim c.in-Some.step)) (λ g. and_then (unless many (claim_fits g)) (λ _. Ok (map step_claim c.pop.new.self.items ++ g ∷ []))) c.in-Err.fault c.in-Err.ensures.err)

pub returns-then-not-step_fits-clause-err : goal.returns-then-not-step_fits-clause-err
returns-then-not-step_fits-clause-err c = (refl, last_held c.args.steps.now.growth (quint_tree c.args.quint) c.args.steps.now.claims.items c.pop.new.self.items c.in-Some.step c.in-Some.ensures.items ∙ ap (λ r. and_then r (λ g. and_then (unless many (claim_fits g)) (λ _. Ok (map step_claim c.pop.new.self.items ++ g ∷ [])))) c.in_default-grow_step.ensures.ok ∙ fails many _ _ (sym c.step_fits.ensures ∙ c.if-not-step_fits.true))
