use Rattle.std.proofs.Common.{◌≡◌, ◌∙◌, ap, sym, subst, refl, Ok}
use Rattle.blif_lines.specs.Laws.{text_of_words}
use Rattle.bool_expr.specs.Grammar.{spelling, tree}
use Rattle.bool_expr.specs.Read.{first_unknown, number_in, place_by}
use Rattle.ste_rules.specs.declared.form.Growth.TheVariants.{Closed}
use Rattle.ste_rules.specs.Sizes.{claim_fits}
use Rattle.ste_rules.specs.Steps.{and_then, begun, fresh, none_unknown, step_named, read_as, special_claim, variable_named}
use Rattle.ste_rules.specs.private.Held.{step_claim, steps_held}
use Rattle.ste_rules.specs.private.Turns.{IsExpressionRead, IsTold}
use Rattle.ste_rules.proofs.Told.{passed, read_first, some_expression, told_as, too_large, turned_as}
use Rattle.ste_rules.proofs.rules.read_special.Goals as goal

pub returns-in-Err : goal.returns-in-Err
returns-in-Err c = λ parse is. passed c.args.line (read_as (parse (text_of_words c.args.words.now))) _ c.in-Err.fault (c.in-Err.ensures c.args.vars.now (parse (text_of_words c.args.words.now)) (c.words_read.ensures parse is))

pub returns-in-Err-one_named : goal.returns-in-Err-one_named
returns-in-Err-one_named c = λ parse is. let d = some_expression c.args.vars.now (parse (text_of_words c.args.words.now)) c.args.line c.in-Ok.read (c.in-Ok.ensures c.args.vars.now (parse (text_of_words c.args.words.now)) (c.words_read.ensures parse is)) in told_as c.args.line _ _ c.in-Err-one_named.fault (read_first (parse (text_of_words c.args.words.now)) (λ e. and_then (fresh (steps_held c.args.steps.now) c.args.name.now) (λ _. and_then (step_named (steps_held c.args.steps.now) c.args.one.now) (λ claim. and_then (variable_named c.args.vars.now c.args.variable.now) (λ x. and_then (none_unknown (first_unknown (number_in c.args.vars.now) (spelling e))) (λ _. begun (steps_held c.args.steps.now) c.args.name.now (special_claim x (tree (place_by (number_in c.args.vars.now)) e) claim) Closed))))) d.0 d.1) (c.in-Err-one_named.ensures.err (λ claim. and_then (variable_named c.args.vars.now c.args.variable.now) (λ x. and_then (none_unknown (first_unknown (number_in c.args.vars.now) (spelling d.0))) (λ _. begun (steps_held c.args.steps.now) c.args.name.now (special_claim x (tree (place_by (number_in c.args.vars.now)) d.0) claim) Closed))))

pub returns-in-Err-variable_named : goal.returns-in-Err-variable_named
returns-in-Err-variable_named c = λ parse is. let d = some_expression c.args.vars.now (parse (text_of_words c.args.words.now)) c.args.line c.in-Ok.read (c.in-Ok.ensures c.args.vars.now (parse (text_of_words c.args.words.now)) (c.words_read.ensures parse is)) in told_as c.args.line _ _ c.in-Err-variable_named.fault (read_first (parse (text_of_words c.args.words.now)) (λ e. and_then (fresh (steps_held c.args.steps.now) c.args.name.now) (λ _. and_then (step_named (steps_held c.args.steps.now) c.args.one.now) (λ claim. and_then (variable_named c.args.vars.now c.args.variable.now) (λ x. and_then (none_unknown (first_unknown (number_in c.args.vars.now) (spelling e))) (λ _. begun (steps_held c.args.steps.now) c.args.name.now (special_claim x (tree (place_by (number_in c.args.vars.now)) e) claim) Closed))))) d.0 d.1 ∙ c.in-Ok-one_named.ensures.ok (λ claim. and_then (variable_named c.args.vars.now c.args.variable.now) (λ x. and_then (none_unknown (first_unknown (number_in c.args.vars.now) (spelling d.0))) (λ _. begun (steps_held c.args.steps.now) c.args.name.now (special_claim x (tree (place_by (number_in c.args.vars.now)) d.0) claim) Closed)))) (passed c.args.line (variable_named c.args.vars.now c.args.variable.now) (λ x. and_then (none_unknown (first_unknown (number_in c.args.vars.now) (spelling d.0))) (λ _. begun (steps_held c.args.steps.now) c.args.name.now (special_claim x (tree (place_by (number_in c.args.vars.now)) d.0) (step_claim c.in-Ok-one_named.step.now)) Closed)) c.in-Err-variable_named.fault (subst (λ vs. IsTold c.args.line (variable_named vs c.args.variable.now) c.in-Err-variable_named.fault) c.names.ensures c.in-Err-variable_named.ensures.err))

pub returns-in-Err-read : goal.returns-in-Err-read
returns-in-Err-read c = λ parse is. let d = subst (λ r. IsExpressionRead c.args.vars.now (parse (text_of_words c.args.words.now)) c.args.line (Ok r)) c.in-Err-read.is (c.in-Ok.ensures c.args.vars.now (parse (text_of_words c.args.words.now)) (c.words_read.ensures parse is)) in (refl, read_first (parse (text_of_words c.args.words.now)) (λ e. and_then (fresh (steps_held c.args.steps.now) c.args.name.now) (λ _. and_then (step_named (steps_held c.args.steps.now) c.args.one.now) (λ claim. and_then (variable_named c.args.vars.now c.args.variable.now) (λ x. and_then (none_unknown (first_unknown (number_in c.args.vars.now) (spelling e))) (λ _. begun (steps_held c.args.steps.now) c.args.name.now (special_claim x (tree (place_by (number_in c.args.vars.now)) e) claim) Closed))))) d.0 d.1 ∙ c.in-Ok-one_named.ensures.ok (λ claim. and_then (variable_named c.args.vars.now c.args.variable.now) (λ x. and_then (none_unknown (first_unknown (number_in c.args.vars.now) (spelling d.0))) (λ _. begun (steps_held c.args.steps.now) c.args.name.now (special_claim x (tree (place_by (number_in c.args.vars.now)) d.0) claim) Closed))) ∙ ap (λ r. and_then r (λ x. and_then (none_unknown (first_unknown (number_in c.args.vars.now) (spelling d.0))) (λ _. begun (steps_held c.args.steps.now) c.args.name.now (special_claim x (tree (place_by (number_in c.args.vars.now)) d.0) (step_claim c.in-Ok-one_named.step.now)) Closed))) (subst (λ vs. variable_named vs c.args.variable.now ≡ Ok c.in-Ok-variable_named.x) c.names.ensures c.in-Ok-variable_named.ensures.ok) ∙ ap (λ u. and_then (none_unknown u) (λ _. begun (steps_held c.args.steps.now) c.args.name.now (special_claim c.in-Ok-variable_named.x (tree (place_by (number_in c.args.vars.now)) d.0) (step_claim c.in-Ok-one_named.step.now)) Closed)) d.2)

pub returns-then-not-special_fits : goal.returns-then-not-special_fits
returns-then-not-special_fits c = λ parse is. let d = subst (λ r. IsExpressionRead c.args.vars.now (parse (text_of_words c.args.words.now)) c.args.line (Ok r)) c.in-Ok-read.is (c.in-Ok.ensures c.args.vars.now (parse (text_of_words c.args.words.now)) (c.words_read.ensures parse is)) in (refl, read_first (parse (text_of_words c.args.words.now)) (λ e. and_then (fresh (steps_held c.args.steps.now) c.args.name.now) (λ _. and_then (step_named (steps_held c.args.steps.now) c.args.one.now) (λ claim. and_then (variable_named c.args.vars.now c.args.variable.now) (λ x. and_then (none_unknown (first_unknown (number_in c.args.vars.now) (spelling e))) (λ _. begun (steps_held c.args.steps.now) c.args.name.now (special_claim x (tree (place_by (number_in c.args.vars.now)) e) claim) Closed))))) d.0 d.1 ∙ c.in-Ok-one_named.ensures.ok (λ claim. and_then (variable_named c.args.vars.now c.args.variable.now) (λ x. and_then (none_unknown (first_unknown (number_in c.args.vars.now) (spelling d.0))) (λ _. begun (steps_held c.args.steps.now) c.args.name.now (special_claim x (tree (place_by (number_in c.args.vars.now)) d.0) claim) Closed))) ∙ ap (λ r. and_then r (λ x. and_then (none_unknown (first_unknown (number_in c.args.vars.now) (spelling d.0))) (λ _. begun (steps_held c.args.steps.now) c.args.name.now (special_claim x (tree (place_by (number_in c.args.vars.now)) d.0) (step_claim c.in-Ok-one_named.step.now)) Closed))) (subst (λ vs. variable_named vs c.args.variable.now ≡ Ok c.in-Ok-variable_named.x) c.names.ensures c.in-Ok-variable_named.ensures.ok) ∙ ap (λ u. and_then (none_unknown u) (λ _. begun (steps_held c.args.steps.now) c.args.name.now (special_claim c.in-Ok-variable_named.x (tree (place_by (number_in c.args.vars.now)) d.0) (step_claim c.in-Ok-one_named.step.now)) Closed)) d.2 ∙ too_large (steps_held c.args.steps.now) c.args.name.now (special_claim c.in-Ok-variable_named.x (tree (place_by (number_in c.args.vars.now)) d.0) (step_claim c.in-Ok-one_named.step.now)) Closed (sym (ap (λ t. claim_fits (special_claim c.in-Ok-variable_named.x t (step_claim c.in-Ok-one_named.step.now))) d.3) ∙ sym c.special_fits.ensures ∙ c.if-not-special_fits.true))

pub returns : goal.returns
returns c = λ parse is. let d = subst (λ r. IsExpressionRead c.args.vars.now (parse (text_of_words c.args.words.now)) c.args.line (Ok r)) c.in-Ok-read.is (c.in-Ok.ensures c.args.vars.now (parse (text_of_words c.args.words.now)) (c.words_read.ensures parse is)) in turned_as c.args.line _ _ _ _ (read_first (parse (text_of_words c.args.words.now)) (λ e. and_then (fresh (steps_held c.args.steps.now) c.args.name.now) (λ _. and_then (step_named (steps_held c.args.steps.now) c.args.one.now) (λ claim. and_then (variable_named c.args.vars.now c.args.variable.now) (λ x. and_then (none_unknown (first_unknown (number_in c.args.vars.now) (spelling e))) (λ _. begun (steps_held c.args.steps.now) c.args.name.now (special_claim x (tree (place_by (number_in c.args.vars.now)) e) claim) Closed))))) d.0 d.1 ∙ c.in-Ok-one_named.ensures.ok (λ claim. and_then (variable_named c.args.vars.now c.args.variable.now) (λ x. and_then (none_unknown (first_unknown (number_in c.args.vars.now) (spelling d.0))) (λ _. begun (steps_held c.args.steps.now) c.args.name.now (special_claim x (tree (place_by (number_in c.args.vars.now)) d.0) claim) Closed))) ∙ ap (λ r. and_then r (λ x. and_then (none_unknown (first_unknown (number_in c.args.vars.now) (spelling d.0))) (λ _. begun (steps_held c.args.steps.now) c.args.name.now (special_claim x (tree (place_by (number_in c.args.vars.now)) d.0) (step_claim c.in-Ok-one_named.step.now)) Closed))) (subst (λ vs. variable_named vs c.args.variable.now ≡ Ok c.in-Ok-variable_named.x) c.names.ensures c.in-Ok-variable_named.ensures.ok) ∙ ap (λ u. and_then (none_unknown u) (λ _. begun (steps_held c.args.steps.now) c.args.name.now (special_claim c.in-Ok-variable_named.x (tree (place_by (number_in c.args.vars.now)) d.0) (step_claim c.in-Ok-one_named.step.now)) Closed)) d.2 ∙ ap (λ k. begun (steps_held c.args.steps.now) c.args.name.now k Closed) (sym (ap (λ t. special_claim c.in-Ok-variable_named.x t (step_claim c.in-Ok-one_named.step.now)) d.3) ∙ sym c.in_ok-step.ensures)) c.begin.ensures
