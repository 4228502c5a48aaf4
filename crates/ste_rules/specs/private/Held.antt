-- For private functions. Forms and steps as the code holds them.
use Rattle.std.specs.Prelude.{◌≡◌, ◌++◌, ◌∷◌, [], List, ℕ, map, true}
use Rattle.std.specs.List.{flat_map, list_all}
use Rattle.ste_base.specs.Number.{number_of}
use Rattle.blif_lines.specs.Laws.{text_of_words}
use Rattle.assert_syntax.specs.Held.{clause_held}
use Rattle.assert_syntax.specs.Words.{is_number}
use Rattle.ste_model.specs.Trees.{quint_tree}
use Rattle.rule_model.specs.Claims.{Claim}
use Rattle.ste_rules.specs.declared.form.Form as held_form
use Rattle.ste_rules.specs.declared.form.Form.TheVariants.{Leaf, Identity, Both, Shift, Specialise, Stronger, Weaker, Cut, Given, Wrong}
use Rattle.ste_rules.specs.declared.step.Step.{Step}
use Rattle.ste_rules.specs.declared.steps.Steps as held_steps
use Rattle.ste_rules.specs.Forms.{StepForm, leaf, identity, both, shift, specialise, stronger, weaker, cut, given, wrong}
use Rattle.ste_rules.specs.Steps.{Steps}

-- the form, wherever its words lie in memory
abbrev pub step_form_held : held_form.Form → StepForm
step_form_held (Leaf name task) = leaf name.now task.now
step_form_held (Identity name) = identity name.now
step_form_held (Both name one other) = both name.now one.now other.now
step_form_held (Shift name one number) = shift name.now one.now (number_of number.now)
step_form_held (Specialise name one variable words) =
    specialise name.now one.now variable.now (text_of_words words.now)
step_form_held (Stronger name one) = stronger name.now one.now
step_form_held (Weaker name one numbers) = weaker name.now one.now (map number_of numbers.now)
step_form_held (Cut name one other) = cut name.now one.now other.now
step_form_held (Given clause) = given (clause_held clause)
step_form_held Wrong = wrong

-- the words that stand for numbers are numbers
abbrev pub IsFormed : held_form.Form → Type 0
IsFormed (Shift name one number) = is_number number.now ≡ true
IsFormed (Weaker name one numbers) = list_all is_number numbers.now ≡ true
IsFormed other = Unit {0}

-- what a step claims
abbrev pub step_claim : Step → Claim
step_claim step =
    record { reset = step.reset; ant = map quint_tree step.ant; con = map quint_tree step.con }

-- the steps, wherever they lie in memory
abbrev pub steps_held : held_steps.Steps → Steps
steps_held steps = record {
  names = steps.names.keys;
  claims = map step_claim steps.claims.items;
  leaves = steps.leaves;
  growth = steps.growth;
}

-- pieces with a sign between two of them
abbrev pub listed_text : List ℕ → List (List ℕ) → List ℕ
listed_text sign [] = []
listed_text sign (piece ∷ pieces) = piece ++ flat_map (λ other. sign ++ other) pieces
