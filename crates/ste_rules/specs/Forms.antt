-- Meaning. What the words of a line of a derivation spell, wherever the line stands. The rules are
-- this project's own choice.
use Rattle.std.specs.Prelude.{ℕ, ◌∷◌, [], List, map, Bool, true, ◌&&◌, if◌then◌else◌, nat_lt, bytes_eq, codes}
use Rattle.std.specs.List.{list_all}
use Rattle.ste_base.specs.Number.{number_of}
use Rattle.blif_lines.specs.Laws.{text_of_words}
use Rattle.blif_lines.specs.declared.lines.Line.{Line}
use Rattle.assert_syntax.specs.declared.form.Side.TheVariants.{Antecedent}
use Rattle.assert_syntax.specs.declared.form.Span.{Span}
use Rattle.assert_syntax.specs.declared.form.Span.TheVariants.{Absent}
use Rattle.assert_syntax.specs.Forms.{Clause, clause_of}
use Rattle.assert_syntax.specs.Forms as task
use Rattle.assert_syntax.specs.Words.{is_number}

-- what the words of a line spell, wherever the line stands; the name of the new step comes first
pub data StepForm : Type 0 where
  -- it is this task
  leaf : List ℕ → List ℕ → StepForm
  -- the following `.ant` lines are its antecedent and its consequent
  identity : List ℕ → StepForm
  -- it is these two steps together
  both : List ℕ → List ℕ → List ℕ → StepForm
  -- it is this step, so many times later
  shift : List ℕ → List ℕ → ℕ → StepForm
  -- it is this step with the expression of this text, which may be none, for this variable
  specialise : List ℕ → List ℕ → List ℕ → List ℕ → StepForm
  -- it is this step, with the following `.ant` lines in its antecedent
  stronger : List ℕ → List ℕ → StepForm
  -- it is this step, with the consequents of these numbers alone
  weaker : List ℕ → List ℕ → List ℕ → StepForm
  -- it is the antecedent of the first of these steps, and the consequent of the second
  cut : List ℕ → List ℕ → List ℕ → StepForm
  -- it adds to the step before it
  given : Clause → StepForm
  -- it may stand nowhere
  wrong : StepForm

-- a line's number and its form
pub record StepEntry : Type 0 where
  pub line : ℕ
  pub form : StepForm

-- each number is above the one before it
abbrev pub are_rising : List ℕ → Bool
are_rising [] = true
are_rising (one ∷ []) = true
are_rising (one ∷ other ∷ numbers) = nat_lt one other && are_rising (other ∷ numbers)

-- what the words behind `.leaf` spell: the step's name and that of a task
abbrev pub leaf_of : List (List ℕ) → StepForm
leaf_of (name ∷ task ∷ []) = leaf name task
leaf_of other = wrong

-- what the words behind `.identity` spell: the step's name
abbrev pub identity_of : List (List ℕ) → StepForm
identity_of (name ∷ []) = identity name
identity_of other = wrong

-- what the words behind `.both` spell: the step's name and two earlier ones
abbrev pub both_of : List (List ℕ) → StepForm
both_of (name ∷ one ∷ other ∷ []) = both name one other
both_of words = wrong

-- what the words behind `.shift` spell: the step's name, an earlier one, and a number
abbrev pub shift_of : List (List ℕ) → StepForm
shift_of (name ∷ one ∷ number ∷ []) =
    if is_number number then shift name one (number_of number) else wrong
shift_of other = wrong

-- what the words behind `.specialise` spell: the step's name, an earlier one, a variable, `=`, and
-- the words of an expression
unfoldable pub specialise_of : List (List ℕ) → StepForm
specialise_of (name ∷ one ∷ variable ∷ equals ∷ words) =
    if bytes_eq equals (codes "=") then specialise name one variable (text_of_words words)
    else wrong
specialise_of other = wrong

-- what the words behind `.stronger` spell: the step's name and an earlier one
abbrev pub stronger_of : List (List ℕ) → StepForm
stronger_of (name ∷ one ∷ []) = stronger name one
stronger_of other = wrong

-- what the words behind `.weaker` spell: the step's name, an earlier one, and rising numbers
abbrev pub weaker_of : List (List ℕ) → StepForm
weaker_of (name ∷ one ∷ numbers) =
    if list_all is_number numbers && are_rising (map number_of numbers)
    then weaker name one (map number_of numbers) else wrong
weaker_of other = wrong

-- what the words behind `.cut` spell: the step's name and two earlier ones
abbrev pub cut_of : List (List ℕ) → StepForm
cut_of (name ∷ one ∷ other ∷ []) = cut name one other
cut_of words = wrong

-- a clause has times
abbrev pub timed : Clause → Span → StepForm
timed clause Absent = wrong
timed clause times = given clause

-- a line that is a clause with times where it stands in a task
abbrev pub given_form : task.Form → StepForm
given_form (task.clause clause) = timed clause clause.span
given_form other = wrong

-- what the words behind `.ant` spell
unfoldable pub given_of : List (List ℕ) → StepForm
given_of words = given_form (clause_of Antecedent words)

-- the form of a line by its first word and the others
abbrev pub later_form_of : List ℕ → List (List ℕ) → StepForm
later_form_of first words =
    if bytes_eq first (codes ".specialise") then specialise_of words
    else if bytes_eq first (codes ".stronger") then stronger_of words
    else if bytes_eq first (codes ".weaker") then weaker_of words
    else if bytes_eq first (codes ".cut") then cut_of words
    else if bytes_eq first (codes ".ant") then given_of words
    else wrong

-- the form of a line by its words
abbrev pub step_form_of : List (List ℕ) → StepForm
step_form_of [] = wrong
step_form_of (first ∷ words) =
    if bytes_eq first (codes ".leaf") then leaf_of words
    else if bytes_eq first (codes ".identity") then identity_of words
    else if bytes_eq first (codes ".both") then both_of words
    else if bytes_eq first (codes ".shift") then shift_of words
    else later_form_of first words

-- a line with its form, and lines with their forms
abbrev pub step_entry_of : Line → StepEntry
step_entry_of line = record { line = line.number; form = step_form_of line.words }

abbrev pub step_entries_of : List Line → List StepEntry
step_entries_of lines = map step_entry_of lines
