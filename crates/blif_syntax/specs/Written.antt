-- Law: models that are written out as lines are read back; and how they are written.
use Rattle.std.specs.Prelude.{◌≡◌, ◌≢◌, ℕ, ◌++◌, ◌∷◌, [], List, length, map, All, Bool, Option, Some, None, IsTrue, not, if◌then◌else◌, codes}
use Rattle.std.specs.List.{flat_map, list_any}
use Rattle.ste_base.specs.Bytes.{dash, digit_one, digit_zero, equals_sign}
use Rattle.blif_lines.specs.declared.lines.Line.{Line}
use Rattle.blif_lines.specs.Lines.{is_filled}
use Rattle.net_core.specs.declared.cover.Lit.{Lit}
use Rattle.net_core.specs.declared.cover.Lit.TheVariants as lit
use Rattle.net_core.specs.Cover.{IsCover}
use Rattle.net_core.specs.declared.raw.Init.{Init}
use Rattle.net_core.specs.declared.raw.Init.TheVariants as init
use Rattle.blif_syntax.specs.declared.models.Item.{Item}
use Rattle.blif_syntax.specs.declared.models.LatchKind.{LatchKind}
use Rattle.blif_syntax.specs.declared.models.LatchKind.TheVariants.{Plain, Rising, Falling}
use Rattle.blif_syntax.specs.declared.models.Model.{Model}
use Rattle.blif_syntax.specs.declared.models.What.{What}
use Rattle.blif_syntax.specs.declared.models.What.TheVariants.{Inputs, Outputs, Clock, Names, Latch, Subckt}
use Rattle.blif_syntax.specs.Answer.{entries_of}
use Rattle.blif_syntax.specs.Forms.{is_equals}
use Rattle.blif_syntax.specs.Places.{first_fault}
use Rattle.blif_syntax.specs.Spelled.{models_of}

-- the character of a literal
abbrev pub literal_byte : Lit → ℕ
literal_byte lit.Zero = digit_zero
literal_byte lit.One = digit_one
literal_byte lit.Any = dash

-- the word of an output character
abbrev pub output_word : Bool → List ℕ
output_word on = if on then codes "1" else codes "0"

-- the words of a row
abbrev pub row_words : Bool → List Lit → List (List ℕ)
row_words on [] = output_word on ∷ []
row_words on (literal ∷ row) = map literal_byte (literal ∷ row) ∷ output_word on ∷ []

-- the word of an initial value
abbrev pub init_word : Init → List ℕ
init_word init.Zero = codes "0"
init_word init.One = codes "1"
init_word init.Free = codes "3"

-- the word of a control
abbrev pub control_word : Option (List ℕ) → List ℕ
control_word None = codes "NIL"
control_word (Some control) = control

-- the words of a latch's type and control
abbrev pub kind_words : LatchKind → Option (List ℕ) → List (List ℕ)
kind_words Plain control = []
kind_words Rising control = codes "re" ∷ control_word control ∷ []
kind_words Falling control = codes "fe" ∷ control_word control ∷ []

-- the words of an item's lines
abbrev pub item_words : What → List (List (List ℕ))
item_words (Inputs names) = (codes ".inputs" ∷ names) ∷ []
item_words (Outputs names) = (codes ".outputs" ∷ names) ∷ []
item_words (Clock names) = (codes ".clock" ∷ names) ∷ []
item_words (Names inputs output cover) = (codes ".names" ∷ (inputs ++ output ∷ []))
    ∷ map (row_words cover.on) cover.rows
item_words (Latch input output kind control init) =
    (codes ".latch" ∷ input ∷ output ∷ (kind_words kind control ++ init_word init ∷ [])) ∷ []
item_words (Subckt model formals) =
    (codes ".subckt" ∷ model ∷ map (λ binding. binding.0 ++ (equals_sign ∷ binding.1)) formals) ∷ []

-- lines of these words, all with one number
abbrev pub lines_with_number : ℕ → List (List (List ℕ)) → List Line
lines_with_number number lines = map (λ words. record { number = number; words = words }) lines

-- the lines of an item
abbrev pub item_lines : Item → List Line
item_lines item = lines_with_number item.line (item_words item.what)

-- the words of a model's first line
abbrev pub head_words : List ℕ → List (List ℕ)
head_words name = codes ".model" ∷ (if is_filled name then name ∷ [] else [])

-- the lines of a model
abbrev pub model_lines : Model → List Line
model_lines model =
    lines_with_number model.line (head_words model.name ∷ [])
    ++ (flat_map item_lines model.items ++ lines_with_number model.line ((codes ".end" ∷ []) ∷ []))

-- the models, written out
abbrev pub written_models : List Model → List Line
written_models models = flat_map model_lines models

-- neither side of a binding is empty, and the formal has no `=`
pub record IsBinding (binding : List ℕ × List ℕ) : Type 0 where
  pub formal : IsTrue (is_filled binding.0)
  pub actual : IsTrue (is_filled binding.1)
  pub once : IsTrue (not (list_any is_equals binding.0))

-- what a line can say: a latch without a type has no control, and no control is called NIL
abbrev pub IsSayable : What → Type 0
IsSayable (Names inputs output cover) = (cover.inputs ≡ length inputs) × IsCover cover
IsSayable (Latch input output Plain control init) = control ≡ None
IsSayable (Latch input output kind control init) = control ≢ Some (codes "NIL")
IsSayable (Subckt model formals) = All IsBinding formals
IsSayable other = Unit {0}

-- models that can be written out
abbrev pub AreSayable : List Model → Type 0
AreSayable models = All (λ model. All (λ item. IsSayable item.what) model.items) models

-- Law: models that are written out are read back.
pub record WrittenIsRead : Type 0 where
  pub sound : (models : List Model) → AreSayable models →
      first_fault [] (entries_of (written_models models)) ≡ None
  pub same : (models : List Model) → AreSayable models →
      models_of (entries_of (written_models models)) ≡ models
