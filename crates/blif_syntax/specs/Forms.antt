-- Meaning. What the words of a line spell, wherever the line stands.
use Rattle.std.specs.Prelude.{ℕ, suc, ◌-◌, ◌∷◌, [], List, length, take, drop, map, slice_get, Bool, Option, Some, None, if◌then◌else◌, nat_eq, ◌&&◌, bytes_eq, codes}
use Rattle.std.specs.List.{list_all}
use Rattle.ste_base.specs.Bytes.{digit_one, equals_sign}
use Rattle.blif_lines.specs.Lines.{before, is_filled}
use Rattle.net_core.specs.declared.raw.Init.{Init}
use Rattle.net_core.specs.declared.raw.Init.TheVariants.{Free}
use Rattle.blif_syntax.specs.declared.models.LatchKind.{LatchKind}
use Rattle.blif_syntax.specs.declared.models.LatchKind.TheVariants.{Plain}
use Rattle.blif_syntax.specs.declared.models.What.TheVariants as what
use Rattle.blif_syntax.specs.declared.form.Form.{Form}
use Rattle.blif_syntax.specs.declared.form.Form.TheVariants.{Skipped, Model, End, Item, Names, Row, Wrong}
use Rattle.blif_syntax.specs.declared.form.LineFault.TheVariants.{Bad, Unknown, LeftOut}
use Rattle.blif_syntax.specs.Words.{begins_with_dot, control_of, init_of, is_bit, is_literal, is_one_of, kind_named, left_out_types, left_out_words, literal_of, skipped_words}

-- a line that has no form
abbrev pub bad : Form
bad = Wrong Bad

-- a row with these characters, and the character of its output
abbrev pub row_with : List ℕ → List ℕ → Form
row_with characters (byte ∷ []) =
    if is_bit byte && list_all is_literal characters then Row (map literal_of characters)
    (nat_eq byte digit_one) else bad
row_with characters other = bad

-- a line whose first word does not begin with a dot: a row of one word, which has no literals, or
-- of two
abbrev pub form_of_row : List ℕ → List (List ℕ) → Form
form_of_row first [] = row_with [] first
form_of_row first (output ∷ []) = if is_filled first then row_with first output else bad
form_of_row first (output ∷ other ∷ more) = bad

-- the words behind `.names` but the last, and the last
abbrev pub names_with : List (List ℕ) → Option (List ℕ) → Form
names_with inputs None = bad
names_with inputs (Some output) = Names (length inputs) inputs output

-- what the words behind `.names` spell
abbrev pub form_of_names : List (List ℕ) → Form
form_of_names words =
    names_with (take (length words - 1) words) (slice_get words (length words - 1))

-- what the words behind `.model` spell; a model without a name has the empty one
abbrev pub form_of_model : List (List ℕ) → Form
form_of_model [] = Model []
form_of_model (name ∷ []) = Model name
form_of_model (name ∷ other ∷ more) = bad

-- what the words behind `.end` spell
abbrev pub form_of_end : List (List ℕ) → Form
form_of_end [] = End
form_of_end (word ∷ more) = bad

-- a latch, where its type and its initial value are known
abbrev pub latch_with : List ℕ → List ℕ → Option LatchKind → Option (List ℕ) → Option Init → Form
latch_with input output (Some kind) control (Some init) =
    Item (what.Latch input output kind control init)
latch_with input output kind control init = bad

-- a latch with a type
abbrev pub latch_typed : List ℕ → List ℕ → List ℕ → List ℕ → Option Init → Form
latch_typed input output kind control init =
    if is_one_of left_out_types kind then Wrong (LeftOut kind)
    else latch_with input output (kind_named kind) (control_of control) init

-- what the words behind `.latch` spell; a latch without an initial value is free
abbrev pub form_of_latch : List (List ℕ) → Form
form_of_latch (input ∷ output ∷ []) = latch_with input output (Some Plain) None (Some Free)
form_of_latch (input ∷ output ∷ init ∷ []) =
    latch_with input output (Some Plain) None (init_of init)
form_of_latch (input ∷ output ∷ kind ∷ control ∷ []) =
    latch_typed input output kind control (Some Free)
form_of_latch (input ∷ output ∷ kind ∷ control ∷ init ∷ []) =
    latch_typed input output kind control (init_of init)
form_of_latch other = bad

-- the character that parts a formal from its actual
abbrev pub is_equals : ℕ → Bool
is_equals byte = nat_eq byte equals_sign

-- a formal and its actual, neither of which is empty
abbrev pub binding_with : List ℕ → List ℕ → Option (List ℕ × List ℕ)
binding_with formal actual =
    if is_filled formal && is_filled actual then Some (formal, actual) else None

-- a word cut at its first `=`
abbrev pub binding_of : List ℕ → Option (List ℕ × List ℕ)
binding_of word =
    let formal = before is_equals word in binding_with formal (drop (suc (length formal)) word)

-- one more binding, where all are bindings
abbrev pub with_binding : Option (List ℕ × List ℕ) → Option (List (List ℕ × List ℕ)) →
    Option (List (List ℕ × List ℕ))
with_binding (Some binding) (Some bindings) = Some (binding ∷ bindings)
with_binding one all = None

-- all words as bindings
abbrev pub bindings_of : List (List ℕ) → Option (List (List ℕ × List ℕ))
bindings_of [] = Some []
bindings_of (word ∷ words) = with_binding (binding_of word) (bindings_of words)

-- a use of a model, where all its words are bindings
abbrev pub use_with : List ℕ → Option (List (List ℕ × List ℕ)) → Form
use_with model None = bad
use_with model (Some formals) = Item (what.Subckt model formals)

-- what the words behind `.subckt` spell
abbrev pub form_of_use : List (List ℕ) → Form
form_of_use [] = bad
form_of_use (model ∷ words) = use_with model (bindings_of words)

-- the form of a line by its words
abbrev pub form_of : List (List ℕ) → Form
form_of [] = bad
form_of (first ∷ words) =
    if is_one_of skipped_words first then Skipped
    else if bytes_eq first (codes ".model") then form_of_model words
    else if bytes_eq first (codes ".inputs") then Item (what.Inputs words)
    else if bytes_eq first (codes ".outputs") then Item (what.Outputs words)
    else if bytes_eq first (codes ".clock") then Item (what.Clock words)
    else if bytes_eq first (codes ".names") then form_of_names words
    else if bytes_eq first (codes ".latch") then form_of_latch words
    else if bytes_eq first (codes ".subckt") then form_of_use words
    else if bytes_eq first (codes ".end") then form_of_end words
    else if is_one_of left_out_words first then Wrong (LeftOut first)
    else if begins_with_dot first then Wrong (Unknown first)
    else form_of_row first words
