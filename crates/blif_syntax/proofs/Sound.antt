-- What is read can be written out: covers have rows of their width, and so on.
use Rattle.std.proofs.Common.{ℕ, suc, ◌≡◌, ◌≢◌, refl, ◌∙◌, List, [], ◌∷◌, length, map, All, arith, Bool, true, false, ◌&&◌, not, nat_eq, get_or, IsTrue, if◌then◌else◌, Option, Some, None, codes}
use Rattle.std.specs.Str.{bytes_eq}
use Rattle.std.specs.List.{list_all, list_any}
use Rattle.std.proofs.lemmas.List.Elements.{All-cons}
use Rattle.std.proofs.lemmas.Slice.Eq.{bytes_eq-Decides}
use Rattle.blif_lines.specs.declared.lines.Line.{Line}
use Rattle.blif_lines.specs.Lines.{before, is_filled}
use Rattle.net_core.specs.declared.cover.Lit.{Lit}
use Rattle.net_core.specs.declared.raw.Init.{Init}
use Rattle.blif_syntax.specs.declared.form.Entry.{Entry}
use Rattle.blif_syntax.specs.declared.form.Form.{Form}
use Rattle.blif_syntax.specs.declared.form.Form.TheVariants as form
use Rattle.blif_syntax.specs.declared.form.LineFault.{LineFault}
use Rattle.blif_syntax.specs.declared.models.Item.{Item}
use Rattle.blif_syntax.specs.declared.models.LatchKind.{LatchKind}
use Rattle.blif_syntax.specs.declared.models.LatchKind.TheVariants.{Plain, Rising, Falling}
use Rattle.blif_syntax.specs.declared.models.Model.{Model}
use Rattle.blif_syntax.specs.declared.open_cover.OpenCover.{OpenCover}
use Rattle.blif_syntax.specs.Answer.{entry_of, entries_of}
use Rattle.blif_syntax.specs.Forms.{form_of, bad, form_of_row, row_with, names_with, form_of_model, form_of_end, form_of_latch, latch_typed, latch_with, is_equals, binding_with, binding_of, with_binding, bindings_of, form_of_use, use_with}
use Rattle.blif_syntax.specs.Places.{first_fault, row_fits, first_or, is_same}
use Rattle.blif_syntax.specs.Sayable.{ReadIsSayable}
use Rattle.blif_syntax.specs.Spelled.{rows_of, rows_with, on_of, items_of, models_of}
use Rattle.blif_syntax.specs.Words.{begins_with_dot, control_of, init_of, is_bit, is_literal, is_one_of, literal_of, kind_named, left_out_types, left_out_words, skipped_words}
use Rattle.net_core.specs.Cover.{IsCover}
use Rattle.blif_syntax.specs.declared.models.What.{What}
use Rattle.blif_syntax.specs.declared.models.What.TheVariants as what
use Rattle.blif_syntax.specs.Covered.{IsCovered, AreCovered}
use Rattle.blif_syntax.specs.Written.{IsBinding, IsSayable, AreSayable}
use Rattle.blif_syntax.proofs.Faults.{fault_from, whole}

-- what the words of a line can spell
abbrev pub IsSpelled : Form → Type 0
IsSpelled (form.Item said) = IsSayable said
IsSpelled (form.Names width inputs output) = width ≡ length inputs
IsSpelled other = Unit {0}

either : (c : Bool) (a b : Form) → IsSpelled a → IsSpelled b → IsSpelled (if c then a else b)
either true a b x y = x
either false a b x y = y

row_bit : (bit : Bool) (row : List Lit) (on : Bool) → IsSpelled (if bit then form.Row row on else bad)
row_bit true row on = tt
row_bit false row on = tt

row_sound : (characters output : List ℕ) → IsSpelled (row_with characters output)
row_sound characters [] = tt
row_sound characters (byte ∷ []) = row_bit (is_bit byte && list_all is_literal characters) (map literal_of characters) (nat_eq byte 49)
row_sound characters (byte ∷ other ∷ more) = tt

rows_sound : (first : List ℕ) (words : List (List ℕ)) → IsSpelled (form_of_row first words)
rows_sound first [] = row_sound [] first
rows_sound first (output ∷ []) = either (is_filled first) (row_with first output) bad (row_sound first output) tt
rows_sound first (output ∷ other ∷ more) = tt

names_sound : (inputs : List (List ℕ)) (output : Option (List ℕ)) → IsSpelled (names_with inputs output)
names_sound inputs None = tt
names_sound inputs (Some output) = refl

model_sound : (words : List (List ℕ)) → IsSpelled (form_of_model words)
model_sound [] = tt
model_sound (name ∷ []) = tt
model_sound (name ∷ other ∷ more) = tt

end_sound : (words : List (List ℕ)) → IsSpelled (form_of_end words)
end_sound [] = tt
end_sound (word ∷ more) = tt

plain_sound : (input output : List ℕ) (init : Option Init) → IsSpelled (latch_with input output (Some Plain) None init)
plain_sound input output None = tt
plain_sound input output (Some init) = refl

-- a control is not called NIL
not_nil : (control : List ℕ) (bit : Bool) → bytes_eq control (codes "NIL") ≡ bit → (if bit then None else Some control) ≢ Some (codes "NIL")
not_nil control true e same = absurd (cc same)
not_nil control false e same = absurd (cc (e, (bytes_eq-Decides control (codes "NIL")).1 (cc same)))

typed_sound : (input output : List ℕ) (kind : Option LatchKind) (control : Option (List ℕ)) (init : Option Init) → kind ≢ Some Plain → control ≢ Some (codes "NIL") → IsSpelled (latch_with input output kind control init)
typed_sound input output None control init k c = tt
typed_sound input output (Some kind) control None k c = tt
typed_sound input output (Some Plain) control (Some init) k c = absurd (k refl)
typed_sound input output (Some Rising) control (Some init) k c = c
typed_sound input output (Some Falling) control (Some init) k c = c

never_plain : (a b : Bool) → (if a then Some Rising else if b then Some Falling else None) ≢ Some Plain
never_plain true b e = absurd (cc e)
never_plain false true e = absurd (cc e)
never_plain false false e = absurd (cc e)

latch_typed_sound : (input output kind control : List ℕ) (init : Option Init) → IsSpelled (latch_typed input output kind control init)
latch_typed_sound input output kind control init =
    either (is_one_of left_out_types kind) _ _ tt
    (typed_sound input output (kind_named kind) (control_of control) init (never_plain (bytes_eq kind (codes "re")) (bytes_eq kind (codes "fe"))) (not_nil control (bytes_eq control (codes "NIL")) refl))

latch_sound : (words : List (List ℕ)) → IsSpelled (form_of_latch words)
latch_sound [] = tt
latch_sound (input ∷ []) = tt
latch_sound (input ∷ output ∷ []) = refl
latch_sound (input ∷ output ∷ init ∷ []) = plain_sound input output (init_of init)
latch_sound (input ∷ output ∷ kind ∷ control ∷ []) = latch_typed_sound input output kind control _
latch_sound (input ∷ output ∷ kind ∷ control ∷ init ∷ []) = latch_typed_sound input output kind control (init_of init)
latch_sound (input ∷ output ∷ kind ∷ control ∷ init ∷ other ∷ more) = tt

-- a formal has no `=`
step_formal : (bit : Bool) (byte : ℕ) (word : List ℕ) → is_equals byte ≡ bit → IsTrue (not (list_any is_equals word)) → IsTrue (not (list_any is_equals (if bit then [] else byte ∷ word)))
step_formal true byte word e h = refl
step_formal false byte word e h = rw e h

formal_once : (word : List ℕ) → IsTrue (not (list_any is_equals (before is_equals word)))
formal_once [] = refl
formal_once (byte ∷ word) = step_formal (is_equals byte) byte (before is_equals word) refl (formal_once word)

-- what two words give is a binding
abbrev pub AreBindings : Option (List (List ℕ × List ℕ)) → Type 0
AreBindings None = Unit {0}
AreBindings (Some bindings) = All IsBinding bindings

abbrev pub IsBound : Option (List ℕ × List ℕ) → Type 0
IsBound None = Unit {0}
IsBound (Some binding) = IsBinding binding

bound : (formal actual : List ℕ) → IsTrue (not (list_any is_equals formal)) → IsBound (binding_with formal actual)
bound [] actual h = tt
bound (byte ∷ formal) [] h = tt
bound (byte ∷ formal) (other ∷ actual) h = record { formal = refl; actual = refl; once = h }

one_more : (binding : Option (List ℕ × List ℕ)) (bindings : Option (List (List ℕ × List ℕ))) → IsBound binding → AreBindings bindings → AreBindings (with_binding binding bindings)
one_more None bindings a b = tt
one_more (Some binding) None a b = tt
one_more (Some binding) (Some bindings) a b = All-cons IsBinding binding bindings a b

bindings_sound : (words : List (List ℕ)) → AreBindings (bindings_of words)
bindings_sound [] = λ k d below. absurd (omega (arith, below))
bindings_sound (word ∷ words) = one_more (binding_of word) (bindings_of words) (bound (before is_equals word) _ (formal_once word)) (bindings_sound words)

use_sound : (model : List ℕ) (formals : Option (List (List ℕ × List ℕ))) → AreBindings formals → IsSpelled (use_with model formals)
use_sound model None h = tt
use_sound model (Some formals) h = h

uses_sound : (words : List (List ℕ)) → IsSpelled (form_of_use words)
uses_sound [] = tt
uses_sound (model ∷ words) = use_sound model (bindings_of words) (bindings_sound words)

-- the words of a line spell what can be said
form_sound : (words : List (List ℕ)) → IsSpelled (form_of words)
form_sound [] = tt
form_sound (first ∷ words) =
    either (is_one_of skipped_words first) _ _ tt
    (either (bytes_eq first (codes ".model")) _ _ (model_sound words)
    (either (bytes_eq first (codes ".inputs")) _ _ tt
    (either (bytes_eq first (codes ".outputs")) _ _ tt
    (either (bytes_eq first (codes ".clock")) _ _ tt
    (either (bytes_eq first (codes ".names")) _ _ (names_sound _ _)
    (either (bytes_eq first (codes ".latch")) _ _ (latch_sound words)
    (either (bytes_eq first (codes ".subckt")) _ _ (uses_sound words)
    (either (bytes_eq first (codes ".end")) _ _ (end_sound words)
    (either (is_one_of left_out_words first) _ _ tt
    (either (begins_with_dot first) _ _ tt (rows_sound first words)))))))))))

if_none : (c : Bool) (later : Option (ℕ × LineFault)) (fault : ℕ × LineFault) → (if c then later else Some fault) ≡ None → (c ≡ true) × (later ≡ None)
if_none true later fault e = (refl, e)
if_none false later fault e = absurd (cc e)

-- each row has this width
abbrev pub HaveWidth : ℕ → List (List Lit × Bool) → Type 0
HaveWidth width rows = All (λ row. length row.0 ≡ width) rows

no_rows : (width : ℕ) → HaveWidth width []
no_rows width k d below = absurd (omega (arith, below))

fit_both : (a b : Bool) (n width : ℕ) → nat_eq n width ≡ a → (a && b) ≡ true → n ≡ width
fit_both true b n width e h = grind (arith, e)
fit_both false b n width e h = absurd (cc h)

fit_width : (n width : ℕ) (on : Bool) (first : Option Bool) → row_fits n on (Some (record { width = width; first = first })) ≡ true → n ≡ width
fit_width n width on first e = fit_both (nat_eq n width) (is_same (first_or first on) on) n width refl e

widths_at : (form : Form) (number : ℕ) (inside : Bool) (width : ℕ) (first : Option Bool) (rest : List Entry) → ((inside : Bool) (first : Option Bool) → fault_from inside (Some (record { width = width; first = first })) rest ≡ None → HaveWidth width (rows_of rest)) → fault_from inside (Some (record { width = width; first = first })) (record { line = number; form = form } ∷ rest) ≡ None → HaveWidth width (rows_with form (rows_of rest))
widths_at form.Skipped number inside width first rest later e = later inside first e
widths_at (form.Row row on) number inside width first rest later e =
    let both = if_none (row_fits (length row) on (Some (record { width = width; first = first }))) _ _ e in
    All-cons (λ (row : List Lit × Bool). length row.0 ≡ width) (row, on) (rows_of rest) (fit_width (length row) width on first both.0) (later inside (Some (first_or first on)) both.1)
widths_at other number inside width first rest later e = no_rows width

rows_width : (rest : List Entry) (inside : Bool) (width : ℕ) (first : Option Bool) → fault_from inside (Some (record { width = width; first = first })) rest ≡ None → HaveWidth width (rows_of rest)
rows_width [] inside width first e = no_rows width
rows_width (line ∷ rest) inside width first e = widths_at line.form line.line inside width first rest (λ i f h. rows_width rest i width f h) e

first_rows : (width : ℕ) (rows : List (List Lit × Bool)) → HaveWidth width rows → All (λ row. length row ≡ width) (map (λ (row : List Lit × Bool). row.0) rows)
first_rows width [] h = λ k d below. absurd (omega (arith, below))
first_rows width (row ∷ rows) h =
    All-cons (λ row. length row ≡ width) row.0 (map (λ (row : List Lit × Bool). row.0) rows) (h 0 row (omega arith)) (first_rows width rows (λ k d below. h (suc k) d (omega (arith, below))))

no_row_on : (rows : List (List Lit × Bool)) → map (λ (row : List Lit × Bool). row.0) rows ≡ [] → on_of rows ≡ true
no_row_on [] e = refl
no_row_on (row ∷ rows) e = absurd (cc e)

cover_sound : (width : ℕ) (inputs : List (List ℕ)) (rows : List (List Lit × Bool)) → width ≡ length inputs → HaveWidth width rows → (width ≡ length inputs) × IsCover (record { inputs = width; on = on_of rows; rows = map (λ row. row.0) rows })
cover_sound width inputs rows e h = (e, record { wide = first_rows width rows h; on = no_row_on rows })

abbrev pub AllSaid : List Item → Type 0
AllSaid items = All (λ item. IsSayable item.what) items

no_items : AllSaid []
no_items k d below = absurd (omega (arith, below))

item_first : (item : Item) (items : List Item) → IsSayable item.what → AllSaid items → AllSaid (item ∷ items)
item_first item items a b = All-cons (λ (item : Item). IsSayable item.what) item items a b

-- the items up to the next line that starts or ends a model
items_at : (form : Form) (number : ℕ) (inside : Bool) (cover : Option OpenCover) (rest : List Entry) → IsSpelled form → ((inside : Bool) (cover : Option OpenCover) → fault_from inside cover rest ≡ None → AllSaid (items_of rest)) → fault_from inside cover (record { line = number; form = form } ∷ rest) ≡ None → AllSaid (items_of (record { line = number; form = form } ∷ rest))
items_at form.Skipped number inside cover rest s later e = later inside cover e
items_at (form.Model name) number inside cover rest s later e = no_items
items_at form.End number inside cover rest s later e = no_items
items_at (form.Item said) number inside cover rest s later e = item_first _ (items_of rest) s (later inside None (if_none inside _ _ e).1)
items_at (form.Names width inputs output) number inside cover rest s later e =
    let none = (if_none inside _ _ e).1 in
    item_first _ (items_of rest) (cover_sound width inputs (rows_of rest) s (rows_width rest inside width None none)) (later inside (Some (record { width = width; first = None })) none)
items_at (form.Row row on) number inside cover rest s later e = later inside _ (if_none (row_fits (length row) on cover) _ _ e).1
items_at (form.Wrong kind) number inside cover rest s later e = absurd (cc e)

abbrev pub AreSpelled : List Entry → Type 0
AreSpelled lines = All (λ line. IsSpelled line.form) lines

others_spelled : (line : Entry) (rest : List Entry) → AreSpelled (line ∷ rest) → AreSpelled rest
others_spelled line rest s k d below = s (suc k) d (omega (arith, below))

items_sound : (lines : List Entry) (inside : Bool) (cover : Option OpenCover) → AreSpelled lines → fault_from inside cover lines ≡ None → AllSaid (items_of lines)
items_sound [] inside cover s e = no_items
items_sound (line ∷ rest) inside cover s e = items_at line.form line.line inside cover rest (s 0 line (omega arith)) (λ i c h. items_sound rest i c (others_spelled line rest s) h) e

-- the models
models_at : (form : Form) (number : ℕ) (inside : Bool) (cover : Option OpenCover) (rest : List Entry) → AreSpelled rest → ((inside : Bool) (cover : Option OpenCover) → fault_from inside cover rest ≡ None → AreSayable (models_of rest)) → fault_from inside cover (record { line = number; form = form } ∷ rest) ≡ None → AreSayable (models_of (record { line = number; form = form } ∷ rest))
models_at (form.Model name) number inside cover rest s later e =
    All-cons (λ (model : Model). AllSaid model.items) (record { line = number; name = name; items = items_of rest }) (models_of rest) (items_sound rest true None s e) (later true None e)
models_at form.Skipped number inside cover rest s later e = later inside cover e
models_at form.End number inside cover rest s later e = later false None (if_none inside _ _ e).1
models_at (form.Item said) number inside cover rest s later e = later inside None (if_none inside _ _ e).1
models_at (form.Names width inputs output) number inside cover rest s later e = later inside _ (if_none inside _ _ e).1
models_at (form.Row row on) number inside cover rest s later e = later inside _ (if_none (row_fits (length row) on cover) _ _ e).1
models_at (form.Wrong kind) number inside cover rest s later e = absurd (cc e)

models_sound : (lines : List Entry) (inside : Bool) (cover : Option OpenCover) → AreSpelled lines → fault_from inside cover lines ≡ None → AreSayable (models_of lines)
models_sound [] inside cover s e = λ k d below. absurd (omega (arith, below))
models_sound (line ∷ rest) inside cover s e = models_at line.form line.line inside cover rest (others_spelled line rest s) (λ i c h. models_sound rest i c (others_spelled line rest s) h) e

entries_spelled : (lines : List Line) → AreSpelled (entries_of lines)
entries_spelled [] = λ k d below. absurd (omega (arith, below))
entries_spelled (line ∷ lines) = All-cons (λ (entry : Entry). IsSpelled entry.form) (entry_of line) (entries_of lines) (form_sound line.words) (entries_spelled lines)

-- models that are read can be written out
said_is_covered : (said : What) → IsSayable said → IsCovered said
said_is_covered (what.Inputs names) h = tt
said_is_covered (what.Outputs names) h = tt
said_is_covered (what.Clock names) h = tt
said_is_covered (what.Names inputs output cover) h = h
said_is_covered (what.Latch input output kind control init) h = tt
said_is_covered (what.Subckt model formals) h = tt

-- models that can be written out have sound covers
pub sayable_is_covered : (models : List Model) → AreSayable models → AreCovered models
sayable_is_covered models h = λ k d l j e m. said_is_covered (get_or (get_or models k d).items j e).what (h k d l j e m)

sayable : (lines : List Line) → first_fault [] (entries_of lines) ≡ None → AreSayable (models_of (entries_of lines))
sayable lines e = models_sound (entries_of lines) false None (entries_spelled lines) (whole (entries_of lines) ∙ e)

pub read_is_sayable : ReadIsSayable
read_is_sayable = record {
  said = sayable;
  covered = λ lines e. sayable_is_covered (models_of (entries_of lines)) (sayable lines e);
}
