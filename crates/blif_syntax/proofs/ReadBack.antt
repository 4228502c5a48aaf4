-- Models that are written out are read back.
use Rattle.std.proofs.Common.{ℕ, suc, ◌≡◌, refl, ap, sym, subst, ◌∙◌, List, [], ◌∷◌, ◌++◌, length, map, All, arith, Bool, true, false, if◌then◌else◌, Option, Some, None, codes, append_assoc}
use Rattle.std.specs.List.{flat_map}
use Rattle.std.proofs.lemmas.List.{map-append}
use Rattle.blif_lines.specs.declared.lines.Line.{Line}
use Rattle.net_core.specs.declared.cover.Cover.{Cover}
use Rattle.net_core.specs.declared.cover.Lit.{Lit}
use Rattle.blif_syntax.specs.declared.form.Entry.{Entry}
use Rattle.blif_syntax.specs.declared.form.Form.{Form}
use Rattle.blif_syntax.specs.declared.form.Form.TheVariants as form
use Rattle.blif_syntax.specs.declared.form.LineFault.{LineFault}
use Rattle.blif_syntax.specs.declared.models.Item.{Item}
use Rattle.blif_syntax.specs.declared.models.LatchKind.TheVariants.{Plain, Rising, Falling}
use Rattle.blif_syntax.specs.declared.models.Model.{Model}
use Rattle.blif_syntax.specs.declared.models.What.{What}
use Rattle.blif_syntax.specs.declared.models.What.TheVariants as what
use Rattle.blif_syntax.specs.declared.open_cover.OpenCover.{OpenCover}
use Rattle.blif_syntax.specs.Answer.{entry_of, entries_of}
use Rattle.blif_syntax.specs.Forms.{form_of}
use Rattle.blif_syntax.specs.Places.{first_or, row_fits}
use Rattle.blif_syntax.specs.Spelled.{rows_of, on_of, items_of, models_of}
use Rattle.net_core.specs.Cover.{IsCover}
use Rattle.blif_syntax.specs.Written.{row_words, item_words, item_lines, lines_with_number, head_words, model_lines, written_models, IsSayable, AreSayable, WrittenIsRead}
use Rattle.blif_syntax.proofs.Faults.{fault_from, whole}
use Rattle.blif_syntax.proofs.Spelling.{row_form, names_form, plain_form, rising_form, falling_form, use_form}

-- a row at line n
abbrev pub row_entry : ℕ → Bool → List Lit → Entry
row_entry n on row = record { line = n; form = form.Row row on }

-- an item's lines with their forms
abbrev pub item_entries : ℕ → What → List Entry
item_entries n (what.Names inputs output cover) = record { line = n; form = form.Names (length inputs) inputs output } ∷ map (row_entry n cover.on) cover.rows
item_entries n other = record { line = n; form = form.Item other } ∷ []

rows_spelled : (n : ℕ) (on : Bool) (rows : List (List Lit)) → entries_of (lines_with_number n (map (row_words on) rows)) ≡ map (row_entry n on) rows
rows_spelled n on [] = refl
rows_spelled n on (row ∷ rows) =
    ap (λ f. record { line = n; form = f } ∷ entries_of (lines_with_number n (map (row_words on) rows))) (row_form on row)
    ∙ ap (λ later. row_entry n on row ∷ later) (rows_spelled n on rows)

-- one line alone
abbrev pub one_entry : ℕ → Form → List Entry
one_entry n form = record { line = n; form = form } ∷ []

item_spelled : (n : ℕ) (said : What) → IsSayable said → entries_of (lines_with_number n (item_words said)) ≡ item_entries n said
item_spelled n (what.Inputs names) say = refl
item_spelled n (what.Outputs names) say = refl
item_spelled n (what.Clock names) say = refl
item_spelled n (what.Names inputs output cover) say =
    ap (λ f. record { line = n; form = f } ∷ entries_of (lines_with_number n (map (row_words cover.on) cover.rows))) (names_form inputs output)
    ∙ ap (λ later. record { line = n; form = form.Names (length inputs) inputs output } ∷ later) (rows_spelled n cover.on cover.rows)
item_spelled n (what.Latch input output Plain control init) say = ap (one_entry n) (plain_form input output init ∙ ap (λ c. form.Item (what.Latch input output Plain c init)) (sym say))
item_spelled n (what.Latch input output Rising control init) say = ap (one_entry n) (rising_form input output control init say)
item_spelled n (what.Latch input output Falling control init) say = ap (one_entry n) (falling_form input output control init say)
item_spelled n (what.Subckt model formals) say = ap (one_entry n) (use_form model formals say)

-- these lines, which stand where a model is open, say these items of it and then these models
pub record IsInside (lines : List Entry) (items : List Item) (models : List Model) : Type 0 where
  pub fault : (cover : Option OpenCover) → fault_from true cover lines ≡ None
  pub rows : rows_of lines ≡ []
  pub own : items_of lines ≡ items
  pub later : models_of lines ≡ models

-- these lines, which may stand anywhere, say these models
pub record IsOutside (lines : List Entry) (models : List Model) : Type 0 where
  pub fault : (inside : Bool) (cover : Option OpenCover) → fault_from inside cover lines ≡ None
  pub later : models_of lines ≡ models

rows_read : (n : ℕ) (on : Bool) (rows : List (List Lit)) (rest : List Entry) → rows_of rest ≡ [] → rows_of (map (row_entry n on) rows ++ rest) ≡ map (λ row. (row, on)) rows
rows_read n on [] rest e = e
rows_read n on (row ∷ rows) rest e = ap (λ more. (row, on) ∷ more) (rows_read n on rows rest e)

rows_items : (n : ℕ) (on : Bool) (rows : List (List Lit)) (rest : List Entry) → items_of (map (row_entry n on) rows ++ rest) ≡ items_of rest
rows_items n on [] rest = refl
rows_items n on (row ∷ rows) rest = rows_items n on rows rest

rows_models : (n : ℕ) (on : Bool) (rows : List (List Lit)) (rest : List Entry) → models_of (map (row_entry n on) rows ++ rest) ≡ models_of rest
rows_models n on [] rest = refl
rows_models n on (row ∷ rows) rest = rows_models n on rows rest

unless : (bit : Bool) (later fault : Option (ℕ × LineFault)) → bit ≡ true → later ≡ None → (if bit then later else fault) ≡ None
unless true later fault b e = e
unless false later fault b e = absurd (cc b)

fits_width : (n width : ℕ) (first : Option Bool) (on : Bool) → n ≡ width → first_or first on ≡ on → row_fits n on (Some (record { width = width; first = first })) ≡ true
fits_width n width first true e f = rw f (grind (arith, e))
fits_width n width first false e f = rw f (grind (arith, e))

rows_stand : (n width : ℕ) (on : Bool) (rows : List (List Lit)) (first : Option Bool) (rest : List Entry) → All (λ row. length row ≡ width) rows → first_or first on ≡ on → ((cover : Option OpenCover) → fault_from true cover rest ≡ None) → fault_from true (Some (record { width = width; first = first })) (map (row_entry n on) rows ++ rest) ≡ None
rows_stand n width on [] first rest all f later = later (Some (record { width = width; first = first }))
rows_stand n width on (row ∷ rows) first rest all f later =
    unless (row_fits (length row) on (Some (record { width = width; first = first }))) _ _
    (fits_width (length row) width first on (all 0 row (omega arith)) f)
    (rows_stand n width on rows (Some (first_or first on)) rest (λ k d below. all (suc k) d (omega (arith, below))) f later)

firsts_back : (on : Bool) (rows : List (List Lit)) → map (λ (row : List Lit × Bool). row.0) (map (λ row. (row, on)) rows) ≡ rows
firsts_back on [] = refl
firsts_back on (row ∷ rows) = ap (λ more. row ∷ more) (firsts_back on rows)

on_back : (on : Bool) (rows : List (List Lit)) → (rows ≡ [] → on ≡ true) → on_of (map (λ row. (row, on)) rows) ≡ on
on_back on [] h = sym (h refl)
on_back on (row ∷ rows) h = refl

abbrev pub made : ℕ → Bool → List (List Lit) → Cover
made inputs on rows = record { inputs = inputs; on = on; rows = rows }

-- a cover by its rows
cover_back : (width : ℕ) (cover : Cover) (rows : List (List Lit × Bool)) → (cover.inputs ≡ width) × IsCover cover → rows ≡ map (λ row. (row, cover.on)) cover.rows → made width (on_of rows) (map (λ (row : List Lit × Bool). row.0) rows) ≡ cover
cover_back width cover rows is e =
    let same : on_of rows ≡ cover.on = ap on_of e ∙ on_back cover.on cover.rows is.1.on in
    let firsts : map (λ (row : List Lit × Bool). row.0) rows ≡ cover.rows = ap (map (λ (row : List Lit × Bool). row.0)) e ∙ firsts_back cover.on cover.rows in
    ap (λ n. made n (on_of rows) (map (λ (row : List Lit × Bool). row.0) rows)) (sym is.0)
    ∙ ap (λ on. made cover.inputs on (map (λ (row : List Lit × Bool). row.0) rows)) same
    ∙ ap (made cover.inputs cover.on) firsts

-- an item of one more line
line_more : (n : ℕ) (said : What) (rest : List Entry) (items : List Item) (models : List Model) → IsInside rest items models → IsInside (record { line = n; form = form.Item said } ∷ rest) (record { line = n; what = said } ∷ items) models
line_more n said rest items models is = record { fault = λ cover. is.fault None; rows = refl; own = ap (λ more. record { line = n; what = said } ∷ more) is.own; later = is.later }

-- one more item
item_more : (n : ℕ) (said : What) (rest : List Entry) (items : List Item) (models : List Model) → IsSayable said → IsInside rest items models → IsInside (item_entries n said ++ rest) (record { line = n; what = said } ∷ items) models
item_more n (what.Names inputs output cover) rest items models say is = record {
  fault = λ place. rows_stand n (length inputs) cover.on cover.rows None rest (subst (λ (n : ℕ). All (λ row. length row ≡ n) cover.rows) say.0 say.1.wide) refl is.fault;
  rows = refl;
  own =
      ap (λ c. record { line = n; what = what.Names inputs output c } ∷ items_of (map (row_entry n cover.on) cover.rows ++ rest)) (cover_back (length inputs) cover (rows_of (map (row_entry n cover.on) cover.rows ++ rest)) say (rows_read n cover.on cover.rows rest is.rows))
      ∙ ap (λ more. record { line = n; what = what.Names inputs output cover } ∷ more) (rows_items n cover.on cover.rows rest ∙ is.own);
  later = rows_models n cover.on cover.rows rest ∙ is.later;
}
item_more n other rest items models say is = line_more n other rest items models is

-- items more
items_more : (more : List Item) (rest : List Line) (models : List Model) → All (λ item. IsSayable item.what) more → IsInside (entries_of rest) [] models → IsInside (entries_of (flat_map item_lines more ++ rest)) more models
items_more [] rest models say is = is
items_more (item ∷ more) rest models say is =
    let later = flat_map item_lines more ++ rest in
    let inside = item_more item.line item.what (entries_of later) more models (say 0 item (omega arith)) (items_more more rest models (λ k d below. say (suc k) d (omega (arith, below))) is) in
    let spelled : entries_of (item_lines item ++ later) ≡ item_entries item.line item.what ++ entries_of later =
    map-append entry_of (item_lines item) later ∙ ap (λ front. front ++ entries_of later) (item_spelled item.line item.what (say 0 item (omega arith))) in
    subst (λ lines. IsInside (entries_of lines) (item ∷ more) models) (sym (append_assoc (item_lines item) (flat_map item_lines more) rest))
    (subst (λ entries. IsInside entries (item ∷ more) models) (sym spelled) inside)

head_form : (name : List ℕ) → form_of (head_words name) ≡ form.Model name
head_form [] = refl
head_form (byte ∷ name) = refl

-- the end of a model
at_end : (n : ℕ) (rest : List Entry) (models : List Model) → IsOutside rest models → IsInside (record { line = n; form = form.End } ∷ rest) [] models
at_end n rest models is = record { fault = λ cover. is.fault false None; rows = refl; own = refl; later = is.later }

-- the start of a model
at_model : (n : ℕ) (name : List ℕ) (lines : List Entry) (items : List Item) (models : List Model) → IsInside lines items models → IsOutside (record { line = n; form = form.Model name } ∷ lines) (record { line = n; name = name; items = items } ∷ models)
at_model n name lines items models is = record {
  fault = λ inside cover. is.fault None;
  later = ap (λ own. record { line = n; name = name; items = own } ∷ models_of lines) is.own ∙ ap (λ more. record { line = n; name = name; items = items } ∷ more) is.later;
}

-- one more model
model_more : (model : Model) (rest : List Line) (models : List Model) → All (λ item. IsSayable item.what) model.items → IsOutside (entries_of rest) models → IsOutside (entries_of (model_lines model ++ rest)) (model ∷ models)
model_more model rest models say is =
    let end : Line = record { number = model.line; words = codes ".end" ∷ [] } in
    let inside = items_more model.items (end ∷ rest) models say (at_end model.line (entries_of rest) models is) in
    let grouped : (flat_map item_lines model.items ++ end ∷ []) ++ rest ≡ flat_map item_lines model.items ++ end ∷ rest = append_assoc (flat_map item_lines model.items) (end ∷ []) rest in
    let start = at_model model.line model.name (entries_of ((flat_map item_lines model.items ++ end ∷ []) ++ rest)) model.items models (subst (λ lines. IsInside (entries_of lines) model.items models) (sym grouped) inside) in
    subst (λ f. IsOutside (record { line = model.line; form = f } ∷ entries_of ((flat_map item_lines model.items ++ end ∷ []) ++ rest)) (model ∷ models)) (sym (head_form model.name)) start

all_read : (models : List Model) → AreSayable models → IsOutside (entries_of (written_models models)) models
all_read [] say = record { fault = λ inside cover. refl; later = refl }
all_read (model ∷ models) say = model_more model (written_models models) models (say 0 model (omega arith)) (all_read models (λ k d below. say (suc k) d (omega (arith, below))))

pub read_back : WrittenIsRead
read_back = record {
  sound = λ models say. sym (whole (entries_of (written_models models))) ∙ (all_read models say).fault false None;
  same = λ models say. (all_read models say).later;
}
