-- The models, from what is read so far and what is still to come.
use Rattle.std.proofs.Common.{ℕ, ◌≡◌, refl, ap, sym, ◌∙◌, List, [], ◌∷◌, ◌++◌, map, Bool, true, Option, Some, None, append_assoc, append-nil}
use Rattle.net_core.specs.declared.cover.Lit.{Lit}
use Rattle.blif_syntax.specs.declared.draft.Draft.{Draft}
use Rattle.blif_syntax.specs.declared.draft.Pending.{Pending}
use Rattle.blif_syntax.specs.declared.form.Entry.{Entry}
use Rattle.blif_syntax.specs.declared.form.Form.{Form}
use Rattle.blif_syntax.specs.declared.form.Form.TheVariants as form
use Rattle.blif_syntax.specs.declared.models.Item.{Item}
use Rattle.blif_syntax.specs.declared.models.Model.{Model}
use Rattle.blif_syntax.specs.declared.models.What.TheVariants as what
use Rattle.blif_syntax.specs.Places.{first_or}
use Rattle.blif_syntax.specs.Spelled.{rows_of, on_of, names_item, items_of, models_of}
use Rattle.blif_syntax.specs.private.Drafts.{cover_item, row_added, closed_items, line_added}

-- a cover with the rows to come
abbrev pub grown : Pending → List (List Lit × Bool) → Item
grown cover rows = record { line = cover.line; what = what.Names cover.inputs cover.output (record { inputs = cover.opened.width; on = first_or cover.opened.first (on_of rows); rows = cover.rows ++ map (λ row. row.0) rows }) }

abbrev pub grown_items : Option Pending → List (List Lit × Bool) → List Item
grown_items None rows = []
grown_items (Some cover) rows = grown cover rows ∷ []

-- the open model with its cover, and with the rows and the items to come
abbrev pub grown_model : Option Model → Option Pending → List (List Lit × Bool) → List Item → List Model
grown_model None cover rows items = []
grown_model (Some model) cover rows items = record model { items = model.items ++ (grown_items cover rows ++ items) } ∷ []

-- the models that are ended, the open one with what still belongs to it, and the later ones
abbrev pub finish : Draft → List Entry → List Model
finish draft rest = draft.models ++ (grown_model draft.model draft.cover (rows_of rest) (items_of rest) ++ models_of rest)

-- a cover without rows to come
item_closed : (cover : Pending) → cover_item cover ≡ grown cover []
item_closed cover = ap (λ rows. record { line = cover.line; what = what.Names cover.inputs cover.output (record { inputs = cover.opened.width; on = first_or cover.opened.first true; rows = rows }) }) (sym (append-nil cover.rows))

items_closed : (items more : List Item) (cover : Option Pending) → closed_items items cover ++ more ≡ items ++ (grown_items cover [] ++ more)
items_closed items more None = refl
items_closed items more (Some cover) = append_assoc items (cover_item cover ∷ []) more ∙ ap (λ item. items ++ item ∷ more) (item_closed cover)

-- one more row, or one row less to come
row_grown : (cover : Pending) (row : List Lit) (on : Bool) (rows : List (List Lit × Bool)) → grown_items (row_added row on (Some cover)) rows ≡ grown cover ((row, on) ∷ rows) ∷ []
row_grown cover row on rows = ap (λ all. record { line = cover.line; what = what.Names cover.inputs cover.output (record { inputs = cover.opened.width; on = first_or cover.opened.first on; rows = all }) } ∷ []) (append_assoc cover.rows (row ∷ []) (map (λ row. row.0) rows))

-- the open model, where these are its items, is the same
same_items : (models : List Model) (model : Model) (xs ys : List Item) (later : List Model) → xs ≡ ys → models ++ (record model { items = xs } ∷ later) ≡ models ++ (record model { items = ys } ∷ later)
same_items models model xs ys later e = ap (λ items. models ++ (record model { items = items } ∷ later)) e

-- the open model is ended
model_closed : (models later : List Model) (model : Model) (cover : Option Pending) → (models ++ record model { items = closed_items model.items cover } ∷ []) ++ later ≡ models ++ (record model { items = model.items ++ (grown_items cover [] ++ []) } ∷ later)
model_closed models later model cover = append_assoc models (record model { items = closed_items model.items cover } ∷ []) later ∙ same_items models model (closed_items model.items cover) (model.items ++ (grown_items cover [] ++ [])) later (sym (append-nil (closed_items model.items cover)) ∙ items_closed model.items [] cover)

step_at : (models : List Model) (model : Option Model) (cover : Option Pending) (line : ℕ) (form : Form) (rest : List Entry) → finish (line_added (record { models = models; model = model; cover = cover }) line form) rest ≡ finish (record { models = models; model = model; cover = cover }) (record { line = line; form = form } ∷ rest)
step_at models model cover line form.Skipped rest = refl
step_at models None cover line (form.Row row on) rest = refl
step_at models (Some m) None line (form.Row row on) rest = refl
step_at models (Some m) (Some c) line (form.Row row on) rest = same_items models m _ _ (models_of rest) (ap (λ items. m.items ++ (items ++ items_of rest)) (row_grown c row on (rows_of rest)))
step_at models None cover line (form.Item what) rest = refl
step_at models (Some m) cover line (form.Item what) rest = same_items models m _ _ (models_of rest) (append_assoc (closed_items m.items cover) (record { line = line; what = what } ∷ []) (items_of rest) ∙ items_closed m.items (record { line = line; what = what } ∷ items_of rest) cover)
step_at models None cover line (form.Names width inputs output) rest = refl
step_at models (Some m) cover line (form.Names width inputs output) rest = same_items models m _ _ (models_of rest) (items_closed m.items (names_item line width inputs output (rows_of rest) ∷ items_of rest) cover)
step_at models None cover line (form.Model name) rest = refl
step_at models (Some m) cover line (form.Model name) rest = model_closed models (record { line = line; name = name; items = items_of rest } ∷ models_of rest) m cover
step_at models None cover line form.End rest = refl
step_at models (Some m) cover line form.End rest = model_closed models (models_of rest) m cover
step_at models None cover line (form.Wrong kind) rest = refl
step_at models (Some m) cover line (form.Wrong kind) rest = same_items models m _ _ (models_of rest) (items_closed m.items (items_of rest) cover)

-- what is still to come decides
pub step : (draft : Draft) (entry : Entry) (rest : List Entry) → finish (line_added draft entry.line entry.form) rest ≡ finish draft (entry ∷ rest)
step draft entry rest = step_at draft.models draft.model draft.cover entry.line entry.form rest
