-- For private functions. What the reader holds of the lines that it has read.
use Rattle.std.specs.Prelude.{ℕ, ◌++◌, ◌∷◌, [], List, Bool, true, Option, Some, None}
use Rattle.net_core.specs.declared.cover.Lit.{Lit}
use Rattle.blif_syntax.specs.declared.draft.Draft.{Draft}
use Rattle.blif_syntax.specs.declared.draft.Pending.{Pending}
use Rattle.blif_syntax.specs.declared.form.Form.{Form}
use Rattle.blif_syntax.specs.declared.form.Form.TheVariants as form
use Rattle.blif_syntax.specs.declared.models.Item.{Item}
use Rattle.blif_syntax.specs.declared.models.Model.{Model}
use Rattle.blif_syntax.specs.declared.models.What.TheVariants as what
use Rattle.blif_syntax.specs.declared.open_cover.OpenCover.{OpenCover}
use Rattle.blif_syntax.specs.Places.{first_or}

-- the cover that a row may go on with
abbrev pub open_cover_of : Option Pending → Option OpenCover
open_cover_of None = None
open_cover_of (Some cover) = Some cover.opened

-- the cover, with one more row
abbrev pub row_added : List Lit → Bool → Option Pending → Option Pending
row_added row on None = None
row_added row on (Some cover) =
    Some (record cover {
      opened = record {
        width = cover.opened.width;
        first = Some (first_or cover.opened.first on);
      };
      rows = cover.rows ++ row ∷ [];
    })

-- the item of a cover
abbrev pub cover_item : Pending → Item
cover_item cover =
    record {
      line = cover.line;
      what = what.Names cover.inputs cover.output
          (record {
            inputs = cover.opened.width;
            on = first_or cover.opened.first true;
            rows = cover.rows;
          });
    }

-- the items, and that of a cover
abbrev pub closed_items : List Item → Option Pending → List Item
closed_items items None = items
closed_items items (Some cover) = items ++ cover_item cover ∷ []

-- the open model, with the item of a cover
abbrev pub with_pending_cover : Option Model → Option Pending → Option Model
with_pending_cover None cover = None
with_pending_cover (Some model) cover =
    Some (record model { items = closed_items model.items cover })

-- the open model, with one more item
abbrev pub item_added : Option Model → Item → Option Model
item_added None item = None
item_added (Some model) item = Some (record model { items = model.items ++ item ∷ [] })

-- the models, and the one that was open
abbrev pub model_added : List Model → Option Model → List Model
model_added models None = models
model_added models (Some model) = models ++ model ∷ []

-- one more line that goes on with no cover, behind these models and this open one
abbrev pub line_behind : List Model → Option Model → ℕ → Form → Draft
line_behind models model line (form.Item what) =
    record {
      models = models;
      model = item_added model (record { line = line; what = what });
      cover = None;
    }
line_behind models model line (form.Names width inputs output) =
    record {
      models = models;
      model = model;
      cover = Some (record {
        line = line;
        inputs = inputs;
        output = output;
        opened = record { width = width; first = None };
        rows = [];
      });
    }
line_behind models model line (form.Model name) =
    record {
      models = model_added models model;
      model = Some (record { line = line; name = name; items = [] });
      cover = None;
    }
line_behind models model line form.End =
    record { models = model_added models model; model = None; cover = None }
line_behind models model line other = record { models = models; model = model; cover = None }

-- one more line
abbrev pub line_added : Draft → ℕ → Form → Draft
line_added draft line form.Skipped = draft
line_added draft line (form.Row row on) = record draft { cover = row_added row on draft.cover }
line_added draft line other =
    line_behind draft.models (with_pending_cover draft.model draft.cover) line other
