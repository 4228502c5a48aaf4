-- Meaning. What lines spell; what belongs to a line is read from the lines behind it.
use Rattle.std.specs.Prelude.{ℕ, ◌∷◌, [], List, map, Bool, true}
use Rattle.net_core.specs.declared.cover.Lit.{Lit}
use Rattle.blif_syntax.specs.declared.models.Item.{Item}
use Rattle.blif_syntax.specs.declared.models.Model.{Model}
use Rattle.blif_syntax.specs.declared.models.What.TheVariants as what
use Rattle.blif_syntax.specs.declared.form.Entry.{Entry}
use Rattle.blif_syntax.specs.declared.form.Form.{Form}
use Rattle.blif_syntax.specs.declared.form.Form.TheVariants as form

-- the rows, each with its output character, up to the first line that is neither a row nor skipped
abbrev pub rows_with : Form → List (List Lit × Bool) → List (List Lit × Bool)
rows_with form.Skipped later = later
rows_with (form.Row row on) later = (row, on) ∷ later
rows_with other later = []

abbrev pub rows_of : List Entry → List (List Lit × Bool)
rows_of [] = []
rows_of (line ∷ lines) = rows_with line.form (rows_of lines)

-- whether the rows say where the bit is 1; so does a cover without rows
abbrev pub on_of : List (List Lit × Bool) → Bool
on_of [] = true
on_of (row ∷ rows) = row.1

-- the item of a `.names` line with these rows
abbrev pub names_item : ℕ → ℕ → List (List ℕ) → List ℕ → List (List Lit × Bool) → Item
names_item line width inputs output rows =
    record {
      line = line;
      what = what.Names inputs output
          (record { inputs = width; on = on_of rows; rows = map (λ row. row.0) rows });
    }

-- the items up to the next line that starts or ends a model
abbrev pub items_with : ℕ → Form → List Entry → List Item → List Item
items_with line (form.Item what) lines later = record { line = line; what = what } ∷ later
items_with line (form.Names width inputs output) lines later =
    names_item line width inputs output (rows_of lines) ∷ later
items_with line (form.Model name) lines later = []
items_with line form.End lines later = []
items_with line other lines later = later

abbrev pub items_of : List Entry → List Item
items_of [] = []
items_of (line ∷ lines) = items_with line.line line.form lines (items_of lines)

-- a model for each line that starts one
abbrev pub models_with : ℕ → Form → List Entry → List Model → List Model
models_with line (form.Model name) lines later =
    record { line = line; name = name; items = items_of lines } ∷ later
models_with line other lines later = later

abbrev pub models_of : List Entry → List Model
models_of [] = []
models_of (line ∷ lines) = models_with line.line line.form lines (models_of lines)
