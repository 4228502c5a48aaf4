-- Meaning. Where a line may stand, read from the lines before it, the nearest first; and the first
-- line that may not.
use Rattle.std.specs.Prelude.{ℕ, ◌∷◌, [], List, length, Bool, true, false, not, Option, Some, None, if◌then◌else◌, nat_eq, ◌&&◌}
use Rattle.blif_syntax.specs.declared.form.Entry.{Entry}
use Rattle.blif_syntax.specs.declared.form.Form.{Form}
use Rattle.blif_syntax.specs.declared.form.Form.TheVariants.{Skipped, Model, End, Names, Row, Wrong}
use Rattle.blif_syntax.specs.declared.form.LineFault.{LineFault}
use Rattle.blif_syntax.specs.declared.form.LineFault.TheVariants.{Bad}
use Rattle.blif_syntax.specs.declared.open_cover.OpenCover.{OpenCover}

-- whether a model is open behind a line of this form, from whether one was open before it
abbrev pub opens : Form → Bool → Bool
opens (Model name) inside = true
opens End inside = false
opens other inside = inside

-- a model is open behind these lines
abbrev pub in_model : List Entry → Bool
in_model [] = false
in_model (line ∷ earlier) = opens line.form (in_model earlier)

-- the output character of a cover's first row, from a row behind it
abbrev pub first_or : Option Bool → Bool → Bool
first_or None on = on
first_or (Some first) on = first

-- the cover, with one more row
abbrev pub with_row : Bool → Option OpenCover → Option OpenCover
with_row on None = None
with_row on (Some opened) =
    Some (record { width = opened.width; first = Some (first_or opened.first on) })

-- the cover that a row may go on with behind a line of this form, from the one before it
abbrev pub covers : Form → Option OpenCover → Option OpenCover
covers Skipped cover = cover
covers (Names width inputs output) cover = Some (record { width = width; first = None })
covers (Row row on) cover = with_row on cover
covers other cover = None

-- the cover that a row may go on with behind these lines
abbrev pub cover_at : List Entry → Option OpenCover
cover_at [] = None
cover_at (line ∷ earlier) = covers line.form (cover_at earlier)

-- both bits are the same
abbrev pub is_same : Bool → Bool → Bool
is_same true bit = bit
is_same false bit = not bit

-- a row of this width and output character goes on with the cover
abbrev pub row_fits : ℕ → Bool → Option OpenCover → Bool
row_fits width on None = false
row_fits width on (Some opened) = nat_eq width opened.width && is_same (first_or opened.first on) on

-- a line of this form may stand where a model is open, or none is, and where a row may go on with
-- this cover
abbrev pub may_stand : Form → Bool → Option OpenCover → Bool
may_stand Skipped inside cover = true
may_stand (Model name) inside cover = true
may_stand (Wrong kind) inside cover = false
may_stand (Row row on) inside cover = row_fits (length row) on cover
may_stand other inside cover = inside

-- what is wrong with a line of this form that may not stand where it does
abbrev pub line_fault_of : Form → LineFault
line_fault_of (Wrong kind) = kind
line_fault_of other = Bad

-- the number and the kind of the first line that may not stand, behind these earlier ones
abbrev pub first_fault : List Entry → List Entry → Option (ℕ × LineFault)
first_fault earlier [] = None
first_fault earlier (line ∷ lines) =
    if may_stand line.form (in_model earlier) (cover_at earlier)
    then first_fault (line ∷ earlier) lines
    else Some (line.line, line_fault_of line.form)
