-- Meaning in plain terms, and a law: where a line may stand, and that the first fault is by these.
use Rattle.std.specs.Prelude.{◌≡◌, ◌⊎◌, ◌<◌, ℕ, [], List, length, map, Bool, Some, None, slice_get}
use Rattle.net_core.specs.declared.cover.Lit.{Lit}
use Rattle.blif_syntax.specs.declared.form.Entry.{Entry}
use Rattle.blif_syntax.specs.declared.form.Form.{Form}
use Rattle.blif_syntax.specs.declared.form.Form.TheVariants.{Skipped, Model, End, Item, Names, Row, Wrong}
use Rattle.blif_syntax.specs.declared.form.LineFault.{LineFault}
use Rattle.blif_syntax.specs.Places.{first_fault, line_fault_of}

-- the line at place k has this form
abbrev pub HasForm : List Entry → ℕ → Form → Type 0
HasForm lines k form = slice_get (map (λ line. line.form) lines) k ≡ Some form

-- a model is open at place i: a line before it starts one, and no line between them ends it
pub record IsOpen (lines : List Entry) (i : ℕ) : Type 0 where
  pub start : ℕ
  pub name : List ℕ
  pub earlier : start < i
  pub starts : HasForm lines start (Model name)
  pub unended : (k : ℕ) → start < k → k < i → HasForm lines k End → ⊥

-- A row of this width and output character belongs to a cover at place i: a `.names` line of this
-- width stands before it, and between them stand only lines that are skipped, and rows with this
-- output character.
pub record GoesOn (lines : List Entry) (i width : ℕ) (on : Bool) : Type 0 where
  pub head : ℕ
  pub inputs : List (List ℕ)
  pub output : List ℕ
  pub earlier : head < i
  pub heads : HasForm lines head (Names width inputs output)
  pub between : (k : ℕ) → head < k → k < i → HasForm lines k Skipped
      ⊎ ((row : List Lit) × HasForm lines k (Row row on))

-- a line of this form may stand at place i
abbrev pub Stands : List Entry → ℕ → Form → Type 0
Stands lines i Skipped = Unit {0}
Stands lines i (Model name) = Unit {0}
Stands lines i End = IsOpen lines i
Stands lines i (Item what) = IsOpen lines i
Stands lines i (Names width inputs output) = IsOpen lines i
Stands lines i (Row row on) = GoesOn lines i (length row) on
Stands lines i (Wrong kind) = ⊥

-- each line before place i may stand
abbrev pub StandsBefore : List Entry → ℕ → Type 0
StandsBefore lines i = (k : ℕ) (form : Form) → k < i → HasForm lines k form → Stands lines k form

-- the first line that may not stand has this number and this kind
pub record IsFirstFault (lines : List Entry) (number : ℕ) (kind : LineFault) : Type 0 where
  pub place : ℕ
  pub entry : Entry
  pub here : slice_get lines place ≡ Some entry
  pub faulty : Stands lines place entry.form → ⊥
  pub least : StandsBefore lines place
  pub numbered : entry.line ≡ number
  pub called : line_fault_of entry.form ≡ kind

-- Law: the first fault is that of the first line that may not stand, and where there is none each
-- line may.
pub record FirstFaultIsLeast : Type 0 where
  pub some : (lines : List Entry) (number : ℕ) (kind : LineFault) →
      first_fault [] lines ≡ Some (number, kind) → IsFirstFault lines number kind
  pub none : (lines : List Entry) → first_fault [] lines ≡ None → StandsBefore lines (length lines)
