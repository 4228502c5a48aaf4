-- The first fault, from what is kept of the earlier lines.
use Rattle.std.proofs.Common.{ℕ, ◌≡◌, refl, sym, ◌∙◌, ap, List, [], ◌∷◌, Bool, true, false, if◌then◌else◌, Option, Some, None}
use Rattle.std.specs.Option.{is_some}
use Rattle.blif_syntax.specs.declared.draft.Draft.{Draft}
use Rattle.blif_syntax.specs.declared.draft.Pending.{Pending}
use Rattle.blif_syntax.specs.declared.form.Entry.{Entry}
use Rattle.blif_syntax.specs.declared.form.Form.{Form}
use Rattle.blif_syntax.specs.declared.form.Form.TheVariants as form
use Rattle.blif_syntax.specs.declared.form.LineFault.{LineFault}
use Rattle.blif_syntax.specs.declared.models.Model.{Model}
use Rattle.blif_syntax.specs.declared.open_cover.OpenCover.{OpenCover}
use Rattle.blif_syntax.specs.private.Drafts.{with_pending_cover, line_added, open_cover_of}
use Rattle.blif_syntax.specs.Places.{opens, covers, may_stand, in_model, cover_at, first_fault, line_fault_of}

-- the first line that may not stand, where a model is open, or none is, and where a row may go on with this cover
abbrev pub fault_from : Bool → Option OpenCover → List Entry → Option (ℕ × LineFault)
fault_from inside cover [] = None
fault_from inside cover (line ∷ lines) = if may_stand line.form inside cover then fault_from (opens line.form inside) (covers line.form cover) lines else Some (line.line, line_fault_of line.form)

either_way : (c : Bool) (x : ℕ × LineFault) (a b : Option (ℕ × LineFault)) → a ≡ b → (if c then a else Some x) ≡ (if c then b else Some x)
either_way true x a b e = e
either_way false x a b e = refl

-- these two say all of the earlier lines
pub same_fault : (earlier lines : List Entry) → first_fault earlier lines ≡ fault_from (in_model earlier) (cover_at earlier) lines
same_fault earlier [] = refl
same_fault earlier (line ∷ lines) = either_way (may_stand line.form (in_model earlier) (cover_at earlier)) (line.line, line_fault_of line.form) _ _ (same_fault (line ∷ earlier) lines)

-- the same at the first line
pub whole : (lines : List Entry) → fault_from false None lines ≡ first_fault [] lines
whole lines = sym (same_fault [] lines)

-- the first line that may not stand, by the draft of the earlier ones
abbrev pub fault_after : Draft → List Entry → Option (ℕ × LineFault)
fault_after draft rest = fault_from (is_some draft.model) (open_cover_of draft.cover) rest

still_open : (model : Option Model) (cover : Option Pending) → is_some (with_pending_cover model cover) ≡ is_some model
still_open None cover = refl
still_open (Some model) cover = refl

opened : (models : List Model) (model : Option Model) (cover : Option Pending) (line : ℕ) (form : Form) → is_some (line_added (record { models = models; model = model; cover = cover }) line form).model ≡ opens form (is_some model)
opened models model cover line form.Skipped = refl
opened models model cover line (form.Model name) = refl
opened models model cover line form.End = refl
opened models None cover line (form.Item what) = refl
opened models (Some model) cover line (form.Item what) = refl
opened models model cover line (form.Names width inputs output) = still_open model cover
opened models model cover line (form.Row row on) = refl
opened models model cover line (form.Wrong kind) = still_open model cover

placed : (models : List Model) (model : Option Model) (cover : Option Pending) (line : ℕ) (form : Form) → open_cover_of (line_added (record { models = models; model = model; cover = cover }) line form).cover ≡ covers form (open_cover_of cover)
placed models model cover line form.Skipped = refl
placed models model cover line (form.Model name) = refl
placed models model cover line form.End = refl
placed models model cover line (form.Item what) = refl
placed models model cover line (form.Names width inputs output) = refl
placed models model None line (form.Row row on) = refl
placed models model (Some cover) line (form.Row row on) = refl
placed models model cover line (form.Wrong kind) = refl

-- a line that may stand decides nothing
pub fault_step : (draft : Draft) (entry : Entry) (rest : List Entry) → may_stand entry.form (is_some draft.model) (open_cover_of draft.cover) ≡ true → fault_after (line_added draft entry.line entry.form) rest ≡ fault_after draft (entry ∷ rest)
fault_step draft entry rest may =
    ap (λ inside. fault_from inside (open_cover_of (line_added draft entry.line entry.form).cover) rest) (opened draft.models draft.model draft.cover entry.line entry.form)
    ∙ ap (λ cover. fault_from (opens entry.form (is_some draft.model)) cover rest) (placed draft.models draft.model draft.cover entry.line entry.form)
    ∙ rw may refl
