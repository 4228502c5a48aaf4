-- One turn of the loop over the lines.
use Rattle.std.proofs.Common.{ℕ, ◌+◌, ◌<◌, ◌≡◌, ap, sym, ◌∙◌, List, [], ◌∷◌, ◌++◌, length, get_or, drop, Bool, true, Option, None}
use Rattle.std.specs.Option.{is_some}
use Rattle.std.proofs.lemmas.List.{drop_more}
use Rattle.blif_lines.specs.declared.lines.Line.{Line}
use Rattle.blif_syntax.specs.declared.draft.Draft.{Draft}
use Rattle.blif_syntax.specs.declared.form.Entry.{Entry}
use Rattle.blif_syntax.specs.declared.models.Model.{Model}
use Rattle.blif_syntax.specs.declared.open_cover.OpenCover.{OpenCover}
use Rattle.blif_syntax.specs.Answer.{entry_of, entries_of}
use Rattle.blif_syntax.specs.private.Drafts.{line_added, open_cover_of}
use Rattle.blif_syntax.specs.Places.{may_stand, first_fault}
use Rattle.blif_syntax.specs.Spelled.{models_of}
use Rattle.blif_syntax.proofs.Faults.{fault_after, fault_step, whole}
use Rattle.blif_syntax.proofs.Growth.{finish, step}

-- what is still to come decides both: the first fault, and the models
abbrev pub Decide : Draft → List Line → List Line → Type 0
Decide draft rest lines = (fault_after draft (entries_of rest) ≡ first_fault [] (entries_of lines)) × (finish draft (entries_of rest) ≡ models_of (entries_of lines))

next_entry : (lines : List Line) (i : ℕ) (line : Line) (entry : Entry) → i < length lines → line ≡ get_or lines i line → entry ≡ entry_of line → entries_of (drop i lines) ≡ entry ∷ entries_of (drop (i + 1) lines)
next_entry lines i line entry h g e = ap entries_of (drop_more lines i line h) ∙ ap (λ y. y ∷ entries_of (drop (i + 1) lines)) (ap entry_of (sym g) ∙ sym e)

-- nothing is read so far
pub read_begin : (models : List Model) (lines : List Line) → models ≡ [] → Decide (record { models = models; model = None; cover = None }) lines lines
read_begin models lines e = (whole (entries_of lines), ap (λ ms. ms ++ models_of (entries_of lines)) e)

stands_here : (entry : Entry) (draft : Draft) (inside stands bit : Bool) (place : Option OpenCover) → inside ≡ is_some draft.model → place ≡ open_cover_of draft.cover → stands ≡ may_stand entry.form inside place → stands ≡ bit → may_stand entry.form (is_some draft.model) (open_cover_of draft.cover) ≡ bit
stands_here entry draft inside stands bit place o p s b =
    ap (λ x. may_stand entry.form x (open_cover_of draft.cover)) (sym o) ∙ ap (λ x. may_stand entry.form inside x) (sym p) ∙ sym s ∙ b

-- a line that may stand
pub read_turn : (lines : List Line) (i : ℕ) (line : Line) (entry : Entry) (draft next : Draft) (inside stands : Bool) (place : Option OpenCover) → i < length lines → line ≡ get_or lines i line → entry ≡ entry_of line → inside ≡ is_some draft.model → place ≡ open_cover_of draft.cover → stands ≡ may_stand entry.form inside place → stands ≡ true → next ≡ line_added draft entry.line entry.form → Decide draft (drop i lines) lines → Decide next (drop (i + 1) lines) lines
read_turn lines i line entry draft next inside stands place h g e o p s b n inv =
    let rest = entries_of (drop (i + 1) lines) in
    let here : entries_of (drop i lines) ≡ entry ∷ rest = next_entry lines i line entry h g e in
    let may = stands_here entry draft inside stands true place o p s b in (
      ap (λ d. fault_after d rest) n ∙ fault_step draft entry rest may ∙ sym (ap (fault_after draft) here) ∙ inv.0,
      ap (λ d. finish d rest) n ∙ step draft entry rest ∙ sym (ap (finish draft) here) ∙ inv.1,
    )
