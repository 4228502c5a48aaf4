-- What a netlist's text spells, as BLIF and as AIGER, and its one fault.
use Rattle.std.proofs.Common.{◌≡◌, ◌<◌, ℕ, Bool, true, false, List, [], ◌∷◌, length, Option, None, Some, Ok, Err, refl, ap, sym, ◌∙◌, arith, subst}
use Rattle.std.specs.Prelude.{◌≢◌}
use Rattle.aig_model.specs.Answer.{IsAigAnswer, spelled_aig}
use Rattle.aig_model.specs.Faults as aig_text
use Rattle.aig_model.specs.declared.fault.AigFault.{AigFault}
use Rattle.aig_model.specs.declared.fault.AigFault.TheVariants as aig
use Rattle.blif_lines.specs.declared.lines.Line.{Line}
use Rattle.blif_lines.specs.Lines.{lines_of}
use Rattle.blif_syntax.specs.Answer.{IsBlifAnswer, entries_of, fault_of}
use Rattle.blif_syntax.specs.Covered.{AreCovered}
use Rattle.blif_syntax.specs.Places.{first_fault}
use Rattle.blif_syntax.specs.Spelled.{models_of}
use Rattle.blif_syntax.specs.declared.fault.BlifFault.{BlifFault}
use Rattle.blif_syntax.specs.declared.fault.BlifFault.TheVariants.{BadLine, UnknownWord, LeftOut, NoModel, OutOfMemory}
use Rattle.blif_syntax.specs.declared.form.Entry.{Entry}
use Rattle.blif_syntax.specs.declared.form.LineFault.{LineFault}
use Rattle.blif_syntax.specs.declared.models.Model.{Model}
use Rattle.blif_syntax.specs.declared.models.Models.{Models}
use Rattle.blif_syntax.proofs.Sound.{read_is_sayable}
use Rattle.ste_program.specs.Netlist.{IsAigTextFault, IsBlifNetlist, IsBlifTextFault, IsNetlist, IsNetlistAs, is_aag, net_lines}

-- what the reader of netlists gives, of the lines of a text
pub models_read : (text : List ℕ) (lines : List Line) (models : Models) → lines ≡ lines_of text → IsBlifAnswer (entries_of lines) (Ok models) → 0 < length models.models → IsBlifNetlist text models.models × AreCovered models.models
models_read text lines models same h some = (
  record { sound = subst (λ (ls : List Line). first_fault [] (entries_of ls) ≡ None) same h.0; spelled = subst (λ (ls : List Line). models.models ≡ models_of (entries_of ls)) same h.1; some = some },
  subst (λ (ms : List Model). AreCovered ms) (sym h.1) (read_is_sayable.covered lines h.0),
)

-- the fault by number and kind of the first faulty line, or that there is no model
abbrev fault_at : Option (ℕ × LineFault) → BlifFault
fault_at None = NoModel
fault_at (Some (line, kind)) = fault_of line kind

only_fault : (lines : List Entry) (found : BlifFault) → found ≢ OutOfMemory → IsBlifAnswer lines (Err found) → found ≡ fault_at (first_fault [] lines)
only_fault lines (BadLine line) stated h = sym (ap fault_at h)
only_fault lines (UnknownWord line word) stated h = sym (ap fault_at h)
only_fault lines (LeftOut line word) stated h = sym (ap fault_at h)
only_fault lines NoModel stated h = sym (ap fault_at h.0)
only_fault lines OutOfMemory stated h = absurd (stated refl)

-- a text has one fault at most
pub one_blif_fault : (text : List ℕ) (one other : BlifFault) → IsBlifTextFault text one → IsBlifTextFault text other → one ≡ other
one_blif_fault text one other f g = only_fault (net_lines text) one f.0 f.1 ∙ sym (only_fault (net_lines text) other g.0 g.1)

fault_of_lines : (lines : List Entry) (found : BlifFault) → first_fault [] lines ≡ None → 0 < length (models_of lines) → found ≢ OutOfMemory → IsBlifAnswer lines (Err found) → ⊥
fault_of_lines lines (BadLine line) e some stated h = absurd (cc (e, h))
fault_of_lines lines (UnknownWord line word) e some stated h = absurd (cc (e, h))
fault_of_lines lines (LeftOut line word) e some stated h = absurd (cc (e, h))
fault_of_lines lines NoModel e some stated h = let none = ap length h.1 in absurd (omega (arith, none, some))
fault_of_lines lines OutOfMemory e some stated h = stated refl

-- an AIGER text has one fault at most
aig_answer : (text : List ℕ) (found : AigFault) → IsAigTextFault text found → aig_text.text_fault text ≡ Some found
aig_answer text (aig.BadLine line) h = h.1
aig_answer text (aig.LeftOut line word) h = h.1
aig_answer text aig.OutOfMemory h = absurd (h.0 refl)

pub one_aig_fault : (text : List ℕ) (one other : AigFault) → IsAigTextFault text one → IsAigTextFault text other → one ≡ other
one_aig_fault text one other f g = let both : Some one ≡ Some other = sym (aig_answer text one f) ∙ aig_answer text other g in cc both

-- a text that spells models as BLIF has no fault as BLIF, and so as AIGER
pub no_blif_fault : (text : List ℕ) (models : List Model) (found : BlifFault) → IsNetlistAs false text models → ¬ IsBlifTextFault text found
no_blif_fault text models found netlist faulty =
    fault_of_lines (net_lines text) found netlist.sound (subst (λ (ms : List Model). 0 < length ms) netlist.spelled netlist.some) faulty.0 faulty.1

pub no_aig_fault : (text : List ℕ) (models : List Model) (found : AigFault) → IsNetlistAs true text models → ¬ IsAigTextFault text found
no_aig_fault text models found netlist faulty = let both : None ≡ Some found = sym netlist.sound ∙ aig_answer text found faulty in absurd (cc both)

-- a text spells one netlist at most
one_netlist_as : (aag : Bool) (text : List ℕ) (one other : List Model) → IsNetlistAs aag text one → IsNetlistAs aag text other → one ≡ other
one_netlist_as true text one other f g = f.spelled ∙ sym g.spelled
one_netlist_as false text one other f g = f.spelled ∙ sym g.spelled

pub one_netlist : (text : List ℕ) (one other : List Model) → IsNetlist text one → IsNetlist text other → one ≡ other
one_netlist text one other f g = one_netlist_as (is_aag text) text one other f g
