-- What the layers' own answers say of texts.
use Rattle.std.proofs.Common.{◌≡◌, ◌∙◌, ℕ, List, length, Option, Some, Result, Err, refl, ap, sym, subst, inl, inr}
use Rattle.std.specs.Prelude.{◌⊎◌, slice_get}
use Rattle.aig_model.specs.Answer.{IsAigAnswer}
use Rattle.aig_model.specs.declared.fault.AigFault.{AigFault}
use Rattle.aig_model.specs.declared.fault.AigFault.TheVariants as aig
use Rattle.blif_lines.specs.declared.lines.Line.{Line}
use Rattle.blif_lines.specs.Lines.{lines_of}
use Rattle.blif_syntax.specs.Answer as blif_answer
use Rattle.blif_syntax.specs.declared.fault.BlifFault.{BlifFault}
use Rattle.blif_syntax.specs.declared.fault.BlifFault.TheVariants as blif
use Rattle.blif_syntax.specs.declared.models.Model.{Model}
use Rattle.assert_syntax.specs.declared.tasks.RawTasks.{RawTasks}
use Rattle.hierarchy.specs.Faults.{IsRefusal}
use Rattle.hierarchy.specs.Names.{net_named}
use Rattle.hierarchy.specs.Nets.{nets}
use Rattle.hierarchy.specs.declared.fault.NetFault.{NetFault}
use Rattle.hierarchy.specs.declared.fault.NetFault.TheVariants as net
use Rattle.net_core.specs.Loop.{IsLeastUnsettled}
use Rattle.net_core.specs.declared.raw.RawNet.{RawNet}
use Rattle.net_names.specs.Names.{AreNamesOf, named_by}
use Rattle.net_names.specs.declared.names.NetNames.{NetNames}
use Rattle.net_names.proofs.Named.{names_are_resolved}
use Rattle.flat_net.specs.Flat.{IsFlat}
use Rattle.ste_model.specs.declared.task.Tasks.{Tasks}
use Rattle.task_binding.specs.Answer.{IsBindAnswer}
use Rattle.task_binding.specs.declared.fault.BindFault.{BindFault}
use Rattle.task_binding.specs.declared.fault.BindFault.TheVariants as bind
use Rattle.ste_program.specs.Netlist.{IsLoop, net_lines}
use Rattle.ste_program.specs.Order.{is_faulty_aig, is_faulty_blif}
use Rattle.ste_program.specs.Refused.{aig_refused, binding_refused, hierarchy_refused, netlist_refused}
use Rattle.ste_program.specs.private.Made.{HasNoNet, IsNetOf, IsNotBound}
use Rattle.ste_program.specs.private.Texts.{OrMemory}

-- a netlist's text that is refused
pub aig_told : (text : List ℕ) (fault : AigFault) → IsAigAnswer text (Err fault) → OrMemory (is_faulty_aig text) (aig_refused fault)
aig_told text (aig.BadLine line) h = inr (aig.BadLine line, refl, ((λ e. absurd (cc e)), h))
aig_told text (aig.LeftOut line word) h = inr (aig.LeftOut line word, refl, ((λ e. absurd (cc e)), h))
aig_told text aig.OutOfMemory h = inl refl

netlist_told : (text : List ℕ) (fault : BlifFault) → blif_answer.IsBlifAnswer (net_lines text) (Err fault) → OrMemory (is_faulty_blif text) (netlist_refused fault)
netlist_told text (blif.BadLine line) h = inr (blif.BadLine line, refl, ((λ e. absurd (cc e)), h))
netlist_told text (blif.UnknownWord line word) h = inr (blif.UnknownWord line word, refl, ((λ e. absurd (cc e)), h))
netlist_told text (blif.LeftOut line word) h = inr (blif.LeftOut line word, refl, ((λ e. absurd (cc e)), h))
netlist_told text blif.NoModel h = inr (blif.NoModel, refl, ((λ e. absurd (cc e)), h))
netlist_told text blif.OutOfMemory h = inl refl

pub no_models : (text : List ℕ) (lines : List Line) (fault : BlifFault) → lines ≡ lines_of text → blif_answer.IsBlifAnswer (blif_answer.entries_of lines) (Err fault) → OrMemory (is_faulty_blif text) (netlist_refused fault)
no_models text lines fault same h = netlist_told text fault (subst (λ (ls : List Line). blif_answer.IsBlifAnswer (blif_answer.entries_of ls) (Err fault)) same h)

-- a hierarchy that is refused
pub hierarchy_told : (models : List Model) (fault : NetFault) → (fault ≡ net.OutOfMemory) ⊎ IsRefusal models fault → OrMemory (HasNoNet models) (hierarchy_refused fault)
hierarchy_told models net.OutOfMemory h = inl refl
hierarchy_told models (net.DoubleModel line name) (inl e) = absurd (cc e)
hierarchy_told models (net.DoubleModel line name) (inr h) = inr (inl (net.DoubleModel line name, refl, h))
hierarchy_told models (net.UnknownModel line name) (inl e) = absurd (cc e)
hierarchy_told models (net.UnknownModel line name) (inr h) = inr (inl (net.UnknownModel line name, refl, h))
hierarchy_told models (net.Recursive line name) (inl e) = absurd (cc e)
hierarchy_told models (net.Recursive line name) (inr h) = inr (inl (net.Recursive line name, refl, h))
hierarchy_told models (net.BadFormal line name) (inl e) = absurd (cc e)
hierarchy_told models (net.BadFormal line name) (inr h) = inr (inl (net.BadFormal line name, refl, h))
hierarchy_told models (net.MissingFormal line name) (inl e) = absurd (cc e)
hierarchy_told models (net.MissingFormal line name) (inr h) = inr (inl (net.MissingFormal line name, refl, h))
hierarchy_told models (net.GateTooWide line) (inl e) = absurd (cc e)
hierarchy_told models (net.GateTooWide line) (inr h) = inr (inl (net.GateTooWide line, refl, h))
hierarchy_told models net.TooDeep (inl e) = absurd (cc e)
hierarchy_told models net.TooDeep (inr h) = inr (inl (net.TooDeep, refl, h))
hierarchy_told models net.TooManyNodes (inl e) = absurd (cc e)
hierarchy_told models net.TooManyNodes (inr h) = inr (inl (net.TooManyNodes, refl, h))
hierarchy_told models (net.DrivenTwice line name) (inl e) = absurd (cc e)
hierarchy_told models (net.DrivenTwice line name) (inr h) = inr (inl (net.DrivenTwice line name, refl, h))
hierarchy_told models (net.MixedClocks line name) (inl e) = absurd (cc e)
hierarchy_told models (net.MixedClocks line name) (inr h) = inr (inl (net.MixedClocks line name, refl, h))

-- by the names of a netlist, texts name what they name in it
pub by_names : (models : List Model) (names : NetNames) → AreNamesOf models names → named_by names ≡ net_named models
by_names models names known = λ i text. names_are_resolved models names known text i

-- an answer by the names, as one of the netlist
pub bound_told : (models : List Model) (raw : RawNet) (names : NetNames) (count : ℕ) (tasks : RawTasks) (answer : Result Tasks BindFault) → IsNetOf models raw names → count ≡ raw.nets →
    IsBindAnswer (named_by names) count tasks answer → IsBindAnswer (net_named models) (length (nets models)) tasks answer
bound_told models raw names count tasks answer of_net counted h =
    subst (λ n. IsBindAnswer (net_named models) n tasks answer) (counted ∙ of_net.flat.nets)
    (subst (λ (net_of : List ℕ → Option ℕ). IsBindAnswer net_of count tasks answer) (by_names models names of_net.named) h)

unbound_told : (models : List Model) (tasks : RawTasks) (fault : BindFault) → IsBindAnswer (net_named models) (length (nets models)) tasks (Err fault) → OrMemory (IsNotBound models tasks) (binding_refused fault)
unbound_told models tasks (bind.UnknownNode line name) h = inr (bind.UnknownNode line name, refl, (λ e. absurd (cc e)), h)
unbound_told models tasks (bind.TooLarge line) h = inr (bind.TooLarge line, refl, (λ e. absurd (cc e)), h)
unbound_told models tasks bind.OutOfMemory h = inl refl

pub no_tasks : (models : List Model) (raw : RawNet) (names : NetNames) (count : ℕ) (tasks : RawTasks) (fault : BindFault) → IsNetOf models raw names → count ≡ raw.nets →
    IsBindAnswer (named_by names) count tasks (Err fault) → OrMemory (IsNotBound models tasks) (binding_refused fault)
no_tasks models raw names count tasks fault of_net counted h = unbound_told models tasks fault (bound_told models raw names count tasks (Err fault) of_net counted h)

-- the loop that the order of gates finds
pub loop_told : (models : List Model) (raw : RawNet) (names : NetNames) (id : ℕ) (name : List ℕ) → IsFlat models raw → AreNamesOf models names → IsLeastUnsettled raw id → slice_get names.own id ≡ Some name → IsLoop models name
loop_told models raw names id name flat known least here = record {
  net = raw;
  flat = flat;
  id = id;
  stuck = least;
  named = ap (λ (own : List (List ℕ)). slice_get own id) (sym known.own_known) ∙ here;
}
