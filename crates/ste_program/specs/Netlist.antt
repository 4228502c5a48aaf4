-- Meaning. What the text of a netlist spells, as BLIF or as ASCII AIGER, and why it spells nothing;
-- its flat net; and the loop for which a netlist is refused. Source: this project's own choice.
use Rattle.std.specs.Prelude.{◌≡◌, ◌≢◌, ◌<◌, ◌∷◌, [], ℕ, Bool, true, false, List, codes, length, map, nat_eq, None, Some, Err, slice_get}
use Rattle.std.specs.List.{starts_with}
use Rattle.aig_model.specs.Answer.{IsAigAnswer, spelled_aig}
use Rattle.aig_model.specs.Faults.{text_fault}
use Rattle.aig_model.specs.Netlist.{model_of}
use Rattle.aig_model.specs.declared.fault.AigFault.{AigFault}
use Rattle.aig_model.specs.declared.fault.AigFault.TheVariants as aig
use Rattle.blif_lines.specs.Lines.{lines_of}
use Rattle.blif_syntax.specs.Answer.{IsBlifAnswer, entries_of}
use Rattle.blif_syntax.specs.Places.{first_fault}
use Rattle.blif_syntax.specs.Spelled.{models_of}
use Rattle.blif_syntax.specs.declared.fault.BlifFault.{BlifFault}
use Rattle.blif_syntax.specs.declared.fault.BlifFault.TheVariants.{OutOfMemory}
use Rattle.blif_syntax.specs.declared.form.Entry.{Entry}
use Rattle.blif_syntax.specs.declared.models.Model.{Model}
use Rattle.hierarchy.specs.Faults.{IsFree, IsRefusal}
use Rattle.hierarchy.specs.Names.{own_name}
use Rattle.hierarchy.specs.Nets.{nets}
use Rattle.net_core.specs.Flat.{IsInRange}
use Rattle.net_core.specs.Loop.{IsLeastUnsettled}
use Rattle.net_core.specs.Run.{IsSettled}
use Rattle.net_core.specs.declared.raw.RawNet.{RawNet}
use Rattle.flat_net.specs.Flat.{IsFlat}

-- the logical lines of a netlist's text, with their forms
abbrev pub net_lines : List ℕ → List Entry
net_lines text = entries_of (lines_of text)

-- the text is ASCII AIGER: its first four bytes are `aag` and a space
abbrev pub is_aag : List ℕ → Bool
is_aag text = starts_with nat_eq text (codes "aag ")

-- the text spells these models as BLIF: none of its lines is faulty, and there is at least one model
pub record IsBlifNetlist (text : List ℕ) (models : List Model) : Type 0 where
  pub sound : first_fault [] (net_lines text) ≡ None
  pub spelled : models ≡ models_of (net_lines text)
  pub some : 0 < length models

-- the text spells these models as AIGER: none of its lines is faulty, and there is the one model
-- that it stands for
pub record IsAigNetlist (text : List ℕ) (models : List Model) : Type 0 where
  pub sound : text_fault text ≡ None
  pub spelled : models ≡ model_of (spelled_aig text) ∷ []

-- the text spells these models, as AIGER or as BLIF
abbrev pub IsNetlistAs : Bool → List ℕ → List Model → Type 0
IsNetlistAs true text models = IsAigNetlist text models
IsNetlistAs false text models = IsBlifNetlist text models

-- the text spells these models
abbrev pub IsNetlist : List ℕ → List Model → Type 0
IsNetlist text models = IsNetlistAs (is_aag text) text models

-- the text is refused as BLIF for this fault: that of its first faulty line, or that it has no model
abbrev pub IsBlifTextFault : List ℕ → BlifFault → Type 0
IsBlifTextFault text fault = (fault ≢ OutOfMemory) × IsBlifAnswer (net_lines text) (Err fault)

-- the text is refused as AIGER for this fault: that of its first faulty line
abbrev pub IsAigTextFault : List ℕ → AigFault → Type 0
IsAigTextFault text fault = (fault ≢ aig.OutOfMemory) × IsAigAnswer text (Err fault)

-- The text spells these models, whose hierarchy has no fault, and this is their flat net, whose
-- numbers are in range and in which no gates form a loop. The net's covers are numbered freely.
pub record IsFlattened (text : List ℕ) (models : List Model) (net : RawNet) : Type 0 where
  pub netlist : IsNetlist text models
  pub sound : IsFree (IsRefusal models)
  pub flat : IsFlat models net
  pub in_range : IsInRange net
  pub settled : IsSettled net

-- gates of the flat net drive one another in a loop: this is the own name of the least net that
-- does not settle
pub record IsLoop (models : List Model) (name : List ℕ) : Type 0 where
  pub net : RawNet
  pub flat : IsFlat models net
  pub id : ℕ
  pub stuck : IsLeastUnsettled net id
  pub named : slice_get (map own_name (nets models)) id ≡ Some name
