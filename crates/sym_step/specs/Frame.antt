-- A condition between crates. What is kept of one time for the next, and what it has of its time.
use Rattle.std.specs.Prelude.{◌≡◌, ◌⊎◌, ◌<◌, ◌+◌, ◌==◌, All, Bool, true, false, IfSome, IsTrue, ℕ, List, Option, None, Some, length, map, slice_index_or}
use Rattle.std.specs.List.{list_any}
use Rattle.ste_base.specs.declared.id.NodeId.{NodeId}
use Rattle.dd_nodes.specs.declared.node.Ref.{Ref}
use Rattle.dd_nodes.specs.Stores.{Store}
use Rattle.dual_rail.specs.declared.rails.Rails.{Rails}
use Rattle.dual_rail.specs.Rail.{AreRefs}
use Rattle.net_core.specs.declared.raw.Gate.{Gate}
use Rattle.net_core.specs.declared.raw.RawNet.{RawNet}
use Rattle.net_core.specs.declared.raw.Latch.{Latch}
use Rattle.net_core.specs.declared.source.Source.TheVariants.{Input, Free}
use Rattle.net_core.specs.Flat.{IsSettledOrder}
use Rattle.net_core.specs.Source.{source_of}
use Rattle.net_core.specs.Work.{SymbolicSet, everything, output_set}
use Rattle.sym_step.specs.Step.{rails_at}
use Rattle.sym_step.specs.declared.frame.Frame.{Frame}
use Rattle.sym_step.specs.declared.made.Step.{Step}
use Rattle.gate_sets.specs.declared.net_rails.NetRails.{NetRails}
use Rattle.sym_step.specs.private.Boards.{AreFull}
use Rattle.sym_step.specs.private.Readers.{AreReaders, flag_at}
use Rattle.gate_sets.specs.NetSets.{AreNetRails, AreNetRefs, HaveInputs, net_at}

-- the gate's output has the set that the gate gives, whatever sets its inputs have
abbrev pub IsGiven : Store → RawNet → List NetRails → Gate → Type 0
IsGiven s net nets gate =
    (sets : ℕ → SymbolicSet) → HaveInputs s sets nets gate.inputs →
    AreNetRails s (output_set net sets gate) (net_at nets gate.output.0)

-- nothing drives the net
abbrev pub IsOpen : RawNet → ℕ → Type 0
IsOpen net id = (source_of net id ≡ Input) ⊎ (source_of net id ≡ Free)

-- whether the net is in the list
abbrev pub is_listed : List NodeId → ℕ → Bool
is_listed ids id = list_any (λ node. node.0 == id) ids

-- each net that nothing drives and of which nothing was asked has both bits
abbrev pub AreOpen : Store → RawNet → List NodeId → List NetRails → Type 0
AreOpen s net before nets =
    (id : ℕ) → id < net.nets → IsOpen net id → is_listed before id ≡ false →
    AreNetRails s everything (net_at nets id)

-- the set of a net without where it has a bit
abbrev pub bare : NetRails → Rails
bare r = record { can0 = r.can0; can1 = r.can1 }

-- the sets of the nets at the time of a frame
abbrev pub nets_of : Frame → List Rails
nets_of frame = map bare frame.board.nets.items

-- the set of a latch's input
abbrev pub input_rails : List Rails → Latch → Rails
input_rails nets latch = rails_at nets latch.input.0

abbrev pub first_or : Option (List Rails) → List Rails → List Rails
first_or None rails = rails
first_or (Some first) rails = first

-- the sets that the latches have at the time behind a frame: those of their inputs, where none are
-- told
abbrev pub next_of : RawNet → Frame → List Rails
next_of net frame = first_or frame.first (map (input_rails (nets_of frame)) net.latches)

-- what a frame has of its time, as a step, with where some net is empty
abbrev pub step_of : RawNet → Frame → Ref → Step
step_of net frame contradictory =
    record { nets = nets_of frame; contradictory = contradictory; next = next_of net frame }

-- sets of the latches, one for each
pub record AreFirst (s : Store) (net : RawNet) (sets : List Rails) : Type 0 where
  pub long : length sets ≡ length net.latches
  pub refs : All (AreRefs s) sets

-- the number of marks: one for each gate, and behind these one for each latch
abbrev pub mark_count : RawNet → ℕ
mark_count net = length net.gates + length net.latches

-- A frame of a time: each net has references that are held, a gate that is not due and of whose
-- output nothing was asked has given it its set, and the output of such a latch has the references
-- of its input. Before any time all gates and latches are due.
pub record IsFrame (s : Store) (net : RawNet) (frame : Frame) : Type 0 where
  pub long : length frame.board.nets.items ≡ net.nets
  pub refs : All (AreNetRefs s) frame.board.nets.items
  pub full : IsTrue frame.board.full → AreFull frame.board.nets.items
  pub due : length frame.board.due.flags.items ≡ mark_count net
  pub order : IsSettledOrder net frame.board.due.order.items
  pub room : All (λ gate. length gate.inputs < length frame.products.items) net.gates
  pub inside : All (λ node. node.0 < net.nets) frame.asked.items
  pub undriven : AreOpen s net frame.asked.items frame.board.nets.items
  pub first : (sets : List Rails) → frame.first ≡ Some sets → AreFirst s net sets
  pub blank : frame.begun ≡ false → (k : ℕ) → k < mark_count net →
      flag_at frame.board.due.flags.items k ≡ true
  pub lists : IsTrue frame.listed → AreReaders net frame.board.readers
  pub spare : IfSome frame.spare (AreReaders net)
  pub kept : (k : ℕ) (d : Gate) → k < length net.gates →
      flag_at frame.board.due.flags.items k ≡ false →
      is_listed frame.asked.items (slice_index_or net.gates k d).output.0 ≡ false
      → IsGiven s net frame.board.nets.items (slice_index_or net.gates k d)
  pub carried : (k : ℕ) (d : Latch) → k < length net.latches →
      flag_at frame.board.due.flags.items (length net.gates + k) ≡ false →
      is_listed frame.asked.items (slice_index_or net.latches k d).output.0 ≡ false
      → net_at frame.board.nets.items (slice_index_or net.latches k d).output.0 ≡
      net_at frame.board.nets.items (slice_index_or net.latches k d).input.0
