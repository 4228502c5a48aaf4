-- For private functions. The sets that latches get at a time.
use Rattle.std.specs.Prelude.{◌≡◌, ◌⊎◌, ◌<◌, All, Bool, true, false, IfSome, IsTrue, ℕ, List, length, slice_index_or}
use Rattle.ste_base.specs.declared.id.NodeId.{NodeId}
use Rattle.dd_nodes.specs.Stores.{Store}
use Rattle.dual_rail.specs.declared.rails.Rails.{Rails}
use Rattle.dual_rail.specs.Rail.{AreRails, AreRefs}
use Rattle.net_core.specs.declared.raw.Latch.{Latch}
use Rattle.net_core.specs.declared.raw.RawNet.{RawNet}
use Rattle.net_core.specs.Flat.{IsSettledOrder}
use Rattle.net_core.specs.Possible.{is_weakened}
use Rattle.net_core.specs.Work.{SymbolicSet, set_before_cuts}
use Rattle.sym_step.specs.declared.latches.LatchSet.{LatchSet}
use Rattle.gate_sets.specs.declared.net_rails.NetRails.{NetRails}
use Rattle.sym_step.specs.declared.frame.Frame.{Frame}
use Rattle.sym_step.specs.private.Boards.{AreFull}
use Rattle.sym_step.specs.Frame.{AreOpen, bare, is_listed, mark_count}
use Rattle.sym_step.specs.private.Frames.{AreCarried, AreSpared}
use Rattle.sym_step.specs.private.Readers.{AreReaders}
use Rattle.gate_sets.specs.NetSets.{AreNetRails, AreNetRefs, net_at}
use Rattle.sym_step.specs.Step.{ids_of}

-- the rails of a latch's output before its cuts: those of both bits where it is weakened, and else
-- these
abbrev pub rails_unless : Bool → Rails → Rails
rails_unless true r = record { can0 = record { 0 = 1 }; can1 = record { 0 = 1 } }
rails_unless false r = r

-- the set of a latch that takes over what its input has, where these nets are weakened
abbrev pub latch_set : List NodeId → List NetRails → Latch → LatchSet
latch_set weak nets latch = record {
  output = latch.output;
  rails = rails_unless (is_weakened (ids_of weak) latch.output.0)
      (bare (net_at nets latch.input.0));
  given = net_at nets latch.input.0;
}

-- nothing is asked of the latch's output, which has the references of its input
abbrev pub IsCopied : List NodeId → List NetRails → Latch → Type 0
IsCopied asked nets latch =
    (is_listed asked latch.output.0 ≡ false) ×
    (net_at nets latch.output.0 ≡ net_at nets latch.input.0)

-- a latch has these rails among the next ones, unless its output is weakened, and its input these
-- references
pub record IsSetOf (net : RawNet) (next : List Rails) (weak : List NodeId) (nets : List NetRails)
    (set : LatchSet) : Type 0 where
  pub number : ℕ
  pub inside : number < length net.latches
  pub output : (d : Latch) → (slice_index_or net.latches number d).output ≡ set.output
  pub rails : (d : Rails) →
      rails_unless (is_weakened (ids_of weak) set.output.0) (slice_index_or next number d) ≡
      set.rails
  pub given : (d : Latch) → net_at nets (slice_index_or net.latches number d).input.0 ≡ set.given

-- one of the sets is that of the net
pub record IsAmong (sets : List LatchSet) (id : ℕ) : Type 0 where
  pub place : ℕ
  pub inside : place < length sets
  pub output : (d : LatchSet) → (slice_index_or sets place d).output.0 ≡ id

-- a latch has its set already: nothing is asked of its output, which has the latch's rails among
-- the next ones
pub record IsInPlace (next : List Rails) (asked : List NodeId) (nets : List NetRails) (k : ℕ)
    (latch : Latch) : Type 0 where
  pub uncut : is_listed asked latch.output.0 ≡ false
  pub rails : (d : Rails) → slice_index_or next k d ≡ bare (net_at nets latch.output.0)

-- the sets of all latches that do not have theirs yet, where these rails are the next ones
pub record AreLatchSets (net : RawNet) (next : List Rails) (weak asked : List NodeId)
    (nets : List NetRails) (sets : List LatchSet) : Type 0 where
  pub own : All (IsSetOf net next weak nets) sets
  pub each : (k : ℕ) (d : Latch) → k < length net.latches →
      IsAmong sets (slice_index_or net.latches k d).output.0 ⊎
      IsInPlace next asked nets k (slice_index_or net.latches k d)

-- the set is of a net, and its references are held
pub record IsLatchSet (s : Store) (net : RawNet) (set : LatchSet) : Type 0 where
  pub output : set.output.0 < net.nets
  pub rails : AreRefs s set.rails
  pub given : AreNetRefs s set.given

-- Where latches have these sets: each rails are what a net has before its cuts, and each latch has
-- a set among these, or its output has its own already.
pub record AreGiven (s : Store) (net : RawNet) (weak : List NodeId) (ls : List SymbolicSet)
    (family : ℕ → SymbolicSet) (sets : List LatchSet) (nets : List NetRails) : Type 0 where
  pub long : length ls ≡ length net.latches
  pub rails : All (λ set. AreRails s
      (set_before_cuts net (ids_of weak) ls family set.output.0) set.rails) sets
  pub each : (k : ℕ) (d : Latch) → k < length net.latches
      → IsAmong sets (slice_index_or net.latches k d).output.0 ⊎
      AreNetRails s (family (slice_index_or net.latches k d).output.0)
      (net_at nets (slice_index_or net.latches k d).output.0)

-- the nets of the first n sets have theirs
abbrev pub HaveLatchSets : (ℕ → SymbolicSet) → Store → List LatchSet → ℕ → List NetRails → Type 0
HaveLatchSets family t sets n nets =
    (k : ℕ) (d : LatchSet) → k < n → k < length sets →
    AreNetRails t (family (slice_index_or sets k d).output.0)
    (net_at nets (slice_index_or sets k d).output.0)

-- A frame once a time has begun: each gate and each latch that is not due keeps its set, and
-- nothing has got another set yet.
pub record Begins (s : Store) (net : RawNet) (asked : List NodeId) (frame : Frame) : Type 0 where
  pub long : length frame.board.nets.items ≡ net.nets
  pub refs : All (AreNetRefs s) frame.board.nets.items
  pub full : IsTrue frame.board.full → AreFull frame.board.nets.items
  pub due : length frame.board.due.flags.items ≡ mark_count net
  pub order : IsSettledOrder net frame.board.due.order.items
  pub room : All (λ gate. length gate.inputs < length frame.products.items) net.gates
  pub inside : All (λ node. node.0 < net.nets) frame.asked.items
  pub undriven : AreOpen s net frame.asked.items frame.board.nets.items
  pub lists : IsTrue frame.listed → AreReaders net frame.board.readers
  pub spare : IfSome frame.spare (AreReaders net)
  pub spared : AreSpared s net asked frame.board
  pub carried : AreCarried net asked frame.board
