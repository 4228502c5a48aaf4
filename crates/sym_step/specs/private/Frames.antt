-- For private functions. What is kept of one time for the next, while the next one is made.
use Rattle.std.specs.Prelude.{◌≡◌, ◌⊎◌, ◌<◌, ◌+◌, false, ℕ, List, length, slice_index_or}
use Rattle.ste_base.specs.declared.id.NodeId.{NodeId}
use Rattle.dd_nodes.specs.Stores.{Store}
use Rattle.net_core.specs.declared.raw.Gate.{Gate}
use Rattle.net_core.specs.declared.raw.RawNet.{RawNet}
use Rattle.net_core.specs.declared.raw.Latch.{Latch}
use Rattle.net_core.specs.Work.{SymbolicSet}
use Rattle.sym_step.specs.declared.frame.Frame.{Frame}
use Rattle.gate_sets.specs.declared.net_rails.NetRails.{NetRails}
use Rattle.sym_step.specs.declared.board.Board.{Board}
use Rattle.sym_step.specs.private.Readers.{AreReaders, IsBetween, ReadsAs, flag_at}
use Rattle.gate_sets.specs.NetSets.{AreNetRails, AreNetRefs, net_at}
use Rattle.sym_step.specs.Frame.{IsGiven, IsOpen, is_listed, mark_count}

-- what is said of one net: where nothing drives it, or it had this set, it has it
abbrev pub IsOpened : RawNet → SymbolicSet → Store → NetRails → ℕ → Store → NetRails → Type 0
IsOpened net w s now id t r =
    AreNetRefs t r × ((IsOpen net id ⊎ AreNetRails s w now) → AreNetRails t w r)

-- the outputs of the first n latches have their sets
abbrev pub HaveLatches : RawNet → (ℕ → SymbolicSet) → Store → ℕ → List NetRails → Type 0
HaveLatches net sets t n nets =
    (k : ℕ) (d : Latch) → k < n → k < length net.latches →
    AreNetRails t (sets (slice_index_or net.latches k d).output.0)
    (net_at nets (slice_index_or net.latches k d).output.0)

-- those of the first n nets of a list that nothing drives have their sets
abbrev pub HaveOpen : RawNet → (ℕ → SymbolicSet) → Store → List NodeId → ℕ → List NetRails → Type 0
HaveOpen net sets t ids n nets =
    (k : ℕ) (d : NodeId) → k < n → k < length ids → IsOpen net (slice_index_or ids k d).0 →
    AreNetRails t (sets (slice_index_or ids k d).0) (net_at nets (slice_index_or ids k d).0)

-- each net that had its set has it still
abbrev pub StayRight : (ℕ → SymbolicSet) → Store → List NetRails → Store → List NetRails → Type 0
StayRight sets t old u new =
    (id : ℕ) → AreNetRails t (sets id) (net_at old id) → AreNetRails u (sets id) (net_at new id)

-- a gate that is not due: nothing is asked of its output, which has the set that it gives, and it
-- stands in its lists
pub record IsSpared (s : Store) (net : RawNet) (asked : List NodeId) (board : Board) (k : ℕ)
    (gate : Gate) : Type 0 where
  pub uncut : is_listed asked gate.output.0 ≡ false
  pub given : IsGiven s net board.nets.items gate
  pub reads : ReadsAs board.readers k gate

abbrev pub AreSpared : Store → RawNet → List NodeId → Board → Type 0
AreSpared s net asked board =
    (k : ℕ) (d : Gate) → k < length net.gates → flag_at board.due.flags.items k ≡ false →
    IsSpared s net asked board k (slice_index_or net.gates k d)

-- a latch that is not due: nothing is asked of its output, which has the references of its input,
-- and it stands in its lists
pub record IsCarried (asked : List NodeId) (board : Board) (k : ℕ) (latch : Latch) : Type 0 where
  pub uncut : is_listed asked latch.output.0 ≡ false
  pub same : net_at board.nets.items latch.output.0 ≡ net_at board.nets.items latch.input.0
  pub between : IsBetween board.readers k latch

abbrev pub AreCarried : RawNet → List NodeId → Board → Type 0
AreCarried net asked board =
    (k : ℕ) (d : Latch) → k < length net.latches →
    flag_at board.due.flags.items (length net.gates + k) ≡ false →
    IsCarried asked board (length net.gates + k) (slice_index_or net.latches k d)

-- the lists of a frame are made, where some gate or latch is not due
abbrev pub AreReady : RawNet → Frame → Type 0
AreReady net frame =
    (k : ℕ) → k < mark_count net → flag_at frame.board.due.flags.items k ≡ false →
    AreReaders net frame.board.readers
