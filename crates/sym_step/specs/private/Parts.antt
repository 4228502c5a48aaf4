-- For private functions. How far a step is.
use Rattle.std.specs.Prelude.{◌≡◌, Bool, true, ◌≢◌, ◌≤◌, ◌<◌, ℕ, List, length, slice_index, slice_index_or}
use Rattle.ste_base.specs.declared.id.NodeId.{NodeId}
use Rattle.dd_nodes.specs.Stores.{Store}
use Rattle.net_core.specs.declared.raw.Gate.{Gate}
use Rattle.net_core.specs.declared.raw.RawNet.{RawNet}
use Rattle.net_core.specs.declared.source.Source.TheVariants.{Gate as OfGate}
use Rattle.net_core.specs.Source.{source_of}
use Rattle.net_core.specs.Possible.{is_weakened}
use Rattle.ste_base.specs.Functions.{Function}
use Rattle.net_core.specs.Work.{SymbolicSet, SymbolicCut, SymbolicAsked, one_gate_work, output_set, unless_weakened}
use Rattle.gate_sets.specs.declared.net_rails.NetRails.{NetRails}
use Rattle.gate_sets.specs.NetSets.{AreNetRails, net_at}
use Rattle.sym_step.specs.Step.{ids_of}

-- what is asked, where these nets are weakened and these cuts are made
abbrev pub asks : List NodeId → List SymbolicCut → SymbolicAsked
asks weak cuts = record { cuts = cuts; weak = ids_of weak }

-- the set of a gate's output before its cuts, where these nets are weakened, and the functions for
-- it
abbrev pub placed_set : List NodeId → RawNet → (ℕ → SymbolicSet) → Gate → SymbolicSet
placed_set weak net sets gate =
    unless_weakened (is_weakened (ids_of weak) gate.output.0) (output_set net sets gate)

abbrev pub placed_work : List NodeId → RawNet → (ℕ → SymbolicSet) → Gate → List Function
placed_work weak net sets gate =
    one_gate_work (is_weakened (ids_of weak) gate.output.0) net sets gate

-- no gate drives the net
abbrev pub IsSource : RawNet → ℕ → Type 0
IsSource net id = (g : ℕ) → source_of net id ≢ OfGate g

-- the first n sources have their sets
abbrev pub HaveSources : RawNet → (ℕ → SymbolicSet) → Store → ℕ → List NetRails → Type 0
HaveSources net sets t n rails =
    (id : ℕ) → id < n → IsSource net id → AreNetRails t (sets id) (net_at rails id)

-- the nets that no gate from the n-th place of the order on drives have their sets
abbrev pub HaveGates : RawNet → List ℕ → (ℕ → SymbolicSet) → Store → ℕ → List NetRails → Type 0
HaveGates net order sets t n rails =
    (id : ℕ) → id < net.nets → ((k : ℕ) (d : Gate) → n ≤ k → k < length order →
    (slice_index_or net.gates (slice_index order k) d).output.0 ≢ id) →
    AreNetRails t (sets id) (net_at rails id)

-- each net has its set
abbrev pub HaveNets : RawNet → (ℕ → SymbolicSet) → Store → List NetRails → Type 0
HaveNets net sets t nets = (id : ℕ) → id < net.nets → AreNetRails t (sets id) (net_at nets id)

-- the function is 1 under each assignment of so many variables
abbrev pub IsEverywhere : ℕ → Function → Type 0
IsEverywhere vars f = (bits : List Bool) → length bits ≡ vars → f bits ≡ true
