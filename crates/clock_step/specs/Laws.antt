-- Laws: there is one answer at most, inputs that are written out are read back, a run has the bits
-- that are given, and there is one list of outputs.
use Rattle.std.specs.Prelude.{◌≡◌, ◌≢◌, ◌≤◌, ◌*◌, ℕ, ◌∷◌, [], List, length, map, All, Bool, IsTrue, if◌then◌else◌, Option, Some, Result, Ok, Err, codes, slice_get}
use Rattle.blif_lines.specs.declared.lines.Line.{Line}
use Rattle.ste_base.specs.declared.id.NodeId.{NodeId}
use Rattle.net_core.specs.declared.raw.RawNet.{RawNet}
use Rattle.net_core.specs.Flat.{HasOneDriver}
use Rattle.clock_step.specs.declared.fault.InputFault.{InputFault}
use Rattle.clock_step.specs.declared.fault.InputFault.TheVariants.{OutOfMemory}
use Rattle.clock_step.specs.declared.inputs.Inputs.{Inputs}
use Rattle.clock_step.specs.Order.{is_undriven}
use Rattle.clock_step.specs.Answer.{IsInputsAnswer}
use Rattle.clock_step.specs.Simulation.{AreOutputs, IsSimulation}

-- the same nodes and rows, or the same fault
abbrev pub AreSame : Result Inputs InputFault → Result Inputs InputFault → Type 0
AreSame (Ok one) (Ok other) = (one.nodes ≡ other.nodes) × (one.rows ≡ other.rows)
AreSame (Ok one) (Err other) = ⊥
AreSame (Err one) (Ok other) = ⊥
AreSame (Err one) (Err other) = one ≡ other

-- Law: lines have one answer at most, besides out of memory.
abbrev pub OneAnswer : Type 0
OneAnswer =
    (net_of : List ℕ → Option ℕ) (net : RawNet) (lines : List Line)
    (one other : Result Inputs InputFault) →
    one ≢ Err OutOfMemory → other ≢ Err OutOfMemory →
    IsInputsAnswer net_of net lines one → IsInputsAnswer net_of net lines other → AreSame one other

-- a row as a word
abbrev pub word_of : List Bool → List ℕ
word_of [] = codes "-"
word_of (bit ∷ row) = map (λ b. if b then 49 else 48) (bit ∷ row)

-- names and rows as lines of words
abbrev pub written_inputs : List (List ℕ) → List (List Bool) → List (List (List ℕ))
written_inputs names rows = (codes ".order" ∷ names) ∷ map (λ row. word_of row ∷ []) rows

-- Law: inputs are read back from the lines that they are written out as, with a name for each node,
-- where the nodes are inputs or free nets and the rows are not too many.
abbrev pub WrittenIsRead : Type 0
WrittenIsRead =
    (net_of : List ℕ → Option ℕ) (net : RawNet) (names : List (List ℕ)) (inputs : Inputs)
    (lines : List Line) →
    map net_of names ≡ map (λ node. Some node.0) inputs.nodes →
    All (λ node. IsTrue (is_undriven net node.0)) inputs.nodes →
    length inputs.rows ≤ 10000 → length inputs.rows * net.nets ≤ 100000000 →
    map (λ line. line.words) lines ≡ written_inputs names inputs.rows →
    IsInputsAnswer net_of net lines (Ok inputs)

-- Law: at each time of a run on given inputs each node has the bit at its place in the row.
abbrev pub NodesAreGiven : Type 0
NodesAreGiven =
    (net : RawNet) (inputs : Inputs) (run : ℕ → ℕ → Bool) → HasOneDriver net →
    All (λ node. IsTrue (is_undriven net node.0)) inputs.nodes → IsSimulation net inputs run →
    (t k : ℕ) (node : NodeId) (row : List Bool) (bit : Bool) → slice_get inputs.rows t ≡ Some row →
    slice_get inputs.nodes k ≡ Some node → slice_get row k ≡ Some bit → run t node.0 ≡ bit

-- Law: a net has one list of outputs on given inputs.
abbrev pub OneSimulation : Type 0
OneSimulation =
    (net : RawNet) (inputs : Inputs) (one other : List (List Bool)) →
    AreOutputs net inputs one → AreOutputs net inputs other → one ≡ other
