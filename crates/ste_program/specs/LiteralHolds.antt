-- Meaning. When a task holds of the literals of an AIGER text, and what breaks it: on the runs of
-- its literals, with no hierarchy, no net and no diagrams. Source: Biere, The AIGER And-Inverter
-- Graph (AIG) Format, for literals; for tasks as with hierarchies.
use Rattle.std.specs.Prelude.{◌≡◌, ℕ, ◌<◌, ◌∷◌, [], Bool, List, length}
use Rattle.hierarchy.specs.Nets.{nets}
use Rattle.aig_model.specs.declared.aig.Aig.{Aig}
use Rattle.aig_model.specs.Literals.{IsLiteralRun, StartsAsGiven}
use Rattle.aig_model.specs.NetLiterals.{net_bits}
use Rattle.aig_model.specs.Netlist.{model_of}
use Rattle.ste_model.specs.declared.run.Run.{Run}
use Rattle.ste_model.specs.declared.task.Assertion.{Assertion}
use Rattle.ste_model.specs.declared.task.Edge.{Edge}
use Rattle.ste_model.specs.declared.task.Graph.{Graph}
use Rattle.ste_model.specs.declared.task.Task.{Task}
use Rattle.ste_model.specs.declared.task.Task.TheVariants.{Ste, Gste}
use Rattle.ste_model.specs.Asked.{cuts_at, depth}
use Rattle.ste_model.specs.Edges.{AreNumbers, IsPathFrom}
use Rattle.ste_model.specs.GraphHolds.{MeetsAlong}
use Rattle.ste_model.specs.Holds.{RunMeets}
use Rattle.ste_model.specs.Runs.{run_of}

-- a run of a task: a literal run in which each latch has at time 0 a bit that it may start with
pub record IsLiteralTaskRun (aig : Aig) (reset : Bool) (n : ℕ) (bit : ℕ → ℕ → Bool) : Type 0 where
  pub is_run : IsLiteralRun aig n bit
  pub starts : 0 < n → StartsAsGiven aig reset bit

-- The assertion holds of the literals: for every assignment, every literal run of the depth that
-- meets the antecedent meets the consequent. A net has the bit of its literal.
abbrev pub HoldsOfLiterals : Aig → ℕ → Assertion → Type 0
HoldsOfLiterals aig vars task =
    (bits : List Bool) → length bits ≡ vars → (bit : ℕ → ℕ → Bool) →
    IsLiteralTaskRun aig task.reset (depth task) bit →
    RunMeets (cuts_at task.ant bits) (net_bits aig bit) →
    RunMeets (cuts_at task.con bits) (net_bits aig bit)

-- The graph holds of the literals: for every assignment, every nonempty path from vertex 0 and
-- every literal run of the path's length, a run that meets each edge's antecedent at its place
-- meets each edge's consequent there.
abbrev pub GraphHoldsOfLiterals : Aig → ℕ → Graph → Type 0
GraphHoldsOfLiterals aig vars graph =
    (bits : List Bool) → length bits ≡ vars → (path : List Edge) → 0 < length path →
    IsPathFrom graph.edges 0 path → (bit : ℕ → ℕ → Bool) →
    IsLiteralTaskRun aig graph.reset (length path) bit →
    MeetsAlong (λ edge. edge.ant) bits path (net_bits aig bit) →
    MeetsAlong (λ edge. edge.con) bits path (net_bits aig bit)

-- the task holds of the literals
abbrev pub TaskHoldsOfLiterals : Aig → ℕ → Task → Type 0
TaskHoldsOfLiterals aig vars (Ste task) = HoldsOfLiterals aig vars task
TaskHoldsOfLiterals aig vars (Gste graph) = GraphHoldsOfLiterals aig vars graph

-- A run as data breaks the assertion under an assignment: it has the bits of a literal run of the
-- depth, which meets the antecedent and does not meet the consequent.
pub record BreaksOnLiterals (aig : Aig) (task : Assertion) (bits : List Bool)
    (run : Run) : Type 0 where
  pub whole : ℕ → ℕ → Bool
  pub is_run : IsLiteralTaskRun aig task.reset (depth task) whole
  pub told : (t id : ℕ) → t < depth task → id < length (nets (model_of aig ∷ [])) →
      run_of run t id ≡ net_bits aig whole t id
  pub meets : RunMeets (cuts_at task.ant bits) (net_bits aig whole)
  pub breaks : ¬ RunMeets (cuts_at task.con bits) (net_bits aig whole)

-- A run as data breaks the graph along the path with these numbers under an assignment: the path is
-- one from vertex 0, and the run has the bits of a literal run of the path's length, which meets
-- each edge's antecedent at its place and does not meet each edge's consequent there.
pub record BreaksAlongOnLiterals (aig : Aig) (graph : Graph) (bits : List Bool) (numbers : List ℕ)
    (run : Run) : Type 0 where
  pub path : List Edge
  pub are : AreNumbers graph numbers path
  pub is_path : IsPathFrom graph.edges 0 path
  pub whole : ℕ → ℕ → Bool
  pub is_run : IsLiteralTaskRun aig graph.reset (length path) whole
  pub told : (t id : ℕ) → t < length path → id < length (nets (model_of aig ∷ [])) →
      run_of run t id ≡ net_bits aig whole t id
  pub meets : MeetsAlong (λ edge. edge.ant) bits path (net_bits aig whole)
  pub breaks : ¬ MeetsAlong (λ edge. edge.con) bits path (net_bits aig whole)

-- the run breaks the task under the assignment, a graph along the path with these numbers
abbrev pub BreaksTaskOnLiterals : Aig → Task → List Bool → List ℕ → Run → Type 0
BreaksTaskOnLiterals aig (Ste task) bits numbers run = BreaksOnLiterals aig task bits run
BreaksTaskOnLiterals aig (Gste graph) bits numbers run =
    BreaksAlongOnLiterals aig graph bits numbers run
