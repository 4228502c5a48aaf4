-- Meaning, and a law. What an assertion leaves open of a run: its choices. That they stand in this
-- order is a choice of this project.
use Rattle.std.specs.Prelude.{◌≡◌, ℕ, zero, suc, ◌+◌, ◌<◌, ◌≤◌, ◌⊎◌, max, fold, ◌∷◌, ◌++◌, [], Bool, true, false, not, ◌||◌, List, All, Any, length, map, Option, None, Some, if◌then◌else◌, slice_get}
use Rattle.net_core.specs.declared.raw.Init.{Init}
use Rattle.net_core.specs.declared.raw.Init.TheVariants.{Zero, One, Free as FreeInit}
use Rattle.net_core.specs.declared.raw.Latch.{Latch}
use Rattle.net_core.specs.declared.raw.RawNet.{RawNet}
use Rattle.net_core.specs.declared.source.Source.{Source}
use Rattle.net_core.specs.declared.source.Source.TheVariants.{Input, Free, Gate, Latch as OfLatch}
use Rattle.net_core.specs.Flat.{HasOneDriver, IsInRange}
use Rattle.net_core.specs.Run.{IsSettled}
use Rattle.net_core.specs.Source.{source_of}
use Rattle.ste_model.specs.declared.task.Assertion.{Assertion}
use Rattle.ste_model.specs.declared.task.Task.{Task}
use Rattle.ste_model.specs.declared.task.Task.TheVariants.{Ste, Gste}
use Rattle.ste_model.specs.declared.task.Tasks.{Tasks}
use Rattle.ste_model.specs.Asked.{depth}
use Rattle.ste_model.specs.Holds.{IsTaskRun}

-- a time and a net of a run
pub record Cell : Type 0 where
  pub time : ℕ
  pub net : ℕ

-- the initial value is free
abbrev pub is_free : Init → Bool
is_free FreeInit = true
is_free Zero = false
is_free One = false

-- the latch may start with either bit
abbrev pub starts_free : Bool → Option Latch → Bool
starts_free reset None = false
starts_free reset (Some latch) = not reset || is_free latch.init

-- the net is the output of a latch that may start with either bit, from what drives it
abbrev pub is_first_choice : RawNet → Bool → Source → Bool
is_first_choice net reset (OfLatch l) = starts_free reset (slice_get net.latches l)
is_first_choice net reset Input = false
is_first_choice net reset Free = false
is_first_choice net reset (Gate g) = false

-- the net is an input, or free, from what drives it
abbrev pub is_open : Source → Bool
is_open Input = true
is_open Free = true
is_open (Gate g) = false
is_open (OfLatch l) = false

-- the first n nets that pass a test, at one time, in the order of their numbers
abbrev pub cells_at : (ℕ → Bool) → ℕ → ℕ → List Cell
cells_at passes t zero = []
cells_at passes t (suc n) =
    let before : List Cell = cells_at passes t n in
    if passes n then before ++ record { time = t; net = n } ∷ [] else before

-- the inputs and free nets at the first n times, by time
abbrev pub input_cells : RawNet → ℕ → List Cell
input_cells net zero = []
input_cells net (suc n) =
    input_cells net n ++ cells_at (λ id. is_open (source_of net id)) n net.nets

-- The choices of an assertion: the first values of the latches that may start with either bit, by
-- net, and then for each time below the depth the inputs and free nets, by net.
abbrev pub choices : RawNet → Assertion → List Cell
choices net task =
    cells_at (λ id. is_first_choice net task.reset (source_of net id)) 0 net.nets
    ++ input_cells net (depth task)

-- the bits of a run at cells
abbrev pub bits_at : List Cell → (ℕ → ℕ → Bool) → List Bool
bits_at cells run = map (λ cell. run cell.time cell.net) cells

-- how many variables the exact check of a task takes: those of the file, and for an assertion its
-- choices
abbrev pub task_width : RawNet → ℕ → Task → ℕ
task_width net vars (Ste task) = vars + length (choices net task)
task_width net vars (Gste graph) = vars

-- how many variables the exact check of all tasks takes: those of the file, and the choices of the
-- assertion with the most
abbrev pub exact_width : RawNet → Tasks → ℕ
exact_width net tasks =
    fold max (length tasks.vars) (map (task_width net (length tasks.vars)) tasks.tasks)

-- Law: no task takes more variables than all tasks together, which take those of the file, or as
-- many as one of them.
pub record WidthIsGreatest : Type 0 where
  pub vars : (net : RawNet) (tasks : Tasks) → length tasks.vars ≤ exact_width net tasks
  pub each : (net : RawNet) (tasks : Tasks) →
      All (λ task. task_width net (length tasks.vars) task ≤ exact_width net tasks) tasks.tasks
  pub reached : (net : RawNet) (tasks : Tasks) → (exact_width net tasks ≡ length tasks.vars)
      ⊎ Any (λ task. exact_width net tasks ≡ task_width net (length tasks.vars) task) tasks.tasks

-- Law: in a sound net each list of so many bits is the choices of a run of the assertion's depth,
-- and of one such run alone, at the times below the depth and the nets that there are.
pub record RunsAreChoices : Type 0 where
  pub some : (net : RawNet) (task : Assertion) (bits : List Bool) →
      HasOneDriver net → IsSettled net → length bits ≡ length (choices net task) →
      (run : ℕ → ℕ → Bool) × IsTaskRun net task.reset (depth task) run
      × (bits_at (choices net task) run ≡ bits)
  pub same : (net : RawNet) (task : Assertion) (one other : ℕ → ℕ → Bool) →
      IsInRange net → HasOneDriver net → IsSettled net →
      IsTaskRun net task.reset (depth task) one → IsTaskRun net task.reset (depth task) other →
      bits_at (choices net task) one ≡ bits_at (choices net task) other →
      (t id : ℕ) → t < depth task → id < net.nets → one t id ≡ other t id
