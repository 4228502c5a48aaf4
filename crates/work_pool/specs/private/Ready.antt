-- For private functions. Which tasks may be checked over stores of which width.
use Rattle.std.specs.Prelude.{◌≡◌, ◌≤◌, ℕ}
use Rattle.std.proofs.Props.{props}
use Rattle.net_core.specs.declared.raw.RawNet.{RawNet}
use Rattle.exact_model.specs.Choices.{task_width}
use Rattle.ste_model.specs.declared.task.Task.{Task}
use Rattle.ste_model.specs.declared.task.Task.TheVariants.{Ste, Gste}
use Rattle.work_pool.specs.declared.mode.Mode.{Mode}
use Rattle.work_pool.specs.declared.mode.Mode.TheVariants.{Sets, Exact}
use Rattle.work_pool.specs.Pool.{IsTaskOver}

-- A task over so many variables can be checked over a store of this width: by sets it has these
-- variables and no others, and in exact mode those that the task takes.
abbrev pub HasRoom : Mode → RawNet → ℕ → ℕ → Task → Type 0
HasRoom Sets net vars width task = width ≡ vars
HasRoom Exact net vars width task = task_width net vars task ≤ width

-- a task that may be checked over a store of this width
abbrev pub IsTaskReady : Mode → RawNet → ℕ → ℕ → Task → Type 0
IsTaskReady mode net vars width task =
    IsTaskOver net vars task × HasRoom mode net vars width task

pub room_prop : (mode : Mode) (net : RawNet) (vars width : ℕ) (task : Task) →
    IsProp (HasRoom mode net vars width task)
room_prop Sets net vars width task = Prim.hlevel props
room_prop Exact net vars width task = Prim.hlevel props

pub over_prop : (net : RawNet) (vars : ℕ) (task : Task) → IsProp (IsTaskOver net vars task)
over_prop net vars (Ste task) = Prim.hlevel props
over_prop net vars (Gste graph) = Prim.hlevel props

-- that a task is ready is a proposition
pub ruleset ready_props = (props, room_prop, over_prop)
