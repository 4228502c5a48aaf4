-- How many variables a table has for tasks, and that each of them has room.
use Rattle.std.proofs.Common.{◌≤◌, length, refl, arith}
use Rattle.std.specs.Prelude.{All}
use Rattle.net_core.specs.declared.raw.RawNet.{RawNet}
use Rattle.exact_model.proofs.Widths.{width_is_greatest}
use Rattle.ste_model.specs.declared.task.Tasks.{Tasks}
use Rattle.work_pool.specs.declared.mode.Mode.{Mode}
use Rattle.work_pool.specs.declared.mode.Mode.TheVariants.{Sets, Exact}
use Rattle.work_pool.specs.Pool.{IsTaskOver, table_width}
use Rattle.work_pool.specs.private.Ready.{IsTaskReady}

-- the tasks have no more variables than the table
pub vars_within : (mode : Mode) (net : RawNet) (tasks : Tasks) → length tasks.vars ≤ table_width mode net tasks
vars_within Sets net tasks = omega arith
vars_within Exact net tasks = width_is_greatest.vars net tasks

-- each task may be checked over the table
pub all_ready : (mode : Mode) (net : RawNet) (tasks : Tasks) → All (IsTaskOver net (length tasks.vars)) tasks.tasks → All (IsTaskReady mode net (length tasks.vars) (table_width mode net tasks)) tasks.tasks
all_ready Sets net tasks over k d l = (over k d l, refl)
all_ready Exact net tasks over k d l = (over k d l, width_is_greatest.each net tasks k d l)
