-- Meaning, and a law. What the check of tasks over one table of nodes gives. Source: this project's
-- own choice.
use Rattle.std.specs.Prelude.{◌≡◌, ◌≢◌, ◌<◌, ◌≤◌, ◌*◌, ℕ, List, All, length, Some, slice_get}
use Rattle.std.specs.List.{AllZip, sum}
use Rattle.dd_nodes.specs.Stores.{Store}
use Rattle.net_core.specs.declared.raw.RawNet.{RawNet}
use Rattle.net_core.specs.Flat.{HasOneDriver, IsInRange}
use Rattle.net_core.specs.Run.{IsSettled}
use Rattle.ste_model.specs.declared.report.Report.{Report}
use Rattle.ste_model.specs.declared.task.Assertion.{Assertion}
use Rattle.ste_model.specs.declared.task.Task.{Task}
use Rattle.ste_model.specs.declared.task.Task.TheVariants.{Ste, Gste}
use Rattle.ste_model.specs.declared.verdict.Verdict.TheVariants.{Budget}
use Rattle.ste_model.specs.Need.{ReadBelow}
use Rattle.ste_model.specs.declared.task.Tasks.{Tasks}
use Rattle.exact_model.specs.Choices.{exact_width}
use Rattle.exact_engine.specs.Check.{IsExactlyKept}
use Rattle.ste_engine.specs.Engine.{IsKept}
use Rattle.gste_engine.specs.Engine.{IsGraphKept}
use Rattle.gste_engine.specs.Tables.{AreConsequentsOver, IsGraphOver}
use Rattle.work_pool.specs.declared.mode.Mode.{Mode}
use Rattle.work_pool.specs.declared.mode.Mode.TheVariants.{Sets, Exact}
use Rattle.work_pool.specs.Told.{Agree, IsToldOf, budgets}

-- the nodes of the kept functions of an assertion over so many variables have references
abbrev pub IsAssertionKept : Mode → RawNet → ℕ → Assertion → Store → Type 0
IsAssertionKept Sets net vars task t = IsKept net task t
IsAssertionKept Exact net vars task t = IsExactlyKept net vars task t

-- the nodes of the kept functions of a task over so many variables have references
abbrev pub IsTaskKept : Mode → RawNet → ℕ → Task → Store → Type 0
IsTaskKept mode net vars (Ste task) t = IsAssertionKept mode net vars task t
IsTaskKept mode net vars (Gste graph) t = IsGraphKept net graph t

-- a task speaks of nets of the net, in its weakenings too, and of variables below this number, and
-- a graph is sound
abbrev pub IsTaskOver : RawNet → ℕ → Task → Type 0
IsTaskOver net vars (Ste task) =
    All (λ quint. quint.node.0 < net.nets) task.ant ×
    All (λ quint. quint.node.0 < net.nets) task.con
    × ReadBelow vars task.ant × ReadBelow vars task.con
    × All (λ weakening. weakening.node.0 < net.nets) task.weak
IsTaskOver net vars (Gste graph) = IsGraphOver net vars graph × AreConsequentsOver net vars graph

-- What the check of tasks over so many variables gives, where t is the store in which all that they
-- made is united: for each task, in order, what may be reported for it; as many nodes made as the
-- steps of those that say budget; and the kept functions of the others.
pub record IsPooled (mode : Mode) (net : RawNet) (vars steps cubes : ℕ) (tasks : List Task)
    (reports : List Report) (t : Store) : Type 0 where
  pub told : AllZip (IsToldOf mode net vars steps cubes) tasks reports
  pub used : budgets reports * steps ≤ length t.made
  pub limit : t.limit ≡ length tasks * steps
  pub kept : (i : ℕ) (task : Task) (report : Report) → slice_get tasks i ≡ Some task →
      slice_get reports i ≡ Some report →
      report.verdict ≢ Budget → IsTaskKept mode net vars task t

-- How many variables the table has over which tasks are checked: those of the file; in exact mode
-- as many as the task that takes most.
abbrev pub table_width : Mode → RawNet → Tasks → ℕ
table_width Sets net tasks = length tasks.vars
table_width Exact net tasks = exact_width net tasks

-- these are the tasks of these numbers, in the order of the numbers
abbrev pub AreTasksOf : List Task → List ℕ → List Task → Type 0
AreTasksOf tasks numbers some =
    AllZip (λ number task. slice_get tasks number ≡ Some task) numbers some

-- How many nodes tasks made that were checked one after another with so many steps each: each of
-- them no more than its steps, and just as many where its report says budget; together this number.
pub record AreMadeWithin (steps : ℕ) (reports : List Report) (made : ℕ) : Type 0 where
  pub counts : List ℕ
  pub each : AllZip (λ report count. (count ≤ steps) × (report.verdict ≡ Budget → count ≡ steps))
      reports counts
  pub all : sum counts ≡ made

-- what may be reported for the task of this number
abbrev pub IsToldOfNumber : Mode → RawNet → ℕ → ℕ → ℕ → List Task → ℕ → Report → Type 0
IsToldOfNumber mode net vars steps cubes tasks number report =
    (task : Task) → slice_get tasks number ≡ Some task →
    IsToldOf mode net vars steps cubes task report

-- Law: two checks of the same tasks in the same mode, over the same variables and with the same
-- number of cubes, whatever the steps and the schedules, agree on each task.
abbrev pub PoolsAgree : Type 0
PoolsAgree =
    (mode : Mode) (net : RawNet) → IsInRange net → IsSettled net →
    (mode ≡ Exact → HasOneDriver net) → (vars steps others cubes : ℕ) (tasks : List Task)
    (reports twins : List Report) (s t : Store) →
    IsPooled mode net vars steps cubes tasks reports s →
    IsPooled mode net vars others cubes tasks twins t → AllZip Agree reports twins
