-- Meaning. What a check writes on the texts of a netlist and of a task file. Source: this project's
-- own choice; that a check may end within a bound of steps is Voss's.
use Rattle.std.specs.Prelude.{◌≡◌, ◌*◌, ◌/◌, ℕ, Bool, true, false, nat_lt, map, min, List, length, Option, Some, None, IfSome, is_some}
use Rattle.std.specs.List.{AllZip, list_all}
use Rattle.blif_syntax.specs.declared.models.Model.{Model}
use Rattle.hierarchy.specs.Names.{own_name}
use Rattle.hierarchy.specs.Nets.{nets}
use Rattle.net_core.specs.declared.raw.RawNet.{RawNet}
use Rattle.ste_model.specs.declared.report.Report.{Report}
use Rattle.ste_model.specs.declared.task.Tasks.{Tasks}
use Rattle.ste_model.specs.declared.verdict.Verdict.{Verdict}
use Rattle.ste_model.specs.declared.verdict.Verdict.TheVariants.{Pass}
use Rattle.report_text.specs.Text.{report_text}
use Rattle.work_pool.specs.declared.mode.Mode.TheVariants.{Sets}
use Rattle.work_pool.specs.Told.{IsSharedCount, IsToldOf}
use Rattle.ste_program.specs.Reading.{IsReading}

-- the verdict is pass
abbrev pub is_pass : Verdict → Bool
is_pass Pass = true
is_pass other = false

-- the node steps of each of so many tasks: those that are given, or else the smaller of 1,000,000
-- and the share of 16,000,000
abbrev pub task_steps : Option ℕ → ℕ → ℕ
task_steps (Some steps) tasks = steps
task_steps None tasks = min 1000000 (16000000 / tasks)

-- A report on tasks over a net whose nets have these own names, with so many steps for each: for
-- each task, in order, its report or budget, the number of nodes that they share, where it is asked
-- for, the text of both, and whether each verdict is pass.
pub record IsReportOn (names : List (List ℕ)) (net : RawNet) (steps cubes : ℕ) (wave nodes : Bool)
    (tasks : Tasks) (passes : Bool) (bytes : List ℕ) : Type 0 where
  pub reports : List Report
  pub shared : Option ℕ
  pub told : AllZip (IsToldOf Sets net (length tasks.vars) steps cubes) tasks.tasks reports
  pub shown : is_some shared ≡ nodes
  pub counted : IfSome shared (IsSharedCount Sets net (length tasks.vars) (length tasks.vars) steps tasks.tasks reports)
  pub passing : passes ≡ list_all (λ report. is_pass report.verdict) reports
  pub written : bytes ≡ report_text names tasks.vars wave shared tasks.tasks reports

-- the node steps of each task, where they are given, are too many over so many tasks: together more
-- than 16,000,000
abbrev pub are_too_many : Option ℕ → ℕ → Bool
are_too_many None tasks = false
are_too_many (Some steps) tasks = nat_lt 16000000 (steps * tasks)

-- what a check with these steps, so many cubes in a list, all nets in a run or not, and the number
-- of shared nodes or not, writes on two texts, and whether each task passes
pub record IsCheck (steps : Option ℕ) (cubes : ℕ) (wave nodes : Bool) (net_text task_text : List ℕ)
    (passes : Bool) (bytes : List ℕ) : Type 0 where
  pub models : List Model
  pub net : RawNet
  pub tasks : Tasks
  pub reading : IsReading net_text task_text models net tasks
  pub few : are_too_many steps (length reading.raw.tasks) ≡ false
  pub report : IsReportOn (map own_name (nets models)) net (task_steps steps (length tasks.tasks))
      cubes wave nodes tasks passes bytes
