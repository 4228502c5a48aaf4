-- Meaning, and three laws. What a command writes on what the files hold. Source: this project's own
-- choice.
use Rattle.std.specs.Prelude.{◌≡◌, ◌≤◌, ◌⊎◌, ⊤, ℕ, Bool, true, List, [], length, Option, Some, None, IfSome, IsTrue, slice_get}
use Rattle.std.specs.FinMap.{get}
use Rattle.aig_model.specs.Answer.{spelled_aig}
use Rattle.command_line.specs.Command.{Action, Command, bench, check, info, sim}
use Rattle.net_gen.specs.Pipeline.{pipeline_net, pipeline_tasks}
use Rattle.ste_model.specs.declared.task.Task.{Task}
use Rattle.ste_model.specs.declared.report.Report.{Report as TaskReport}
use Rattle.ste_model.specs.declared.run.Run.{Run}
use Rattle.ste_model.specs.declared.verdict.Verdict.TheVariants.{Pass, Vacuous}
use Rattle.ste_io.specs.Outside.{FilesState, StoredFiles}
use Rattle.ste_program.specs.Bench.{IsBench}
use Rattle.ste_program.specs.Check.{IsCheck}
use Rattle.ste_program.specs.Command.{net_file, second_file}
use Rattle.ste_program.specs.Holds.{BreaksTask, TaskHoldsOf}
use Rattle.ste_program.specs.Info.{IsInfo}
use Rattle.ste_program.specs.LiteralHolds.{BreaksTaskOnLiterals, TaskHoldsOfLiterals}
use Rattle.ste_program.specs.Netlist.{is_aag}
use Rattle.ste_program.specs.Simulated.{IsSimulated}

-- the greatest size of a file, in bytes
abbrev pub greatest : ℕ
greatest = 67108864

-- what is read of a file: the bytes under its name, and nothing where the action has no such file
abbrev pub text_at : Option (List ℕ) → StoredFiles → Option (List ℕ)
text_at None store = Some []
text_at (Some name) store = get store name

-- where it is known what the files hold, this is read of the file
abbrev pub IsRead : Option StoredFiles → Option (List ℕ) → List ℕ → Type 0
IsRead holds file text = IfSome holds (λ store. text_at file store ≡ Some text)

-- What the action of a command writes on two texts, and whether each task passes. `info` has the
-- second for nothing, `bench` both.
abbrev pub IsWritten : Action → Command → List ℕ → List ℕ → Bool → List ℕ → Type 0
IsWritten (check net tasks) asked net_text second_text passes bytes =
    IsCheck asked.steps asked.cubes asked.wave asked.nodes net_text second_text passes bytes
IsWritten (info net) asked net_text second_text passes bytes =
    (passes ≡ true) × IsInfo net_text bytes
IsWritten (sim net inputs) asked net_text second_text passes bytes =
    (passes ≡ true) × IsSimulated net_text second_text bytes
IsWritten (bench stages) asked net_text second_text passes bytes =
    IsBench asked.steps asked.cubes asked.wave asked.nodes stages passes bytes

-- what a command writes, and whether each task passes
pub record IsReport (command : Option Command) (files : FilesState) (passes : Bool)
    (bytes : List ℕ) : Type 0 where
  pub asked : Command
  pub is : command ≡ Some asked
  pub net_text : List ℕ
  pub second_text : List ℕ
  pub net_read : IsRead files.holds (net_file asked.action) net_text
  pub second_read : IsRead files.holds (second_file asked.action) second_text
  pub net_small : length net_text ≤ greatest
  pub second_small : length second_text ≤ greatest
  pub written : IsWritten asked.action asked net_text second_text passes bytes

-- where a check says pass, or contradictory antecedent, of a task, the task holds
abbrev pub CheckHolds : (steps : Option ℕ) (cubes : ℕ) (wave nodes : Bool)
    (net_text task_text : List ℕ) (passes : Bool) (bytes : List ℕ) →
    IsCheck steps cubes wave nodes net_text task_text passes bytes → Type 0
CheckHolds steps cubes wave nodes net_text task_text passes bytes written =
    (place : ℕ) (task : Task) (report : TaskReport) →
    slice_get written.tasks.tasks place ≡ Some task →
    slice_get written.report.reports place ≡ Some report →
    (report.verdict ≡ Pass) ⊎ (report.verdict ≡ Vacuous) →
    TaskHoldsOf written.models (length written.tasks.vars) task

-- the same of what an action writes
abbrev pub PassesHold : (action : Action) (asked : Command) (net_text second_text : List ℕ)
    (passes : Bool) (bytes : List ℕ) → IsWritten action asked net_text second_text passes bytes →
    Type 0
PassesHold (check net tasks) asked net_text second_text passes bytes written =
    CheckHolds asked.steps asked.cubes asked.wave asked.nodes net_text second_text passes
    bytes written
PassesHold (info net) asked net_text second_text passes bytes written = ⊤
PassesHold (sim net inputs) asked net_text second_text passes bytes written = ⊤
PassesHold (bench stages) asked net_text second_text passes bytes written =
    CheckHolds asked.steps asked.cubes asked.wave asked.nodes (pipeline_net stages)
    (pipeline_tasks stages) passes written.report written.check

-- Law: where a report says pass, or contradictory antecedent, of a task, the task holds of the
-- hierarchy as it was written: for every assignment, each two-valued run of its depth that meets
-- the antecedent meets the consequent; of a graph, along every finite path.
abbrev pub ReportedPassHolds : Option Command → FilesState → Type 0
ReportedPassHolds command files =
    (passes : Bool) (bytes : List ℕ) (report : IsReport command files passes bytes) →
    PassesHold report.asked.action report.asked report.net_text report.second_text passes bytes
    report.written

-- where a check shows a run of a task, the run breaks the task under the least assignment that is
-- shown, a graph along the path that is shown
abbrev pub CheckBreaks : (steps : Option ℕ) (cubes : ℕ) (wave nodes : Bool)
    (net_text task_text : List ℕ) (passes : Bool) (bytes : List ℕ) →
    IsCheck steps cubes wave nodes net_text task_text passes bytes → Type 0
CheckBreaks steps cubes wave nodes net_text task_text passes bytes written =
    (place : ℕ) (task : Task) (report : TaskReport) (run : Run) →
    slice_get written.tasks.tasks place ≡ Some task →
    slice_get written.report.reports place ≡ Some report → report.run ≡ Some run →
    (bits : List Bool) × (report.least ≡ Some bits) × (length bits ≡ length written.tasks.vars)
    × BreaksTask written.models task bits report.path run

-- the same of what an action writes
abbrev pub TheyBreak : (action : Action) (asked : Command) (net_text second_text : List ℕ)
    (passes : Bool) (bytes : List ℕ) → IsWritten action asked net_text second_text passes bytes →
    Type 0
TheyBreak (check net tasks) asked net_text second_text passes bytes written =
    CheckBreaks asked.steps asked.cubes asked.wave asked.nodes net_text second_text passes
    bytes written
TheyBreak (info net) asked net_text second_text passes bytes written = ⊤
TheyBreak (sim net inputs) asked net_text second_text passes bytes written = ⊤
TheyBreak (bench stages) asked net_text second_text passes bytes written =
    CheckBreaks asked.steps asked.cubes asked.wave asked.nodes (pipeline_net stages)
    (pipeline_tasks stages) passes written.report written.check

-- Law: each run that a report shows is a run of the hierarchy as it was written, meets the
-- antecedent of its task and breaks the consequent, under the least assignment that is shown; of a
-- graph, along the path that is shown.
abbrev pub RunsBreak : Option Command → FilesState → Type 0
RunsBreak command files =
    (passes : Bool) (bytes : List ℕ) (report : IsReport command files passes bytes) →
    TheyBreak report.asked.action report.asked report.net_text report.second_text passes bytes
    report.written

-- What a check of an AIGER netlist says of the literals: where it says pass, or contradictory
-- antecedent, of a task, the task holds of them; and where it shows a run of a task, the run breaks
-- the task on them.
pub record CheckTellsLiterals (steps : Option ℕ) (cubes : ℕ) (wave nodes : Bool)
    (net_text task_text : List ℕ) (passes : Bool) (bytes : List ℕ)
    (written : IsCheck steps cubes wave nodes net_text task_text passes bytes) : Type 0 where
  pub holds : (place : ℕ) (task : Task) (report : TaskReport) →
      slice_get written.tasks.tasks place ≡ Some task →
      slice_get written.report.reports place ≡ Some report →
      (report.verdict ≡ Pass) ⊎ (report.verdict ≡ Vacuous) →
      TaskHoldsOfLiterals (spelled_aig net_text) (length written.tasks.vars) task
  pub breaks : (place : ℕ) (task : Task) (report : TaskReport) (run : Run) →
      slice_get written.tasks.tasks place ≡ Some task →
      slice_get written.report.reports place ≡ Some report → report.run ≡ Some run →
      (bits : List Bool) × (report.least ≡ Some bits) × (length bits ≡ length written.tasks.vars)
      × BreaksTaskOnLiterals (spelled_aig net_text) task bits report.path run

-- the same of what an action writes; `bench` reads no netlist, and makes no AIGER
abbrev pub TellLiterals : (action : Action) (asked : Command) (net_text second_text : List ℕ)
    (passes : Bool) (bytes : List ℕ) → IsWritten action asked net_text second_text passes bytes →
    Type 0
TellLiterals (check net tasks) asked net_text second_text passes bytes written =
    IsTrue (is_aag net_text) → CheckTellsLiterals asked.steps asked.cubes asked.wave asked.nodes
    net_text second_text passes bytes written
TellLiterals (info net) asked net_text second_text passes bytes written = ⊤
TellLiterals (sim net inputs) asked net_text second_text passes bytes written = ⊤
TellLiterals (bench stages) asked net_text second_text passes bytes written = ⊤

-- Law: of an AIGER netlist what passes holds of the literals as they were written, and each run that
-- a report shows is a run of the literals and breaks its task.
abbrev pub ReportTellsLiterals : Option Command → FilesState → Type 0
ReportTellsLiterals command files =
    (passes : Bool) (bytes : List ℕ) (report : IsReport command files passes bytes) →
    TellLiterals report.asked.action report.asked report.net_text report.second_text passes bytes
    report.written
