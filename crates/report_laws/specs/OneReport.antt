-- Law, and its words. What a report says of each task, and in what two reports on the same texts
-- differ. Source: this project's own choice.
use Rattle.std.specs.Prelude.{◌≡◌, ℕ, Bool, List, [], map, Option, Some, None, zip, ◌++◌, codes}
use Rattle.std.specs.List.{AllZip, flat_map}
use Rattle.command_line.specs.Command.{Action, Command, bench, check, info, sim}
use Rattle.hierarchy.specs.Names.{own_name}
use Rattle.hierarchy.specs.Nets.{nets}
use Rattle.net_gen.specs.Pipeline.{pipeline_net, pipeline_tasks}
use Rattle.ste_model.specs.declared.task.Task.{Task}
use Rattle.ste_model.specs.declared.report.Report.{Report as TaskReport}
use Rattle.ste_io.specs.Outside.{FilesState, StoredFiles}
use Rattle.report_text.specs.Text.{nodes_line, task_text}
use Rattle.work_pool.specs.Told.{Agree}
use Rattle.ste_program.specs.Check.{IsCheck}
use Rattle.ste_program.specs.Info.{count_line}
use Rattle.ste_program.specs.Report.{IsReport, IsWritten}

-- what is reported for a task: its report, and its lines
pub record Told : Type 0 where
  pub report : TaskReport
  pub lines : List ℕ

abbrev pub told_at : List (List ℕ) → List (List ℕ) → Bool → Task × TaskReport → Told
told_at names vars wave at = record { report = at.1; lines = task_text names vars wave at }

-- what is reported for tasks, in order, over nets with these own names and variables with these
-- names, with all nets in a run or not
abbrev pub told_on : List (List ℕ) → List (List ℕ) → Bool → List Task → List TaskReport → List Told
told_on names vars wave tasks reports = map (told_at names vars wave) (zip tasks reports)

-- what a check reports for its tasks
abbrev pub told_in_check : (steps : Option ℕ) (cubes : ℕ) (wave nodes : Bool)
    (net_text task_text : List ℕ) (passes : Bool) (bytes : List ℕ) →
    IsCheck steps cubes wave nodes net_text task_text passes bytes → List Told
told_in_check steps cubes wave nodes net_text task_text passes bytes written =
    told_on (map own_name (nets written.models)) written.tasks.vars wave written.tasks.tasks
    written.report.reports

-- what an action reports for tasks
abbrev pub told_in : (action : Action) (asked : Command) (net_text second_text : List ℕ)
    (passes : Bool) (bytes : List ℕ) → IsWritten action asked net_text second_text passes bytes →
    List Told
told_in (check net tasks) asked net_text second_text passes bytes written =
    told_in_check asked.steps asked.cubes asked.wave asked.nodes net_text second_text passes
    bytes written
told_in (info net) asked net_text second_text passes bytes written = []
told_in (sim net inputs) asked net_text second_text passes bytes written = []
told_in (bench stages) asked net_text second_text passes bytes written =
    told_in_check asked.steps asked.cubes asked.wave asked.nodes (pipeline_net stages)
    (pipeline_tasks stages) passes written.report written.check

-- the number of shared nodes that an action reports, where it does
abbrev pub shared_in : (action : Action) (asked : Command) (net_text second_text : List ℕ)
    (passes : Bool) (bytes : List ℕ) → IsWritten action asked net_text second_text passes bytes →
    Option ℕ
shared_in (check net tasks) asked net_text second_text passes bytes written = written.report.shared
shared_in (info net) asked net_text second_text passes bytes written = None
shared_in (sim net inputs) asked net_text second_text passes bytes written = None
shared_in (bench stages) asked net_text second_text passes bytes written =
    written.check.report.shared

-- what an action writes behind the lines of tasks and the number of shared nodes
abbrev pub end_in : (action : Action) (asked : Command) (net_text second_text : List ℕ)
    (passes : Bool) (bytes : List ℕ) → IsWritten action asked net_text second_text passes bytes →
    List ℕ
end_in (check net tasks) asked net_text second_text passes bytes written = []
end_in (info net) asked net_text second_text passes bytes written = bytes
end_in (sim net inputs) asked net_text second_text passes bytes written = bytes
end_in (bench stages) asked net_text second_text passes bytes written =
    count_line (codes "nets") written.check.net.nets

-- the same of a command's report
abbrev pub told_of : (command : Option Command) (files : FilesState) (passes : Bool)
    (bytes : List ℕ) → IsReport command files passes bytes → List Told
told_of command files passes bytes report =
    told_in report.asked.action report.asked report.net_text report.second_text passes bytes
    report.written

abbrev pub shared_of : (command : Option Command) (files : FilesState) (passes : Bool)
    (bytes : List ℕ) → IsReport command files passes bytes → Option ℕ
shared_of command files passes bytes report =
    shared_in report.asked.action report.asked report.net_text report.second_text passes bytes
    report.written

abbrev pub end_of : (command : Option Command) (files : FilesState) (passes : Bool)
    (bytes : List ℕ) → IsReport command files passes bytes → List ℕ
end_of command files passes bytes report =
    end_in report.asked.action report.asked report.net_text report.second_text passes bytes
    report.written

-- two commands ask for the same, whatever their workers and steps
pub record AskAlike (one other : Command) : Type 0 where
  pub action : one.action ≡ other.action
  pub cubes : one.cubes ≡ other.cubes
  pub wave : one.wave ≡ other.wave
  pub nodes : one.nodes ≡ other.nodes

-- For one task the same is reported twice, or one of both says budget; with the same verdict the
-- lines are the same too.
pub record AgreeOn (one other : Told) : Type 0 where
  pub agree : Agree one.report other.report
  pub lines : one.report.verdict ≡ other.report.verdict → one.lines ≡ other.lines

-- Two reports of the same texts differ in what one of them reports as budget, and in the number of
-- shared nodes, and in nothing else.
pub record AreOne (told twins : List Told) (passes others : Bool) (shared other_shared : Option ℕ)
    (end other_end bytes others_bytes : List ℕ) : Type 0 where
  pub agree : AllZip AgreeOn told twins
  pub passing : map (λ (t : Told). t.report.verdict) told
      ≡ map (λ (t : Told). t.report.verdict) twins → passes ≡ others
  pub ends : end ≡ other_end
  pub lines : bytes ≡ flat_map (λ (t : Told). t.lines) told ++ (nodes_line shared ++ end)
  pub other_lines : others_bytes ≡ flat_map (λ (t : Told). t.lines) twins ++
      (nodes_line other_shared ++ other_end)
  pub same : map (λ (t : Told). t.report.verdict) told
      ≡ map (λ (t : Told). t.report.verdict) twins → shared ≡ other_shared → bytes ≡ others_bytes

-- Law: so are two reports of commands that ask for the same, whatever their workers and steps; and
-- where it is known what the files hold, and they hold the same, the texts are the same.
pub record OneReport : Type 0 where
  pub texts : (command twin : Command) → AskAlike command twin →
      (files twins : FilesState) (store : StoredFiles) →
      files.holds ≡ Some store → twins.holds ≡ Some store →
      (passes others : Bool) (bytes others_bytes : List ℕ)
      (one : IsReport (Some command) files passes bytes)
      (other : IsReport (Some twin) twins others others_bytes) →
      (one.net_text ≡ other.net_text) × (one.second_text ≡ other.second_text)
  pub same : (command twin : Command) → AskAlike command twin → (files twins : FilesState) →
      (passes others : Bool) (bytes others_bytes : List ℕ)
      (one : IsReport (Some command) files passes bytes)
      (other : IsReport (Some twin) twins others others_bytes) →
      one.net_text ≡ other.net_text → one.second_text ≡ other.second_text →
      AreOne (told_of (Some command) files passes bytes one)
      (told_of (Some twin) twins others others_bytes other) passes others
      (shared_of (Some command) files passes bytes one)
      (shared_of (Some twin) twins others others_bytes other)
      (end_of (Some command) files passes bytes one)
      (end_of (Some twin) twins others others_bytes other) bytes others_bytes
