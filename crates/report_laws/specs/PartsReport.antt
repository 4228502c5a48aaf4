-- Law, and its words. Reports on the parts of a list of tasks, one behind the other, are a report
-- on all of them. Source: this project's own choice.
use Rattle.std.specs.Prelude.{◌≡◌, ◌++◌, ◌&&◌, ℕ, Bool, false, List}
use Rattle.net_core.specs.declared.raw.RawNet.{RawNet}
use Rattle.ste_model.specs.declared.task.Task.{Task}
use Rattle.ste_model.specs.declared.task.Tasks.{Tasks}
use Rattle.ste_program.specs.Check.{IsReportOn}

-- these tasks, over variables with these names
abbrev pub tasks_over : List (List ℕ) → List Task → Tasks
tasks_over vars tasks = record { vars = vars; tasks = tasks }

-- The bytes are a report on the first tasks and behind it one on the others, over the same net and
-- the same variables, with the same steps for each task; all pass where both parts do.
pub record AreTwoReports (names : List (List ℕ)) (net : RawNet) (steps cubes : ℕ) (wave : Bool)
    (vars : List (List ℕ)) (one other : List Task) (passes : Bool) (bytes : List ℕ) : Type 0 where
  pub first : Bool
  pub second : Bool
  pub front : List ℕ
  pub rest : List ℕ
  pub one_report : IsReportOn names net steps cubes wave false (tasks_over vars one) first front
  pub other_report : IsReportOn names net steps cubes wave false (tasks_over vars other) second rest
  pub passing : passes ≡ (first && second)
  pub bytes_are : bytes ≡ front ++ rest

-- Law: what is a report on some tasks and behind it one on others, without the number of shared
-- nodes, is a report on all of them; and each report on all of them is two such reports. It may say
-- budget of a task where the part does.
pub record PartsReport : Type 0 where
  pub joined : (names : List (List ℕ)) (net : RawNet) (steps cubes : ℕ) (wave : Bool)
      (vars : List (List ℕ)) (one other : List Task) (passes : Bool) (bytes : List ℕ) →
      AreTwoReports names net steps cubes wave vars one other passes bytes →
      IsReportOn names net steps cubes wave false (tasks_over vars (one ++ other)) passes bytes
  pub parted : (names : List (List ℕ)) (net : RawNet) (steps cubes : ℕ) (wave : Bool)
      (vars : List (List ℕ)) (one other : List Task) (passes : Bool) (bytes : List ℕ) →
      IsReportOn names net steps cubes wave false (tasks_over vars (one ++ other)) passes bytes →
      AreTwoReports names net steps cubes wave vars one other passes bytes
