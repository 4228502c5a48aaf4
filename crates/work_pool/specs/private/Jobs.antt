-- For private functions. What a job has and leaves, and what has been gathered so far.
use Rattle.std.specs.Prelude.{◌≡◌, ◌≢◌, ◌≤◌, ◌<◌, ◌*◌, ℕ, List, [], ◌++◌, length, get_or, map, All, Result, IfOk}
use Rattle.std.specs.List.{AllZip}
use Rattle.std.specs.declared.alloc.AllocError.{AllocError}
use Rattle.dd_nodes.specs.Stores.{Store}
use Rattle.net_core.specs.declared.raw.RawNet.{RawNet}
use Rattle.ste_model.specs.declared.report.Report.{Report}
use Rattle.ste_model.specs.declared.task.Task.{Task}
use Rattle.ste_model.specs.declared.verdict.Verdict.TheVariants.{Budget}
use Rattle.work_pool.specs.declared.mode.Mode.{Mode}
use Rattle.work_pool.specs.Pool.{IsTaskKept}
use Rattle.work_pool.specs.Told.{IsToldOf, budgets}

-- the tasks of these numbers, in the order of the numbers; each number is that of a task
abbrev pub tasks_at : List Task → List ℕ → Task → List Task
tasks_at tasks numbers task = map (λ number. get_or tasks number task) numbers

-- t is a store on the table of s, has its variables, made nothing, and may make so many nodes
pub record IsReady (steps : ℕ) (s t : Store) : Type 0 where
  pub made : t.made ≡ []
  pub limit : t.limit ≡ steps
  pub vars : t.vars ≡ s.vars
  pub table : t.table ≡ s.table

-- t may stand for s where a task is checked: it made as much, may make as much, and has the
-- variables and the table
pub record IsLike (s t : Store) : Type 0 where
  pub made : t.made ≡ s.made
  pub limit : t.limit ≡ s.limit
  pub vars : t.vars ≡ s.vars
  pub table : t.table ≡ s.table

-- what a job with so many steps, on the table of s, leaves of its store and of its task, which is
-- over so many declared variables
pub record IsDone (mode : Mode) (net : RawNet) (declared steps cubes : ℕ) (task : Task)
    (s t : Store) (outcome : Result Report AllocError) : Type 0 where
  pub limit : t.limit ≡ steps
  pub vars : t.vars ≡ s.vars
  pub table : t.table ≡ s.table
  pub told : IfOk outcome (λ report. IsToldOf mode net declared steps cubes task report)
  pub full : IfOk outcome (λ report. report.verdict ≡ Budget → length t.made ≡ steps)
  pub kept : IfOk outcome (λ report. report.verdict ≢ Budget → IsTaskKept mode net declared task t)

-- jobs that may be done: each has the place of one of so many numbers, and a store of this width
-- that made nothing; all stores are on one table
pub record AreJobs {X : Type 0} (store : X → Store) (place : X → ℕ) (count width : ℕ)
    (jobs : List X) : Type 0 where
  pub within : All (λ job. place job < count) jobs
  pub made : All (λ job. (store job).made ≡ []) jobs
  pub vars : All (λ job. (store job).vars ≡ width) jobs
  pub table : (i k : ℕ) (job : X) → i < length jobs → k < length jobs →
      (store (get_or jobs i job)).table ≡ (store (get_or jobs k job)).table

-- the jobs stay as they are, but the stores of those behind the i-th may get ones like them
pub record HandsOn {X : Type 0} (store : X → Store) (place : X → ℕ)
    (outcome : X → Result Report AllocError) (i : ℕ) (old new : List X) : Type 0 where
  pub long : length new ≡ length old
  pub same : (k : ℕ) (job : X) → k < length old →
      place (get_or new k job) ≡ place (get_or old k job)
  pub outcomes : (k : ℕ) (job : X) → k < length old →
      outcome (get_or new k job) ≡ outcome (get_or old k job)
  pub stores : (k : ℕ) (job : X) → k < length old → k ≤ i →
      store (get_or new k job) ≡ store (get_or old k job)
  pub like : (k : ℕ) (job : X) → k < length old →
      IsLike (store (get_or old k job)) (store (get_or new k job))

-- jobs as they were, and done
pub record AreDone {X : Type 0} (store : X → Store) (place : X → ℕ)
    (outcome : X → Result Report AllocError) (mode : Mode) (net : RawNet) (vars cubes : ℕ)
    (tasks : List Task) (numbers : List ℕ) (old new : List X) : Type 0 where
  pub long : length new ≡ length old
  pub same : (i : ℕ) (job : X) → i < length old →
      place (get_or new i job) ≡ place (get_or old i job)
  pub done : (i : ℕ) (task : Task) (job : X) → i < length old →
      IsDone mode net vars (store (get_or old i job)).limit cubes
      (get_or tasks (get_or numbers (place (get_or old i job)) 0) task)
      (store (get_or old i job)) (store (get_or new i job)) (outcome (get_or new i job))

-- the reports of these tasks, where t is the store that their jobs' stores were merged into, and s
-- the one before them
pub record IsGathered (mode : Mode) (net : RawNet) (declared steps cubes : ℕ) (s t : Store)
    (tasks : List Task) (reports : List Report) : Type 0 where
  pub told : AllZip (IsToldOf mode net declared steps cubes) tasks reports
  pub used : budgets reports * steps ≤ length t.made
  pub limit : t.limit ≡ length tasks * steps
  pub kept : AllZip (λ task report. report.verdict ≢ Budget → IsTaskKept mode net declared task t)
      tasks reports
  pub vars : t.vars ≡ s.vars
  pub table : t.table ≡ s.table

-- The first of these tasks are gathered, and the jobs that are left are those of the others; left
-- says what is left of a task by a job.
pub record IsGathering (X : Type 0) (left : Task → X → Type 0) (mode : Mode) (net : RawNet)
    (declared steps cubes : ℕ) (s t : Store) (tasks : List Task) (reports : List Report)
    (jobs : List X) : Type 0 where
  pub before : List Task
  pub behind : List Task
  pub all : tasks ≡ before ++ behind
  pub done : AllZip left behind jobs
  pub gathered : IsGathered mode net declared steps cubes s t before reports
