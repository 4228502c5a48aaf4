-- Meaning. What may be reported for tasks that are checked with so many steps each over one table
-- of nodes, by sets of bits or exactly, and as the number of nodes that they share. Source: this
-- project's own choice; that a check may end within a bound of steps is Voss's.
use Rattle.std.specs.Prelude.{◌≡◌, ◌≢◌, ◌<◌, ◌≤◌, ◌⊎◌, ◌+◌, ◌*◌, ℕ, List, [], ◌∷◌, Contains, length, Some, slice_get}
use Rattle.ste_base.specs.Functions.{Function}
use Rattle.dd_nodes.specs.Functions.{node_count}
use Rattle.net_core.specs.declared.raw.RawNet.{RawNet}
use Rattle.net_core.specs.Work.{SymbolicSet}
use Rattle.exact_model.specs.Choices.{choices}
use Rattle.exact_model.specs.ExactNeed.{IsExactNeed, exact_kept}
use Rattle.exact_model.specs.ExactReport.{IsExactReportOf}
use Rattle.exact_model.specs.ExactWork.{AreExactBits}
use Rattle.exact_model.specs.Wider.{bits_over_more}
use Rattle.ste_model.specs.declared.report.Report.{Report}
use Rattle.ste_model.specs.declared.task.Assertion.{Assertion}
use Rattle.ste_model.specs.declared.task.Edge.{Edge}
use Rattle.ste_model.specs.declared.task.Task.{Task}
use Rattle.ste_model.specs.declared.task.Task.TheVariants.{Ste, Gste}
use Rattle.ste_model.specs.declared.verdict.Verdict.{Verdict}
use Rattle.ste_model.specs.declared.verdict.Verdict.TheVariants.{Budget}
use Rattle.ste_model.specs.GraphNeed.{AreWholeRounds, IsGraphNeed, graph_kept_functions}
use Rattle.ste_model.specs.GraphReport.{IsGraphReportOf}
use Rattle.ste_model.specs.GraphTable.{enough}
use Rattle.ste_model.specs.GraphWork.{SymbolicState}
use Rattle.ste_model.specs.Need.{IsNeed, IsWholeTable, kept_functions}
use Rattle.ste_model.specs.Report.{IsReportOf, budget_report}
use Rattle.work_pool.specs.declared.mode.Mode.{Mode}
use Rattle.work_pool.specs.declared.mode.Mode.TheVariants.{Sets, Exact}

-- how many steps an assertion needs, by sets of bits or on two-valued runs
abbrev pub IsAssertionNeed : Mode → RawNet → ℕ → Assertion → ℕ → Type 0
IsAssertionNeed Sets net vars task need = IsNeed net vars task need
IsAssertionNeed Exact net vars task need = IsExactNeed net vars task need

-- the report of an assertion, by sets of bits or on two-valued runs
abbrev pub IsAssertionReport : Mode → RawNet → ℕ → ℕ → Assertion → Report → Type 0
IsAssertionReport Sets net vars cubes task report = IsReportOf net vars cubes task report
IsAssertionReport Exact net vars cubes task report = IsExactReportOf net vars cubes task report

-- The steps are fewer than the task needs. A graph is checked by sets in both modes.
abbrev pub AreTooFew : Mode → RawNet → ℕ → ℕ → Task → Type 0
AreTooFew mode net vars steps (Ste task) =
    (need : ℕ) → IsAssertionNeed mode net vars task need → steps < need
AreTooFew mode net vars steps (Gste graph) =
    (need : ℕ) → IsGraphNeed net vars graph need → steps < need

-- What may be reported for a task over so many variables, with so many steps and at most so many
-- cubes in a list: its report; or budget, where the steps are too few.
abbrev pub IsToldOf : Mode → RawNet → ℕ → ℕ → ℕ → Task → Report → Type 0
IsToldOf mode net vars steps cubes (Ste task) report =
    IsAssertionReport mode net vars cubes task report ⊎
    ((report ≡ budget_report task.name) × AreTooFew mode net vars steps (Ste task))
IsToldOf mode net vars steps cubes (Gste graph) report =
    IsGraphReportOf net vars cubes graph report ⊎
    ((report ≡ budget_report graph.name) × AreTooFew mode net vars steps (Gste graph))

-- how many of the reports say budget
abbrev pub counts_budget : Verdict → ℕ
counts_budget Budget = 1
counts_budget other = 0

abbrev pub budgets : List Report → ℕ
budgets [] = 0
budgets (report ∷ reports) = counts_budget report.verdict + budgets reports

-- one of the kept functions of an assertion over so many variables, as a function of the so many
-- variables of a table
abbrev pub IsAssertionKeptFunction : Mode → RawNet → ℕ → ℕ → Assertion → Function → Type 0
IsAssertionKeptFunction Sets net vars over task f =
    (table : ℕ → ℕ → SymbolicSet) × IsWholeTable net over task table ×
    Contains (kept_functions net task table) f
IsAssertionKeptFunction Exact net vars over task f =
    (bit : ℕ → ℕ → Function) × AreExactBits net vars task bit ×
    Contains (exact_kept net vars task
    (bits_over_more (vars + length (choices net task)) bit)) f

-- one of the kept functions of a task over so many variables, as a function of the so many
-- variables of a table
abbrev pub IsKeptFunction : Mode → RawNet → ℕ → ℕ → Task → Function → Type 0
IsKeptFunction mode net vars over (Ste task) f =
    IsAssertionKeptFunction mode net vars over task f
IsKeptFunction mode net vars over (Gste graph) f =
    (tables : ℕ → ℕ → SymbolicState) × (sets : ℕ → Edge → ℕ → SymbolicSet) ×
    AreWholeRounds net over graph tables sets
    × Contains (graph_kept_functions net over graph (tables (enough net graph))
    (sets (enough net graph))) f

-- each of these functions is one of the kept functions of a task that does not say budget
abbrev pub AreKeptFunctions : Mode → RawNet → ℕ → ℕ → List Task → List Report → List Function →
    Type 0
AreKeptFunctions mode net vars over tasks reports fs =
    (f : Function) → Contains fs f → (i : ℕ) × (task : Task) × (report : Report) ×
    (slice_get tasks i ≡ Some task)
    × (slice_get reports i ≡ Some report) × (report.verdict ≢ Budget) ×
    IsKeptFunction mode net vars over task f

-- What may be reported as the number of nodes that tasks over so many variables, with so many steps
-- each, made together in a table over so many: at most all steps, at least the steps of the tasks
-- that say budget, and at least the number of nodes of the kept functions of the others.
pub record IsSharedCount (mode : Mode) (net : RawNet) (vars over steps : ℕ) (tasks : List Task)
    (reports : List Report) (count : ℕ) : Type 0 where
  pub most : count ≤ length tasks * steps
  pub spent : budgets reports * steps ≤ count
  pub kept : (fs : List Function) → AreKeptFunctions mode net vars over tasks reports fs →
      node_count over fs ≤ count

-- both reports of a task are the same, or one of them says budget
abbrev pub Agree : Report → Report → Type 0
Agree one other = (one ≡ other) ⊎ ((one.verdict ≡ Budget) ⊎ (other.verdict ≡ Budget))
