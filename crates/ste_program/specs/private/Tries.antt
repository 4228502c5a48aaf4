-- For private functions. With how many node steps tasks are tried, which are tried again, and where
-- their new reports go.
use Rattle.std.specs.Prelude.{◌/◌, ◌*◌, ℕ, Bool, true, false, if◌then◌else◌, min, max, nat_lt, List, [], ◌∷◌, filter, length, set, Option, Some, None, slice_get}
use Rattle.std.specs.List.{range_with_len}
use Rattle.ste_model.specs.declared.report.Report.{Report}
use Rattle.ste_model.specs.declared.verdict.Verdict.{Verdict}
use Rattle.ste_model.specs.declared.verdict.Verdict.TheVariants.{Budget}

-- the verdict is budget
abbrev pub is_budget : Verdict → Bool
is_budget Budget = true
is_budget other = false

-- the most node steps of a task over so many variables that are tried first
abbrev pub most_first_steps : ℕ → ℕ
most_first_steps vars = if nat_lt vars 9 then 4096 else 2097152

-- the node steps of each of so many tasks over so many nets and variables that are tried first,
-- where so many are granted
abbrev pub first_steps : ℕ → ℕ → ℕ → ℕ → ℕ
first_steps nets tasks vars steps =
    min (max (min (min (max (12 * nets) 20480) (2097152 / tasks)) (most_first_steps vars)) 1024)
    steps

-- the node steps of a task that are tried behind so many, where so many are granted
abbrev pub next_steps : ℕ → ℕ → ℕ
next_steps tried steps = min (12 * tried) steps

-- there is a report, and it says budget
abbrev pub is_budget_report : Option Report → Bool
is_budget_report None = false
is_budget_report (Some report) = is_budget report.verdict

-- the report of this number says budget
abbrev pub says_budget : List Report → ℕ → Bool
says_budget reports number = is_budget_report (slice_get reports number)

-- the numbers of the reports that say budget, in order
abbrev pub budget_numbers : List Report → List ℕ
budget_numbers reports = filter (says_budget reports) (range_with_len 0 (length reports))

-- the reports with new ones in the places of these numbers
abbrev pub with_replaced : List Report → List ℕ → List Report → List Report
with_replaced reports [] again = reports
with_replaced reports (number ∷ numbers) [] = reports
with_replaced reports (number ∷ numbers) (report ∷ again) =
    with_replaced (set reports number report) numbers again
