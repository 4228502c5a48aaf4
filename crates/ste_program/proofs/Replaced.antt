-- The reports of tasks, where those whose reports say budget are checked again.
use Rattle.std.proofs.Common.{◌≡◌, ◌≢◌, ◌∙◌, ◌<◌, ◌≤◌, ◌+◌, ◌*◌, ◌||◌, ℕ, suc, Bool, true, false, not, List, [], ◌∷◌, All, Some, length, get_or, slice_get, set, ap, arith, refl, subst, sym, inl, inr, ⊎_elim}
use Rattle.std.specs.Prelude.{◌⊎◌, Contains}
use Rattle.std.specs.List.{AllZip, range_with_len}
use mathlib.Core.Logic.{dite}
use native.Mathlib.Decide.{ℕ_discrete}
use Rattle.std.proofs.Math.Nat.{le-mul_of_pos_right, mul-le-mul_right}
use Rattle.std.proofs.lemmas.Grind.{get_or-set_at}
use Rattle.std.proofs.lemmas.List.{get_or-set_other, length-set}
use Rattle.std.proofs.lemmas.List.Elements.{All-filter, Contains-get_or}
use Rattle.std.proofs.lemmas.List.Filters.{length-filter_both}
use Rattle.std.proofs.lemmas.List.FromFn.{get_or-range_with_len, length-range_with_len}
use Rattle.std.proofs.lemmas.Option.{slice_get-get_or}
use Rattle.std.proofs.lemmas.Slice.Zip.{AllZip-long}
use Rattle.dd_nodes.proofs.Members.{Contains-cons_cases, Contains-filter, Contains-none}
use Rattle.dual_rail.proofs.Turns.{zip_at}
use Rattle.net_core.specs.declared.raw.RawNet.{RawNet}
use Rattle.ste_model.specs.declared.report.Report.{Report}
use Rattle.ste_model.specs.declared.task.Task.{Task}
use Rattle.work_pool.specs.declared.mode.Mode.TheVariants.{Sets}
use Rattle.work_pool.specs.Pool.{IsToldOfNumber}
use Rattle.work_pool.specs.Told.{IsToldOf}
use Rattle.ste_program.specs.private.Tries.{budget_numbers, is_budget, is_budget_report, says_budget, with_replaced}
use Rattle.ste_program.proofs.FewSteps.{one_told, some_budget}
use Rattle.work_pool.proofs.Gathering.{zip_of}
use Rattle.work_pool.proofs.Numbers.{all_inside}

-- the numbers of reports that say budget are numbers of reports
pub budgets_inside : (old : List Report) → All (λ number. number < length old) (budget_numbers old)
budgets_inside old = All-filter (says_budget old) (λ number. number < length old) (range_with_len 0 (length old)) (all_inside (length old))

-- they are no more than the reports
pub budgets_few : (old : List Report) → length (budget_numbers old) ≤ length old
budgets_few old =
    let both = length-filter_both (says_budget old) (λ number. not (says_budget old number)) (λ number. refl) (range_with_len 0 (length old)) in
    let long = length-range_with_len 0 (length old) in omega (arith, both, long)

-- their steps are no more than those of as many tasks as there are reports
pub budgets_steps : (old : List Report) (n steps most : ℕ) → length old ≡ n → n * steps ≤ most → length (budget_numbers old) * steps ≤ most
budgets_steps old n steps most long bound =
    let fewer = budgets_few old in
    let less : length (budget_numbers old) * steps ≤ n * steps = mul-le-mul_right steps (omega (arith, fewer, long)) in omega (arith, less, bound)

-- there are no more tasks than steps
pub few_tasks : (n steps : ℕ) → 1 ≤ steps → n * steps ≤ 16000000 → n ≤ 16000000
few_tasks n steps some bound = let le = le-mul_of_pos_right {m = steps} n some in omega (arith, le, bound)

-- a number below is one of the numbers
counted : (n i : ℕ) → i < n → Contains (range_with_len 0 n) i
counted n i lt = subst (Contains (range_with_len 0 n)) (get_or-range_with_len 0 n i 0 lt ∙ (let e : 0 + i ≡ i = omega arith in e)) (Contains-get_or (range_with_len 0 n) i 0 (let long = length-range_with_len 0 n in omega (arith, lt, long)))

either : (a b : Bool) → (a || b) ≡ true → (a ≡ true) ⊎ (b ≡ true)
either true b e = inl refl
either false b e = inr e

-- where some report says budget, one of some number does
found : (reports : List Report) → some_budget reports ≡ true → (i : ℕ) × (i < length reports) × (says_budget reports i ≡ true)
found [] e = absurd (cc e)
found (report ∷ reports) e = ⊎_elim (λ (is : is_budget report.verdict ≡ true). (0, omega arith, is))
    (λ (rest : some_budget reports ≡ true). let (i, lt, is) = found reports rest in (suc i, omega (arith, lt), is))
    (either (is_budget report.verdict) (some_budget reports) e)

-- where some report says budget, there are numbers of such
pub budgets_some : (reports : List Report) → some_budget reports ≡ true → 1 ≤ length (budget_numbers reports)
budgets_some reports e =
    let (i, lt, is) = found reports e in
    let (k, below, same) = Contains-filter (says_budget reports) (range_with_len 0 (length reports)) i (counted (length reports) i lt) is in omega (arith, below)

module _ (net : RawNet) (vars steps cubes : ℕ) (tasks : List Task) where
  -- each of these reports may be reported for its task, or its number is one of these
  abbrev ToldOrLeft : List ℕ → List Report → Type 0
  ToldOrLeft numbers reports = (i : ℕ) (task : Task) (report : Report) → i < length tasks → IsToldOf Sets net vars steps cubes (get_or tasks i task) (get_or reports i report) ⊎ Contains numbers i

  replaced_told : (reports : List Report) (numbers : List ℕ) (again : List Report) → length reports ≡ length tasks → AllZip (IsToldOfNumber Sets net vars steps cubes tasks) numbers again → ToldOrLeft numbers reports
      → AllZip (IsToldOf Sets net vars steps cubes) tasks (with_replaced reports numbers again)
  replaced_told reports [] [] long news left = zip_of (IsToldOf Sets net vars steps cubes) tasks reports (sym long) (λ i task report lt.
      ⊎_elim (λ told. told) (λ none. absurd (Contains-none i none)) (left i task report lt))
  replaced_told reports [] (r ∷ again) long news left = absurd news
  replaced_told reports (n ∷ numbers) [] long news left = absurd news
  replaced_told reports (n ∷ numbers) (r ∷ again) long news left = replaced_told (set reports n r) numbers again (length-set reports n r ∙ long) news.1 (λ i task report lt. dite (ℕ_discrete i n)
      (λ (same : i ≡ n). inl (subst (IsToldOf Sets net vars steps cubes (get_or tasks i task)) (sym (get_or-set_at reports n i r report same (omega (arith, lt, long, same))))
      (news.0 (get_or tasks i task) (subst (λ k. slice_get tasks k ≡ Some (get_or tasks i task)) same (slice_get-get_or tasks i task lt)))))
      (λ (other : i ≢ n). ⊎_elim
      (λ told. inl (subst (IsToldOf Sets net vars steps cubes (get_or tasks i task)) (sym (get_or-set_other reports n i r report other)) told))
      (λ has. inr (⊎_elim (λ (e : n ≡ i). absurd (other (sym e))) (λ rest. rest) (Contains-cons_cases n numbers i has)))
      (left i task report lt)))

  -- a report with few steps stands, but where it says budget
  left_of : (few : ℕ) (old : List Report) → AllZip (IsToldOf Sets net vars few cubes) tasks old → ToldOrLeft (budget_numbers old) old
  left_of few old told i task report lt = by (is_budget (get_or old i report).verdict) refl
    where
      at : i < length old
      at = let long = AllZip-long (IsToldOf Sets net vars few cubes) tasks old told in omega (arith, lt, long)

      by : (test : Bool) → is_budget (get_or old i report).verdict ≡ test → IsToldOf Sets net vars steps cubes (get_or tasks i task) (get_or old i report) ⊎ Contains (budget_numbers old) i
      by true e = inr (Contains-filter (says_budget old) (range_with_len 0 (length old)) i (counted (length old) i at) (ap is_budget_report (slice_get-get_or old i report at) ∙ e))
      by false e = inl (one_told net vars few steps cubes (get_or tasks i task) (get_or old i report) e (zip_at (IsToldOf Sets net vars few cubes) tasks old i task report told at))

  -- the tasks that said budget are checked again
  pub rechecked_reports : (few : ℕ) (old again : List Report) → AllZip (IsToldOf Sets net vars few cubes) tasks old → AllZip (IsToldOfNumber Sets net vars steps cubes tasks) (budget_numbers old) again
      → AllZip (IsToldOf Sets net vars steps cubes) tasks (with_replaced old (budget_numbers old) again)
  rechecked_reports few old again told news = replaced_told old (budget_numbers old) again (AllZip-long (IsToldOf Sets net vars few cubes) tasks old told) news (left_of few old told)
