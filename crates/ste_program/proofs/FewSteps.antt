-- The reports with few steps, where no task says budget, are those with more steps too.
use Rattle.std.proofs.Common.{◌≡◌, ◌∙◌, ◌*◌, ◌≤◌, ◌||◌, ℕ, Bool, true, false, List, [], ◌∷◌, length, Option, Some, None, ap, arith, refl, subst, sym, inl, inr}
use Rattle.std.proofs.Math.Nat.{mul-le-mul_left}
use Rattle.std.specs.Prelude.{IfSome}
use Rattle.std.specs.List.{AllZip, list_any}
use Rattle.net_core.specs.declared.raw.RawNet.{RawNet}
use Rattle.ste_model.specs.declared.report.Report.{Report}
use Rattle.ste_model.specs.declared.task.Task.{Task}
use Rattle.ste_model.specs.declared.task.Task.TheVariants.{Ste, Gste}
use Rattle.ste_model.specs.declared.verdict.Verdict.{Verdict}
use Rattle.ste_model.specs.declared.verdict.Verdict.TheVariants.{Pass, Weak, Strong, Vacuous, Budget}
use Rattle.work_pool.specs.declared.mode.Mode.TheVariants.{Sets}
use Rattle.work_pool.specs.Told.{IsSharedCount, IsToldOf, budgets, counts_budget}
use Rattle.ste_program.specs.private.Tries.{is_budget}

-- whether some report says budget
abbrev pub some_budget : List Report → Bool
some_budget reports = list_any (λ (report : Report). is_budget report.verdict) reports

neither : (a b : Bool) → (a || b) ≡ false → (a ≡ false) × (b ≡ false)
neither true b e = absurd (cc e)
neither false b e = (refl, e)

pub one_told : (net : RawNet) (vars few steps cubes : ℕ) (task : Task) (report : Report) → is_budget report.verdict ≡ false → IsToldOf Sets net vars few cubes task report → IsToldOf Sets net vars steps cubes task report
one_told net vars few steps cubes (Ste task) report other (inl h) = inl h
one_told net vars few steps cubes (Ste task) report other (inr h) = absurd (cc (sym other ∙ ap (λ (r : Report). is_budget r.verdict) h.0))
one_told net vars few steps cubes (Gste graph) report other (inl h) = inl h
one_told net vars few steps cubes (Gste graph) report other (inr h) = absurd (cc (sym other ∙ ap (λ (r : Report). is_budget r.verdict) h.0))

pub all_told : (net : RawNet) (vars few steps cubes : ℕ) (tasks : List Task) (reports : List Report) → some_budget reports ≡ false → AllZip (IsToldOf Sets net vars few cubes) tasks reports → AllZip (IsToldOf Sets net vars steps cubes) tasks reports
all_told net vars few steps cubes [] [] other told = tt
all_told net vars few steps cubes [] (report ∷ reports) other told = absurd told
all_told net vars few steps cubes (task ∷ tasks) [] other told = absurd told
all_told net vars few steps cubes (task ∷ tasks) (report ∷ reports) other told =
    let (this, rest) = neither (is_budget report.verdict) (some_budget reports) other in
    (one_told net vars few steps cubes task report this told.0, all_told net vars few steps cubes tasks reports rest told.1)

not_counted : (verdict : Verdict) → is_budget verdict ≡ false → counts_budget verdict ≡ 0
not_counted Pass other = refl
not_counted Weak other = refl
not_counted Strong other = refl
not_counted Vacuous other = refl
not_counted Budget other = absurd (cc other)

no_budgets : (reports : List Report) → some_budget reports ≡ false → budgets reports ≡ 0
no_budgets [] other = refl
no_budgets (report ∷ reports) other =
    let (this, rest) = neither (is_budget report.verdict) (some_budget reports) other in
    let first = not_counted report.verdict this in
    let more = no_budgets reports rest in
    omega (arith, first, more)

count_told : (net : RawNet) (vars few steps : ℕ) (tasks : List Task) (reports : List Report) (count : ℕ) → few ≤ steps → some_budget reports ≡ false → IsSharedCount Sets net vars vars few tasks reports count → IsSharedCount Sets net vars vars steps tasks reports count
count_told net vars few steps tasks reports count less other counted = record {
  most = let most = counted.most in below (length tasks) few steps count less most;
  spent = subst (λ (n : ℕ). n * steps ≤ count) (sym (no_budgets reports other)) (omega arith);
  kept = counted.kept;
}
  where
    below : (n few steps count : ℕ) → few ≤ steps → count ≤ n * few → count ≤ n * steps
    below n few steps count less most = let more : n * few ≤ n * steps = mul-le-mul_left n less in omega (arith, more, most)

pub shared_told : (net : RawNet) (vars few steps : ℕ) (tasks : List Task) (reports : List Report) (shared : Option ℕ) → few ≤ steps → some_budget reports ≡ false → IfSome shared (IsSharedCount Sets net vars vars few tasks reports) → IfSome shared (IsSharedCount Sets net vars vars steps tasks reports)
shared_told net vars few steps tasks reports None less other counted = tt
shared_told net vars few steps tasks reports (Some count) less other counted = count_told net vars few steps tasks reports count less other counted
