-- How many nodes tasks made that were checked one after another.
use Rattle.std.proofs.Common.{◌≡◌, ◌≤◌, ◌+◌, ◌*◌, ℕ, suc, List, [], ◌∷◌, ◌++◌, length, arith, refl}
use Rattle.std.specs.List.{AllZip, sum}
use Rattle.std.proofs.lemmas.List.Sums.{sum_by-cons, sum_by_push}
use Rattle.std.proofs.Math.Nat.{mul-le-mul_right, suc-mul}
use Rattle.gste_engine.proofs.Lists.{zip_push}
use Rattle.ste_model.specs.declared.report.Report.{Report}
use Rattle.ste_model.specs.declared.verdict.Verdict.{Verdict}
use Rattle.ste_model.specs.declared.verdict.Verdict.TheVariants.{Pass, Weak, Strong, Vacuous, Budget}
use Rattle.work_pool.specs.Pool.{AreMadeWithin}
use Rattle.work_pool.specs.Told.{budgets, counts_budget}

sum_push : (xs : List ℕ) (n : ℕ) → sum (xs ++ n ∷ []) ≡ sum xs + n
sum_push xs n = sum_by_push (λ k. k) xs n

sum_cons : (n : ℕ) (xs : List ℕ) → sum (n ∷ xs) ≡ n + sum xs
sum_cons n xs = sum_by-cons (λ k. k) n xs

-- nothing is made by no task
pub made_by_none : (steps : ℕ) → AreMadeWithin steps [] 0
made_by_none steps = record { counts = []; each = tt; all = refl }

-- one task more
pub made_by_more : (steps : ℕ) (reports : List Report) (made : ℕ) (report : Report) (count : ℕ) → AreMadeWithin steps reports made → count ≤ steps → (report.verdict ≡ Budget → count ≡ steps)
    → AreMadeWithin steps (reports ++ report ∷ []) (made + count)
made_by_more steps reports made report count before few full = record {
  counts = before.counts ++ count ∷ [];
  each = zip_push (λ report count. (count ≤ steps) × (report.verdict ≡ Budget → count ≡ steps)) reports before.counts report count before.each (few, full);
  all = let all = before.all in let more = sum_push before.counts count in omega arith;
}

one_budget : (steps count : ℕ) (verdict : Verdict) → (verdict ≡ Budget → count ≡ steps) → counts_budget verdict * steps ≤ count
one_budget steps count Budget full = let is = full refl in omega (arith, is)
one_budget steps count Pass full = omega arith
one_budget steps count Weak full = omega arith
one_budget steps count Strong full = omega arith
one_budget steps count Vacuous full = omega arith

suc_steps : (n steps : ℕ) → suc n * steps ≡ steps + n * steps
suc_steps n steps = let e = suc-mul n steps in omega (arith, e)

add_mul : (a b steps : ℕ) → (a + b) * steps ≡ a * steps + b * steps
add_mul a b steps = grind arith

bounds_by : (steps : ℕ) (reports : List Report) (counts : List ℕ) → AllZip (λ report count. (count ≤ steps) × (report.verdict ≡ Budget → count ≡ steps)) reports counts
    → (budgets reports * steps ≤ sum counts) × (sum counts ≤ length reports * steps)
bounds_by steps [] [] each = (omega arith, omega arith)
bounds_by steps [] (n ∷ counts) each = absurd each
bounds_by steps (report ∷ reports) [] each = absurd each
bounds_by steps (report ∷ reports) (n ∷ counts) each =
    let (least, most) = bounds_by steps reports counts each.1 in
    let here = one_budget steps n report.verdict each.0.1 in
    let few = each.0.0 in
    let parts : budgets (report ∷ reports) * steps ≡ counts_budget report.verdict * steps + budgets reports * steps = add_mul (counts_budget report.verdict) (budgets reports) steps in
    let long : length (report ∷ reports) * steps ≡ steps + length reports * steps = suc_steps (length reports) steps in
    let all = sum_cons n counts in
    (omega (arith, least, here, parts, all), omega (arith, most, few, long, all))

-- all steps of the tasks that say budget, and no more than all steps of so many tasks
pub made_bounds : (steps : ℕ) (reports : List Report) (made tasks : ℕ) → length reports ≤ tasks → AreMadeWithin steps reports made → (budgets reports * steps ≤ made) × (made ≤ tasks * steps)
made_bounds steps reports made tasks few within =
    let (least, most) = bounds_by steps reports within.counts within.each in
    let all = within.all in
    let more : length reports * steps ≤ tasks * steps = mul-le-mul_right steps few in
    (omega (arith, least, all), omega (arith, most, all, more))
