-- The tasks of some numbers, and of all.
use Rattle.std.proofs.Common.{◌≡◌, ◌∙◌, ◌<◌, ◌≤◌, ◌+◌, ℕ, zero, suc, List, [], ◌∷◌, ◌++◌, All, length, get_or, map, ap, arith, refl, subst, sym}
use Rattle.std.specs.List.{AllZip, range_with_len}
use Rattle.std.proofs.lemmas.List.{get_or-map, length-map}
use Rattle.std.proofs.lemmas.List.FromFn.{get_or-range_with_len, length-range_with_len}
use Rattle.std.proofs.lemmas.Option.{get_or_from_slice_get}
use Rattle.std.proofs.lemmas.Slice.Zip.{AllZip-long}
use Rattle.dual_rail.proofs.Turns.{zip_at}
use Rattle.net_core.specs.declared.raw.RawNet.{RawNet}
use Rattle.ste_model.specs.declared.report.Report.{Report}
use Rattle.ste_model.specs.declared.task.Task.{Task}
use Rattle.work_pool.specs.declared.mode.Mode.{Mode}
use Rattle.work_pool.specs.Pool.{AreTasksOf, IsToldOfNumber}
use Rattle.work_pool.specs.Told.{IsToldOf}
use Rattle.work_pool.specs.private.Jobs.{tasks_at}
use Rattle.work_pool.proofs.Gathering.{first_of, zip_of}

numbers_more : (a n : ℕ) → range_with_len a (suc n) ≡ range_with_len a n ++ (a + n) ∷ []
numbers_more a zero = ap (λ k. k ∷ []) (let e : a ≡ a + 0 = omega arith in e)
numbers_more a (suc n) = ap (λ xs. a ∷ xs) (numbers_more (a + 1) n) ∙ ap (λ k. a ∷ (range_with_len (a + 1) n ++ k ∷ [])) (let e : a + 1 + n ≡ a + suc n = omega arith in e)

-- one number more
pub next_number : (n : ℕ) → range_with_len 0 (n + 1) ≡ range_with_len 0 n ++ n ∷ []
next_number n = ap (range_with_len 0) (let e : n + 1 ≡ suc n = omega arith in e) ∙ numbers_more 0 n ∙ ap (λ k. range_with_len 0 n ++ k ∷ []) (let e : 0 + n ≡ n = omega arith in e)

-- the numbers of so many tasks are below their number
pub all_inside : (n : ℕ) → All (λ k. k < n) (range_with_len 0 n)
all_inside n i d lt =
    let long = length-range_with_len 0 n in
    let e = get_or-range_with_len 0 n i d (omega (arith, lt, long)) in omega (arith, lt, long, e)

-- the elements of the numbers from a on
from : {X : Type 0} (d : X) (xs : List X) (f : ℕ → X) (a : ℕ) → ((i : ℕ) → i < length xs → f (a + i) ≡ get_or xs i d) → map f (range_with_len a (length xs)) ≡ xs
from d [] f a each = refl
from d (x ∷ xs) f a each =
    ap (λ y. y ∷ map f (range_with_len (a + 1) (length xs))) (ap f (let e : a ≡ a + 0 = omega arith in e) ∙ each 0 (omega arith))
    ∙ ap (λ ys. x ∷ ys) (from d xs f (a + 1) (λ i lt. ap f (let e : a + 1 + i ≡ a + suc i = omega arith in e) ∙ each (suc i) (omega (arith, lt))))

-- the tasks of all numbers are all tasks
pub all_numbers : (tasks : List Task) (task : Task) → tasks_at tasks (range_with_len 0 (length tasks)) task ≡ tasks
all_numbers tasks task = from task tasks (λ number. get_or tasks number task) 0 (λ i lt. ap (λ k. get_or tasks k task) (let e : 0 + i ≡ i = omega arith in e))

-- some task, where there is a number of one
pub first_task : (tasks : List Task) (numbers : List ℕ) → 1 ≤ length numbers → All (λ n. n < length tasks) numbers → Task
first_task tasks numbers some inside = first_of tasks (let lt = inside 0 0 (omega (arith, some)) in omega (arith, lt))

-- the tasks of these numbers are those that stand at them
pub at_numbers : (tasks : List Task) (numbers : List ℕ) (some : List Task) (task : Task) → AreTasksOf tasks numbers some → tasks_at tasks numbers task ≡ some
at_numbers tasks [] [] task are = refl
at_numbers tasks [] (x ∷ some) task are = absurd are
at_numbers tasks (n ∷ numbers) [] task are = absurd are
at_numbers tasks (n ∷ numbers) (x ∷ some) task are =
    ap (λ y. y ∷ tasks_at tasks numbers task) (get_or_from_slice_get tasks n x task are.0) ∙ ap (λ ys. x ∷ ys) (at_numbers tasks numbers some task are.1)

-- the reports of the tasks of these numbers, number by number
pub some_told : (mode : Mode) (net : RawNet) (vars steps cubes : ℕ) (tasks : List Task) (numbers : List ℕ) (reports : List Report) → 1 ≤ length numbers → All (λ n. n < length tasks) numbers
    → ((task : Task) → AllZip (IsToldOf mode net vars steps cubes) (tasks_at tasks numbers task) reports) → AllZip (IsToldOfNumber mode net vars steps cubes tasks) numbers reports
some_told mode net vars steps cubes tasks numbers reports some inside told = zip_of (IsToldOfNumber mode net vars steps cubes tasks) numbers reports long (λ i number report lt. λ task at.
    subst (λ (x : Task). IsToldOf mode net vars steps cubes x (get_or reports i report)) (get_or-map (λ n. get_or tasks n task) numbers i number task lt ∙ get_or_from_slice_get tasks (get_or numbers i number) task task at)
    (zip_at (IsToldOf mode net vars steps cubes) (tasks_at tasks numbers task) reports i task report (told task) (omega (arith, lt, long))))
  where
    first : Task
    first = first_task tasks numbers some inside

    long : length numbers ≡ length reports
    long = sym (AllZip-long (IsToldOf mode net vars steps cubes) (tasks_at tasks numbers first) reports (told first) ∙ length-map numbers (λ n. get_or tasks n first))

-- what is reported of a task, where a mode, a net and numbers are the same
pub told_as : (mode other : Mode) (net next : RawNet) (vars declared steps cubes most : ℕ) (task : Task) (report : Report) → mode ≡ other → net ≡ next → vars ≡ declared → cubes ≡ most → IsToldOf mode net vars steps cubes task report → IsToldOf other next declared steps most task report
told_as mode other net next vars declared steps cubes most task report p q r s told =
    subst (λ (m : Mode). IsToldOf m next declared steps most task report) p (subst (λ (n : RawNet). IsToldOf mode n declared steps most task report) q
    (subst (λ (v : ℕ). IsToldOf mode net v steps most task report) r (subst (λ (c : ℕ). IsToldOf mode net vars steps c task report) s told)))
