-- Stores are dealt, and what their jobs leave is gathered.
use Rattle.std.proofs.Common.{◌≡◌, ◌<◌, ◌≤◌, ◌+◌, ◌-◌, ◌*◌, ℕ, zero, suc, List, [], ◌∷◌, ◌++◌, length, length-append, map, append_assoc, append-nil, get_or, take, Some, slice_get, Result, Ok, refl, sym, ◌∙◌, ap, subst, ⊎_elim, arith}
use Rattle.std.specs.Prelude.{◌≢◌, All}
use Rattle.std.specs.List.{AllZip}
use Rattle.std.specs.List.Sorted.{IsNonDecreasingBy, IsPermutation}
use Rattle.std.proofs.lemmas.Bool.{cases_lt}
use Rattle.std.proofs.lemmas.List.{get_or-map, get_or_push, length-map}
use Rattle.std.proofs.Math.ListN.{get_or-append}
use Rattle.std.proofs.lemmas.List.Sorted.{All-permutation, IsPermutation-map, IsPermutation-trans, length_permutation}
use Rattle.std.proofs.Math.Seq.{take-append_seam}
use Rattle.std.specs.declared.alloc.AllocError.{AllocError}
use Rattle.dd_nodes.specs.Stores.{Store, Keeps, Unites, gives_up}
use Rattle.dd_nodes.proofs.Stores.{IsGood}
use Rattle.net_core.specs.declared.raw.RawNet.{RawNet}
use Rattle.ste_model.specs.declared.report.Report.{Report}
use Rattle.ste_model.specs.declared.task.Task.{Task}
use Rattle.ste_model.specs.declared.verdict.Verdict.{Verdict}
use Rattle.ste_model.specs.declared.verdict.Verdict.TheVariants.{Pass, Weak, Strong, Vacuous, Budget}
use Rattle.gste_engine.proofs.Lists.{zip_push, zip_weaker}
use Rattle.work_pool.specs.declared.mode.Mode.{Mode}
use Rattle.work_pool.specs.Pool.{IsPooled, IsTaskKept}
use Rattle.work_pool.specs.Told.{IsToldOf, budgets, counts_budget}
use Rattle.work_pool.specs.private.Jobs.{AreJobs, IsDone, IsGathered, IsGathering, IsReady, tasks_at}
use Rattle.work_pool.proofs.Ranks.{ranks}
use Rattle.work_pool.proofs.Done.{done_of, kept_on}

pub nothing_given : (s : Store) (k : ℕ) → s ≡ gives_up (0 * k) s
nothing_given s k = ap (λ (n : ℕ). record s { limit = n }) (let e : s.limit ≡ s.limit - 0 * k = omega arith in e)

pub more_given : (s t u : Store) (n k : ℕ) → t ≡ gives_up (n * k) s → u ≡ gives_up k t → u ≡ gives_up ((n + 1) * k) s
more_given s t u n k a b = b ∙ ap (gives_up k) a ∙ ap (λ (m : ℕ). record s { limit = m }) (let e : s.limit - n * k - k ≡ s.limit - (n + 1) * k = omega arith in e)

-- what is said of the elements place by place
pub zip_of : {X Y : Type 0} (R : X → Y → Type 0) (xs : List X) (ys : List Y) → length xs ≡ length ys → ((i : ℕ) (x : X) (y : Y) → i < length xs → R (get_or xs i x) (get_or ys i y)) → AllZip R xs ys
zip_of R [] [] long each = tt
zip_of R [] (y ∷ ys) long each = absurd (omega arith)
zip_of R (x ∷ xs) [] long each = absurd (omega arith)
zip_of R (x ∷ xs) (y ∷ ys) long each = (each 0 x y (omega arith), zip_of R xs ys (omega arith) (λ i a b l. each (suc i) a b (omega arith)))

-- what is said of the elements of two lists, of those at one place
pub zip_at : {X Y : Type 0} (R : X → Y → Type 0) (xs : List X) (ys : List Y) (i : ℕ) (x : X) (y : Y) → AllZip R xs ys → slice_get xs i ≡ Some x → slice_get ys i ≡ Some y → R x y
zip_at R [] ys i x y all a b = absurd (cc a)
zip_at R (c ∷ xs) [] i x y all a b = absurd all
zip_at R (c ∷ xs) (d ∷ ys) zero x y all a b = let e : c ≡ x = cc a in let f : d ≡ y = cc b in subst (λ z. R z y) e (subst (R c) f all.0)
zip_at R (c ∷ xs) (d ∷ ys) (suc i) x y all a b = zip_at R xs ys i x y all.1 a b

-- what is said of each element of a list, where one more is put behind
pub all_more : {X : Type 0} (P : X → Type 0) (xs ys : List X) (x : X) → ys ≡ xs ++ x ∷ [] → All P xs → P x → All P ys
all_more P xs ys x is all one = subst (All P) (sym is) (λ k d lt. ⊎_elim
    (λ (old : k < length xs). subst P (sym (get_or-append xs (x ∷ []) d k old)) (all k d old))
    (λ (last : length xs ≤ k). subst P (sym (get_or_push xs x d k (let l = length-append xs (x ∷ []) in omega (arith, last, lt, l)))) one)
    (cases_lt k (length xs)))

-- the elements have the numbers of their places, where one more is put behind
pub numbered_more : {X : Type 0} (place : X → ℕ) (xs ys : List X) (x : X) (n : ℕ) → ys ≡ xs ++ x ∷ [] → length xs ≡ n → place x ≡ n
    → ((i : ℕ) (d : X) → i < n → place (get_or xs i d) ≡ i) → (i : ℕ) (d : X) → i < n + 1 → place (get_or ys i d) ≡ i
numbered_more place xs ys x n is long one each i d lt = subst (λ zs. place (get_or zs i d) ≡ i) (sym is) (⊎_elim
    (λ (old : i < length xs). ap place (get_or-append xs (x ∷ []) d i old) ∙ each i d (omega (arith, old, long)))
    (λ (last : length xs ≤ i). ap place (get_or_push xs x d i (omega (arith, last, lt, long))) ∙ one ∙ (let e : n ≡ i = omega (arith, last, lt, long) in e))
    (cases_lt i (length xs)))

-- what is the same place by place
map_alike : {X Y : Type 0} (f : X → Y) (xs ys : List X) → length xs ≡ length ys → ((i : ℕ) (x : X) → i < length xs → f (get_or xs i x) ≡ f (get_or ys i x)) → map f xs ≡ map f ys
map_alike f [] [] long each = refl
map_alike f [] (y ∷ ys) long each = absurd (omega (arith, long))
map_alike f (x ∷ xs) [] long each = absurd (omega (arith, long))
map_alike f (x ∷ xs) (y ∷ ys) long each =
    ap (λ more. f x ∷ more) (map_alike f xs ys (omega (arith, long)) (λ i z l. each (suc i) z (omega (arith, l)))) ∙ ap (λ first. first ∷ map f ys) (each 0 x (omega arith))

-- a list that was written through a slice of the whole
pub written : {X : Type 0} (n : ℕ) (xs ys : List X) → n ≡ length xs → take n (xs ++ ys) ≡ xs
written n xs ys e = ap (λ (m : ℕ). take m (xs ++ ys)) e ∙ take-append_seam xs ys

budgets_push : (reports : List Report) (report : Report) → budgets (reports ++ report ∷ []) ≡ budgets reports + counts_budget report.verdict
budgets_push [] report = omega arith
budgets_push (x ∷ reports) report = let more = budgets_push reports report in omega arith

spent_at : (verdict : Verdict) (steps n : ℕ) → (verdict ≡ Budget → n ≡ steps) → counts_budget verdict * steps ≤ n
spent_at Pass steps n full = omega arith
spent_at Weak steps n full = omega arith
spent_at Strong steps n full = omega arith
spent_at Vacuous steps n full = omega arith
spent_at Budget steps n full = let e = full refl in omega arith

-- the store of one job more is merged
gathers : (mode : Mode) (net : RawNet) (vars steps cubes : ℕ) (start s o t : Store) (tasks : List Task) (reports : List Report) (task : Task) (report : Report) → IsGood s → IsGood o → IsGood t
    → IsGathered mode net vars steps cubes start s tasks reports → IsDone mode net vars steps cubes task start o (Ok report) → Unites s o t → IsGathered mode net vars steps cubes start t (tasks ++ task ∷ []) (reports ++ report ∷ [])
gathers mode net vars steps cubes start s o t tasks reports task report gs go gt g done u =
    let same : t.vars ≡ o.vars = u.vars ∙ g.vars ∙ sym done.vars in
    let left : Keeps s t = record { grows = u.left; vars = u.vars; table = u.table } in
    let right : Keeps o t = record { grows = u.right; vars = same; table = u.table ∙ g.table ∙ sym done.table } in
    record {
      told = zip_push (IsToldOf mode net vars steps cubes) tasks reports task report g.told done.told;
      used =
          let a = g.used in let b = spent_at report.verdict steps (length o.made) done.full in let m = ap length u.made in let p = length-append s.made o.made in
          subst (λ (n : ℕ). n * steps ≤ length t.made) (sym (budgets_push reports report)) (omega arith);
      limit = let a = u.limit in let b = g.limit in let c = done.limit in subst (λ (n : ℕ). t.limit ≡ n * steps) (sym (length-append tasks (task ∷ []))) (omega arith);
      kept = zip_push (λ (x : Task) (r : Report). r.verdict ≢ Budget → IsTaskKept mode net vars x t) tasks reports task report
          (zip_weaker (λ (x : Task) (r : Report). r.verdict ≢ Budget → IsTaskKept mode net vars x s) (λ (x : Task) (r : Report). r.verdict ≢ Budget → IsTaskKept mode net vars x t) tasks reports (λ x r h other. kept_on mode net vars x s t gs gt left (h other)) g.kept)
          (λ other. kept_on mode net vars task o t go gt right (done.kept other));
      vars = u.vars ∙ g.vars;
      table = u.table ∙ g.table;
    }

-- the first element of a list that has one
pub first_of : {X : Type 0} (xs : List X) → 0 < length xs → X
first_of [] some = absurd (omega arith)
first_of (x ∷ xs) some = x

module _ {X : Type 0} (store : X → Store) (outcome : X → Result Report AllocError) (mode : Mode) (net : RawNet) (vars steps cubes : ℕ) (start : Store) where
  -- what a job leaves of a task
  abbrev pub Leaves : Task → X → Type 0
  Leaves task job = IsDone mode net vars steps cubes task start (store job) (outcome job)

  module _ (place : X → ℕ) (whole : Store) (tasks : List Task) (numbers : List ℕ) (inside : All (λ number. number < length tasks) numbers) (dealt turned : List X) (ready : All (λ job. IsReady steps whole (store job)) dealt)
      (long : length dealt ≡ length numbers) (numbered : (i : ℕ) (job : X) → i < length numbers → place (get_or dealt i job) ≡ i) (moved : IsPermutation dealt turned) where
    -- what is asked of the jobs before their work, however they were moved
    all_within : All (λ job. place job < length numbers) turned
    all_within = All-permutation (λ job. place job < length numbers) dealt turned moved (λ i job lt. let e = numbered i job (omega (arith, lt, long)) in omega (arith, e, lt, long))

    all_made : All (λ job. (store job).made ≡ []) turned
    all_made = All-permutation (λ job. (store job).made ≡ []) dealt turned moved (λ i job lt. (ready i job lt).made)

    one_table : (i k : ℕ) (job : X) → i < length turned → k < length turned → (store (get_or turned i job)).table ≡ (store (get_or turned k job)).table
    one_table i k job lt lt' =
        let all = All-permutation (λ job. (store job).table ≡ whole.table) dealt turned moved (λ i job lt. (ready i job lt).table) in
        all i job lt ∙ sym (all k job lt')

    one_width : All (λ job. (store job).vars ≡ whole.vars) turned
    one_width = All-permutation (λ job. (store job).vars ≡ whole.vars) dealt turned moved (λ i job lt. (ready i job lt).vars)

    pub all_jobs : (width : ℕ) → whole.vars ≡ width → AreJobs store place (length numbers) width turned
    all_jobs width is = subst (λ v. AreJobs store place (length numbers) v turned) is (record { within = all_within; made = all_made; vars = one_width; table = one_table })

    -- the jobs that were dealt are done, are in order again, and their stores are on one table
    pub all_done : (given : ℕ) (old new jobs last : List X) → start ≡ gives_up given whole → old ≡ turned → length new ≡ length old → jobs ≡ new → ((i : ℕ) (job : X) → i < length old → place (get_or new i job) ≡ place (get_or old i job))
        → ((i : ℕ) (task : Task) (job : X) → i < length old → IsDone mode net vars (store (get_or old i job)).limit cubes (get_or tasks (get_or numbers (place (get_or old i job)) 0) task) (store (get_or old i job)) (store (get_or new i job)) (outcome (get_or new i job)))
        → IsPermutation jobs last → IsNonDecreasingBy place last
        → ((task : Task) → AllZip Leaves (tasks_at tasks numbers task) last) × All (λ job. (store job).table ≡ start.table) last
    all_done given old new jobs last left is longer back same done moved_back rises = (
      λ task. zip_of Leaves (tasks_at tasks numbers task) last (length-map numbers (λ number. get_or tasks number task) ∙ sym many) (λ i t job lt.
          let at : i < length numbers = let m = length-map numbers (λ number. get_or tasks number task) in omega (arith, lt, m) in
          subst (λ (x : Task). IsDone mode net vars steps cubes x start (store (get_or last i job)) (outcome (get_or last i job)))
          (ap (λ k. get_or tasks (get_or numbers k 0) task) (in_order i job (omega (arith, at, many))) ∙ sym (get_or-map (λ number. get_or tasks number task) numbers i 0 t at))
          (at_last i job (omega (arith, at, many)) task)),
      λ i job lt. let some = inside i 0 (omega (arith, lt, many)) in (at_last i job lt (first_of tasks (omega (arith, some)))).table,
    )
      where
        back_moved : IsPermutation new last
        back_moved = subst (λ (js : List X). IsPermutation js last) back moved_back

        turned_moved : IsPermutation dealt old
        turned_moved = subst (IsPermutation dealt) (sym is) moved

        many : length last ≡ length numbers
        many = length_permutation new last back_moved ∙ longer ∙ length_permutation dealt old turned_moved ∙ long

        ready_at : All (λ job. IsReady steps start (store job)) old
        ready_at = All-permutation (λ job. IsReady steps start (store job)) dealt old turned_moved (λ i job lt. let r = ready i job lt in
            record { made = r.made; limit = r.limit; vars = r.vars ∙ sym (ap (λ (s : Store). s.vars) left); table = r.table ∙ sym (ap (λ (s : Store). s.table) left) })

        at_new : All (λ job. (task : Task) → IsDone mode net vars steps cubes (get_or tasks (get_or numbers (place job) 0) task) start (store job) (outcome job)) new
        at_new i job lt task =
            let inside : i < length old = omega (arith, lt, longer) in
            subst (λ k. IsDone mode net vars steps cubes (get_or tasks (get_or numbers k 0) task) start (store (get_or new i job)) (outcome (get_or new i job))) (sym (same i job inside))
            (done_of mode net vars steps cubes (get_or tasks (get_or numbers (place (get_or old i job)) 0) task) start (store (get_or old i job)) (store (get_or new i job)) (outcome (get_or new i job)) (ready_at i job inside) (done i task job inside))

        at_last : All (λ job. (task : Task) → IsDone mode net vars steps cubes (get_or tasks (get_or numbers (place job) 0) task) start (store job) (outcome job)) last
        at_last = All-permutation (λ job. (task : Task) → IsDone mode net vars steps cubes (get_or tasks (get_or numbers (place job) 0) task) start (store job) (outcome job)) new last back_moved at_new

        places_moved : IsPermutation (map place dealt) (map place last)
        places_moved = IsPermutation-trans (map place dealt) (map place old) (map place last) (IsPermutation-map place dealt old turned_moved)
            (subst (λ ps. IsPermutation ps (map place last)) (map_alike place new old longer (λ i job lt. same i job (omega (arith, lt, longer)))) (IsPermutation-map place new last back_moved))

        in_order : (i : ℕ) (job : X) → i < length last → place (get_or last i job) ≡ i
        in_order i job lt = sym (get_or-map place last i job 0 lt) ∙ ranks (map place dealt) (map place last)
            (λ k d l. let m = length-map dealt place in get_or-map place dealt k job d (omega (arith, l, m)) ∙ numbered k job (omega (arith, l, m, long)))
            places_moved
            (λ j k d le l.
            let m = length-map last place in
            let a = get_or-map place last j job d (omega (arith, le, l, m)) in let b = get_or-map place last k job d (omega (arith, l, m)) in
            let r = rises j k job le (omega (arith, l, m)) in omega (arith, a, b, r))
            i 0 (let m = length-map last place in omega (arith, lt, m))

  -- before any store is merged
  pub begins : (tasks : List Task) (jobs left : List X) (reports : List Report) → start.made ≡ [] → start.limit ≡ 0 → reports ≡ [] → left ≡ jobs → AllZip Leaves tasks jobs → IsGathering X Leaves mode net vars steps cubes start start tasks reports left
  begins tasks jobs left reports made limit none is zip = record {
    before = [];
    behind = tasks;
    all = refl;
    done = subst (AllZip Leaves tasks) (sym is) zip;
    gathered = subst (IsGathered mode net vars steps cubes start start []) (sym none) record {
      told = tt;
      used = omega arith;
      limit = let l = limit in omega arith;
      kept = tt;
      vars = refl;
      table = refl;
    };
  }

  -- the job that comes next is merged, and its report is put behind the others
  pub goes_on : (s t : Store) (tasks : List Task) (reports more : List Report) (job : X) (jobs left : List X) (report : Report) → IsGood s → IsGood (store job) → IsGood t → outcome job ≡ Ok report → Unites s (store job) t
      → left ≡ job ∷ jobs → more ≡ reports ++ report ∷ [] → IsGathering X Leaves mode net vars steps cubes start s tasks reports left → IsGathering X Leaves mode net vars steps cubes start t tasks more jobs
  goes_on s t tasks reports more job jobs left report gs gj gt is u next pushed g =
      subst (λ r. IsGathering X Leaves mode net vars steps cubes start t tasks r jobs) (sym pushed) (by g.before g.behind g.all (subst (AllZip Leaves g.behind) next g.done) g.gathered)
    where
      by : (before behind : List Task) → tasks ≡ before ++ behind → AllZip Leaves behind (job ∷ jobs) → IsGathered mode net vars steps cubes start s before reports → IsGathering X Leaves mode net vars steps cubes start t tasks (reports ++ report ∷ []) jobs
      by before [] all zip old = absurd zip
      by before (task ∷ behind) all zip old = record {
        before = before ++ task ∷ [];
        behind = behind;
        all = all ∙ sym (append_assoc before (task ∷ []) behind);
        done = zip.1;
        gathered = gathers mode net vars steps cubes start s (store job) t before reports task report gs gj gt old (subst (λ (o : Result Report AllocError). IsDone mode net vars steps cubes task start (store job) o) is zip.0) u;
      }

  -- all stores are merged
  pub ends : (t : Store) (tasks : List Task) (reports : List Report) (left : List X) → length left ≡ 0 → IsGathering X Leaves mode net vars steps cubes start t tasks reports left → IsPooled mode net vars steps cubes tasks reports t
  ends t tasks reports (job ∷ left) none g = absurd (let e : suc (length left) ≡ 0 = none in omega arith)
  ends t tasks reports [] none g = by g.before g.behind g.all g.done g.gathered
    where
      pooled : IsGathered mode net vars steps cubes start t tasks reports → IsPooled mode net vars steps cubes tasks reports t
      pooled h = record {
        told = h.told;
        used = h.used;
        limit = h.limit;
        kept = λ i task report a b other. zip_at (λ (x : Task) (r : Report). r.verdict ≢ Budget → IsTaskKept mode net vars x t) tasks reports i task report h.kept a b other;
      }

      by : (before behind : List Task) → tasks ≡ before ++ behind → AllZip Leaves behind [] → IsGathered mode net vars steps cubes start t before reports → IsPooled mode net vars steps cubes tasks reports t
      by before [] all zip h = pooled (subst (λ (ts : List Task). IsGathered mode net vars steps cubes start t ts reports) (sym (all ∙ append-nil before)) h)
      by before (task ∷ behind) all zip h = absurd zip
