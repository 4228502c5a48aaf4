-- A portion of jobs that are done one after another, as far as the i-th.
use Rattle.std.proofs.Common.{◌≡◌, ◌≢◌, ◌<◌, ◌≤◌, ◌+◌, ◌-◌, ◌++◌, ◌∙◌, ℕ, List, [], length, get_or, set, refl, sym, ap, subst, inl, inr, arith}
use Rattle.std.specs.Prelude.{Result}
use Rattle.std.specs.declared.alloc.AllocError.{AllocError}
use Rattle.std.proofs.lemmas.Bool.Decides.{eqb_tells}
use Rattle.std.proofs.lemmas.Bool.{cases_lt}
use Rattle.std.proofs.lemmas.List.{get_or-append_right, get_or-set_other, get_or-set_same, get_or_append_left, get_or_default, length-append, length-set}
use Rattle.dd_nodes.specs.Stores.{Store}
use Rattle.net_core.specs.declared.raw.RawNet.{RawNet}
use Rattle.ste_model.specs.declared.report.Report.{Report}
use Rattle.ste_model.specs.declared.task.Task.{Task}
use Rattle.work_pool.specs.declared.mode.Mode.{Mode}
use Rattle.work_pool.specs.private.Jobs.{AreDone, AreJobs, HandsOn, IsDone, IsLike}

-- an element of a list in which one was set
pub set_by : {X : Type 0} (P : X → Type 0) (xs : List X) (i k : ℕ) (y d : X) → i < length xs → (k ≡ i → P y) → (k ≢ i → P (get_or xs k d)) → P (get_or (set xs i y) k d)
set_by P xs i k y d lt here there = elim (eqb_tells k i) [
  | inl (_, e) ↦ subst (λ m. P (get_or (set xs i y) m d)) (sym e) (subst P (sym (get_or-set_same xs i y d lt)) (here e))
  | inr (_, ne) ↦ subst P (sym (get_or-set_other xs i k y d ne)) (there ne)
]

-- a part of jobs that may be done
pub AreJobs-part : {X : Type 0} (store : X → Store) (place : X → ℕ) (count width : ℕ) (jobs part : List X) (start : ℕ) → start + length part ≤ length jobs
    → ((k : ℕ) (d : X) → k < length part → get_or part k d ≡ get_or jobs (start + k) d) → AreJobs store place count width jobs → AreJobs store place count width part
AreJobs-part store place count width jobs part start within same all =
    let inside : (k : ℕ) → k < length part → start + k < length jobs = λ k lt. omega (arith, within, lt) in
    record {
      within = λ k d lt. subst (λ x. place x < count) (sym (same k d lt)) (all.within (start + k) d (inside k lt));
      made = λ k d lt. subst (λ x. (store x).made ≡ []) (sym (same k d lt)) (all.made (start + k) d (inside k lt));
      vars = λ k d lt. subst (λ x. (store x).vars ≡ width) (sym (same k d lt)) (all.vars (start + k) d (inside k lt));
      table = λ i k d lt lt'. ap (λ x. (store x).table) (same i d lt) ∙ all.table (start + i) (start + k) d (inside i lt) (inside k lt') ∙ ap (λ x. (store x).table) (sym (same k d lt'));
    }

-- what is done of one job in a part
pub record IsDoneIn {X : Type 0} (store : X → Store) (place : X → ℕ) (outcome : X → Result Report AllocError) (mode : Mode) (net : RawNet) (vars cubes : ℕ) (tasks : List Task) (numbers : List ℕ) (old new : List X) (i : ℕ) (d : X) : Type 0 where
  pub part : List X
  pub after : List X
  pub offset : ℕ
  pub inside : offset < length part
  pub was : get_or part offset d ≡ get_or old i d
  pub done : AreDone store place outcome mode net vars cubes tasks numbers part after
  pub is : get_or after offset d ≡ get_or new i d

pub AreDone-whole : {X : Type 0} (store : X → Store) (place : X → ℕ) (outcome : X → Result Report AllocError) (mode : Mode) (net : RawNet) (vars cubes : ℕ) (tasks : List Task) (numbers : List ℕ) (old new : List X) → length new ≡ length old
    → ((i : ℕ) (d : X) → i < length old → IsDoneIn store place outcome mode net vars cubes tasks numbers old new i d) → AreDone store place outcome mode net vars cubes tasks numbers old new
AreDone-whole store place outcome mode net vars cubes tasks numbers old new long each = record {
  long = long;
  same = λ i d lt. let at = each i d lt in ap place (sym at.is) ∙ at.done.same at.offset d at.inside ∙ ap place at.was;
  done = λ i task d lt.
      let at = each i d lt in
      subst (λ x. IsDone mode net vars (store x).limit cubes (get_or tasks (get_or numbers (place x) 0) task) (store x) (store (get_or new i d)) (outcome (get_or new i d))) at.was
      (subst (λ y. IsDone mode net vars (store (get_or at.part at.offset d)).limit cubes (get_or tasks (get_or numbers (place (get_or at.part at.offset d)) 0) task) (store (get_or at.part at.offset d)) (store y) (outcome y)) at.is
      (at.done.done at.offset task d at.inside));
}

pub IsLike-refl : (s : Store) → IsLike s s
IsLike-refl s = record { made = refl; limit = refl; vars = refl; table = refl }

IsLike-trans : (s t u : Store) → IsLike s t → IsLike t u → IsLike s u
IsLike-trans s t u a b = record { made = b.made ∙ a.made; limit = b.limit ∙ a.limit; vars = b.vars ∙ a.vars; table = b.table ∙ a.table }

-- what a job leaves of a store is what it leaves of one like it
IsDone-like : (mode : Mode) (net : RawNet) (vars cubes : ℕ) (task : Task) (s m t : Store) (outcome : Result Report AllocError) → IsLike s m → IsDone mode net vars m.limit cubes task m t outcome → IsDone mode net vars s.limit cubes task s t outcome
IsDone-like mode net vars cubes task s m t outcome like done =
    let d = subst (λ (n : ℕ). IsDone mode net vars n cubes task m t outcome) like.limit done in
    record { limit = d.limit; vars = d.vars ∙ like.vars; table = d.table ∙ like.table; told = d.told; full = d.full; kept = d.kept }

module _ {X : Type 0} (store : X → Store) (place : X → ℕ) (outcome : X → Result Report AllocError) where
  pub HandsOn-none : (i : ℕ) (jobs : List X) → HandsOn store place outcome i jobs jobs
  HandsOn-none i jobs = record {
    long = refl;
    same = λ k job lt. refl;
    outcomes = λ k job lt. refl;
    stores = λ k job lt le. refl;
    like = λ k job lt. IsLike-refl (store (get_or jobs k job));
  }

  -- two parts, of which the last of the one and the first of the other get other elements
  module _ (i : ℕ) (old front back : List X) (x y r q : X) (is : old ≡ front ++ back) (long : length front ≡ i + 1) (some : 0 < length back) (at_x : r ≡ get_or front i r) (at_y : q ≡ get_or back 0 q) where
    wide : length (set front i x) ≡ i + 1
    wide = length-set front i x ∙ long

    in_front : (P : ℕ → X → X → Type 0) → ((k : ℕ) (z : X) → P k z z) → P i r x → (k : ℕ) (d : X) → k < i + 1 → P k (get_or (front ++ back) k d) (get_or (set front i x ++ set back 0 y) k d)
    in_front P same first k d low =
        subst (λ (z : X). P k z (get_or (set front i x ++ set back 0 y) k d)) (sym (get_or_append_left front back d k (omega (arith, low, long))))
        (subst (λ (z : X). P k (get_or front k d) z) (sym (get_or_append_left (set front i x) (set back 0 y) d k (omega (arith, low, wide))))
        (set_by (λ (z : X). P k (get_or front k d) z) front i k x d (omega (arith, long))
        (λ e. subst (λ (m : ℕ). P m (get_or front m d) x) (sym e) (subst (λ (z : X). P i z x) (at_x ∙ get_or_default front i r d (omega (arith, long))) first)) (λ ne. same k (get_or front k d))))

    in_back : (P : ℕ → X → X → Type 0) → ((k : ℕ) (z : X) → P k z z) → P (i + 1) q y → (k : ℕ) (d : X) → i + 1 ≤ k → P k (get_or (front ++ back) k d) (get_or (set front i x ++ set back 0 y) k d)
    in_back P same second k d high =
        subst (λ (z : X). P k z (get_or (set front i x ++ set back 0 y) k d)) (sym (get_or-append_right front back (i + 1) k d long high))
        (subst (λ (z : X). P k (get_or back (k - (i + 1)) d) z) (sym (get_or-append_right (set front i x) (set back 0 y) (i + 1) k d wide high))
        (set_by (λ (z : X). P k (get_or back (k - (i + 1)) d) z) back 0 (k - (i + 1)) y d some
        (λ e. let at : k ≡ i + 1 = omega (arith, e, high) in
        subst (λ (n : ℕ). P k (get_or back n d) y) (sym e) (subst (λ (m : ℕ). P m (get_or back 0 d) y) (sym at) (subst (λ (z : X). P (i + 1) z y) (at_y ∙ get_or_default back 0 q d some) second)))
        (λ ne. same k (get_or back (k - (i + 1)) d))))

    by_place : (P : ℕ → X → X → Type 0) → ((k : ℕ) (z : X) → P k z z) → P i r x → P (i + 1) q y → (k : ℕ) (d : X) → P k (get_or old k d) (get_or (set front i x ++ set back 0 y) k d)
    by_place P same first second k d = subst (λ (xs : List X). P k (get_or xs k d) (get_or (set front i x ++ set back 0 y) k d)) (sym is) (elim (cases_lt k (i + 1)) [
      | inl low ↦ in_front P same first k d low
      | inr high ↦ in_back P same second k d high
    ])

    pub HandsOn-parts : place x ≡ place r → outcome x ≡ outcome r → store x ≡ store r → place y ≡ place q → outcome y ≡ outcome q → IsLike (store q) (store y)
        → HandsOn store place outcome i old (set front i x ++ set back 0 y)
    HandsOn-parts px ox sx py oy sy = record {
      long = length-append (set front i x) (set back 0 y) ∙ (λ j. length-set front i x j + length-set back 0 y j) ∙ sym (ap length is ∙ length-append front back);
      same = λ k d lt. by_place (λ _ a b. place b ≡ place a) (λ _ z. refl) px py k d;
      outcomes = λ k d lt. by_place (λ _ a b. outcome b ≡ outcome a) (λ _ z. refl) ox oy k d;
      stores = λ k d lt le. by_place (λ m a b. m ≤ i → store b ≡ store a) (λ _ z le. refl) (λ le. sx) (λ le. absurd (omega (arith, le))) k d le;
      like = λ k d lt. by_place (λ _ a b. IsLike (store a) (store b)) (λ _ z. IsLike-refl (store z)) (subst (λ (s : Store). IsLike (store r) s) (sym sx) (IsLike-refl (store r))) sy k d;
    }

    -- of the last of the one part as it was, and of the first of the other one as it is
    pub over_parts : (P : X → X → Type 0) → P r y → (d : X) → P (get_or old i d) (get_or (set front i x ++ set back 0 y) (i + 1) d)
    over_parts P both d =
        subst (λ (xs : List X). P (get_or xs i d) (get_or (set front i x ++ set back 0 y) (i + 1) d)) (sym is)
        (subst (λ (z : X). P z (get_or (set front i x ++ set back 0 y) (i + 1) d)) (sym (get_or_append_left front back d i (omega (arith, long))))
        (subst (λ (z : X). P z (get_or (set front i x ++ set back 0 y) (i + 1) d)) (at_x ∙ get_or_default front i r d (omega (arith, long)))
        (subst (λ (z : X). P r z) (sym (get_or-append_right (set front i x) (set back 0 y) (i + 1) (i + 1) d wide (omega arith)))
        (let at : 0 ≡ (i + 1) - (i + 1) = omega arith in
        subst (λ (n : ℕ). P r (get_or (set back 0 y) n d)) at (subst (P r) (sym (get_or-set_same back 0 y d some)) both)))))

  -- the job that is done and the one behind it are on one table
  pub one_table : (first jobs : List X) (i : ℕ) (r new : X) → length jobs ≡ length first → i < length first
      → ((k : ℕ) (j : X) → i ≤ k → k < length first → IsLike (store (get_or first k j)) (store (get_or jobs k j)))
      → ((k l : ℕ) (j : X) → k < length first → l < length first → (store (get_or first k j)).table ≡ (store (get_or first l j)).table)
      → (store new).table ≡ (store (get_or jobs i r)).table
      → (j : X) → i + 1 < length (set jobs i new) → (store (get_or (set jobs i new) i j)).table ≡ (store (get_or (set jobs i new) (i + 1) j)).table
  one_table first jobs i r new long lt rest tables at j more =
      let inside : i < length jobs = omega (arith, lt, long) in
      let next : i + 1 < length first = let e = length-set jobs i new in omega (arith, more, e, long) in
      ap (λ x. (store x).table) (get_or-set_same jobs i new j inside) ∙ at ∙ ap (λ x. (store x).table) (get_or_default jobs i r j inside)
      ∙ (rest i j (omega arith) lt).table ∙ tables i (i + 1) j lt next ∙ sym (rest (i + 1) j (omega arith) next).table
      ∙ ap (λ x. (store x).table) (sym (get_or-set_other jobs i (i + 1) new j (λ e. absurd (omega (arith, e)))))

  module _ (mode : Mode) (net : RawNet) (vars cubes : ℕ) (tasks : List Task) (numbers : List ℕ) where
    -- what the job x leaves where it is done as y
    abbrev pub Leaves : Task → X → X → Type 0
    Leaves task x y = IsDone mode net vars (store x).limit cubes (get_or tasks (get_or numbers (place x) 0) task) (store x) (store y) (outcome y)

    -- one job more is done
    module _ (first jobs next : List X) (i : ℕ) (r new : X) (long : length jobs ≡ length first) (lt : i < length first) (at : r ≡ get_or jobs i r)
        (same : (k : ℕ) (j : X) → k < length first → place (get_or jobs k j) ≡ place (get_or first k j))
        (done : (k : ℕ) (task : Task) (j : X) → k < i → k < length first → Leaves task (get_or first k j) (get_or jobs k j))
        (rest : (k : ℕ) (j : X) → i ≤ k → k < length first → IsLike (store (get_or first k j)) (store (get_or jobs k j)))
        (at_place : place new ≡ place (get_or jobs i r)) (is_done : (task : Task) → Leaves task (get_or jobs i r) new)
        (hands : HandsOn store place outcome i (set jobs i new) next) where
      within : (k : ℕ) → k < length first → k < length (set jobs i new)
      within k lt' = let e = length-set jobs i new in omega (arith, lt', long, e)

      at_first : (j : X) → get_or jobs i r ≡ get_or jobs i j
      at_first j = get_or_default jobs i r j (omega (arith, lt, long))

      pub long_next : length next ≡ length first
      long_next = hands.long ∙ length-set jobs i new ∙ long

      pub same_next : (k : ℕ) (j : X) → k < length first → place (get_or next k j) ≡ place (get_or first k j)
      same_next k j lt' = hands.same k j (within k lt')
          ∙ set_by (λ z. place z ≡ place (get_or first k j)) jobs i k new j (omega (arith, lt, long))
          (λ e. at_place ∙ ap place (at_first j) ∙ ap (λ m. place (get_or jobs m j)) (sym e) ∙ same k j lt') (λ ne. same k j lt')

      -- what the job at i leaves, of its first store
      done_here : (task : Task) (j : X) → Leaves task (get_or first i j) new
      done_here task j =
          let like = rest i j (omega arith) lt in
          let d = subst (λ (z : X). Leaves task z new) (at_first j) (is_done task) in
          IsDone-like mode net vars cubes (get_or tasks (get_or numbers (place (get_or first i j)) 0) task) (store (get_or first i j)) (store (get_or jobs i j)) (store new) (outcome new) like
          (subst (λ (n : ℕ). IsDone mode net vars (store (get_or jobs i j)).limit cubes (get_or tasks (get_or numbers n 0) task) (store (get_or jobs i j)) (store new) (outcome new)) (same i j lt) d)

      pub done_next : (k : ℕ) (task : Task) (j : X) → k < i + 1 → k < length first → Leaves task (get_or first k j) (get_or next k j)
      done_next k task j up lt' =
          let one = get_or tasks (get_or numbers (place (get_or first k j)) 0) task in
          subst (λ (s : Store). IsDone mode net vars (store (get_or first k j)).limit cubes one (store (get_or first k j)) s (outcome (get_or next k j))) (sym (hands.stores k j (within k lt') (omega (arith, up))))
          (subst (λ (o : Result Report AllocError). IsDone mode net vars (store (get_or first k j)).limit cubes one (store (get_or first k j)) (store (get_or (set jobs i new) k j)) o) (sym (hands.outcomes k j (within k lt')))
          (set_by (λ z. Leaves task (get_or first k j) z) jobs i k new j (omega (arith, lt, long))
          (λ e. subst (λ (m : ℕ). Leaves task (get_or first m j) new) (sym e) (done_here task j)) (λ ne. done k task j (omega (arith, up, ne)) lt')))

      pub rest_next : (k : ℕ) (j : X) → i + 1 ≤ k → k < length first → IsLike (store (get_or first k j)) (store (get_or next k j))
      rest_next k j high lt' =
          IsLike-trans (store (get_or first k j)) (store (get_or (set jobs i new) k j)) (store (get_or next k j))
          (subst (λ (z : X). IsLike (store (get_or first k j)) (store z)) (sym (get_or-set_other jobs i k new j (λ e. absurd (omega (arith, high, e))))) (rest k j (omega (arith, high)) lt'))
          (hands.like k j (within k lt'))
