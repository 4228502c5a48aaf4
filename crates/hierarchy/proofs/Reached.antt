-- A search by a work list marks exactly what the start reaches.
use Rattle.std.proofs.Common.{replicate, ◌≡◌, ℕ, zero, suc, ◌+◌, ◌<◌, Bool, true, false, not, cond, List, [], ◌∷◌, ◌++◌, set, length, get_or, Option, None, Some, slice_get, arith, refl, sym, ap, ◌∙◌, subst, inl, inr, true≢false, get_or-set_same, length-set}
use Rattle.std.specs.Prelude.{◌⊎◌, ◌↔◌, Contains, All, count_by, option_and_then}
use Rattle.std.proofs.lemmas.List.{length_push, get_or_read}
use Rattle.std.proofs.lemmas.List.Elements.{Contains-append_left, Contains-push, Contains-push_cases}
use Rattle.std.proofs.lemmas.List.Sums.{sum_by-set}
use Rattle.hierarchy.specs.Reach.{led_to, Reaches}
use Rattle.hierarchy.specs.private.Search.{Marks}

-- the numbers that a model's uses lead to
abbrev pub used_at : List (List ℕ) → ℕ → List ℕ
used_at graph model = get_or graph model []

-- nothing done
pub nothing : (before : List Bool) (work : List ℕ) → Marks before work [] before work
nothing before work = record {
  long = refl;
  kept = λ k h. h;
  all = λ k c. absurd (omega (arith, c.1));
  new = λ k h. inl h;
  work_kept = λ k c. c;
  work_new = λ k c. inl c;
  less = omega arith;
}

-- one that is marked already
pub skip : (before : List Bool) (work us : List ℕ) (after : List Bool) (more : List ℕ) (x : ℕ) → Marks before work us after more → get_or after x false ≡ true → Marks before work (us ++ x ∷ []) after more
skip before work us after more x m marked = record {
  long = m.long;
  kept = m.kept;
  all = λ k c. elim (Contains-push_cases us x k c) as (λ _. get_or after k false ≡ true) [ inl old ↦ m.all k old | inr same ↦ ap (λ j. get_or after j false) (sym same) ∙ marked ];
  new = λ k h. elim (m.new k h) as (λ _. (get_or before k false ≡ true) ⊎ (Contains (us ++ x ∷ []) k × Contains more k)) [ inl old ↦ inl old | inr w ↦ inr (Contains-append_left us (x ∷ []) k w.0, w.1) ];
  work_kept = m.work_kept;
  work_new = λ k c. elim (m.work_new k c) as (λ _. Contains work k ⊎ Contains (us ++ x ∷ []) k) [ inl old ↦ inl old | inr u ↦ inr (Contains-append_left us (x ∷ []) k u) ];
  less = m.less;
}

set_cases : (marks : List Bool) (x k : ℕ) → get_or (set marks x true) k false ≡ true → (get_or marks k false ≡ true) ⊎ (x ≡ k)
set_cases [] x k h = inl h
set_cases (b ∷ marks) zero zero h = inr refl
set_cases (b ∷ marks) zero (suc k) h = inl h
set_cases (b ∷ marks) (suc x) zero h = inl h
set_cases (b ∷ marks) (suc x) (suc k) h = elim (set_cases marks x k h) as (λ _. (get_or marks k false ≡ true) ⊎ (suc x ≡ suc k)) [ inl old ↦ inl old | inr same ↦ inr (ap suc same) ]

set_keeps : (marks : List Bool) (x k : ℕ) → get_or marks k false ≡ true → get_or (set marks x true) k false ≡ true
set_keeps [] x k h = h
set_keeps (b ∷ marks) zero zero h = refl
set_keeps (b ∷ marks) zero (suc k) h = h
set_keeps (b ∷ marks) (suc x) zero h = h
set_keeps (b ∷ marks) (suc x) (suc k) h = set_keeps marks x k h

fewer : (marks : List Bool) (x : ℕ) → x < length marks → get_or marks x false ≡ false → count_by not (set marks x true) + 1 ≡ count_by not marks
fewer marks x l h =
    let r : count_by not (set marks x true) + cond (not (get_or marks x false)) 1 0 ≡ count_by not marks + 0 = sum_by-set (λ b. cond (not b) 1 0) marks x true false l in
    let s : count_by not (set marks x true) + 1 ≡ count_by not marks + 0 = subst (λ b. count_by not (set marks x true) + cond (not b) 1 0 ≡ count_by not marks + 0) h r in
    omega arith

-- one that is marked anew
pub anew : (before : List Bool) (work us : List ℕ) (after : List Bool) (more : List ℕ) (x : ℕ) → Marks before work us after more → x < length after → get_or after x false ≡ false → Marks before work (us ++ x ∷ []) (set after x true) (more ++ x ∷ [])
anew before work us after more x m within unmarked = record {
  long = length-set after x true ∙ m.long;
  kept = λ k h. set_keeps after x k (m.kept k h);
  all = λ k c. elim (Contains-push_cases us x k c) as (λ _. get_or (set after x true) k false ≡ true) [ inl old ↦ set_keeps after x k (m.all k old) | inr same ↦ ap (λ j. get_or (set after x true) j false) (sym same) ∙ get_or-set_same after x true false within ];
  new = λ k h. elim (set_cases after x k h) as (λ _. (get_or before k false ≡ true) ⊎ (Contains (us ++ x ∷ []) k × Contains (more ++ x ∷ []) k)) [
    | inl old ↦ elim (m.new k old) as (λ _. (get_or before k false ≡ true) ⊎ (Contains (us ++ x ∷ []) k × Contains (more ++ x ∷ []) k)) [ inl b ↦ inl b | inr w ↦ inr (Contains-append_left us (x ∷ []) k w.0, Contains-append_left more (x ∷ []) k w.1) ]
    | inr same ↦ inr (subst (λ j. Contains (us ++ x ∷ []) j) same (Contains-push us x), subst (λ j. Contains (more ++ x ∷ []) j) same (Contains-push more x))
  ];
  work_kept = λ k c. Contains-append_left more (x ∷ []) k (m.work_kept k c);
  work_new = λ k c. elim (Contains-push_cases more x k c) as (λ _. Contains work k ⊎ Contains (us ++ x ∷ []) k) [
    | inl old ↦ elim (m.work_new k old) as (λ _. Contains work k ⊎ Contains (us ++ x ∷ []) k) [ inl w ↦ inl w | inr u ↦ inr (Contains-append_left us (x ∷ []) k u) ]
    | inr same ↦ inr (subst (λ j. Contains (us ++ x ∷ []) j) same (Contains-push us x))
  ];
  less = let f = fewer after x within unmarked in let l = length_push more x in let h = m.less in omega arith;
}

pub step_same : {before : List Bool} {work us vs : List ℕ} {after after' : List Bool} {more more' : List ℕ} → us ≡ vs → after ≡ after' → more ≡ more' → Marks before work vs after' more' → Marks before work us after more
step_same {before} {work} {us} {vs} {after} {after'} {more} {more'} a b c m = subst (λ x. Marks before work x after more) (sym a) (subst (λ x. Marks before work vs x more) (sym b) (subst (λ x. Marks before work vs after' x) (sym c) m))

-- what a search has found so far
pub record Found (graph : List (List ℕ)) (start : ℕ) (marks : List Bool) (work : List ℕ) : Type 0 where
  pub long : length marks ≡ length graph
  pub sound : (k : ℕ) → get_or marks k false ≡ true → Reaches graph start k
  pub begun : get_or marks start false ≡ true
  pub listed : (k : ℕ) → Contains work k → get_or marks k false ≡ true
  pub closed : (k j : ℕ) → get_or marks k false ≡ true → Contains (used_at graph k) j → (get_or marks j false ≡ true) ⊎ Contains work k

pub marked_within : (marks : List Bool) (k : ℕ) → get_or marks k false ≡ true → k < length marks
marked_within [] k h = absurd (cc)
marked_within (b ∷ marks) zero h = omega arith
marked_within (b ∷ marks) (suc k) h = let r = marked_within marks k h in omega arith

-- one more use
extended : (graph : List (List ℕ)) (start m j : ℕ) → Reaches graph start m → Contains (used_at graph m) j → Reaches graph start j
extended graph start m j r c = (c.0 ∷ r.0, ap (λ o. option_and_then (λ k. slice_get (used_at graph k) c.0) o) r.1 ∙ at (used_at graph m) c.0 j c.1 c.2)
  where
    at : (xs : List ℕ) (k x : ℕ) → k < length xs → get_or xs k x ≡ x → slice_get xs k ≡ Some x
    at [] k x h e = absurd (omega arith)
    at (y ∷ xs) zero x h e = ap Some e
    at (y ∷ xs) (suc k) x h e = at xs k x (omega arith) e

-- after the first marks
pub begins : (graph : List (List ℕ)) (start : ℕ) (none after : List Bool) (work : List ℕ) → length none ≡ length graph → ((k : ℕ) → get_or none k false ≡ true → ⊥) → Marks none [] (start ∷ []) after work → Found graph start after work
begins graph start none after work long clear m = record {
  long = m.long ∙ long;
  sound = λ k h. elim (m.new k h) as (λ _. Reaches graph start k) [ inl old ↦ absurd (clear k old) | inr w ↦ ([], ap Some (only k w.0)) ];
  begun = m.all start (0, omega arith, refl);
  listed = λ k c. elim (m.work_new k c) as (λ _. get_or after k false ≡ true) [ inl old ↦ absurd (omega (arith, old.1)) | inr u ↦ m.all k u ];
  closed = λ k j h c. elim (m.new k h) as (λ _. (get_or after j false ≡ true) ⊎ Contains work k) [ inl old ↦ absurd (clear k old) | inr w ↦ inr w.1 ];
}
  where
    only : (k : ℕ) → Contains (start ∷ []) k → start ≡ k
    only k c = by c.0 c.1 c.2
      where
        by : (i : ℕ) → i < 1 → get_or (start ∷ []) i k ≡ k → start ≡ k
        by zero h e = e
        by (suc i) h e = absurd (omega arith)

-- one taken off the work list and its uses marked
pub searched : (graph : List (List ℕ)) (start m : ℕ) (before after : List Bool) (work rest more : List ℕ) → Found graph start before work → work ≡ rest ++ m ∷ [] → Marks before rest (used_at graph m) after more → Found graph start after more
searched graph start m before after work rest more f taken s =
    let here : get_or before m false ≡ true = f.listed m (subst (λ w. Contains w m) (sym taken) (Contains-push rest m)) in
    record {
      long = s.long ∙ f.long;
      sound = λ k h. elim (s.new k h) as (λ _. Reaches graph start k) [ inl old ↦ f.sound k old | inr w ↦ extended graph start m k (f.sound m here) w.0 ];
      begun = s.kept start f.begun;
      listed = λ k c. elim (s.work_new k c) as (λ _. get_or after k false ≡ true) [ inl old ↦ s.kept k (f.listed k (subst (λ w. Contains w k) (sym taken) (Contains-append_left rest (m ∷ []) k old))) | inr u ↦ s.all k u ];
      closed = λ k j h c. elim (s.new k h) as (λ _. (get_or after j false ≡ true) ⊎ Contains more k) [
        | inl old ↦ elim (f.closed k j old c) as (λ _. (get_or after j false ≡ true) ⊎ Contains more k) [
          | inl j_old ↦ inl (s.kept j j_old)
          | inr on_work ↦ elim (Contains-push_cases rest m k (subst (λ w. Contains w k) taken on_work)) as (λ _. (get_or after j false ≡ true) ⊎ Contains more k) [
            | inl left ↦ inr (s.work_kept k left)
            | inr same ↦ inl (s.all j (subst (λ i. Contains (used_at graph i) j) (sym same) c))
          ]
        ]
        | inr w ↦ inr w.1
      ];
    }

-- with nothing left to do the marks are exact
pub exact : (graph : List (List ℕ)) (start : ℕ) (marks : List Bool) → Found graph start marks [] → (k : ℕ) → (get_or marks k false ≡ true) ↔ Reaches graph start k
exact graph start marks f k = (f.sound k, λ r. by r.0 k r.1)
  where
    by : (path : List ℕ) (k : ℕ) → led_to graph start path ≡ Some k → get_or marks k false ≡ true
    by [] k e = let same : start ≡ k = cc in ap (λ i. get_or marks i false) (sym same) ∙ f.begun
    by (n ∷ above) k e = on (λ j. by above j) (led_to graph start above) refl e
      where
        on : ((j : ℕ) → led_to graph start above ≡ Some j → get_or marks j false ≡ true) → (o : Option ℕ) → led_to graph start above ≡ o → option_and_then (λ j. slice_get (used_at graph j) n) o ≡ Some k → get_or marks k false ≡ true
        on again None is e = absurd (cc)
        on again (Some j) is e = elim (f.closed j k (again j is) (member (used_at graph j) n k e)) as (λ _. get_or marks k false ≡ true) [ inl h ↦ h | inr w ↦ absurd (omega (arith, w.1)) ]
          where
            member : (xs : List ℕ) (i x : ℕ) → slice_get xs i ≡ Some x → Contains xs x
            member [] i x e = absurd (cc)
            member (y ∷ xs) zero x e = (0, omega arith, cc)
            member (y ∷ xs) (suc i) x e = let r = member xs i x e in (suc r.0, omega arith, r.2)

pub fresh : (n : ℕ) (marks : List Bool) → marks ≡ replicate n false → (k : ℕ) → get_or marks k false ≡ true → ⊥
fresh n marks e k h = none n k (ap (λ l. get_or l k false) (sym e) ∙ h)
  where
    none : (n k : ℕ) → get_or (replicate n false) k false ≡ true → ⊥
    none zero k h = true≢false (sym h)
    none (suc n) zero h = true≢false (sym h)
    none (suc n) (suc k) h = none n k h

pub same_bit : (marks : List Bool) (k : ℕ) (now b : Bool) → now ≡ get_or marks k now → k < length marks → now ≡ b → get_or marks k false ≡ b
same_bit marks k now b is within e = sym (get_or_read marks k now within is false) ∙ e

pub all_same : (xs ys : List ℕ) (n : ℕ) → xs ≡ ys → All (λ k. k < n) ys → All (λ k. k < n) xs
all_same xs ys n e h = subst (λ l. All (λ k. k < n) l) (sym e) h
