-- Timelines: what begins at each time, and what runs on.
use Rattle.std.proofs.Common.{◌≡◌, ℕ, zero, suc, ◌+◌, ◌-◌, ◌<◌, ◌≤◌, Bool, true, false, List, [], ◌∷◌, ◌++◌, length, take, drop, get_or, set, filter, replicate, refl, sym, ◌∙◌, ap, arith, inl, inr}
use Rattle.std.specs.Prelude.{◌==◌, ◌&&◌, ◌⊎◌, nat_le, nat_lt, if◌then◌else◌}
use Rattle.std.specs.Prelude.{cond}
use Rattle.std.specs.List.{list_all}
use Rattle.std.proofs.lemmas.Bool.Decides.{nat_tests, eqb_tells}
use Rattle.std.proofs.lemmas.Grind.{get_or-set_at}
use Rattle.std.proofs.lemmas.List.{append-nil, append_assoc, get_or-set_other, get_or-replicate, get_or_default, length-drop, length-set, length-replicate, take_all}
use Rattle.std.proofs.lemmas.List.Elements.{filter-append}
use Rattle.std.proofs.Math.Seq.{drop-nil, take-suc}
use Rattle.ste_engine.specs.declared.timed_cuts.TimedCut.{TimedCut}
use Rattle.ste_engine.specs.private.TimedCuts.{ArePlaced, begins_at, merge, ran_before, runs_at}
use Rattle.ste_engine.specs.private.Times.{AreStarts}

-- ---- two lists as one

merge-nil : (ys : List TimedCut) → merge [] ys ≡ ys
merge-nil [] = refl
merge-nil (y ∷ ys) = refl

-- where one of them has come to its end
pub merged : (xs ys all done : List TimedCut) (i j : ℕ) → i ≤ length xs → j ≤ length ys → (length xs ≤ i) ⊎ (length ys ≤ j) → done ++ merge (drop i xs) (drop j ys) ≡ all
    → (done ++ take (length xs - i) (drop i xs)) ++ take (length ys - j) (drop j ys) ≡ all
merged xs ys all done i j li lj over is =
    ap (λ zs. (done ++ zs) ++ take (length ys - j) (drop j ys)) (whole_rest xs i li)
    ∙ ap (λ zs. (done ++ drop i xs) ++ zs) (whole_rest ys j lj)
    ∙ append_assoc done (drop i xs) (drop j ys)
    ∙ ap (λ zs. done ++ zs) (elim over [
      | inl none ↦ ap (λ zs. zs ++ drop j ys) (at_end xs i none) ∙ sym (ap (λ zs. merge zs (drop j ys)) (at_end xs i none) ∙ merge-nil (drop j ys))
      | inr none ↦ ap (λ zs. drop i xs ++ zs) (at_end ys j none) ∙ append-nil (drop i xs) ∙ sym (ap (λ zs. merge (drop i xs) zs) (at_end ys j none))
    ]) ∙ is
  where
    whole_rest : (zs : List TimedCut) (n : ℕ) → n ≤ length zs → take (length zs - n) (drop n zs) ≡ drop n zs
    whole_rest zs n le = take_all (length zs - n) (drop n zs) (simp (length-drop) (omega arith))

    at_end : (zs : List TimedCut) (n : ℕ) → length zs ≤ n → drop n zs ≡ []
    at_end [] n le = drop-nil n
    at_end (z ∷ zs) zero le = absurd (omega arith)
    at_end (z ∷ zs) (suc n) le = at_end zs n (omega arith)

-- ---- what runs on

facts : (from to t : ℕ) → (nat_lt from (t + 1) && nat_le (t + 1) to) ≡ (if (nat_lt from t && nat_le t to) then nat_lt t to else ((from == t) && nat_lt t to))
facts from to t = grind (arith, nat_tests)

apart : (from to t : ℕ) → (nat_lt from t && nat_le t to) ≡ true → ((from == t) && nat_lt t to) ≡ false
apart from to t h = grind (arith, nat_tests)

-- places above this one
filter_placed : (P : TimedCut → Bool) (n : ℕ) (xs : List TimedCut) → ArePlaced n xs → ArePlaced n (filter P xs)
filter_placed P n [] h = tt
filter_placed P n (x ∷ xs) h = by (P x) (filter_placed P (suc x.place) xs h.1)
  where
    lower : (ys : List TimedCut) → ArePlaced (suc x.place) ys → ArePlaced n ys
    lower [] l = tt
    lower (y ∷ ys) l = (let a = l.0 in let b = h.0 in omega (arith, a, b), l.1)

    by : (b : Bool) → ArePlaced (suc x.place) (filter P xs) → ArePlaced n (if b then x ∷ filter P xs else filter P xs)
    by true rest = (h.0, rest)
    by false rest = lower (filter P xs) rest

front_left : (a : TimedCut) (xs ys : List TimedCut) → ArePlaced (suc a.place) ys → merge (a ∷ xs) ys ≡ a ∷ merge xs ys
front_left a xs [] h = refl
front_left a xs (y ∷ ys) h = by (nat_lt a.place y.place) (let l = h.0 in grind (arith, nat_tests))
  where
    by : (b : Bool) → b ≡ true → (if b then (a ∷ merge xs (y ∷ ys)) else (y ∷ merge (a ∷ xs) ys)) ≡ a ∷ merge xs (y ∷ ys)
    by true e = refl
    by false e = absurd (cc e)

front_right : (a : TimedCut) (xs ys : List TimedCut) → ArePlaced (suc a.place) xs → merge xs (a ∷ ys) ≡ a ∷ merge xs ys
front_right a [] ys h = ap (λ zs. a ∷ zs) (sym (merge-nil ys))
front_right a (x ∷ xs) ys h = by (nat_lt x.place a.place) (let l = h.0 in grind (arith, nat_tests))
  where
    by : (b : Bool) → b ≡ false → (if b then (x ∷ merge xs (a ∷ ys)) else (a ∷ merge (x ∷ xs) ys)) ≡ a ∷ merge (x ∷ xs) ys
    by false e = refl
    by true e = absurd (cc e)

-- what ran before and lasts, with what begins, is what runs
pub runs_on : (t n : ℕ) (timed_cuts : List TimedCut) → ArePlaced n timed_cuts → merge (filter (λ timed_cut. nat_lt t timed_cut.to) (filter (ran_before t) timed_cuts)) (filter (begins_at t) timed_cuts) ≡ filter (ran_before (t + 1)) timed_cuts
runs_on t n [] h = refl
runs_on t n (a ∷ timed_cuts) h =
    by (ran_before t a) (nat_lt t a.to) refl (begins_at t a) (ran_before (t + 1) a) (facts a.from a.to t) (apart a.from a.to t) (runs_on t (suc a.place) timed_cuts h.1)
  where
    low : ArePlaced (suc a.place) (filter (λ timed_cut. nat_lt t timed_cut.to) (filter (ran_before t) timed_cuts))
    low = filter_placed (λ timed_cut. nat_lt t timed_cut.to) (suc a.place) (filter (ran_before t) timed_cuts) (filter_placed (ran_before t) (suc a.place) timed_cuts h.1)

    high : ArePlaced (suc a.place) (filter (begins_at t) timed_cuts)
    high = filter_placed (begins_at t) (suc a.place) timed_cuts h.1

    first : (l : Bool) → nat_lt t a.to ≡ l → filter (λ timed_cut. nat_lt t timed_cut.to) (a ∷ filter (ran_before t) timed_cuts) ≡ (if l then a ∷ filter (λ timed_cut. nat_lt t timed_cut.to) (filter (ran_before t) timed_cuts) else filter (λ timed_cut. nat_lt t timed_cut.to) (filter (ran_before t) timed_cuts))
    first l e = ap (λ (b : Bool). if b then a ∷ filter (λ timed_cut. nat_lt t timed_cut.to) (filter (ran_before t) timed_cuts) else filter (λ timed_cut. nat_lt t timed_cut.to) (filter (ran_before t) timed_cuts)) e

    by : (r l : Bool) → nat_lt t a.to ≡ l → (b w : Bool) → w ≡ (if r then l else b) → (r ≡ true → b ≡ false)
        → merge (filter (λ timed_cut. nat_lt t timed_cut.to) (filter (ran_before t) timed_cuts)) (filter (begins_at t) timed_cuts) ≡ filter (ran_before (t + 1)) timed_cuts
        → merge (filter (λ timed_cut. nat_lt t timed_cut.to) (if r then a ∷ filter (ran_before t) timed_cuts else filter (ran_before t) timed_cuts)) (if b then a ∷ filter (begins_at t) timed_cuts else filter (begins_at t) timed_cuts)
        ≡ (if w then a ∷ filter (ran_before (t + 1)) timed_cuts else filter (ran_before (t + 1)) timed_cuts)
    by true l is true w e differ rest = absurd (let f : true ≡ false = differ refl in cc f)
    by true true is false true e differ rest =
        ap (λ zs. merge zs (filter (begins_at t) timed_cuts)) (first true is)
        ∙ front_left a (filter (λ timed_cut. nat_lt t timed_cut.to) (filter (ran_before t) timed_cuts)) (filter (begins_at t) timed_cuts) high ∙ ap (λ zs. a ∷ zs) rest
    by true true is false false e differ rest = absurd (cc e)
    by true false is false false e differ rest = ap (λ zs. merge zs (filter (begins_at t) timed_cuts)) (first false is) ∙ rest
    by true false is false true e differ rest = absurd (cc e)
    by false l is true true e differ rest = front_right a (filter (λ timed_cut. nat_lt t timed_cut.to) (filter (ran_before t) timed_cuts)) (filter (begins_at t) timed_cuts) low ∙ ap (λ zs. a ∷ zs) rest
    by false l is true false e differ rest = absurd (cc e)
    by false l is false false e differ rest = rest
    by false l is false true e differ rest = absurd (cc e)

-- before time 0 nothing ran
pub none_before : (timed_cuts : List TimedCut) → [] ≡ filter (ran_before 0) timed_cuts
none_before [] = refl
none_before (a ∷ timed_cuts) = by (ran_before 0 a) (grind (arith, nat_tests)) (none_before timed_cuts)
  where
    by : (b : Bool) → b ≡ false → [] ≡ filter (ran_before 0) timed_cuts → [] ≡ (if b then a ∷ filter (ran_before 0) timed_cuts else filter (ran_before 0) timed_cuts)
    by false e rest = rest
    by true e rest = absurd (cc e)

-- what ran before the next time runs at this one
pub runs_now : (t : ℕ) (timed_cuts : List TimedCut) → filter (ran_before (t + 1)) timed_cuts ≡ filter (runs_at t) timed_cuts
runs_now t [] = refl
runs_now t (a ∷ timed_cuts) = by (ran_before (t + 1) a) (runs_at t a) (same a.from a.to) (runs_now t timed_cuts)
  where
    same : (from to : ℕ) → (nat_lt from (t + 1) && nat_le (t + 1) to) ≡ (nat_le from t && nat_lt t to)
    same from to = grind (arith, nat_tests)

    by : (b d : Bool) → b ≡ d → filter (ran_before (t + 1)) timed_cuts ≡ filter (runs_at t) timed_cuts
        → (if b then a ∷ filter (ran_before (t + 1)) timed_cuts else filter (ran_before (t + 1)) timed_cuts) ≡ (if d then a ∷ filter (runs_at t) timed_cuts else filter (runs_at t) timed_cuts)
    by true true e rest = ap (λ zs. a ∷ zs) rest
    by false false e rest = rest
    by true false e rest = absurd (cc e)
    by false true e rest = absurd (cc e)

-- ---- what begins

-- at first nothing does
pub starts_none : (depth : ℕ) (starts : List (List TimedCut)) → starts ≡ replicate depth [] → AreStarts [] depth starts
starts_none depth starts is = record {
  long = ap length is ∙ length-replicate depth [];
  each = λ t lt. ap (λ (xs : List (List TimedCut)). get_or xs t []) is ∙ get_or-replicate depth t [] [] lt;
}

one_more : (P : TimedCut → Bool) (timed_cuts : List TimedCut) (k : ℕ) (d : TimedCut) → k < length timed_cuts → filter P (take (k + 1) timed_cuts) ≡ filter P (take k timed_cuts) ++ (if P (get_or timed_cuts k d) then get_or timed_cuts k d ∷ [] else [])
one_more P timed_cuts k d lt = ap (λ j. filter P (take j timed_cuts)) (let e : k + 1 ≡ suc k = omega arith in e) ∙ ap (filter P) (take-suc timed_cuts k d lt) ∙ filter-append P (take k timed_cuts) (get_or timed_cuts k d ∷ [])

-- one more that never begins
pub starts_same : (timed_cuts : List TimedCut) (depth k : ℕ) (d : TimedCut) (starts : List (List TimedCut)) → k < length timed_cuts → (get_or timed_cuts k d).to ≤ (get_or timed_cuts k d).from → AreStarts (take k timed_cuts) depth starts → AreStarts (take (k + 1) timed_cuts) depth starts
starts_same timed_cuts depth k d starts lt none h = record {
  long = h.long;
  each = λ t l. h.each t l ∙ sym (one_more (begins_at t) timed_cuts k d lt ∙ by t (begins_at t (get_or timed_cuts k d)) (never (get_or timed_cuts k d).from (get_or timed_cuts k d).to t none));
}
  where
    never : (from to t : ℕ) → to ≤ from → ((from == t) && nat_lt t to) ≡ false
    never from to t le = grind (arith, nat_tests)

    by : (t : ℕ) (b : Bool) → b ≡ false → filter (begins_at t) (take k timed_cuts) ++ (if b then get_or timed_cuts k d ∷ [] else []) ≡ filter (begins_at t) (take k timed_cuts)
    by t false e = append-nil (filter (begins_at t) (take k timed_cuts))
    by t true e = absurd (cc e)

-- one more that begins
pub starts_put : (timed_cuts : List TimedCut) (depth k : ℕ) (d : TimedCut) (starts next : List (List TimedCut)) (old : List TimedCut) → k < length timed_cuts → (get_or timed_cuts k d).from < (get_or timed_cuts k d).to → (get_or timed_cuts k d).to ≤ depth
    → old ≡ get_or starts (get_or timed_cuts k d).from old → next ≡ set starts (get_or timed_cuts k d).from (old ++ get_or timed_cuts k d ∷ []) → AreStarts (take k timed_cuts) depth starts → AreStarts (take (k + 1) timed_cuts) depth next
starts_put timed_cuts depth k d starts next old lt some within was is h = record {
  long = ap length is ∙ length-set starts a.from (old ++ a ∷ []) ∙ h.long;
  each = λ t l. ap (λ (xs : List (List TimedCut)). get_or xs t []) is ∙ elim (eqb_tells a.from t) [
    | inl here ↦ get_or-set_at starts a.from t (old ++ a ∷ []) [] (sym here.1) (inside t l here.1) ∙ ap (λ (zs : List TimedCut). zs ++ a ∷ []) (was ∙ get_or_default starts a.from old [] (inside t l here.1) ∙ ap (λ j. get_or starts j []) here.1 ∙ h.each t l)
        ∙ sym (one_more (begins_at t) timed_cuts k d lt ∙ by_here t (begins_at t a) (now a.from a.to t here.1 some))
    | inr other ↦ get_or-set_other starts a.from t (old ++ a ∷ []) [] (λ e. other.1 (sym e)) ∙ h.each t l ∙ sym (one_more (begins_at t) timed_cuts k d lt ∙ by_other t (begins_at t a) (never a.from a.to t other.1))
  ];
}
  where
    a : TimedCut
    a = get_or timed_cuts k d

    inside : (t : ℕ) → t < depth → a.from ≡ t → a.from < length starts
    inside t l e = let n = h.long in omega (arith, n, l, e)

    now : (from to t : ℕ) → from ≡ t → from < to → ((from == t) && nat_lt t to) ≡ true
    now from to t e l = grind (arith, nat_tests)

    never : (from to t : ℕ) → (from ≡ t → ⊥) → ((from == t) && nat_lt t to) ≡ false
    never from to t ne = grind (arith, nat_tests)

    by_here : (t : ℕ) (b : Bool) → b ≡ true → filter (begins_at t) (take k timed_cuts) ++ (if b then a ∷ [] else []) ≡ filter (begins_at t) (take k timed_cuts) ++ a ∷ []
    by_here t true e = refl
    by_here t false e = absurd (cc e)

    by_other : (t : ℕ) (b : Bool) → b ≡ false → filter (begins_at t) (take k timed_cuts) ++ (if b then a ∷ [] else []) ≡ filter (begins_at t) (take k timed_cuts)
    by_other t false e = append-nil (filter (begins_at t) (take k timed_cuts))
    by_other t true e = absurd (cc e)

-- what all pass leaves a list as it is
pub kept_all : (p : TimedCut → Bool) (xs : List TimedCut) → list_all p xs ≡ true → filter p xs ≡ xs
kept_all p [] h = refl
kept_all p (x ∷ xs) h = by (p x) h (λ rest. kept_all p xs rest)
  where
    by : (b : Bool) → (b && list_all p xs) ≡ true → (list_all p xs ≡ true → filter p xs ≡ xs) → cond b (x ∷ filter p xs) (filter p xs) ≡ x ∷ xs
    by true h rest = ap (λ (ys : List TimedCut). x ∷ ys) (rest h)
    by false h rest = absurd (cc h)
