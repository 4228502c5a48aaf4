-- Walks through a table, and what lies on them.
use Rattle.std.proofs.Common.{◌≡◌, ◌≢◌, ℕ, suc, ◌+◌, ◌-◌, ◌*◌, ◌/◌, ◌%◌, ◌<◌, ◌≤◌, Bool, true, false, List, [], ◌∷◌, length, get_or, set, cond, inl, inr, sym, ap, ◌∙◌, subst, arith, mod-lt, lt_of_not-le}
use Rattle.std.specs.List.{sum_by}
use Rattle.std.proofs.Math.Nat.{mod-add-mod, mod-eq_of_lt, add-mod_right, mul-lt-mul_of_pos_right}
use Rattle.std.proofs.lemmas.List.{get_or-set_same, get_or-set_other, get_or_default, length-set}
use Rattle.std.proofs.lemmas.List.Sums.{sum_by-cons, sum_by-set}
use mathlib.Core.Logic.{dite}
use native.Mathlib.Decide.{ℕ_discrete, dec_le}
use Rattle.dd_ops.specs.declared.operands.Operands.{Operands}
use Rattle.dd_ops.specs.declared.few.Entry.{Entry}
use Rattle.dd_ops.specs.private.Tables.{AddsEntry, AreUsed, Differ, IsAt, IsOnWalk, IsPlaced, entry_at, entry_of, entry_on, home, is_used, mixed, taken, walk}

mixed_lt : (x : Operands) → mixed x < 18446744073709551616
unfolding mixed
mixed_lt x = mod-lt _ (omega arith)

below : (m size : ℕ) → m < 18446744073709551616 → 0 < size → m * size / 18446744073709551616 < size
below m size low h = let times : m * size < 18446744073709551616 * size = mul-lt-mul_of_pos_right low h in omega (arith, times)

pub home_lt : (size : ℕ) (x : Operands) → 0 < size → home size x < size
unfolding home
home_lt size x h = below (mixed x) size (mixed_lt x) h

pub home_is : (size m : ℕ) (x : Operands) → m ≡ mixed x → 0 < size → (m * size / 18446744073709551616 ≡ home size x) × (m * size / 18446744073709551616 < size)
unfolding home
home_is size m x is h = (ap (λ (n : ℕ). n * size / 18446744073709551616) is, below m size (subst (λ (n : ℕ). n < 18446744073709551616) (sym is) (mixed_lt x)) h)

pub walk_lt : (size : ℕ) (x : Operands) (k : ℕ) → 0 < size → walk size x k < size
unfolding walk
walk_lt size x k h = mod-lt (home size x + k) h

-- the walk begins at the home
pub walk_home : (size : ℕ) (x : Operands) → 0 < size → home size x ≡ walk size x 0
unfolding walk
walk_home size x h =
    let same : home size x ≡ home size x + 0 = omega arith in
    sym (mod-eq_of_lt (home_lt size x h)) ∙ ap (λ (y : ℕ). y % size) same

-- one place further
pub walk_next : (size : ℕ) (x : Operands) (n : ℕ) → (walk size x n + 1) % size ≡ walk size x (n + 1)
unfolding walk
walk_next size x n =
    let e : home size x + n + 1 ≡ home size x + (n + 1) = omega arith in
    mod-add-mod (home size x + n) size 1 ∙ ap (λ (y : ℕ). y % size) e

-- each place is on each walk
walk_to : (size : ℕ) (x : Operands) (s : ℕ) → s < size → (n : ℕ) × (n < size) × (walk size x n ≡ s)
unfolding walk
walk_to size x s h =
    let first = home size x in
    let near = home_lt size x (omega arith) in
    dite (dec_le first s)
    (λ le.
    let e : first + (s - first) ≡ s = omega arith in
    (s - first, omega arith, ap (λ (y : ℕ). y % size) e ∙ mod-eq_of_lt h))
    (λ no.
    let lt : s < first = lt_of_not-le no in
    let e : first + (s + size - first) ≡ s + size = omega arith in
    (s + size - first, omega arith, ap (λ (y : ℕ). y % size) e ∙ add-mod_right s size ∙ mod-eq_of_lt h))

-- ---- how many are used

abbrev pub uses : Entry → ℕ
uses e = cond (is_used e.operands) 1 0

-- where each place is used, as many are used as there are places
full : (es : List Entry) → ((i : ℕ) → i < length es → is_used (entry_at es i).operands ≡ true) → length es ≤ taken es
full [] h = omega arith
full (e ∷ es) h =
    let here : uses e ≡ 1 = ap (λ (b : Bool). cond b 1 0) (h 0 (omega arith)) in
    let rest : length es ≤ taken es = full es (λ i lt. h (suc i) (omega (arith, lt))) in
    let sum : sum_by uses (e ∷ es) ≡ uses e + sum_by uses es = sum_by-cons uses e es in
    omega (arith, here, rest, sum)

-- a walk through all places comes to an unused one
pub never_full : (es : List Entry) (x : Operands) (n : ℕ) → taken es < length es → length es ≤ n → AreUsed es x n → ⊥
never_full es x n room all used =
    let most = full es (λ i lt. let t = walk_to (length es) x i lt in subst (λ (j : ℕ). is_used (entry_at es j).operands ≡ true) t.2 (used t.0 (let near = t.1 in omega arith))) in
    absurd (omega arith)

-- ---- an entry is placed

-- what stands at another place than that of the entry, or is used, stays
abbrev place_of : List Entry → Entry → ℕ → ℕ
place_of old e k = walk (length old) e.operands k

pub long_placed : (old new : List Entry) (e : Entry) → IsPlaced old e new → length new ≡ length old
long_placed old new e p = ap (λ (es : List Entry). length es) p.is ∙ length-set old (place_of old e p.steps) e

at_place : (old new : List Entry) (e d : Entry) (p : IsPlaced old e new) → get_or new (place_of old e p.steps) d ≡ e
at_place old new e d p = ap (λ (es : List Entry). get_or es (place_of old e p.steps) d) p.is
    ∙ get_or-set_same old (place_of old e p.steps) e d (walk_lt (length old) e.operands p.steps (let within = p.within in omega arith))

elsewhere : (old new : List Entry) (e d : Entry) (p : IsPlaced old e new) (i : ℕ) → i ≢ place_of old e p.steps → get_or new i d ≡ get_or old i d
elsewhere old new e d p i apart = ap (λ (es : List Entry). get_or es i d) p.is ∙ get_or-set_other old (place_of old e p.steps) i e d apart

pub true_or_false : (b : Bool) → b ≡ true → b ≡ false → ⊥
true_or_false b is isnt = absurd (let f : true ≡ false = sym is ∙ isnt in cc f)

used_stays : (old new : List Entry) (e : Entry) → IsPlaced old e new → (i : ℕ) → is_used (entry_at old i).operands ≡ true → entry_at new i ≡ entry_at old i
used_stays old new e p i used = elsewhere old new e _ p i (λ here. true_or_false _ used (ap (λ (j : ℕ). is_used (entry_at old j).operands) here ∙ p.free))

walk_stays : (old new : List Entry) (e : Entry) → IsPlaced old e new → (y : Operands) (i : ℕ) → is_used (entry_on old y i).operands ≡ true → entry_on new y i ≡ entry_on old y i
walk_stays old new e p y i used =
    ap (λ (n : ℕ). entry_at new (walk n y i)) (long_placed old new e p) ∙ used_stays old new e p (walk (length old) y i) used

are_used_still : (old new : List Entry) (e : Entry) → IsPlaced old e new → (y : Operands) (k : ℕ) → AreUsed old y k → AreUsed new y k
are_used_still old new e p y k used i lt = ap (λ (a : Entry). is_used a.operands) (walk_stays old new e p y i (used i lt)) ∙ used i lt

pub adds_placed : (old new : List Entry) (e : Entry) → IsPlaced old e new → AddsEntry old e new
adds_placed old new e p =
    let long = long_placed old new e p in
    record {
      only = λ y q used (k, lt, at). dite (ℕ_discrete k (place_of old e p.steps))
          (λ here.
          let is : e ≡ entry_of y q = sym (at_place old new e (entry_of y q) p) ∙ ap (λ (j : ℕ). get_or new j (entry_of y q)) (sym here) ∙ at in
          inr (ap (λ (a : Entry). a.operands) (sym is), ap (λ (a : Entry). a.result) (sym is)))
          (λ apart. inl (k, omega (arith, lt, long), sym (elsewhere old new e (entry_of y q) p k apart) ∙ at));
      kept = λ y used (k, lt, is, are).
          let here : is_used (entry_on old y k).operands ≡ true = ap is_used is ∙ used in
          (k, omega (arith, lt, long), ap (λ (a : Entry). a.operands) (walk_stays old new e p y k here) ∙ is, are_used_still old new e p y k are);
      added =
          let at : entry_on new e.operands p.steps ≡ e = ap (λ (n : ℕ). entry_at new (walk n e.operands p.steps)) long ∙ at_place old new e _ p in
          (p.steps, (let within = p.within in omega (arith, long)), ap (λ (a : Entry). a.operands) at, are_used_still old new e p e.operands p.steps p.used);
    }

pub taken_placed : (old new : List Entry) (e : Entry) → is_used e.operands ≡ true → IsPlaced old e new → taken new ≡ taken old + 1
taken_placed old new e used p =
    let at : ℕ = place_of old e p.steps in
    let inside : at < length old = walk_lt (length old) e.operands p.steps (let within = p.within in omega arith) in
    let sum : sum_by uses (set old at e) + uses (entry_at old at) ≡ sum_by uses old + uses e = sum_by-set uses old at e _ inside in
    let free : uses (entry_at old at) ≡ 0 = ap (λ (b : Bool). cond b 1 0) p.free in
    let one : uses e ≡ 1 = ap (λ (b : Bool). cond b 1 0) used in
    let is : sum_by uses new ≡ sum_by uses (set old at e) = ap (λ (es : List Entry). sum_by uses es) p.is in
    omega (arith, sum, free, one, is)

-- ---- a walk from place to place

pub begins : (es : List Entry) (x : Operands) (at : ℕ) → at ≡ home (length es) x → at < length es → IsAt es x 0 at
begins es x at is inside = record { is = is ∙ walk_home (length es) x (omega (arith, inside)); inside = inside; used = λ i lt. absurd (omega arith) }

pub goes_on : (es : List Entry) (x : Operands) (n at next : ℕ) (d : Entry) → IsAt es x n at → is_used (get_or es at d).operands ≡ true → next ≡ (at + 1) % length es → next < length es
    → IsAt es x (n + 1) next
goes_on es x n at next d here used is inside = record {
  is = is ∙ ap (λ (j : ℕ). (j + 1) % length es) here.is ∙ walk_next (length es) x n;
  inside = inside;
  used = λ i lt. dite (ℕ_discrete i n)
      (λ same.
      let it : entry_on es x i ≡ get_or es at d = ap (λ (j : ℕ). entry_on es x j) same ∙ ap (λ (j : ℕ). entry_at es j) (sym here.is) ∙ get_or_default es at _ d here.inside in
      ap (λ (a : Entry). is_used a.operands) it ∙ used)
      (λ apart. here.used i (lt_of_le i n (omega arith) apart));
}
  where
    lt_of_le : (a b : ℕ) → a ≤ b → a ≢ b → a < b
    lt_of_le a b le ne = dite (dec_le (suc a) b) (λ x. x) (λ x. let lt : b < suc a = lt_of_not-le x in absurd (ne (omega arith)))

pub placed : (es : List Entry) (e d : Entry) (n at : ℕ) → IsAt es e.operands n at → n < length es → is_used (get_or es at d).operands ≡ false → IsPlaced es e (set es at e)
placed es e d n at here lt free = record {
  steps = n;
  within = lt;
  used = here.used;
  free =
      let it : entry_on es e.operands n ≡ get_or es at d = ap (λ (j : ℕ). entry_at es j) (sym here.is) ∙ get_or_default es at _ d here.inside in
      ap (λ (a : Entry). is_used a.operands) it ∙ free;
  is = ap (λ (j : ℕ). set es j e) here.is;
}

-- ---- a search

-- one more place has other operands
pub differs_on : (es : List Entry) (x : Operands) (n at : ℕ) (d : Entry) → IsAt es x n at → Differ es x n → ((get_or es at d).operands ≡ x → ⊥) → Differ es x (n + 1)
differs_on es x n at d here before apart i lt = dite (ℕ_discrete i n)
    (λ same is.
    let it : entry_on es x i ≡ get_or es at d = ap (λ (j : ℕ). entry_on es x j) same ∙ ap (λ (j : ℕ). entry_at es j) (sym here.is) ∙ get_or_default es at _ d here.inside in
    apart (ap (λ (a : Entry). a.operands) (sym it) ∙ is))
    (λ other is. before i (dite (dec_le (suc i) n) (λ y. y) (λ y. let low : n < suc i = lt_of_not-le y in absurd (other (omega arith)))) is)

-- an unused place ends the search
pub not_behind : (es : List Entry) (x : Operands) (n at : ℕ) (d : Entry) → is_used x ≡ true → IsAt es x n at → Differ es x n → is_used (get_or es at d).operands ≡ false → IsOnWalk es x → ⊥
not_behind es x n at d used here before free (k, lt, is, are) =
    let it : entry_on es x n ≡ get_or es at d = ap (λ (j : ℕ). entry_at es j) (sym here.is) ∙ get_or_default es at _ d here.inside in
    let unused : is_used (entry_on es x n).operands ≡ false = ap (λ (a : Entry). is_used a.operands) it ∙ free in
    dite (dec_le (suc n) k)
    (λ behind. true_or_false _ (are n behind) unused)
    (λ no. dite (ℕ_discrete k n)
    (λ same. true_or_false _ (ap (λ (j : ℕ). is_used (entry_on es x j).operands) (sym same) ∙ ap is_used is ∙ used) unused)
    (λ other. let le : k < suc n = lt_of_not-le no in before k (dite (dec_le (suc k) n) (λ y. y) (λ y. let low : n < suc k = lt_of_not-le y in absurd (other (omega arith)))) is))

-- and so does the end of the walk
pub not_on : (es : List Entry) (x : Operands) (n : ℕ) → length es ≤ n → Differ es x n → IsOnWalk es x → ⊥
not_on es x n all before (k, lt, is, are) = before k (omega (arith, lt)) is
