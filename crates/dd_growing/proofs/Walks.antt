-- Walks through a table of slots, and what lies on them.
use Rattle.std.proofs.Common.{◌≡◌, ◌≢◌, ℕ, suc, ◌+◌, ◌-◌, ◌*◌, ◌/◌, ◌%◌, ◌<◌, ◌≤◌, Bool, true, false, List, [], ◌∷◌, length, get_or, set, cond, refl, sym, ap, ◌∙◌, subst, arith, lt_of_not-le}
use Rattle.std.specs.Prelude.{Some, nat_lt}
use Rattle.std.specs.List.{sum_by}
use Rattle.std.proofs.Math.Nat.{mod-add-mod, mod-eq_of_lt, add-mod_right, mul-lt-mul_of_pos_right}
use Rattle.std.proofs.lemmas.Bool.{lt-ltb, le-ltb}
use Rattle.std.proofs.lemmas.List.{get_or-set_same, get_or-set_other, get_or_default, length-set}
use Rattle.std.proofs.lemmas.List.Sums.{sum_by-cons, sum_by-set}
use mathlib.Core.Logic.{dite}
use native.Mathlib.Decide.{ℕ_discrete, dec_le}
use Rattle.dd_nodes.specs.declared.node.Ref.{Ref}
use Rattle.dd_nodes.specs.declared.node.Node.{Node}
use Rattle.dd_nodes.specs.Plain.{plain_held}
use Rattle.dd_growing.specs.private.Slots.{AreUsed, IsAt, IsOnWalk, IsPassed, IsPlaced, far_of, is_used, hash_of, near_of, newer, slot_at, slot_of, slot_on, taken, walk}

hash_lt : (n : Node) → hash_of n < 4294967296
unfolding hash_of
hash_lt n = omega arith

below : (m size : ℕ) → m < 4294967296 → 0 < size → m * size / 4294967296 < size
below m size low h = let times : m * size < 4294967296 * size = mul-lt-mul_of_pos_right low h in omega (arith, times)

pub far_lt : (size : ℕ) (n : Node) → 0 < size → far_of size n < size
unfolding far_of
far_lt size n h = below (hash_of n) size (hash_lt n) h

pub far_is : (size hash : ℕ) (n : Node) → hash ≡ hash_of n → 0 < size → (hash * size / 4294967296 ≡ far_of size n) × (hash * size / 4294967296 < size)
unfolding far_of
far_is size hash n is h = (ap (λ (m : ℕ). m * size / 4294967296) is, below hash size (subst (λ (m : ℕ). m < 4294967296) (sym is) (hash_lt n)) h)

lt_of_le : (a b : ℕ) → a ≤ b → a ≢ b → a < b
lt_of_le a b le ne = dite (dec_le (suc a) b) (λ x. x) (λ x. let lt : b < suc a = lt_of_not-le x in absurd (ne (omega arith)))

pub near_twice : (size m : ℕ) (n : Node) → m ≡ newer n → m * 2 < size → m * 2 ≡ near_of size n
unfolding near_of
near_twice size m n is lt = sym (ap (λ (k : ℕ). cond (nat_lt (k * 2) size) (k * 2) 0) (sym is) ∙ ap (λ (b : Bool). cond b (m * 2) 0) (lt-ltb (m * 2) size lt))

pub near_first : (size m : ℕ) (n : Node) → m ≡ newer n → size ≤ m * 2 → 0 ≡ near_of size n
unfolding near_of
near_first size m n is le = sym (ap (λ (k : ℕ). cond (nat_lt (k * 2) size) (k * 2) 0) (sym is) ∙ ap (λ (b : Bool). cond b (m * 2) 0) (le-ltb (m * 2) size le))

-- the walk near the newer child
near_walk : (size : ℕ) (n : Node) (k : ℕ) → k < 8 → walk size n k ≡ (near_of size n + k) % size
unfolding walk
near_walk size n k lt = ap (λ (b : Bool). cond b (near_of size n + k) (far_of size n + (k - 8)) % size) (lt-ltb k 8 lt)

-- and behind that
far_walk : (size : ℕ) (n : Node) (k : ℕ) → 8 ≤ k → walk size n k ≡ (far_of size n + (k - 8)) % size
unfolding walk
far_walk size n k le = ap (λ (b : Bool). cond b (near_of size n + k) (far_of size n + (k - 8)) % size) (le-ltb k 8 le)

from_start : (size start : ℕ) → start < size → start ≡ (start + 0) % size
from_start size start low =
    let same : start ≡ start + 0 = omega arith in
    sym (mod-eq_of_lt low) ∙ ap (λ (y : ℕ). y % size) same

-- the walk begins near the newer child
walk_first : (size : ℕ) (n : Node) → near_of size n < size → near_of size n ≡ walk size n 0
walk_first size n low = from_start size (near_of size n) low ∙ sym (near_walk size n 0 (omega arith))

next_mod : (size start k l : ℕ) → k + 1 ≡ l → ((start + k) % size + 1) % size ≡ (start + l) % size
next_mod size start k l more =
    let e : start + k + 1 ≡ start + l = omega (arith, more) in
    mod-add-mod (start + k) size 1 ∙ ap (λ (y : ℕ). y % size) e

-- one place further
pub walk_next : (size : ℕ) (n : Node) (k at : ℕ) → at ≡ walk size n k → k ≢ 7 → (at + 1) % size ≡ walk size n (k + 1)
walk_next size n k at is apart = ap (λ (j : ℕ). (j + 1) % size) is ∙ dite (dec_le 8 k)
    (λ far. ap (λ (j : ℕ). (j + 1) % size) (far_walk size n k far) ∙ next_mod size (far_of size n) (k - 8) (k + 1 - 8) (omega (arith, far)) ∙ sym (far_walk size n (k + 1) (omega (arith, far))))
    (λ no.
    let lt : k < 8 = lt_of_not-le no in
    let near : k < 7 = lt_of_le k 7 (omega (arith, lt)) apart in
    ap (λ (j : ℕ). (j + 1) % size) (near_walk size n k lt) ∙ next_mod size (near_of size n) k (k + 1) refl ∙ sym (near_walk size n (k + 1) (omega (arith, near))))

-- and behind the last place near the newer child
pub walk_far : (size : ℕ) (n : Node) (k : ℕ) → k ≡ 7 → 0 < size → far_of size n ≡ walk size n (k + 1)
walk_far size n k last some =
    let eight : k + 1 ≡ 8 = omega (arith, last) in
    from_start size (far_of size n) (far_lt size n some) ∙ sym (far_walk size n 8 (omega arith)) ∙ ap (λ (j : ℕ). walk size n j) (sym eight)

walk_to_from : (size start s : ℕ) → start < size → s < size → (n : ℕ) × (n < size) × ((start + n) % size ≡ s)
walk_to_from size start s near h =
    dite (dec_le start s)
    (λ le.
    let e : start + (s - start) ≡ s = omega arith in
    (s - start, omega arith, ap (λ (y : ℕ). y % size) e ∙ mod-eq_of_lt h))
    (λ no.
    let lt : s < start = lt_of_not-le no in
    let e : start + (s + size - start) ≡ s + size = omega arith in
    (s + size - start, omega arith, ap (λ (y : ℕ). y % size) e ∙ add-mod_right s size ∙ mod-eq_of_lt h))

-- each place is on each walk
walk_to : (size : ℕ) (n : Node) (s : ℕ) → s < size → (k : ℕ) × (k < size + 8) × (walk size n k ≡ s)
walk_to size n s h =
    let t = walk_to_from size (far_of size n) s (far_lt size n (omega (arith, h))) h in
    let within = t.1 in
    let e : t.0 + 8 - 8 ≡ t.0 = omega arith in
    (t.0 + 8, omega (arith, within), far_walk size n (t.0 + 8) (omega arith) ∙ ap (λ (k : ℕ). (far_of size n + k) % size) e ∙ t.2)

-- ---- how many are used

abbrev pub uses : ℕ → ℕ
uses x = cond (is_used x) 1 0

-- where each place is used, as many are used as there are places
full : (xs : List ℕ) → ((i : ℕ) → i < length xs → is_used (slot_at xs i) ≡ true) → length xs ≤ taken xs
full [] h = omega arith
full (x ∷ xs) h =
    let here : uses x ≡ 1 = ap (λ (b : Bool). cond b 1 0) (h 0 (omega arith)) in
    let rest : length xs ≤ taken xs = full xs (λ i lt. h (suc i) (omega (arith, lt))) in
    let sum : sum_by uses (x ∷ xs) ≡ uses x + sum_by uses xs = sum_by-cons uses x xs in
    omega (arith, here, rest, sum)

-- a walk through all places comes to an unused one
pub never_full : (xs : List ℕ) (node : Node) (n : ℕ) → taken xs < length xs → length xs + 8 ≤ n → AreUsed xs node n → ⊥
never_full xs node n room all used =
    let most = full xs (λ i lt. let t = walk_to (length xs) node i lt in subst (λ (j : ℕ). is_used (slot_at xs j) ≡ true) t.2 (used t.0 (let near = t.1 in omega (arith, all, near)))) in
    absurd (omega (arith, room, most))

-- ---- a slot is placed

-- the place that it is put at
abbrev place_of : List ℕ → Node → ℕ → ℕ
place_of old node k = walk (length old) node k

pub long_placed : (old new : List ℕ) (node : Node) (x : ℕ) → IsPlaced old node x new → length new ≡ length old
long_placed old new node x p = ap (λ (xs : List ℕ). length xs) p.is ∙ length-set old (place_of old node p.steps) x

pub at_place : (old new : List ℕ) (node : Node) (x d : ℕ) (p : IsPlaced old node x new) → get_or new (place_of old node p.steps) d ≡ x
at_place old new node x d p = ap (λ (xs : List ℕ). get_or xs (place_of old node p.steps) d) p.is
    ∙ get_or-set_same old (place_of old node p.steps) x d p.inside

pub elsewhere : (old new : List ℕ) (node : Node) (x d : ℕ) (p : IsPlaced old node x new) (i : ℕ) → i ≢ place_of old node p.steps → get_or new i d ≡ get_or old i d
elsewhere old new node x d p i apart = ap (λ (xs : List ℕ). get_or xs i d) p.is ∙ get_or-set_other old (place_of old node p.steps) i x d apart

pub true_or_false : (b : Bool) → b ≡ true → b ≡ false → ⊥
true_or_false b is isnt = absurd (let f : true ≡ false = sym is ∙ isnt in cc f)

used_stays : (old new : List ℕ) (node : Node) (x : ℕ) → IsPlaced old node x new → (i : ℕ) → is_used (slot_at old i) ≡ true → slot_at new i ≡ slot_at old i
used_stays old new node x p i used = elsewhere old new node x _ p i (λ here. true_or_false _ used (ap (λ (j : ℕ). is_used (slot_at old j)) here ∙ p.free))

walk_stays : (old new : List ℕ) (node : Node) (x : ℕ) → IsPlaced old node x new → (other : Node) (i : ℕ) → is_used (slot_on old other i) ≡ true → slot_on new other i ≡ slot_on old other i
walk_stays old new node x p other i used =
    ap (λ (n : ℕ). slot_at new (walk n other i)) (long_placed old new node x p) ∙ used_stays old new node x p (walk (length old) other i) used

are_used_still : (old new : List ℕ) (node : Node) (x : ℕ) → IsPlaced old node x new → (other : Node) (k : ℕ) → AreUsed old other k → AreUsed new other k
are_used_still old new node x p other k used i lt = ap is_used (walk_stays old new node x p other i (used i lt)) ∙ used i lt

-- what stood on its walk stands there still
pub on_walk_still : (old new : List ℕ) (node : Node) (x : ℕ) → IsPlaced old node x new → (other : Node) (y : ℕ) → is_used y ≡ true → IsOnWalk old other y → IsOnWalk new other y
on_walk_still old new node x p other y used (k, lt, is, are) =
    let long = long_placed old new node x p in
    let here : is_used (slot_on old other k) ≡ true = ap is_used is ∙ used in
    (k, omega (arith, lt, long), walk_stays old new node x p other k here ∙ is, are_used_still old new node x p other k are)

-- and so does the new slot
pub on_walk_now : (old new : List ℕ) (node : Node) (x : ℕ) → IsPlaced old node x new → IsOnWalk new node x
on_walk_now old new node x p =
    let long = long_placed old new node x p in
    let at : slot_on new node p.steps ≡ x = ap (λ (n : ℕ). slot_at new (walk n node p.steps)) long ∙ at_place old new node x _ p in
    (p.steps, (let within = p.within in omega (arith, long)), at, are_used_still old new node x p node p.steps p.used)

pub taken_placed : (old new : List ℕ) (node : Node) (x : ℕ) → is_used x ≡ true → IsPlaced old node x new → taken new ≡ taken old + 1
taken_placed old new node x used p =
    let at : ℕ = place_of old node p.steps in
    let sum : sum_by uses (set old at x) + uses (slot_at old at) ≡ sum_by uses old + uses x = sum_by-set uses old at x _ p.inside in
    let free : uses (slot_at old at) ≡ 0 = ap (λ (b : Bool). cond b 1 0) p.free in
    let one : uses x ≡ 1 = ap (λ (b : Bool). cond b 1 0) used in
    let is : sum_by uses new ≡ sum_by uses (set old at x) = ap (λ (xs : List ℕ). sum_by uses xs) p.is in
    omega (arith, sum, free, one, is)

-- ---- a walk from place to place

pub begins : (xs : List ℕ) (node : Node) (at : ℕ) → at ≡ near_of (length xs) node → at < length xs → IsAt xs node 0 at
begins xs node at is inside = record {
  is = is ∙ walk_first (length xs) node (subst (λ (j : ℕ). j < length xs) is inside);
  inside = inside;
  used = λ i lt. absurd (omega arith);
}

-- what stands at the place that the walk has come to
slot_here : (xs : List ℕ) (node : Node) (n at d : ℕ) → IsAt xs node n at → slot_on xs node n ≡ get_or xs at d
slot_here xs node n at d here = ap (λ (j : ℕ). slot_at xs j) (sym here.is) ∙ get_or_default xs at _ d here.inside

pub goes_on : (xs : List ℕ) (node : Node) (n at next d : ℕ) → IsAt xs node n at → is_used (get_or xs at d) ≡ true → next ≡ walk (length xs) node (n + 1) → next < length xs
    → IsAt xs node (n + 1) next
goes_on xs node n at next d here used is inside = record {
  is = is;
  inside = inside;
  used = λ i lt. dite (ℕ_discrete i n)
      (λ same. ap is_used (ap (λ (j : ℕ). slot_on xs node j) same ∙ slot_here xs node n at d here) ∙ used)
      (λ apart. here.used i (lt_of_le i n (omega arith) apart));
}

pub placed : (xs : List ℕ) (node : Node) (x d n at : ℕ) → IsAt xs node n at → n < length xs + 8 → is_used (get_or xs at d) ≡ false → IsPlaced xs node x (set xs at x)
placed xs node x d n at here lt free = record {
  steps = n;
  within = lt;
  inside = subst (λ (j : ℕ). j < length xs) here.is here.inside;
  used = here.used;
  free = ap is_used (slot_here xs node n at d here) ∙ free;
  is = ap (λ (j : ℕ). set xs j x) here.is;
}

-- ---- a search

-- one more slot is not that of the node
pub passes_on : (nodes : List Node) (xs : List ℕ) (node : Node) (n at d : ℕ) → IsAt xs node n at → IsPassed nodes xs node n
    → ((r : Ref) → get_or xs at d ≡ slot_of (hash_of node) r → plain_held nodes r ≡ Some node → ⊥) → IsPassed nodes xs node (n + 1)
passes_on nodes xs node n at d here before apart i lt r is held = dite (ℕ_discrete i n)
    (λ same. apart r (sym (ap (λ (j : ℕ). slot_on xs node j) same ∙ slot_here xs node n at d here) ∙ is) held)
    (λ other. before i (lt_of_le i n (omega arith) other) r is held)

-- an unused place ends the search
pub not_behind : (nodes : List Node) (xs : List ℕ) (node : Node) (n at d : ℕ) → IsAt xs node n at → IsPassed nodes xs node n
    → is_used (get_or xs at d) ≡ false → (r : Ref) → is_used (slot_of (hash_of node) r) ≡ true → IsOnWalk xs node (slot_of (hash_of node) r) → plain_held nodes r ≡ Some node → ⊥
not_behind nodes xs node n at d here before free r used (k, lt, is, are) held =
    let unused : is_used (slot_on xs node n) ≡ false = ap is_used (slot_here xs node n at d here) ∙ free in
    dite (dec_le (suc n) k)
    (λ behind. true_or_false _ (are n behind) unused)
    (λ no. dite (ℕ_discrete k n)
    (λ same. true_or_false _ (ap (λ (j : ℕ). is_used (slot_on xs node j)) (sym same) ∙ ap is_used is ∙ used) unused)
    (λ other. let le : k < suc n = lt_of_not-le no in before k (lt_of_le k n (omega (arith, le)) other) r is held))

-- and so does the end of the walk
pub not_on : (nodes : List Node) (xs : List ℕ) (node : Node) (n : ℕ) → length xs + 8 ≤ n → IsPassed nodes xs node n
    → (r : Ref) → IsOnWalk xs node (slot_of (hash_of node) r) → plain_held nodes r ≡ Some node → ⊥
not_on nodes xs node n all before r (k, lt, is, are) held = before k (omega (arith, lt)) r is held
