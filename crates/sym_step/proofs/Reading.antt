-- Which gates and latches look at a net, and marks for those that are due.
use Rattle.std.proofs.Common.{◌≡◌, ◌≢◌, ℕ, suc, ◌+◌, ◌-◌, ◌<◌, ◌≤◌, Bool, true, false, List, [], ◌++◌, length, map, take, get_or, set, refl, sym, ◌∙◌, ap, subst, arith, eqb, inl, inr, All, length-set, get_or-set_same, get_or-set_other}
use Rattle.std.specs.Prelude.{AllPairs, IsTrue}
use Rattle.std.specs.List.{list_any}
use Rattle.std.proofs.lemmas.Bool.{eqb-true}
use Rattle.std.proofs.lemmas.Bool.Decides.{Decides-eqb}
use Rattle.std.proofs.lemmas.List.Folds.{Any-from_list_any}
use Rattle.std.proofs.lemmas.Map.Made.{IsDistinct-from_AllPairs}
use Rattle.std.proofs.lemmas.Map.Steps.{length-le_from_distinct_below}
use Rattle.std.proofs.lemmas.Bool.{cases_eq, cases_lt, false≢true}
use Rattle.std.proofs.lemmas.List.{get_or-append_right, get_or-map, get_or_append_left, get_or_default, length-append, length-map}
use Rattle.std.proofs.lemmas.List.Elements.{All-more}
use Rattle.ste_base.specs.declared.id.NodeId.{NodeId}
use Rattle.net_core.specs.declared.raw.Gate.{Gate}
use Rattle.net_core.specs.declared.raw.Init.TheVariants.{Zero}
use Rattle.net_core.specs.declared.raw.Latch.{Latch}
use Rattle.net_core.specs.declared.raw.RawNet.{RawNet}
use Rattle.std.specs.Global.{Vec}
use Rattle.net_core.specs.Flat.{HasOneDriver, IsInRange, IsSettledOrder}
use Rattle.sym_step.specs.declared.board.Board.{Board}
use Rattle.sym_step.specs.declared.marks.Marks.{Marks}
use Rattle.gate_sets.specs.declared.net_rails.NetRails.{NetRails}
use Rattle.sym_step.specs.private.Boards.{AreFull, Follows}
use Rattle.gate_sets.specs.NetSets.{net_at}
use Rattle.sym_step.specs.declared.readers.Readers.{Readers}
use Rattle.sym_step.specs.declared.readers.Slot.{Slot}
use Rattle.sym_step.specs.private.Readers.{AreAdded, AreMarked, IsBetween, IsNotMet, IsOnChain, Lists, ReadsAs, flag_at, head_of, slot_of, spot}
use Rattle.sym_step.proofs.Chains.{also_on, first_on, next_met, still_on, with_slot}

-- ---- marks

-- one more of a list is marked
pub marked_more : {X : Type 0} (Left : ℕ → X → Type 0) (xs : List X) (i : ℕ) (d : X) (a b c : List Bool) → i < length xs → length b ≡ length a → AreMarked (λ k. All (Left k) (take i xs)) a b → AreMarked (λ k. Left k (get_or xs i d)) b c
    → AreMarked (λ k. All (Left k) (take (i + 1) xs)) a c
marked_more Left xs i d a b c lt long early late k inside none =
    let q = late k (omega (arith, long, inside)) none in
    let p = early k inside q.0 in
    (p.0, All-more (Left k) xs i d lt p.1 q.1)

-- the number on one more slot of a chain is marked
pub marked_next : (slots : List Slot) (head n number : ℕ) (a b c : List Bool) → number ≡ (slot_of slots (spot slots head n)).number → length b ≡ length a → AreMarked (IsNotMet slots head n) a b → AreMarked (λ k. number ≢ k) b c
    → AreMarked (IsNotMet slots head (n + 1)) a c
marked_next slots head n number a b c is long early late k inside none =
    let q = late k (omega (arith, long, inside)) none in
    let p = early k inside q.0 in
    (p.0, next_met slots head n k number is p.1 q.1)

-- a mark that is written
pub marked_set : (old new : List Bool) (n : ℕ) → n < length old → new ≡ set old n true → AreMarked (λ k. n ≢ k) old new
marked_set old new n lt is k inside none = elim (cases_eq k n) [
  | inl here ↦ absurd (false≢true (sym none ∙ ap (λ (xs : List Bool). flag_at xs k) is ∙ ap (λ (i : ℕ). flag_at (set old n true) i) here ∙ get_or-set_same old n true false lt))
  | inr other ↦ (sym (get_or-set_other old n k true false other) ∙ sym (ap (λ (xs : List Bool). flag_at xs k) is) ∙ none, λ e. other (sym e))
]

-- ---- lists that grow

pub added_then : (a b c : Readers) → AreAdded a b → AreAdded b c → AreAdded a c
added_then a b c p q = record { long = q.long ∙ p.long; stay = λ id k h. q.stay id k (p.stay id k h) }

pub added_start : (a : Readers) → AreAdded a a
added_start a = record { long = refl; stay = λ id k h. h }

-- a number is added to the list of a net: a slot more, and the link to it
pub added_one : (old new : Readers) (id k link : ℕ) → id < length old.heads.items → link ≡ length old.slots.items + 1 → new.slots.items ≡ with_slot old.slots.items (head_of old id) k → new.heads.items ≡ set old.heads.items id link → AreAdded old new
added_one old new id k link lt is slots heads = record {
  long = ap length heads ∙ length-set old.heads.items id link;
  stay = λ other j h. subst (λ (xs : List Slot). IsOnChain xs (head_of new other) j) (sym slots) (elim (cases_eq other id) [
    | inl here ↦
        subst (λ (i : ℕ). IsOnChain (with_slot old.slots.items (head_of old id) k) i j)
        (sym (ap (λ (i : ℕ). head_of new i) here ∙ ap (λ (xs : List ℕ). get_or xs id 0) heads ∙ get_or-set_same old.heads.items id link 0 lt ∙ is ∙ one_more))
        (also_on old.slots.items (head_of old id) k j (subst (λ (i : ℕ). Lists old i j) here h))
    | inr away ↦
        subst (λ (i : ℕ). IsOnChain (with_slot old.slots.items (head_of old id) k) i j)
        (sym (ap (λ (xs : List ℕ). get_or xs other 0) heads ∙ get_or-set_other old.heads.items id other link 0 away))
        (still_on old.slots.items (record { number = k; next = head_of old id }) (head_of old other) j h)
  ]);
}
  where
    one_more : length old.slots.items + 1 ≡ suc (length old.slots.items)
    one_more = omega arith

pub here_one : (old new : Readers) (id k link : ℕ) → id < length old.heads.items → link ≡ length old.slots.items + 1 → new.slots.items ≡ with_slot old.slots.items (head_of old id) k → new.heads.items ≡ set old.heads.items id link → Lists new id k
here_one old new id k link lt is slots heads =
    subst (λ (xs : List Slot). IsOnChain xs (head_of new id) k) (sym slots)
    (subst (λ (i : ℕ). IsOnChain (with_slot old.slots.items (head_of old id) k) i k)
    (sym (ap (λ (xs : List ℕ). get_or xs id 0) heads ∙ get_or-set_same old.heads.items id link 0 lt ∙ is ∙ one_more))
    (first_on old.slots.items (head_of old id) k))
  where
    one_more : length old.slots.items + 1 ≡ suc (length old.slots.items)
    one_more = omega arith

pub all_stay : (old new : Readers) (ids : List NodeId) (k : ℕ) → AreAdded old new → All (λ node. Lists old node.0 k) ids → All (λ node. Lists new node.0 k) ids
all_stay old new ids k p h i d l = p.stay (get_or ids i d).0 k (h i d l)

pub reads_stay : (old new : Readers) (k : ℕ) (gate : Gate) → AreAdded old new → ReadsAs old k gate → ReadsAs new k gate
reads_stay old new k gate p h = record { inputs = all_stay old new gate.inputs k p h.inputs; output = p.stay gate.output.0 k h.output }

pub between_stays : (old new : Readers) (k : ℕ) (latch : Latch) → AreAdded old new → IsBetween old k latch → IsBetween new k latch
between_stays old new k latch p h = record { input = p.stay latch.input.0 k h.input; output = p.stay latch.output.0 k h.output }

-- the lists that one gate more has been added to
pub gates_next : (gates : List Gate) (old new : Readers) (n : ℕ) (gate : Gate) → n < length gates → gate ≡ get_or gates n gate → AreAdded old new → ((k : ℕ) (d : Gate) → k < n → ReadsAs old k (get_or gates k d)) → ReadsAs new n gate
    → (k : ℕ) (d : Gate) → k < n + 1 → ReadsAs new k (get_or gates k d)
gates_next gates old new n gate inside is p before here k d lt = elim (cases_lt k n) [
  | inl early ↦ reads_stay old new k (get_or gates k d) p (before k d early)
  | inr late ↦
      let e : n ≡ k = omega (arith, lt, late) in
      subst (λ (i : ℕ). ReadsAs new i (get_or gates i d)) e (subst (ReadsAs new n) (is ∙ get_or_default gates n gate d inside) here)
]

-- the lists that one latch more has been added to
pub between_next : (first : ℕ) (latches : List Latch) (old new : Readers) (n : ℕ) (latch : Latch) → n < length latches → latch ≡ get_or latches n latch → AreAdded old new → ((k : ℕ) (d : Latch) → k < n → IsBetween old (first + k) (get_or latches k d))
    → IsBetween new (first + n) latch → (k : ℕ) (d : Latch) → k < n + 1 → IsBetween new (first + k) (get_or latches k d)
between_next first latches old new n latch inside is p before here k d lt = elim (cases_lt k n) [
  | inl early ↦ between_stays old new (first + k) (get_or latches k d) p (before k d early)
  | inr late ↦
      let e : n ≡ k = omega (arith, lt, late) in
      subst (λ (i : ℕ). IsBetween new (first + i) (get_or latches i d)) e (subst (IsBetween new (first + n)) (is ∙ get_or_default latches n latch d inside) here)
]

-- ---- how many numbers there are

-- as many gates and latches as nets at most
module _ (net : RawNet) (range : IsInRange net) (one : HasOneDriver net) where
  no_gate : Gate
  no_gate = record { inputs = []; output = record { 0 = 0 }; cover = 0 }

  no_latch : Latch
  no_latch = record { input = record { 0 = 0 }; output = record { 0 = 0 }; init = Zero }

  abbrev of_gates : List ℕ
  of_gates = map (λ (gate : Gate). gate.output.0) net.gates

  abbrev of_latches : List ℕ
  of_latches = map (λ (latch : Latch). latch.output.0) net.latches

  -- the nets that gates and latches drive
  abbrev drivens : List ℕ
  drivens = of_gates ++ of_latches

  count : length drivens ≡ length net.gates + length net.latches
  count =
      let e = length-append of_gates of_latches in
      let g = length-map net.gates (λ (gate : Gate). gate.output.0) in
      let l = length-map net.latches (λ (latch : Latch). latch.output.0) in
      omega (arith, e, g, l)

  at_gate : (i e : ℕ) → i < length net.gates → get_or drivens i e ≡ (get_or net.gates i no_gate).output.0
  at_gate i e lt =
      get_or_append_left of_gates of_latches e i (let g = length-map net.gates (λ (gate : Gate). gate.output.0) in omega (arith, g, lt))
      ∙ get_or-map (λ (gate : Gate). gate.output.0) net.gates i no_gate e lt

  at_latch : (i e : ℕ) → length net.gates ≤ i → i < length drivens → get_or drivens i e ≡ (get_or net.latches (i - length net.gates) no_latch).output.0
  at_latch i e le lt =
      get_or-append_right of_gates of_latches (length net.gates) i e (length-map net.gates (λ (gate : Gate). gate.output.0)) le
      ∙ get_or-map (λ (latch : Latch). latch.output.0) net.latches (i - length net.gates) no_latch e (omega (arith, count, le, lt))

  apart : AllPairs (λ (x y : ℕ). x ≢ y) drivens
  apart i j e less inside same = elim (cases_lt j (length net.gates)) [
    | inl both ↦ one.gates i j no_gate less both (sym (at_gate i e (omega (arith, less, both))) ∙ same ∙ at_gate j e both)
    | inr late ↦ elim (cases_lt i (length net.gates)) [
      | inl early ↦ one.apart (j - length net.gates) no_latch (omega (arith, count, inside, late)) i no_gate early (sym (at_gate i e early) ∙ same ∙ at_latch j e (omega (arith, late)) inside)
      | inr none ↦
          one.latches (i - length net.gates) (j - length net.gates) no_latch (omega (arith, less, none)) (omega (arith, count, inside, late))
          (sym (at_latch i e (omega (arith, none)) (omega (arith, less, inside))) ∙ same ∙ at_latch j e (omega (arith, late)) inside)
    ]
  ]

  below : (i e : ℕ) → i < length drivens → get_or drivens i e < net.nets
  below i e lt = elim (cases_lt i (length net.gates)) [
    | inl early ↦ subst (λ (n : ℕ). n < net.nets) (sym (at_gate i e early)) (range.gate_outputs i no_gate early)
    | inr late ↦ subst (λ (n : ℕ). n < net.nets) (sym (at_latch i e (omega (arith, late)) lt)) (range.latch_outputs (i - length net.gates) no_latch (omega (arith, count, lt, late)))
  ]

  pub few_numbers : length net.gates + length net.latches ≤ net.nets
  few_numbers =
      let small : (q : ℕ) → list_any (eqb q) drivens ≡ true → q < net.nets = λ q h.
      let any = Any-from_list_any (eqb q) drivens h in
      let low = below any.0 any.1 any.2 in
      omega (arith, low, any.3, eqb-true q any.1 any.4) in
      let few = length-le_from_distinct_below drivens net.nets (IsDistinct-from_AllPairs Decides-eqb drivens apart) small in
      omega (arith, few, count)

-- ---- one net is written

full_put : (nets : List NetRails) (id : ℕ) (r : NetRails) → id < length nets → r.some ≡ record { 0 = 1 } → AreFull nets → AreFull (set nets id r)
full_put nets id r lt some full k d l = elim (cases_eq k id) [
  | inl here ↦ ap (λ (x : NetRails). x.some) (ap (λ (i : ℕ). get_or (set nets id r) i d) here ∙ get_or-set_same nets id r d lt) ∙ some
  | inr other ↦ ap (λ (x : NetRails). x.some) (get_or-set_other nets id k r d other) ∙ full k d (let n = length-set nets id r in omega (arith, n, l))
]

-- the board with one net written, where the gates in its list are marked
pub follows_marked : (old new : Board) (id : ℕ) (r : NetRails) → id < length old.nets.items → new.nets.items ≡ set old.nets.items id r → new.due.order ≡ old.due.order → new.readers ≡ old.readers → length new.due.flags.items ≡ length old.due.flags.items
    → (IsTrue new.full → IsTrue old.full × (r.some ≡ record { 0 = 1 }))
    → AreMarked (λ k. ¬ Lists old.readers id k) old.due.flags.items new.due.flags.items → Follows old new
follows_marked old new id r lt is order readers marks full marked = record {
  long = ap length is ∙ length-set old.nets.items id r;
  marks = marks;
  order = order;
  readers = readers;
  full = λ before yes. let both = full yes in subst AreFull (sym is) (full_put old.nets.items id r lt both.1 (before both.0));
  noted = λ k inside none.
      let p = marked k inside none in (
        p.0,
        λ other h. elim (cases_eq other id) [
          | inl here ↦ absurd (p.1 (subst (λ (i : ℕ). Lists old.readers i k) here h))
          | inr away ↦ ap (λ (xs : List NetRails). net_at xs other) is ∙ get_or-set_other old.nets.items id other r _ away
        ],
      );
}

-- the board with one net written, which had this set
pub follows_same : (old new : Board) (id : ℕ) (r : NetRails) → id < length old.nets.items → new.nets.items ≡ set old.nets.items id r → new.readers ≡ old.readers → new.due ≡ old.due
    → (IsTrue new.full → IsTrue old.full × (r.some ≡ record { 0 = 1 })) → ((d : NetRails) → r ≡ get_or old.nets.items id d) → Follows old new
follows_same old new id r lt is readers due full same = record {
  long = ap length is ∙ length-set old.nets.items id r;
  marks = ap (λ (d : Marks). length d.flags.items) due;
  order = ap (λ (d : Marks). d.order) due;
  readers = readers;
  full = λ before yes. let both = full yes in subst AreFull (sym is) (full_put old.nets.items id r lt both.1 (before both.0));
  noted = λ k inside none. (
    sym (ap (λ (d : Marks). flag_at d.flags.items k) due) ∙ none,
    λ other h. elim (cases_eq other id) [
      | inl here ↦ ap (λ (xs : List NetRails). net_at xs other) is ∙ ap (λ (i : ℕ). net_at (set old.nets.items id r) i) here ∙ get_or-set_same old.nets.items id r _ lt ∙ same _ ∙ ap (λ (i : ℕ). net_at old.nets.items i) (sym here)
      | inr away ↦ ap (λ (xs : List NetRails). net_at xs other) is ∙ get_or-set_other old.nets.items id other r _ away
    ],
  );
}

pub follows_start : (board : Board) → Follows board board
follows_start board = record { long = refl; marks = refl; order = refl; readers = refl; full = λ h. h; noted = λ k inside none. (none, λ id h. refl) }

pub follows_then : (a b c : Board) → Follows a b → Follows b c → Follows a c
follows_then a b c p q = record {
  long = q.long ∙ p.long;
  marks = q.marks ∙ p.marks;
  order = q.order ∙ p.order;
  readers = q.readers ∙ p.readers;
  full = λ h. q.full (p.full h);
  noted = λ k inside none.
      let late = q.noted k (let m = p.marks in omega (arith, m, inside)) none in
      let early = p.noted k inside late.0 in
      (early.0, λ id h. late.1 id (subst (λ r. Lists r id k) (sym p.readers) h) ∙ early.1 id h);
}

-- the order stays a settled one
pub order_then : (a b : Board) (net : RawNet) → Follows a b → IsSettledOrder net a.due.order.items → IsSettledOrder net b.due.order.items
order_then a b net p h = subst (λ (v : Vec ℕ). IsSettledOrder net v.items) (sym p.order) h
