-- The functions of the results give the findings, assignment by assignment.
use Rattle.std.proofs.Common.{◌≡◌, ℕ, ◌<◌, zero, suc, Bool, true, false, not, List, [], ◌∷◌, map, filter, length, get_or, arith, sym, ap, refl, subst, ◌∙◌, inl, inr}
use Rattle.std.specs.Prelude.{Any, IsTrue, ◌↔◌, ◌&&◌, ◌||◌, if◌then◌else◌}
use Rattle.std.specs.List.{list_any}
use Rattle.std.proofs.lemmas.Bool.{and_parts, and_from, not-true, not_from_false, both_ways, or_cases, or_left, or_right}
use Rattle.std.proofs.lemmas.List.Folds.{list_any-append}
use Rattle.std.proofs.lemmas.Bool.{cases_lt}
use Rattle.std.proofs.lemmas.List.{map-append}
use Rattle.bool_expr.specs.Value.{value_of}
use Rattle.net_core.specs.declared.bit_set.BitSet.{BitSet}
use Rattle.net_core.specs.declared.raw.RawNet.{RawNet}
use Rattle.net_core.specs.Run.{Cut, IsSettled}
use Rattle.net_core.specs.Sets.{both, neither, only}
use Rattle.ste_base.specs.Functions.{Function}
use Rattle.net_core.specs.Work.{SymbolicSet, SymbolicCut, set_at, conjunction, disjunction, never, whole, sum, no_bit, some_empty, sets_below}
use Rattle.ste_model.specs.declared.task.Assertion.{Assertion}
use Rattle.ste_model.specs.declared.task.Quint.{Quint}
use Rattle.ste_model.specs.Asked.{asked_at, cuts_at, quint_at, depth}
use Rattle.ste_model.specs.Found.{IsTableOf, IsEmptySomewhere, IsContradictory, IsFound, IsStrong}
use Rattle.ste_model.specs.Need.{IsWholeTable, ResultsAreFindings}
use Rattle.ste_model.specs.Work.{over_times, all_empty, symbolic_cut, symbolic_cuts_at, has_time, refutes, both_bits, contradictory_where, strong_where, unsure_where}
use Rattle.ste_model.proofs.Tables.{same_table}
use Rattle.ste_model.proofs.Findings.{found_in}

-- ---- sums

whole_either : (f : Function) (fs : List Function) (bits : List Bool) → whole disjunction f fs bits ≡ (f bits || list_any (λ g. g bits) fs)
whole_either f [] bits = by (f bits)
  where
    by : (b : Bool) → b ≡ (b || false)
    by true = refl
    by false = refl
whole_either f (g ∷ gs) bits = whole_either (disjunction f g) gs bits ∙ by (f bits) (g bits) (list_any (λ h. h bits) gs)
  where
    by : (a b c : Bool) → ((a || b) || c) ≡ (a || (b || c))
    by true b c = refl
    by false b c = refl

sum_any : (fs : List Function) (bits : List Bool) → sum fs bits ≡ list_any (λ g. g bits) fs
sum_any fs bits = whole_either never fs bits

any_through : (f : ℕ → List Function) (n : ℕ) (bits : List Bool) → list_any (λ g. g bits) (over_times f n) ≡ true → (t : ℕ) × (t < n) × (list_any (λ g. g bits) (f t) ≡ true)
any_through f zero bits h = absurd (cc h)
any_through f (suc n) bits h = elim (or_cases (list_any (λ g. g bits) (over_times f n)) (list_any (λ g. g bits) (f n)) (sym (list_any-append (λ g. g bits) (over_times f n) (f n)) ∙ h)) [
  | inl early ↦ let e = any_through f n bits early in (e.0, let l = e.1 in omega arith, e.2)
  | inr last ↦ (n, omega arith, last)
]

through_at : (f : ℕ → List Function) (n t : ℕ) (bits : List Bool) → t < n → list_any (λ g. g bits) (f t) ≡ true → list_any (λ g. g bits) (over_times f n) ≡ true
through_at f zero t bits lt h = absurd (omega arith)
through_at f (suc n) t bits lt h = list_any-append (λ g. g bits) (over_times f n) (f n) ∙ elim (cases_lt t n) [
  | inl early ↦ or_left (list_any (λ g. g bits) (over_times f n)) (list_any (λ g. g bits) (f n)) (through_at f n t bits early h)
  | inr late ↦ let e : t ≡ n = omega arith in or_right (list_any (λ g. g bits) (over_times f n)) (list_any (λ g. g bits) (f n)) (subst (λ (k : ℕ). list_any (λ g. g bits) (f k) ≡ true) e h)
]

-- ---- empty sets

empty_is : (w : SymbolicSet) (bits : List Bool) → IsTrue (no_bit w bits) ↔ (set_at bits w ≡ neither)
empty_is w bits = by (w.zero bits) (w.one bits)
  where
    by : (z o : Bool) → IsTrue (not (z || o)) ↔ (record { zero = z; one = o } ≡ neither)
    by false false = (λ h. refl, λ e. refl)
    by true o = (λ h. absurd (cc h), λ e. absurd (let f : true ≡ false = ap (λ (s : BitSet). s.zero) e in cc f))
    by false true = (λ h. absurd (cc h), λ e. absurd (let f : true ≡ false = ap (λ (s : BitSet). s.one) e in cc f))

any_empty : (sets : ℕ → SymbolicSet) (n : ℕ) (bits : List Bool) → list_any (λ g. g bits) (map no_bit (sets_below sets n)) ≡ true → (id : ℕ) × (id < n) × (set_at bits (sets id) ≡ neither)
any_empty sets zero bits h = absurd (cc h)
any_empty sets (suc n) bits h = elim (or_cases (list_any (λ g. g bits) (map no_bit (sets_below sets n))) (no_bit (sets n) bits || false) (sym (map_append sets n bits) ∙ h)) [
  | inl early ↦ let e = any_empty sets n bits early in (e.0, let l = e.1 in omega arith, e.2)
  | inr last ↦ (n, omega arith, (empty_is (sets n) bits).0 (no_false (no_bit (sets n) bits) last))
]
  where
    no_false : (b : Bool) → (b || false) ≡ true → b ≡ true
    no_false true e = refl
    no_false false e = e

    map_append : (s : ℕ → SymbolicSet) (k : ℕ) (bs : List Bool) → list_any (λ g. g bs) (map no_bit (sets_below s (suc k))) ≡ (list_any (λ g. g bs) (map no_bit (sets_below s k)) || (no_bit (s k) bs || false))
    map_append s k bs = ap (λ (fs : List Function). list_any (λ g. g bs) fs) (map-append no_bit (sets_below s k) (s k ∷ [])) ∙ list_any-append (λ g. g bs) (map no_bit (sets_below s k)) (no_bit (s k) ∷ [])

empty_at : (sets : ℕ → SymbolicSet) (n id : ℕ) (bits : List Bool) → id < n → set_at bits (sets id) ≡ neither → list_any (λ g. g bits) (map no_bit (sets_below sets n)) ≡ true
empty_at sets zero id bits lt e = absurd (omega arith)
empty_at sets (suc n) id bits lt e =
    ap (λ (fs : List Function). list_any (λ g. g bits) fs) (map-append no_bit (sets_below sets n) (sets n ∷ [])) ∙ list_any-append (λ g. g bits) (map no_bit (sets_below sets n)) (no_bit (sets n) ∷ [])
    ∙ elim (cases_lt id n) [
      | inl early ↦ or_left (list_any (λ g. g bits) (map no_bit (sets_below sets n))) (no_bit (sets n) bits || false) (empty_at sets n id bits early e)
      | inr late ↦ let same : id ≡ n = omega arith in or_right (list_any (λ g. g bits) (map no_bit (sets_below sets n))) (no_bit (sets n) bits || false)
          (or_left (no_bit (sets n) bits) false ((empty_is (sets n) bits).1 (subst (λ (k : ℕ). set_at bits (sets k) ≡ neither) same e)))
    ]

-- ---- consequents

strong_bits : (z o x : Bool) → IsTrue ((x && (z && not o)) || (not x && (o && not z))) ↔ (record { zero = z; one = o } ≡ only (not x))
strong_bits true false true = (λ h. refl, λ e. refl)
strong_bits false true false = (λ h. refl, λ e. refl)
strong_bits true true true = (λ h. absurd (cc h), λ e. absurd (let f : true ≡ false = ap (λ (s : BitSet). s.one) e in cc f))
strong_bits true true false = (λ h. absurd (cc h), λ e. absurd (let f : true ≡ false = ap (λ (s : BitSet). s.zero) e in cc f))
strong_bits true false false = (λ h. absurd (cc h), λ e. absurd (let f : true ≡ false = ap (λ (s : BitSet). s.zero) e in cc f))
strong_bits false true true = (λ h. absurd (cc h), λ e. absurd (let f : true ≡ false = ap (λ (s : BitSet). s.one) e in cc f))
strong_bits false false true = (λ h. absurd (cc h), λ e. absurd (let f : false ≡ true = ap (λ (s : BitSet). s.zero) e in cc f))
strong_bits false false false = (λ h. absurd (cc h), λ e. absurd (let f : false ≡ true = ap (λ (s : BitSet). s.one) e in cc f))

weak_bits : (z o : Bool) → IsTrue (z && o) ↔ (record { zero = z; one = o } ≡ both)
weak_bits true true = (λ h. refl, λ e. refl)
weak_bits true false = (λ h. absurd (cc h), λ e. absurd (let f : false ≡ true = ap (λ (s : BitSet). s.one) e in cc f))
weak_bits false o = (λ h. absurd (cc h), λ e. absurd (let f : false ≡ true = ap (λ (s : BitSet). s.zero) e in cc f))

-- a finding by a function: what it says of a set, and what it is by its name
module _ (finds : SymbolicSet → Function → Function) (Says : BitSet → Bool → Type 0) (bits : List Bool) (is : (w : SymbolicSet) (x : Function) → IsTrue (finds w x bits) ↔ Says (set_at bits w) (x bits)) where
  abbrev pub found_by : (ℕ → SymbolicSet) → List SymbolicCut → List Function
  found_by sets ds = map (λ (d : SymbolicCut). conjunction d.guard (finds (sets d.node) d.value)) ds

  -- what is found among the quintuples that run is what is found among all, which apply only where they run
  any_found : (sets : ℕ → SymbolicSet) (quints : List Quint) (t : ℕ) → list_any (λ g. g bits) (found_by sets (symbolic_cuts_at quints t)) ≡ true → Any (λ cut. IsTrue cut.on × Says (set_at bits (sets cut.node)) cut.value) (cuts_at quints bits t)
  any_found sets [] t h = absurd (cc h)
  any_found sets (q ∷ quints) t h = by (has_time t q) refl h (any_found sets quints t)
    where
      later : Any (λ cut. IsTrue cut.on × Says (set_at bits (sets cut.node)) cut.value) (cuts_at quints bits t) → Any (λ cut. IsTrue cut.on × Says (set_at bits (sets cut.node)) cut.value) (cuts_at (q ∷ quints) bits t)
      later any = (suc any.0, any.1, let l = any.2 in omega arith, any.3, any.4)

      by : (b : Bool) → has_time t q ≡ b → list_any (λ g. g bits) (map (λ (d : SymbolicCut). conjunction d.guard (finds (sets d.node) d.value)) (map symbolic_cut (if b then q ∷ filter (has_time t) quints else filter (has_time t) quints))) ≡ true
          → (list_any (λ g. g bits) (map (λ (d : SymbolicCut). conjunction d.guard (finds (sets d.node) d.value)) (map symbolic_cut (filter (has_time t) quints))) ≡ true → Any (λ cut. IsTrue cut.on × Says (set_at bits (sets cut.node)) cut.value) (cuts_at quints bits t))
          → Any (λ cut. IsTrue cut.on × Says (set_at bits (sets cut.node)) cut.value) (cuts_at (q ∷ quints) bits t)
      by true runs h rest = elim (or_cases (value_of q.guard bits && finds (sets q.node.0) (value_of q.value) bits) (list_any (λ g. g bits) (map (λ (d : SymbolicCut). conjunction d.guard (finds (sets d.node) d.value)) (map symbolic_cut (filter (has_time t) quints)))) h) [
        | inl now ↦ let p = and_parts (value_of q.guard bits) (finds (sets q.node.0) (value_of q.value) bits) now in
            (0, quint_at bits t q, omega arith, refl, (and_from (value_of q.guard bits) (has_time t q) p.0 runs, (is (sets q.node.0) (value_of q.value)).0 p.1))
        | inr other ↦ later (rest other)
      ]
      by false runs h rest = later (rest h)

  found_any : (sets : ℕ → SymbolicSet) (quints : List Quint) (t k : ℕ) (x : Cut) → k < length (cuts_at quints bits t) → get_or (cuts_at quints bits t) k x ≡ x → IsTrue x.on × Says (set_at bits (sets x.node)) x.value → list_any (λ g. g bits) (found_by sets (symbolic_cuts_at quints t)) ≡ true
  found_any sets [] t k x lt e h = absurd (omega arith)
  found_any sets (q ∷ quints) t zero x lt e h =
      let h' : IsTrue (value_of q.guard bits && has_time t q) × Says (set_at bits (sets q.node.0)) (value_of q.value bits) = subst (λ (c : Cut). IsTrue c.on × Says (set_at bits (sets c.node)) c.value) (sym e) h in
      let p = and_parts (value_of q.guard bits) (has_time t q) h'.0 in
      by (has_time t q) p.1 (and_from (value_of q.guard bits) (finds (sets q.node.0) (value_of q.value) bits) p.0 ((is (sets q.node.0) (value_of q.value)).1 h'.1))
    where
      by : (b : Bool) → b ≡ true → (value_of q.guard bits && finds (sets q.node.0) (value_of q.value) bits) ≡ true
          → list_any (λ g. g bits) (map (λ (d : SymbolicCut). conjunction d.guard (finds (sets d.node) d.value)) (map symbolic_cut (if b then q ∷ filter (has_time t) quints else filter (has_time t) quints))) ≡ true
      by true runs h = or_left (value_of q.guard bits && finds (sets q.node.0) (value_of q.value) bits) (list_any (λ g. g bits) (map (λ (d : SymbolicCut). conjunction d.guard (finds (sets d.node) d.value)) (map symbolic_cut (filter (has_time t) quints)))) h
      by false runs h = absurd (cc runs)
  found_any sets (q ∷ quints) t (suc k) x lt e h = by (has_time t q) (found_any sets quints t k x (omega arith) e h)
    where
      by : (b : Bool) → list_any (λ g. g bits) (map (λ (d : SymbolicCut). conjunction d.guard (finds (sets d.node) d.value)) (map symbolic_cut (filter (has_time t) quints))) ≡ true
          → list_any (λ g. g bits) (map (λ (d : SymbolicCut). conjunction d.guard (finds (sets d.node) d.value)) (map symbolic_cut (if b then q ∷ filter (has_time t) quints else filter (has_time t) quints))) ≡ true
      by true h = or_right (value_of q.guard bits && finds (sets q.node.0) (value_of q.value) bits) (list_any (λ g. g bits) (map (λ (d : SymbolicCut). conjunction d.guard (finds (sets d.node) d.value)) (map symbolic_cut (filter (has_time t) quints)))) h
      by false h = h

-- ---- results

module _ (net : RawNet) (vars : ℕ) (task : Assertion) (table : ℕ → ℕ → SymbolicSet) (settled : IsSettled net) (whole_table : IsWholeTable net vars task table) (bits : List Bool) (long : length bits ≡ vars) where
  abbrev pub here : ℕ → ℕ → BitSet
  here t id = set_at bits (table t id)

  is_table : IsTableOf net task bits here
  is_table = whole_table bits long

  empty_found : contradictory_where net task table bits ≡ true → IsEmptySomewhere net task here
  empty_found h =
      let e = any_through (λ t. some_empty net (table t) ∷ []) (depth task) bits (sym (sum_any (all_empty net task table) bits) ∙ h) in
      let f : some_empty net (table e.0) bits ≡ true = no_false (some_empty net (table e.0) bits) e.2 in
      let g = any_empty (table e.0) net.nets bits (sym (sum_any (map no_bit (sets_below (table e.0) net.nets)) bits) ∙ f) in
      (e.0, e.1, (g.0, g.1, g.2))
    where
      no_false : (b : Bool) → (b || false) ≡ true → b ≡ true
      no_false true e = refl
      no_false false e = e

  found_empty : IsEmptySomewhere net task here → contradictory_where net task table bits ≡ true
  found_empty (t, lt, (id, inside, e)) =
      sum_any (all_empty net task table) bits ∙ through_at (λ k. some_empty net (table k) ∷ []) (depth task) t bits lt
      (or_left (some_empty net (table t) bits) false (sum_any (map no_bit (sets_below (table t) net.nets)) bits ∙ empty_at (table t) net.nets id bits inside e))

  pub contradictory_is : IsTrue (contradictory_where net task table bits) ↔ IsContradictory net task bits
  contradictory_is = (
    λ h. (here, is_table, empty_found h),
    λ found.
        let empty = found.2 in
        let same = same_table net task.reset (asked_at task bits) (depth task) settled found.0 here found.1 is_table empty.0 empty.2.0 empty.1 in
        found_empty (empty.0, empty.1, (empty.2.0, empty.2.1, sym same ∙ empty.2.2)),
  )

  -- a finding, whichever it is
  module _ (finds : SymbolicSet → Function → Function) (Says : BitSet → Bool → Type 0) (is : (w : SymbolicSet) (x : Function) → IsTrue (finds w x bits) ↔ Says (set_at bits w) (x bits)) where
    pub finding_is : IsTrue (sum (over_times (λ t. found_by finds Says bits is (table t) (symbolic_cuts_at task.con t)) (depth task)) bits && not (contradictory_where net task table bits)) ↔ IsFound (λ sets cut. IsTrue cut.on × Says (sets cut.node) cut.value) net task bits
    finding_is = (
      λ h.
          let p = and_parts (sum fs bits) (not (contradictory_where net task table bits)) h in
          let e = any_through at_time (depth task) bits (sym (sum_any fs bits) ∙ p.0) in (
            here,
            is_table,
            λ empty. both_ways (contradictory_where net task table bits) (not-true (contradictory_where net task table bits) p.1) (found_empty empty),
            (e.0, e.1, any_found finds Says bits is (table e.0) task.con e.0 e.2),
          ),
      λ found.
          let f = found_in (λ set cut. IsTrue cut.on × Says set cut.value) net task bits settled here is_table found in
          let any = f.1.2 in
          and_from (sum fs bits) (not (contradictory_where net task table bits))
          (sum_any fs bits ∙ through_at at_time (depth task) f.1.0 bits f.1.1 (found_any finds Says bits is (table f.1.0) task.con f.1.0 any.0 any.1 any.2 any.3 any.4))
          (not_from_false (contradictory_where net task table bits) (not_contradictory (contradictory_where net task table bits) refl f.0)),
    )
      where
        at_time : ℕ → List Function
        at_time t = found_by finds Says bits is (table t) (symbolic_cuts_at task.con t)

        fs : List Function
        fs = over_times at_time (depth task)

        not_contradictory : (b : Bool) → contradictory_where net task table bits ≡ b → ¬ IsEmptySomewhere net task here → contradictory_where net task table bits ≡ false
        not_contradictory true e none = absurd (none (empty_found e))
        not_contradictory false e none = e

is_false : (b : Bool) → (b ≡ true → ⊥) → b ≡ false
is_false true h = absurd (h refl)
is_false false h = refl

pub results_are_findings : ResultsAreFindings
results_are_findings = record {
  contradictory = contradictory_is;
  strong = λ net vars task table settled whole bits long. strong net vars task table settled whole bits long;
  weak = λ net vars task table settled whole bits long.
      let s = strong net vars task table settled whole bits long in
      let w = finding_is net vars task table settled whole bits long (λ w x. both_bits w) (λ set v. set ≡ both) (λ w x. weak_bits (w.zero bits) (w.one bits)) in (
        λ h. let p = and_parts (unsure_where net task table bits) (not (strong_where net task table bits)) h in
            (λ is. both_ways (strong_where net task table bits) (not-true (strong_where net task table bits) p.1) (s.1 is), w.0 p.0),
        λ h. and_from (unsure_where net task table bits) (not (strong_where net task table bits)) (w.1 h.1) (not_from_false (strong_where net task table bits) (is_false (strong_where net task table bits) (λ e. h.0 (s.0 e)))),
      );
}
  where
    strong : (net : RawNet) (vars : ℕ) (task : Assertion) (table : ℕ → ℕ → SymbolicSet) → IsSettled net → IsWholeTable net vars task table → (bits : List Bool) → length bits ≡ vars → IsTrue (strong_where net task table bits) ↔ IsStrong net task bits
    strong net vars task table settled whole bits long = finding_is net vars task table settled whole bits long refutes (λ set v. set ≡ only (not v)) (λ w x. strong_bits (w.zero bits) (w.one bits) (x bits))
