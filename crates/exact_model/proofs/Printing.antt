-- Under a bindable antecedent: a printed run for each assignment that is not contradictory, and its choices.
use Rattle.std.proofs.Common.{◌≡◌, ◌≢◌, ℕ, zero, suc, ◌<◌, Bool, true, false, not, List, [], ◌∷◌, map, length, get_or, arith, refl, sym, ◌∙◌, ap, subst, inl, inr}
use Rattle.std.specs.Prelude.{All, IsTrue, Option, Some, slice_get, ◌↔◌, ◌⊎◌, ◌||◌, if◌then◌else◌}
use Rattle.std.proofs.Math.Decide.{ℕ_discrete}
use Rattle.std.proofs.lemmas.List.{length-map}
use Rattle.std.proofs.lemmas.List.Elements.{All-cons, All-head, All-nil, All-tail}
use Rattle.std.proofs.lemmas.Option.{slice_get-get_or}
use Rattle.net_core.specs.declared.bit_set.BitSet.{BitSet}
use Rattle.net_core.specs.declared.raw.Init.{Init}
use Rattle.net_core.specs.declared.raw.Init.TheVariants as init
use Rattle.net_core.specs.declared.raw.Latch.{Latch}
use Rattle.net_core.specs.declared.raw.RawNet.{RawNet}
use Rattle.net_core.specs.declared.source.Source.{Source}
use Rattle.net_core.specs.declared.source.Source.TheVariants as source
use Rattle.net_core.specs.OneRun.{IsGivenRun}
use Rattle.net_core.specs.Possible.{IsLeft, is_weakened}
use Rattle.net_core.specs.Run.{Cut, IsInitial, MayStart}
use Rattle.net_core.specs.Sets.{IsIn, first_set, neither}
use Rattle.net_core.specs.Source.{source_of}
use Rattle.net_core.proofs.OneTime.{Facts, facts}
use Rattle.net_core.proofs.Possible.{same_fields}
use Rattle.net_core.proofs.Runs.{one_run}
use Rattle.net_core.proofs.Starts.{first_values}
use Rattle.ste_model.specs.declared.task.Assertion.{Assertion}
use Rattle.ste_model.specs.Asked.{asked_at, cuts_at, depth, weakened_at}
use Rattle.ste_model.specs.Assignments.{IsBefore}
use Rattle.ste_model.specs.Found.{IsContradictory, IsEmptySomewhere, IsStrong, IsTableOf, IsWeak}
use Rattle.ste_model.specs.Runs.{run_of}
use Rattle.ste_model.specs.Shown.{IsFilled, IsFirstBit, IsOpen, IsPrinted}
use Rattle.ste_model.proofs.Due.{due_breaks, weak_open}
use Rattle.ste_model.proofs.Tables.{some_table}
use Rattle.ste_model.proofs.Verdicts.{findings_are_decided}
use Rattle.exact_model.specs.Bindable.{BindableIsFree, IsBoundOver, PrintedIsLeast}
use Rattle.exact_model.specs.Choices.{Cell, bits_at, choices, is_first_choice, is_free, starts_free}
use Rattle.exact_model.specs.Exact.{IsAllowed, IsCounterexample, IsExactlyContradictory, IsExactlyStrong}
use Rattle.exact_model.proofs.CellLists.{all_choices}
use Rattle.exact_model.proofs.ChoiceRuns.{first_bit, is_undriven, may_start, some_latch, zip_each}
use Rattle.exact_model.proofs.Exactly.{sets_are_safe}
use Rattle.exact_model.proofs.Single.{latched}

-- ---- what is asked of a net

pick : {A : Type 0} → Dec A → Bool → Bool → Bool
pick (yes a) bit other = bit
pick (no a) bit other = other

-- the value of the first cut of the net that is on, and 0 where there is none
asked_bit : List Cut → ℕ → Bool
asked_bit [] id = false
asked_bit (cut ∷ cuts) id = pick (ℕ_discrete cut.node id) (if cut.on then cut.value else asked_bit cuts id) (asked_bit cuts id)

-- nothing is asked, or the bit is all that is left
asked_or : (cuts : List Cut) (id : ℕ) → (IsOpen cuts id × (asked_bit cuts id ≡ false)) ⊎ ((bit : Bool) → IsLeft cuts id bit → asked_bit cuts id ≡ bit)
unfolding asked_bit pick
asked_or [] id = inl (All-nil (λ (c : Cut). IsTrue c.on → c.node ≢ id), refl)
asked_or (cut ∷ cuts) id = by (ℕ_discrete cut.node id) cut.on refl (asked_or cuts id)
  where
    left_tail : (bit : Bool) → IsLeft (cut ∷ cuts) id bit → IsLeft cuts id bit
    left_tail bit = All-tail (λ (c : Cut). IsTrue c.on → c.node ≡ id → c.value ≡ bit) cut cuts

    left_head : (bit : Bool) → IsLeft (cut ∷ cuts) id bit → IsTrue cut.on → cut.node ≡ id → cut.value ≡ bit
    left_head bit = All-head (λ (c : Cut). IsTrue c.on → c.node ≡ id → c.value ≡ bit) cut cuts

    by : (d : Dec (cut.node ≡ id)) (on : Bool) → cut.on ≡ on → (IsOpen cuts id × (asked_bit cuts id ≡ false)) ⊎ ((bit : Bool) → IsLeft cuts id bit → asked_bit cuts id ≡ bit) → (IsOpen (cut ∷ cuts) id × (pick d (if on then cut.value else asked_bit cuts id) (asked_bit cuts id) ≡ false)) ⊎ ((bit : Bool) → IsLeft (cut ∷ cuts) id bit → pick d (if on then cut.value else asked_bit cuts id) (asked_bit cuts id) ≡ bit)
    by (yes e) true is rest = inr (λ bit left. left_head bit left is e)
    by (yes e) false is (inl none) = inl (All-cons (λ (c : Cut). IsTrue c.on → c.node ≢ id) cut cuts (λ on. absurd (cc (on, is))) none.0, none.1)
    by (yes e) false is (inr one) = inr (λ bit left. one bit (left_tail bit left))
    by (no apart) on is (inl none) = inl (All-cons (λ (c : Cut). IsTrue c.on → c.node ≢ id) cut cuts (λ h. apart) none.0, none.1)
    by (no apart) on is (inr one) = inr (λ bit left. one bit (left_tail bit left))

open_left : (cuts : List Cut) (id : ℕ) (bit : Bool) → IsOpen cuts id → IsLeft cuts id bit
open_left cuts id bit none k d l on e = absurd (none k d l on e)

filled : (cuts : List Cut) (id : ℕ) (bit : Bool) → IsLeft cuts id bit → IsFilled cuts id (asked_bit cuts id)
filled cuts id bit left = elim (asked_or cuts id) [
  | inl none ↦ record { asked = open_left cuts id (asked_bit cuts id) none.0; rest = λ h. none.1 }
  | inr one ↦ record { asked = subst (IsLeft cuts id) (sym (one bit left)) left; rest = λ h. one false (open_left cuts id false h) }
]

-- the first bit of a latch in the printed run
begin : (reset : Bool) (latch : Latch) (cuts : List Cut) → Bool
begin reset latch cuts = elim (asked_or cuts latch.output.0) [
  | inl none ↦ first_bit reset latch.init false
  | inr one ↦ asked_bit cuts latch.output.0
]

first_zero : (reset : Bool) (start : Init) → ((bit : Bool) → IsTrue reset → IsInitial start bit) → first_bit reset start false ≡ false
first_zero false start either = refl
first_zero true init.Zero either = refl
first_zero true init.One either = absurd (cc (either false refl))
first_zero true init.Free either = refl

begun : (reset : Bool) (latch : Latch) (cuts : List Cut) (bit : Bool) → IsLeft cuts latch.output.0 bit → MayStart reset latch bit → IsFirstBit reset latch cuts (begin reset latch cuts) × MayStart reset latch (begin reset latch cuts)
unfolding begin
begun reset latch cuts bit left may = by (asked_or cuts latch.output.0)
  where
    id : ℕ
    id = latch.output.0

    by : (o : (IsOpen cuts latch.output.0 × (asked_bit cuts latch.output.0 ≡ false)) ⊎ ((b : Bool) → IsLeft cuts latch.output.0 b → asked_bit cuts latch.output.0 ≡ b))
        → IsFirstBit reset latch cuts (elim o [ inl none ↦ first_bit reset latch.init false | inr one ↦ asked_bit cuts latch.output.0 ])
        × MayStart reset latch (elim o [ inl none ↦ first_bit reset latch.init false | inr one ↦ asked_bit cuts latch.output.0 ])
    by (inl none) = (
      record { asked = open_left cuts latch.output.0 (first_bit reset latch.init false) none.0; rest = λ h either. first_zero reset latch.init either },
      may_start reset latch.init false,
    )
    by (inr one) = (
      record { asked = subst (IsLeft cuts latch.output.0) (sym (one bit left)) left; rest = λ h either. one false (open_left cuts latch.output.0 false h) },
      subst (MayStart reset latch) (sym (one bit left)) may,
    )

-- ---- the printed run

some_in : (set : BitSet) → set ≢ neither → (bit : Bool) × IsIn bit set
some_in set some = by set.zero set.one refl refl
  where
    by : (z o : Bool) → set.zero ≡ z → set.one ≡ o → (bit : Bool) × IsIn bit set
    by true o e f = (false, e)
    by false true e f = (true, f)
    by false false e f = absurd (some (same_fields set.zero false set.one false e f))

module _ (net : RawNet) (task : Assertion) (bits : List Bool) (bound : IsBoundOver net task) (table : ℕ → ℕ → BitSet) (is : IsTableOf net task bits table) (full : ¬ IsEmptySomewhere net task table) where
  abbrev cuts : ℕ → List Cut
  cuts t = cuts_at task.ant bits t

  some_bit : (t id : ℕ) → t < depth task → id < net.nets → (bit : Bool) × IsIn bit (table t id)
  some_bit t id l m = some_in (table t id) (λ e. full (t, l, (id, m, e)))

  is_filled : (t id : ℕ) → t < depth task → id < net.nets → IsFilled (cuts t) id (asked_bit (cuts t) id)
  is_filled t id l m =
      let at = some_bit t id l m in
      filled (cuts t) id at.0 (((is t l).each id at.0).0 at.1).left

  -- a bit with which a latch may begin as the antecedent asks, its output weakened or not
  beginning : 0 < depth task → (k : ℕ) (d : Latch) → k < length net.latches
      → (weak : Bool)
      → is_weakened (weakened_at task.weak 0) (get_or net.latches k d).output.0 ≡ weak
      → (bit : Bool) × IsLeft (cuts 0) (get_or net.latches k d).output.0 bit
      × MayStart task.reset (get_or net.latches k d) bit
  beginning l k d m false off =
      let latch = get_or net.latches k d in
      let id = latch.output.0 in
      let at = some_bit 0 id l (bound.range.latch_outputs k d m) in
      let may = ((is 0 l).each id at.0).0 at.1 in
      let source = may.source off in
      let held = latched id at.0 (first_set task.reset) net.latches source.by_latch k d m refl in
      (at.0, may.left, (first_values task.reset latch at.0).0 held)
  beginning l k d m true on =
      let latch = get_or net.latches k d in
      let id = latch.output.0 in
      let bit = first_bit task.reset latch.init false in
      let none =
      weak_open net bits task.weak id task.ant (λ free. free.by_latch k d m refl) on bound.bindable in
      (bit, open_left (cuts 0) id bit none, may_start task.reset latch.init false)

  begins : 0 < depth task
      → All (λ latch. IsFirstBit task.reset latch (cuts 0) (begin task.reset latch (cuts 0))
      × MayStart task.reset latch (begin task.reset latch (cuts 0))) net.latches
  begins l k d m =
      let latch = get_or net.latches k d in
      let at = beginning l k d m (is_weakened (weakened_at task.weak 0) latch.output.0) refl in
      begun task.reset latch (cuts 0) at.0 at.1 at.2

  abbrev first : Latch → Bool
  first latch = begin task.reset latch (cuts 0)

  made : (run : ℕ → ℕ → Bool) × IsGivenRun net (λ t id. asked_bit (cuts t) id) (map first net.latches) (depth task) run
  made = one_run.some net bound.driver bound.settled (λ t id. asked_bit (cuts t) id) (map first net.latches) (depth task) (length-map net.latches first)

  starts : 0 < depth task → All (λ latch. made.0 0 latch.output.0 ≡ first latch) net.latches
  starts l = zip_each (λ latch. made.0 0 latch.output.0) first net.latches (made.1.starts l)

  pub some_printed : (run : ℕ → ℕ → Bool) × IsPrinted net task bits run
  some_printed = (
    made.0,
    record {
      is_run = record {
        is_run = made.1.is_run;
        starts = λ l k d m. subst (MayStart task.reset (get_or net.latches k d)) (sym (starts l k d m)) (begins l k d m).1;
      };
      sources = λ t id l m none. subst (IsFilled (cuts t) id) (sym (made.1.sources t id l m none)) (is_filled t id l m);
      starts = λ l k d m. subst (IsFirstBit task.reset (get_or net.latches k d) (cuts 0)) (sym (starts l k d m)) (begins l k d m).0;
    },
  )

  pub some_allowed : (run : ℕ → ℕ → Bool) × IsAllowed net task bits run
  some_allowed =
      let run = some_printed.0 in
      (run, record { is_run = some_printed.1.is_run; meets = due_breaks.meets net task bits run bound.over.ant bound.bindable some_printed.1 })

-- ---- findings

printed_counter : (net : RawNet) (task : Assertion) (bits : List Bool) (run : ℕ → ℕ → Bool) → IsBoundOver net task → IsStrong net task bits → IsPrinted net task bits run → IsCounterexample net task bits run
printed_counter net task bits run bound strong printed =
    let meets = due_breaks.meets net task bits run bound.over.ant bound.bindable printed in
    record {
      allowed = record { is_run = printed.is_run; meets = meets };
      breaks = due_breaks.breaks net task bits run bound.settled strong printed.is_run meets;
    }

to_strong : (net : RawNet) (task : Assertion) (bits : List Bool) → IsBoundOver net task → IsStrong net task bits → IsExactlyStrong net task bits
to_strong net task bits bound strong =
    let printed = some_printed net task bits bound strong.0 strong.1 strong.2 in
    (printed.0, printed_counter net task bits printed.0 bound strong printed.1)

empty_or_not : (net : RawNet) (task : Assertion) (bits : List Bool) → IsBoundOver net task → (told : Bool) → (IsTrue told ↔ IsContradictory net task bits) → IsExactlyContradictory net task bits → IsContradictory net task bits
empty_or_not net task bits bound true tells none = tells.0 refl
empty_or_not net task bits bound false tells none =
    let made = some_table net task.reset (asked_at task bits) (depth task) bound.settled in
    let full : ¬ IsEmptySomewhere net task made.0 = λ empty. absurd (cc (tells.1 (made.0, made.1, empty))) in
    let allowed = some_allowed net task bits bound made.0 made.1 full in
    absurd (none allowed.0 allowed.1)

to_contradictory : (net : RawNet) (task : Assertion) (bits : List Bool) → IsBoundOver net task → IsExactlyContradictory net task bits → IsContradictory net task bits
to_contradictory net task bits bound none =
    let told = findings_are_decided.contradictory net (length bits) task bound.settled in
    empty_or_not net task bits bound (told.0 bits) (told.1 bits refl) none

strong_unless : (net : RawNet) (task : Assertion) (bits : List Bool) → IsBoundOver net task → ¬ IsWeak net task bits → IsExactlyStrong net task bits → IsStrong net task bits
strong_unless net task bits bound none exact = elim (sets_are_safe.strong net task bits bound.settled exact) [
  | inl strong ↦ strong
  | inr weak ↦ absurd (none weak)
]

pub bindable_is_free : BindableIsFree
bindable_is_free = record {
  contradictory = λ net task bits bound. (sets_are_safe.contradictory net task bits bound.settled, to_contradictory net task bits bound);
  strong = to_strong;
  unless_weak = λ net task bits bound none. (to_strong net task bits bound, strong_unless net task bits bound none);
}

-- ---- least choices

-- where the one run has 1 the other has 1, so its choices do not stand before
not_before : (cells : List Cell) (one other : ℕ → ℕ → Bool) → All (λ c. one c.time c.net ≡ true → other c.time c.net ≡ true) cells → (k : ℕ) → slice_get (bits_at cells other) k ≡ Some false → slice_get (bits_at cells one) k ≡ Some true → ⊥
not_before [] one other all k e f = cc
not_before (c ∷ cells) one other all zero e f =
    let low : other c.time c.net ≡ false = cc e in
    let high : one c.time c.net ≡ true = cc f in
    let same = All-head (λ (d : Cell). one d.time d.net ≡ true → other d.time d.net ≡ true) c cells all high in
    cc (low, same)
not_before (c ∷ cells) one other all (suc k) e f = not_before cells one other (All-tail (λ (d : Cell). one d.time d.net ≡ true → other d.time d.net ≡ true) c cells all) k e f

meets_left : (cuts : List Cut) (bit : ℕ → Bool) (id : ℕ) → All (λ cut. IsTrue cut.on → bit cut.node ≡ cut.value) cuts → IsLeft cuts id (bit id)
meets_left cuts bit id meets k d l on e = sym (meets k d l on) ∙ ap bit e

-- what is asked is the same in both runs, and where nothing is asked the printed run has 0
as_asked : (cuts : List Cut) (id : ℕ) (one other : Bool) → IsLeft cuts id one → IsLeft cuts id other → (IsOpen cuts id → one ≡ false) → one ≡ true → other ≡ true
as_asked cuts id one other left_one left_other rest e = elim (asked_or cuts id) [
  | inl none ↦ absurd (cc (rest none.0, e))
  | inr same ↦ sym (same other left_other) ∙ same one left_one ∙ e
]

free_starts : (reset : Bool) (start : Init) (bit : Bool) → (not reset || is_free start) ≡ true → IsTrue reset → IsInitial start bit
free_starts false start bit h on = absurd (cc on)
free_starts true init.Zero bit h on = absurd (cc h)
free_starts true init.One bit h on = absurd (cc h)
free_starts true init.Free bit h on = tt

module _ (net : RawNet) (task : Assertion) (bits : List Bool) (run other : ℕ → ℕ → Bool) (bound : IsBoundOver net task) (inside : 0 < depth task) (printed : IsPrinted net task bits run) (allowed : IsAllowed net task bits other) where
  first_rises : (id : ℕ) (s : Source) → Facts net id s → IsTrue (is_first_choice net task.reset s) → run 0 id ≡ true → other 0 id ≡ true
  first_rises id source.Input f h e = absurd (cc h)
  first_rises id source.Free f h e = absurd (cc h)
  first_rises id (source.Gate g) f h e = absurd (cc h)
  first_rises id (source.Latch l) f h e =
      let latch = get_or net.latches l some_latch in
      let free : (not task.reset || is_free latch.init) ≡ true = subst (λ (o : Option Latch). IsTrue (starts_free task.reset o)) (slice_get-get_or net.latches l some_latch f.0) h in
      let here = printed.starts inside l some_latch f.0 in
      let rises : run 0 latch.output.0 ≡ true → other 0 latch.output.0 ≡ true =
      as_asked (cuts_at task.ant bits 0) latch.output.0 (run 0 latch.output.0) (other 0 latch.output.0) here.asked (meets_left (cuts_at task.ant bits 0) (other 0) latch.output.0 (allowed.meets 0))
      (λ none. here.rest none (λ start. free_starts task.reset latch.init start free)) in
      subst (λ (k : ℕ). run 0 k ≡ true → other 0 k ≡ true) (f.1 some_latch) rises e

  rises : All (λ c. run c.time c.net ≡ true → other c.time c.net ≡ true) (choices net task)
  rises =
      all_choices (λ c. run c.time c.net ≡ true → other c.time c.net ≡ true) net task
      (λ id l h. first_rises id (source_of net id) (facts net bound.driver id) h)
      (λ t id l m h.
      let here = printed.sources t id l m (is_undriven net id (source_of net id) (facts net bound.driver id) h) in
      as_asked (cuts_at task.ant bits t) id (run t id) (other t id) here.asked (meets_left (cuts_at task.ant bits t) (other t) id (allowed.meets t)) here.rest)

  pub none_before : ¬ IsBefore (bits_at (choices net task) other) (bits_at (choices net task) run)
  none_before before = not_before (choices net task) run other rises before.place before.earlier before.later

printed_least : (net : RawNet) (task : Assertion) (bits : List Bool) (run other : ℕ → ℕ → Bool) → IsBoundOver net task → IsStrong net task bits → IsPrinted net task bits run → IsCounterexample net task bits other → ¬ IsBefore (bits_at (choices net task) other) (bits_at (choices net task) run)
printed_least net task bits run other bound strong printed counter =
    let at = strong.3 in
    let inside = at.1 in
    none_before net task bits run other bound (omega (arith, inside)) printed counter.allowed

pub printed_is_least : PrintedIsLeast
printed_is_least = record {
  counter = printed_counter;
  least = printed_least;
  shown = λ net vars task bits told place report bound none least rows printed is_place least_is run_is fails_is. record {
    bits = bits;
    least_is = least_is;
    is_least = record {
      long = least.long;
      has = to_strong net task bits bound least.has;
      least = λ other long exact. least.least other long (strong_unless net task other bound (none other long) exact);
    };
    told = told;
    run_is = run_is;
    rows = rows;
    counter = printed_counter net task bits (run_of told) bound least.has printed;
    first = λ other counter. printed_least net task bits (run_of told) other bound least.has printed counter;
    place = place;
    fails_is = fails_is;
    is_place = is_place;
  };
}
