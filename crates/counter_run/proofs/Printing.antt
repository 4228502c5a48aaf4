-- The run with what a bindable antecedent asks is the printed run.
use Rattle.std.proofs.Common.{◌≡◌, ◌≢◌, ℕ, zero, suc, ◌<◌, ◌≤◌, Bool, true, false, List, [], ◌∷◌, map, length, get_or, arith, sym, refl, subst, inl, inr, ◌∙◌}
use Rattle.std.specs.Prelude.{All, IsTrue, ◌⊎◌}
use Rattle.std.specs.List.{AllZip}
use Rattle.net_core.specs.declared.bit_set.BitSet.{BitSet}
use Rattle.net_core.specs.declared.raw.Init.{Init}
use Rattle.net_core.specs.declared.raw.Init.TheVariants.{Zero, One, Free}
use Rattle.net_core.specs.declared.raw.Latch.{Latch}
use Rattle.net_core.specs.declared.raw.RawNet.{RawNet}
use Rattle.net_core.specs.Flat.{IsInRange}
use Rattle.net_core.specs.Run.{IsInitial, IsSettled, IsUndriven, MayStart}
use Rattle.net_core.specs.OneRun.{IsGivenRun}
use Rattle.net_core.specs.Possible.{IsLeft, MayHave, is_weakened}
use Rattle.net_core.specs.Sets.{IsIn, first_set, neither}
use Rattle.net_core.proofs.Possible.{same_fields}
use Rattle.net_core.proofs.Starts.{first_values}
use Rattle.ste_model.proofs.Due.{weak_open}
use Rattle.ste_model.specs.declared.task.Assertion.{Assertion}
use Rattle.ste_model.specs.declared.task.Quint.{Quint}
use Rattle.ste_model.specs.declared.task.Weakening.{Weakening}
use Rattle.ste_model.specs.Asked.{asked_at, cuts_at, depth, weakened_at}
use Rattle.ste_model.specs.Found.{IsContradictory, IsTableOf}
use Rattle.ste_model.specs.Shown.{IsOpen, IsPrinted, IsQuintBindable}
use Rattle.ste_model.specs.Table.{latch_sets}
use Rattle.ste_model.proofs.Passes.{each_to}
use Rattle.ste_model.proofs.Tables.{one_table}
use Rattle.counter_run.specs.Starts.{AsksNoWeakStart}
use Rattle.counter_run.specs.private.Asking.{IsAskedOr, start_bit}
use Rattle.counter_run.proofs.Askings.{asked_left, asked_not_open, left_by, open_by}
use Rattle.counter_run.specs.private.Matrix.{IsMatrix, cell}

pub some_in : (set : BitSet) → set ≢ neither → (bit : Bool) × IsIn bit set
some_in set full = by set.zero set.one refl refl
  where
    by : (z o : Bool) → set.zero ≡ z → set.one ≡ o → (bit : Bool) × IsIn bit set
    by true o e f = (false, e)
    by false true e f = (true, f)
    by false false e f = absurd (full (same_fields set.zero false set.one false e f))

-- the bit of a latch of which nothing is asked is one that it may start with
pub start_may : (reset : Bool) (latch : Latch) → MayStart reset latch (start_bit reset latch.init)
start_may reset latch on = by latch.init reset on
  where
    by : (init : Init) (reset : Bool) → IsTrue reset → IsInitial init (start_bit reset init)
    by Zero true on = refl
    by One true on = refl
    by Free true on = tt
    by Zero false on = absurd (cc on)
    by One false on = absurd (cc on)
    by Free false on = absurd (cc on)

pub start_open : (reset : Bool) (latch : Latch) → ((start : Bool) → MayStart reset latch start) → start_bit reset latch.init ≡ false
start_open reset latch either = by latch.init reset either
  where
    by : (init : Init) (reset : Bool) → ((start : Bool) → IsTrue reset → IsInitial init start) → start_bit reset init ≡ false
    by init false either = refl
    by Zero true either = refl
    by Free true either = refl
    by One true either = absurd (cc (either false refl))

latch_in : (id : ℕ) (bit : Bool) (reset : Bool) (latches : List Latch) → AllZip (λ latch set. latch.output.0 ≡ id → IsIn bit set) latches (map (first_set reset) latches) → All (λ latch. latch.output.0 ≡ id → IsIn bit (first_set reset latch)) latches
latch_in id bit reset [] h k d l = absurd (omega arith)
latch_in id bit reset (latch ∷ latches) h zero d l = h.0
latch_in id bit reset (latch ∷ latches) h (suc k) d l = latch_in id bit reset latches h.1 k d (omega arith)

pub starts_at : (bit : ℕ → Bool) (first : ℕ → Bool) (latches : List Latch) → AllZip (λ latch b. bit latch.output.0 ≡ b) latches (map (λ latch. first latch.output.0) latches) → All (λ latch. bit latch.output.0 ≡ first latch.output.0) latches
starts_at bit first [] h k d l = absurd (omega arith)
starts_at bit first (latch ∷ latches) h zero d l = h.0
starts_at bit first (latch ∷ latches) h (suc k) d l = starts_at bit first latches h.1 k d (omega arith)

pub asks_no_weak_start : (net : RawNet) (task : Assertion) (bits : List Bool)
    → All (IsQuintBindable net task.weak) task.ant → AsksNoWeakStart net task bits
asks_no_weak_start net task bits all k d l = by (is_weakened (weakened_at task.weak 0) id) refl
  where
    id : ℕ
    id = (get_or net.latches k d).output.0

    by : (b : Bool) → is_weakened (weakened_at task.weak 0) id ≡ b
        → (is_weakened (weakened_at task.weak 0) id ≡ false) ⊎ IsOpen (cuts_at task.ant bits 0) id
    by false e = inl e
    by true e =
        inr (weak_open net bits task.weak id task.ant (λ free. free.by_latch k d l refl) e all)

module _ (net : RawNet) (task : Assertion) (bits : List Bool) (settled : IsSettled net) (range : IsInRange net) (possible : ¬ IsContradictory net task bits)
    (begins : AsksNoWeakStart net task bits)
    (before given : List (List Bool))
    (starts : 0 < depth task → All (λ latch. cell before 0 latch.output.0 ≡ start_bit task.reset latch.init) net.latches)
    (others : (t id : ℕ) → All (λ latch. latch.output.0 ≢ id) net.latches → cell before t id ≡ false)
    (each : (t id : ℕ) → IsAskedOr (cuts_at task.ant bits t) id (cell before t id) (cell given t id)) where
  table : (table : ℕ → ℕ → BitSet) × IsTableOf net task bits table
  table = one_table.some net task.reset (asked_at task bits) (depth task) settled

  -- a bit that the net may have
  one_bit : (t id : ℕ) → t < depth task → id < net.nets → (bit : Bool) × MayHave net (latch_sets net task.reset table.0 t) (asked_at task bits t) (table.0 t) id bit
  one_bit t id l m =
      let some = some_in (table.0 t id) (λ e. possible (table.0, table.1, (t, l, (id, m, e)))) in
      (some.0, ((table.1 t l).each id some.0).0 some.1)

  left_at : (t id : ℕ) → t < depth task → id < net.nets → IsLeft (cuts_at task.ant bits t) id (cell given t id)
  left_at t id l m =
      let some = one_bit t id l m in
      left_by (cuts_at task.ant bits t) id (cell before t id) (cell given t id) some.0 some.1.left (each t id)

  may_start : 0 < depth task → All (λ latch. MayStart task.reset latch (cell given 0 latch.output.0)) net.latches
  may_start l k d m =
      let latch = get_or net.latches k d in
      let id = latch.output.0 in
      let cuts = cuts_at task.ant bits 0 in
      let some = one_bit 0 id l (range.latch_outputs k d m) in
      elim (each 0 id) [
        | inl asked ↦ elim (begins k d m) [
          | inl strong ↦
              let is = asked_left cuts id (cell given 0 id) some.0 asked some.1.left in
              let source = some.1.source strong in
              let within = latch_in id some.0 task.reset net.latches source.by_latch k d m refl in
              let may = (first_values task.reset latch some.0).0 within in
              subst (MayStart task.reset latch) (sym is) may
          | inr none ↦ absurd (asked_not_open cuts id (cell given 0 id) asked none)
        ]
        | inr none ↦ subst (MayStart task.reset latch) (sym (none.1 ∙ starts l k d m)) (start_may task.reset latch)
      ]

  pub printed : (run : ℕ → ℕ → Bool) → IsGivenRun net (cell given) (map (λ latch. cell given 0 latch.output.0) net.latches) (depth task) run → IsPrinted net task bits run
  printed run h =
      let first : 0 < depth task → All (λ latch. run 0 latch.output.0 ≡ cell given 0 latch.output.0) net.latches = λ l. starts_at (run 0) (cell given 0) net.latches (h.starts l) in
      record {
        is_run = record {
          is_run = h.is_run;
          starts = λ l k d m. subst (MayStart task.reset (get_or net.latches k d)) (sym (first l k d m)) (may_start l k d m);
        };
        sources = λ t id l m none. record {
          asked = subst (IsLeft (cuts_at task.ant bits t) id) (sym (h.sources t id l m none)) (left_at t id l m);
          rest = λ open_cuts. h.sources t id l m none ∙ open_by (cuts_at task.ant bits t) id (cell before t id) (cell given t id) open_cuts (each t id) ∙ others t id none.by_latch;
        };
        starts = λ l k d m.
            let latch = get_or net.latches k d in
            let id = latch.output.0 in
            record {
              asked = subst (IsLeft (cuts_at task.ant bits 0) id) (sym (first l k d m)) (left_at 0 id l (range.latch_outputs k d m));
              rest = λ open_cuts either. first l k d m ∙ open_by (cuts_at task.ant bits 0) id (cell before 0 id) (cell given 0 id) open_cuts (each 0 id) ∙ starts l k d m ∙ start_open task.reset latch either;
            };
      }

-- the same of what the code holds: the rows behind the quintuples, and what the run is made from
pub printed_as : (net : RawNet) (task : Assertion) (bits : List Bool)
    → IsSettled net → IsInRange net
    → ¬ IsContradictory net task bits → AsksNoWeakStart net task bits
    → (before asked given : List (List Bool)) (times : ℕ) (run : ℕ → ℕ → Bool) → times ≡ depth task → given ≡ asked
    → (0 < times → All (λ latch. cell before 0 latch.output.0 ≡ start_bit task.reset latch.init) net.latches)
    → ((t id : ℕ) → All (λ latch. latch.output.0 ≢ id) net.latches → cell before t id ≡ false)
    → ((t id : ℕ) → IsAskedOr (cuts_at task.ant bits t) id (cell before t id) (cell asked t id))
    → IsGivenRun net (cell given) (map (λ latch. cell given 0 latch.output.0) net.latches) times run → IsPrinted net task bits run
printed_as net task bits settled range possible begins before asked given times run deep is starts
    others each h =
    printed net task bits settled range possible begins before given
    (λ l. starts (subst (λ (n : ℕ). 0 < n) (sym deep) l)) others
    (λ t id. subst (λ (a : List (List Bool)). IsAskedOr (cuts_at task.ant bits t) id (cell before t id) (cell a t id)) (sym is) (each t id)) run
    (subst (λ (n : ℕ). IsGivenRun net (cell given) (map (λ latch. cell given 0 latch.output.0) net.latches) n run) deep h)

-- a quintuple of the antecedent asks nothing behind the depth
pub ant_within : (task : Assertion) (rows : List (List Bool)) (nets times : ℕ) → times ≡ depth task → IsMatrix nets times rows → All (λ quint. quint.node.0 < nets) task.ant → All (λ quint. quint.to ≤ length (get_or rows quint.node.0 [])) task.ant
ant_within task rows nets times deep m inside k d l =
    let to = each_to task.ant 0 k d l in
    let tall = m.tall in
    let node = inside k d l in
    let wide : length (get_or rows (get_or task.ant k d).node.0 []) ≡ times = m.wide (get_or task.ant k d).node.0 [] (omega arith) in
    omega arith
