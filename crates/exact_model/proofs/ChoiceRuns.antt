-- Runs and their choices, one to one.
use Rattle.std.proofs.Common.{◌≡◌, ℕ, zero, suc, ◌<◌, Bool, true, false, not, List, [], ◌∷◌, map, drop, length, get_or, arith, refl, sym, ◌∙◌, ap, subst, inl, inr}
use Rattle.std.specs.Prelude.{All, IsTrue, Option, ◌||◌, ◌⊎◌}
use Rattle.std.specs.List.{AllZip}
use Rattle.std.proofs.lemmas.List.{length-drop, length-map}
use Rattle.std.proofs.lemmas.List.Elements.{All-contains}
use Rattle.std.proofs.lemmas.Option.{slice_get-get_or}
use Rattle.net_core.specs.declared.raw.Init.{Init}
use Rattle.net_core.specs.declared.raw.Init.TheVariants as init
use Rattle.net_core.specs.declared.raw.Latch.{Latch}
use Rattle.net_core.specs.declared.raw.RawNet.{RawNet}
use Rattle.net_core.specs.declared.source.Source.{Source}
use Rattle.net_core.specs.declared.source.Source.TheVariants as source
use Rattle.net_core.specs.Flat.{HasOneDriver, IsInRange}
use Rattle.net_core.specs.OneRun.{IsGivenRun}
use Rattle.net_core.specs.Run.{IsInitial, IsSettled, IsUndriven, MayStart}
use Rattle.net_core.specs.Source.{source_of}
use Rattle.ste_base.specs.Functions.{Function}
use Rattle.net_core.proofs.OneTime.{Facts, facts}
use Rattle.net_core.proofs.Runs.{one_run}
use Rattle.ste_model.specs.declared.task.Assertion.{Assertion}
use Rattle.ste_model.specs.Asked.{depth}
use Rattle.ste_model.specs.Holds.{IsTaskRun}
use Rattle.ste_model.proofs.OneShown.{starts_with}
use Rattle.exact_model.specs.Choices.{RunsAreChoices, bits_at, choices, is_first_choice, is_free, is_open, starts_free}
use Rattle.exact_model.specs.ExactWork.{AreExactBits}
use Rattle.exact_model.proofs.CellLists.{Agree, agree_at, all_choices, bits_agree, cell, fill_choices, first_in, input_in}

-- ---- first values

-- the bit that a latch begins with, where it is to be this one if it may be
abbrev pub first_bit : Bool → Init → Bool → Bool
first_bit false start bit = bit
first_bit true init.Zero bit = false
first_bit true init.One bit = true
first_bit true init.Free bit = bit

pub may_start : (reset : Bool) (start : Init) (bit : Bool) → IsTrue reset → IsInitial start (first_bit reset start bit)
may_start false start bit on = absurd (cc on)
may_start true init.Zero bit on = refl
may_start true init.One bit on = refl
may_start true init.Free bit on = tt

first_free : (reset : Bool) (start : Init) (bit : Bool) → (not reset || is_free start) ≡ true → first_bit reset start bit ≡ bit
first_free false start bit h = refl
first_free true init.Zero bit h = absurd (cc h)
first_free true init.One bit h = absurd (cc h)
first_free true init.Free bit h = refl

-- a latch may start with either bit, or with one alone
free_or_one : (reset : Bool) (start : Init) → ((not reset || is_free start) ≡ true) ⊎ ((a b : Bool) → (IsTrue reset → IsInitial start a) → (IsTrue reset → IsInitial start b) → a ≡ b)
free_or_one false start = inl refl
free_or_one true init.Zero = inr (λ a b f g. f refl ∙ sym (g refl))
free_or_one true init.One = inr (λ a b f g. f refl ∙ sym (g refl))
free_or_one true init.Free = inl refl

-- ---- what drives a net

pub some_latch : Latch
some_latch = record { input = record { 0 = 0 }; output = record { 0 = 0 }; init = init.Free }

pub is_undriven : (net : RawNet) (id : ℕ) (s : Source) → Facts net id s → IsTrue (is_open s) → IsUndriven net id
is_undriven net id source.Input f h = record { by_gate = f.0; by_latch = f.1 }
is_undriven net id source.Free f h = record { by_gate = f.0; by_latch = f.1 }
is_undriven net id (source.Gate g) f h = absurd (cc h)
is_undriven net id (source.Latch l) f h = absurd (cc h)

some_of : {X : Type 0} (xs : List X) (k : ℕ) → k < length xs → X
some_of [] k l = absurd (omega arith)
some_of (x ∷ xs) k l = x

undriven_open : (net : RawNet) (id : ℕ) (s : Source) → Facts net id s → IsUndriven net id → IsTrue (is_open s)
undriven_open net id source.Input f none = refl
undriven_open net id source.Free f none = refl
undriven_open net id (source.Gate g) f none = let d = some_of net.gates g f.0 in absurd (none.by_gate g d f.0 (f.1 d))
undriven_open net id (source.Latch l) f none = let d = some_of net.latches l f.0 in absurd (none.by_latch l d f.0 (f.1 d))

-- ---- a run with these choices

pub zip_each : (f g : Latch → Bool) (latches : List Latch) → AllZip (λ latch bit. f latch ≡ bit) latches (map g latches) → All (λ latch. f latch ≡ g latch) latches
zip_each f g [] h k d l = absurd (omega arith)
zip_each f g (latch ∷ latches) h zero d l = h.0
zip_each f g (latch ∷ latches) h (suc k) d l = zip_each f g latches h.1 k d (omega arith)

module _ (net : RawNet) (task : Assertion) (driver : HasOneDriver net) (settled : IsSettled net) (bits : List Bool) (long : length bits ≡ length (choices net task)) where
  filled : (f : ℕ → ℕ → Bool) × (bits_at (choices net task) f ≡ bits)
  filled = fill_choices net task bits long

  abbrev begins : Latch → Bool
  begins latch = first_bit task.reset latch.init (filled.0 0 latch.output.0)

  made : (run : ℕ → ℕ → Bool) × IsGivenRun net filled.0 (map begins net.latches) (suc (depth task)) run
  made = one_run.some net driver settled filled.0 (map begins net.latches) (suc (depth task)) (length-map net.latches begins)

  begun : All (λ latch. made.0 0 latch.output.0 ≡ begins latch) net.latches
  begun = zip_each (λ latch. made.0 0 latch.output.0) begins net.latches (made.1.starts (omega arith))

  is_task_run : IsTaskRun net task.reset (depth task) made.0
  is_task_run = record {
    is_run = record { gates = λ t l. made.1.is_run.gates t (omega arith); latches = λ t l. made.1.is_run.latches t (omega arith) };
    starts = λ l k d m on.
        let latch = get_or net.latches k d in
        subst (IsInitial latch.init) (sym (begun k d m)) (may_start task.reset latch.init (filled.0 0 latch.output.0) on);
  }

  first_agrees : (id : ℕ) (s : Source) → Facts net id s → IsTrue (is_first_choice net task.reset s) → made.0 0 id ≡ filled.0 0 id
  first_agrees id source.Input f h = absurd (cc h)
  first_agrees id source.Free f h = absurd (cc h)
  first_agrees id (source.Gate g) f h = absurd (cc h)
  first_agrees id (source.Latch l) f h =
      let latch = get_or net.latches l some_latch in
      let free : (not task.reset || is_free latch.init) ≡ true = subst (λ (o : Option Latch). IsTrue (starts_free task.reset o)) (slice_get-get_or net.latches l some_latch f.0) h in
      let here : made.0 0 latch.output.0 ≡ filled.0 0 latch.output.0 = begun l some_latch f.0 ∙ first_free task.reset latch.init (filled.0 0 latch.output.0) free in
      subst (λ (k : ℕ). made.0 0 k ≡ filled.0 0 k) (f.1 some_latch) here

  pub some_run : (run : ℕ → ℕ → Bool) × IsTaskRun net task.reset (depth task) run × (bits_at (choices net task) run ≡ bits)
  some_run = (
    made.0,
    is_task_run,
    bits_agree (choices net task) made.0 filled.0 (all_choices (Agree made.0 filled.0) net task
        (λ id l h. first_agrees id (source_of net id) (facts net driver id) h)
        (λ t id l m h. made.1.sources t id (omega arith) m (is_undriven net id (source_of net id) (facts net driver id) h)))
        ∙ filled.1,
  )

-- ---- no other run

module _ (net : RawNet) (task : Assertion) (one other : ℕ → ℕ → Bool) (range : IsInRange net) (driver : HasOneDriver net) (settled : IsSettled net) (a : IsTaskRun net task.reset (depth task) one) (b : IsTaskRun net task.reset (depth task) other) (agree : All (Agree one other) (choices net task)) where
  undriven_same : (t id : ℕ) → t < depth task → id < net.nets → IsUndriven net id → other t id ≡ one t id
  undriven_same t id l m none =
      sym (All-contains (Agree one other) (choices net task) (cell t id) agree
      (input_in net task t id l m (undriven_open net id (source_of net id) (facts net driver id) none)))

  first_same : 0 < depth task → (id : ℕ) → id < net.nets → (s : Source) → s ≡ source_of net id → Facts net id s → (k : ℕ) (d : Latch) → k < length net.latches → (get_or net.latches k d).output.0 ≡ id → other 0 id ≡ one 0 id
  first_same inside id m source.Input e f k d l is = absurd (f.1 k d l is)
  first_same inside id m source.Free e f k d l is = absurd (f.1 k d l is)
  first_same inside id m (source.Gate g) e f k d l is = absurd (f.2 k d l is)
  first_same inside id m (source.Latch n) e f k d l is =
      let latch = get_or net.latches n some_latch in
      elim (free_or_one task.reset latch.init) [
        | inl free ↦
            let first : IsTrue (is_first_choice net task.reset (source.Latch n)) =
            subst (λ (o : Option Latch). IsTrue (starts_free task.reset o)) (sym (slice_get-get_or net.latches n some_latch f.0)) free in
            sym (All-contains (Agree one other) (choices net task) (cell 0 id) agree
            (first_in net task id m (subst (λ (s : Source). IsTrue (is_first_choice net task.reset s)) e first)))
        | inr alone ↦
            let at_other : MayStart task.reset latch (other 0 id) = subst (λ (i : ℕ). MayStart task.reset latch (other 0 i)) (f.1 some_latch) (b.starts inside n some_latch f.0) in
            let at_one : MayStart task.reset latch (one 0 id) = subst (λ (i : ℕ). MayStart task.reset latch (one 0 i)) (f.1 some_latch) (a.starts inside n some_latch f.0) in
            alone (other 0 id) (one 0 id) at_other at_one
      ]

  given_as : (run : ℕ → ℕ → Bool) → IsTaskRun net task.reset (depth task) run → ((t id : ℕ) → t < depth task → id < net.nets → IsUndriven net id → run t id ≡ one t id) → (0 < depth task → All (λ latch. run 0 latch.output.0 ≡ one 0 latch.output.0) net.latches) → IsGivenRun net one (map (λ (latch : Latch). one 0 latch.output.0) net.latches) (depth task) run
  given_as run is undriven first = record {
    is_run = is.is_run;
    sources = undriven;
    starts = λ l. starts_with (λ latch. run 0 latch.output.0) (λ latch. one 0 latch.output.0) net.latches (first l);
  }

  pub same_run : (t id : ℕ) → t < depth task → id < net.nets → one t id ≡ other t id
  same_run =
      one_run.same net range settled one (map (λ (latch : Latch). one 0 latch.output.0) net.latches) (depth task) one other
      (given_as one a (λ t id l m none. refl) (λ l k d m. refl))
      (given_as other b undriven_same (λ l k d m.
      let id = (get_or net.latches k d).output.0 in
      first_same l id (range.latch_outputs k d m) (source_of net id) refl (facts net driver id) k d m refl))

pub runs_are_choices : RunsAreChoices
runs_are_choices = record {
  some = λ net task bits driver settled long. some_run net task driver settled bits long;
  same = λ net task one other range driver settled a b e. same_run net task one other range driver settled a b (agree_at (choices net task) one other e);
}

-- ---- the bits of all runs at once

-- a list as long as asked for: cut, or with 0 behind it
fit : ℕ → List Bool → List Bool
fit zero bits = []
fit (suc n) [] = false ∷ fit n []
fit (suc n) (b ∷ bits) = b ∷ fit n bits

fit_long : (n : ℕ) (bits : List Bool) → length (fit n bits) ≡ n
unfolding fit
fit_long zero bits = refl
fit_long (suc n) [] = let h = fit_long n [] in omega arith
fit_long (suc n) (b ∷ bits) = let h = fit_long n bits in omega arith

fit_same : (n : ℕ) (bits : List Bool) → length bits ≡ n → fit n bits ≡ bits
unfolding fit
fit_same zero [] long = refl
fit_same zero (b ∷ bits) long = absurd (omega arith)
fit_same (suc n) [] long = absurd (omega arith)
fit_same (suc n) (b ∷ bits) long = ap (λ bs. b ∷ bs) (fit_same n bits (omega arith))

pub exact_bits : (net : RawNet) (vars : ℕ) (task : Assertion) → HasOneDriver net → IsSettled net → (bit : ℕ → ℕ → Function) × AreExactBits net vars task bit
exact_bits net vars task driver settled =
    let w : ℕ = length (choices net task) in
    let made : (bits : List Bool) → (run : ℕ → ℕ → Bool) × IsTaskRun net task.reset (depth task) run × (bits_at (choices net task) run ≡ fit w (drop vars bits)) =
    λ bits. runs_are_choices.some net task (fit w (drop vars bits)) driver settled (fit_long w (drop vars bits)) in (
      λ t id bits. (made bits).0 t id,
      record {
        is_run = λ bits long. (made bits).1;
        chosen = λ bits long. (made bits).2 ∙ fit_same w (drop vars bits) (simp length-drop (omega (arith, long)));
      },
    )
