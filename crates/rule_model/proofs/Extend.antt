-- Each finite run extends to each greater length.
use Rattle.std.proofs.Common.{◌≡◌, ℕ, ◌<◌, ◌≤◌, ◌+◌, zero, suc, Bool, true, false, List, [], ◌∷◌, map, length, get_or, arith, ap, refl, sym, subst, ◌∙◌}
use Rattle.std.specs.Prelude.{All, IsTrue, nat_lt, if◌then◌else◌}
use Rattle.std.specs.List.{AllZip}
use Rattle.std.proofs.lemmas.Bool.{lt-ltb, le-ltb}
use Rattle.std.proofs.Math.Decide.{dec_lt}
use Rattle.std.proofs.lemmas.List.Elements.{All-nil, All-cons}
use Rattle.net_core.specs.declared.raw.Init.{Init}
use Rattle.net_core.specs.declared.raw.Init.TheVariants.{Zero, One, Free}
use Rattle.net_core.specs.declared.raw.Latch.{Latch}
use Rattle.net_core.specs.declared.raw.RawNet.{RawNet}
use Rattle.net_core.specs.Flat.{HasOneDriver}
use Rattle.net_core.specs.Run.{AreGateBits, IsInitial, IsSettled, MayStart}
use Rattle.net_core.proofs.Runs.{one_run}
use Rattle.ste_model.specs.Holds.{IsTaskRun}

-- the bits of one run up to a time, and others from then on
pub glued : ℕ → (ℕ → ℕ → Bool) → (ℕ → Bool) → ℕ → ℕ → Bool
glued n run bit t = if nat_lt t n then run t else bit

pub glued_below : (n : ℕ) (run : ℕ → ℕ → Bool) (bit : ℕ → Bool) (t : ℕ) → t < n → glued n run bit t ≡ run t
unfolding glued
glued_below n run bit t l = ap (λ (b : Bool). if b then run t else bit) (lt-ltb t n l)

pub glued_from : (n : ℕ) (run : ℕ → ℕ → Bool) (bit : ℕ → Bool) (t : ℕ) → n ≤ t → glued n run bit t ≡ bit
unfolding glued
glued_from n run bit t l = ap (λ (b : Bool). if b then run t else bit) (le-ltb t n l)

-- what a latch's output has, by a list of bits
as_listed : (bit : ℕ → Bool) (value : Latch → Bool) (latches : List Latch) → AllZip (λ latch b. bit latch.output.0 ≡ b) latches (map value latches) → All (λ latch. bit latch.output.0 ≡ value latch) latches
as_listed bit value [] h = All-nil (λ latch. bit latch.output.0 ≡ value latch)
as_listed bit value (latch ∷ latches) h = All-cons (λ latch. bit latch.output.0 ≡ value latch) latch latches h.0 (as_listed bit value latches h.1)

as_long : (value : Latch → Bool) (latches : List Latch) → length (map value latches) ≡ length latches
as_long value [] = refl
as_long value (latch ∷ latches) = let h = as_long value latches in omega (arith, h)

-- bits of one time whose latches have what is told
pub one_time : (net : RawNet) → HasOneDriver net → IsSettled net → (value : Latch → Bool) → (bit : ℕ → Bool) × AreGateBits net bit × All (λ latch. bit latch.output.0 ≡ value latch) net.latches
one_time net one settled value =
    let made = one_run.some net one settled (λ t id. false) (map value net.latches) 1 (as_long value net.latches) in (
      made.0 0,
      made.1.is_run.gates 0 (omega arith),
      as_listed (made.0 0) value net.latches (made.1.starts (omega arith)),
    )

-- a bit that a latch may start with
start_of : Init → Bool
start_of Zero = false
start_of One = true
start_of Free = false

is_start : (init : Init) (bit : Bool) → bit ≡ start_of init → IsInitial init bit
unfolding start_of
is_start Zero bit e = e
is_start One bit e = e
is_start Free bit e = tt

at_net : (f g : ℕ → Bool) → f ≡ g → (id : ℕ) → f id ≡ g id
at_net f g e id = ap (λ (h : ℕ → Bool). h id) e

-- one time more
longer : (net : RawNet) → HasOneDriver net → IsSettled net → (reset : Bool) (n : ℕ) (run : ℕ → ℕ → Bool) → IsTaskRun net reset n run → (bit : ℕ → Bool) × IsTaskRun net reset (suc n) (glued n run bit)
longer net one settled reset zero run is_run =
    let made = one_time net one settled (λ latch. start_of latch.init) in
    let here = λ (t : ℕ) (l : t < 1). glued_from 0 run made.0 t (omega arith) in (
      made.0,
      record {
        is_run = record {
          gates = λ t l. subst (AreGateBits net) (sym (here t l)) made.1;
          latches = λ t l. absurd (omega arith);
        };
        starts = λ l k d m on.
            let latch = get_or net.latches k d in
            is_start latch.init (glued 0 run made.0 0 latch.output.0) (at_net (glued 0 run made.0 0) made.0 (here 0 (omega arith)) latch.output.0 ∙ made.2 k d m);
      },
    )
longer net one settled reset (suc n) run is_run =
    let made = one_time net one settled (λ latch. run n latch.input.0) in
    let whole = glued (suc n) run made.0 in
    let low = λ (t : ℕ) (l : t < suc n). glued_below (suc n) run made.0 t l in (
      made.0,
      record {
        is_run = record {
          gates = λ t l. elim (dec_lt t (suc n)) [
            | yes m ↦ subst (AreGateBits net) (sym (low t m)) (is_run.is_run.gates t m)
            | no m ↦ let e : whole t ≡ made.0 = glued_from (suc n) run made.0 t (omega (arith, m)) in subst (AreGateBits net) (sym e) made.1
          ];
          latches = λ t l k d m.
              let latch = get_or net.latches k d in
              elim (dec_lt (suc t) (suc n)) [
                | yes b ↦
                    at_net (whole (suc t)) (run (suc t)) (low (suc t) b) latch.output.0 ∙ is_run.is_run.latches t b k d m
                    ∙ sym (at_net (whole t) (run t) (low t (omega (arith, b))) latch.input.0)
                | no b ↦
                    let last : t ≡ n = omega (arith, l, b) in
                    at_net (whole (suc t)) made.0 (glued_from (suc n) run made.0 (suc t) (omega (arith, b))) latch.output.0 ∙ made.2 k d m
                    ∙ sym (at_net (whole t) (run t) (low t (omega (arith, last))) latch.input.0 ∙ ap (λ (i : ℕ). run i latch.input.0) last)
              ];
        };
        starts = λ l k d m.
            let latch = get_or net.latches k d in
            subst (MayStart reset latch) (sym (at_net (whole 0) (run 0) (low 0 (omega arith)) latch.output.0)) (is_run.starts (omega arith) k d m);
      },
    )

pub extended : (net : RawNet) → HasOneDriver net → IsSettled net → (reset : Bool) (n more : ℕ) (run : ℕ → ℕ → Bool) → IsTaskRun net reset n run → (other : ℕ → ℕ → Bool) × IsTaskRun net reset (more + n) other × ((t : ℕ) → t < n → other t ≡ run t)
extended net one settled reset n zero run is_run = (run, subst (λ (m : ℕ). IsTaskRun net reset m run) (omega arith) is_run, λ t l. refl)
extended net one settled reset n (suc more) run is_run =
    let first = extended net one settled reset n more run is_run in
    let next = longer net one settled reset (more + n) first.0 first.1 in (
      glued (more + n) first.0 next.0,
      subst (λ (m : ℕ). IsTaskRun net reset m (glued (more + n) first.0 next.0)) (omega arith) next.1,
      λ t l. glued_below (more + n) first.0 next.0 t (omega (arith, l)) ∙ first.2 t l,
    )

-- a run is one of each smaller length
pub shorter : (net : RawNet) (reset : Bool) (n m : ℕ) (run : ℕ → ℕ → Bool) → m ≤ n → IsTaskRun net reset n run → IsTaskRun net reset m run
shorter net reset n m run l is_run = record {
  is_run = record { gates = λ t a. is_run.is_run.gates t (omega (arith, a, l)); latches = λ t a. is_run.is_run.latches t (omega (arith, a, l)) };
  starts = λ a. is_run.starts (omega (arith, a, l));
}

-- a run that starts as a stricter claim asks
pub freer : (net : RawNet) (strict free : Bool) (n : ℕ) (run : ℕ → ℕ → Bool) → (IsTrue free → IsTrue strict) → IsTaskRun net strict n run → IsTaskRun net free n run
freer net strict free n run h is_run = record { is_run = is_run.is_run; starts = λ a k d l on. is_run.starts a k d l (h on) }
