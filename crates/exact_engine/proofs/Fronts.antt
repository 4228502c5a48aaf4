-- What the expressions of an assertion do not read changes no finding: exact findings under the bits of more variables.
use Rattle.std.proofs.Common.{◌≡◌, ℕ, ◌-◌, ◌≤◌, Bool, false, List, [], ◌∷◌, ◌++◌, take, drop, length, replicate, arith, refl, sym, ◌∙◌, ap, subst}
use Rattle.std.specs.Prelude.{IsTrue, ◌&&◌, ◌↔◌, nat_le, nat_lt}
use Rattle.std.proofs.Math.Seq.{take-append_seam}
use Rattle.std.proofs.lemmas.Bool.{and_parts}
use Rattle.std.proofs.lemmas.List.{length-append, length-replicate, length-take, take-append-drop}
use Rattle.std.proofs.lemmas.List.Elements.{All-head, All-tail}
use Rattle.bool_expr.specs.Value.{value_of}
use Rattle.net_core.specs.declared.raw.RawNet.{RawNet}
use Rattle.net_core.specs.Run.{Cut}
use Rattle.ste_model.specs.declared.task.Assertion.{Assertion}
use Rattle.ste_model.specs.declared.task.Quint.{Quint}
use Rattle.ste_model.specs.Asked.{cuts_at, quint_at}
use Rattle.ste_model.specs.Expressions.{reads}
use Rattle.ste_model.specs.Holds.{RunMeets}
use Rattle.ste_model.specs.Need.{ReadBelow}
use Rattle.exact_model.specs.Exact.{IsAllowed, IsCounterexample, IsExactlyContradictory, IsExactlyStrong}
use Rattle.exact_model.proofs.Readings.{value_before}

module _ (vars : ℕ) (bits : List Bool) (room : vars ≤ length bits) where
  abbrev front : List Bool
  front = take vars bits

  front_long : length front ≡ vars
  front_long = simp (length-take) (omega (arith, room))

  whole : front ++ drop vars bits ≡ bits
  whole = take-append-drop vars bits

  quint_same : (t : ℕ) (quint : Quint) → IsTrue (reads vars quint.guard && reads vars quint.value) → quint_at (front ++ drop vars bits) t quint ≡ quint_at front t quint
  quint_same t quint h =
      let p = and_parts (reads vars quint.guard) (reads vars quint.value) h in
      let guard : value_of quint.guard (front ++ drop vars bits) ≡ value_of quint.guard front = value_before vars front (drop vars bits) front_long quint.guard p.0 in
      let value : value_of quint.value (front ++ drop vars bits) ≡ value_of quint.value front = value_before vars front (drop vars bits) front_long quint.value p.1 in
      ap (λ (b : Bool). quint_with t quint b (value_of quint.value (front ++ drop vars bits))) guard ∙ ap (λ (b : Bool). quint_with t quint (value_of quint.guard front) b) value
    where
      quint_with : ℕ → Quint → Bool → Bool → Cut
      quint_with t quint guard value = record { node = quint.node.0; on = guard && (nat_le quint.from t && nat_lt t quint.to); value = value }

  cuts_same : (quints : List Quint) → ReadBelow vars quints → (t : ℕ) → cuts_at quints (front ++ drop vars bits) t ≡ cuts_at quints front t
  cuts_same [] below t = refl
  cuts_same (quint ∷ quints) below t =
      ap (λ (cut : Cut). cut ∷ cuts_at quints (front ++ drop vars bits) t) (quint_same t quint (All-head (λ (q : Quint). IsTrue (reads vars q.guard && reads vars q.value)) quint quints below))
      ∙ ap (λ (cuts : List Cut). quint_at front t quint ∷ cuts) (cuts_same quints (All-tail (λ (q : Quint). IsTrue (reads vars q.guard && reads vars q.value)) quint quints below) t)

  cuts_front : (quints : List Quint) → ReadBelow vars quints → cuts_at quints bits ≡ cuts_at quints front
  cuts_front quints below = ap (λ (xs : List Bool). cuts_at quints xs) (sym whole) ∙ (λ i t. cuts_same quints below t i)

  meets_front : (quints : List Quint) (run : ℕ → ℕ → Bool) → ReadBelow vars quints → RunMeets (cuts_at quints bits) run → RunMeets (cuts_at quints front) run
  meets_front quints run below = subst (λ (cuts : ℕ → List Cut). RunMeets cuts run) (cuts_front quints below)

  meets_whole : (quints : List Quint) (run : ℕ → ℕ → Bool) → ReadBelow vars quints → RunMeets (cuts_at quints front) run → RunMeets (cuts_at quints bits) run
  meets_whole quints run below = subst (λ (cuts : ℕ → List Cut). RunMeets cuts run) (sym (cuts_front quints below))

  module _ (net : RawNet) (task : Assertion) (reads_ant : ReadBelow vars task.ant) (reads_con : ReadBelow vars task.con) where
    pub allowed_front : (run : ℕ → ℕ → Bool) → IsAllowed net task bits run → IsAllowed net task front run
    allowed_front run a = record { is_run = a.is_run; meets = meets_front task.ant run reads_ant a.meets }

    pub allowed_whole : (run : ℕ → ℕ → Bool) → IsAllowed net task front run → IsAllowed net task bits run
    allowed_whole run a = record { is_run = a.is_run; meets = meets_whole task.ant run reads_ant a.meets }

    pub counter_front : (run : ℕ → ℕ → Bool) → IsCounterexample net task bits run → IsCounterexample net task front run
    counter_front run c = record { allowed = allowed_front run c.allowed; breaks = λ meets. c.breaks (meets_whole task.con run reads_con meets) }

    pub counter_whole : (run : ℕ → ℕ → Bool) → IsCounterexample net task front run → IsCounterexample net task bits run
    counter_whole run c = record { allowed = allowed_whole run c.allowed; breaks = λ meets. c.breaks (meets_front task.con run reads_con meets) }

    pub strong_front : IsExactlyStrong net task bits ↔ IsExactlyStrong net task front
    strong_front = ((λ h. (h.0, counter_front h.0 h.1)), (λ h. (h.0, counter_whole h.0 h.1)))

    pub contradictory_front : IsExactlyContradictory net task bits ↔ IsExactlyContradictory net task front
    contradictory_front = ((λ h run a. h run (allowed_whole run a)), (λ h run a. h run (allowed_front run a)))

-- ---- an assignment with 0 behind it

module _ (vars total : ℕ) (room : vars ≤ total) (bits : List Bool) (long : length bits ≡ vars) where
  abbrev pub padded : List Bool
  padded = bits ++ replicate (total - vars) false

  pub padded_long : length padded ≡ total
  padded_long =
      let zeros : List Bool = replicate (total - vars) false in
      let a = length-append bits zeros in
      let b : length zeros ≡ total - vars = length-replicate (total - vars) false in
      omega (arith, a, b, long, room)

  pub padded_front : take vars padded ≡ bits
  padded_front = ap (λ (n : ℕ). take n padded) (sym long) ∙ take-append_seam bits (replicate (total - vars) false)
