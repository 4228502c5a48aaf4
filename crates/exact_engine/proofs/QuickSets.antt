-- The sets that were copied are those of the exact check.
use Rattle.std.proofs.Common.{◌≡◌, ℕ, zero, suc, ◌+◌, ◌≤◌, Bool, not, List, [], ◌∷◌, ◌++◌, take, length, arith, refl, sym, ◌∙◌, ap, subst, Option, None, Some, Result}
use Rattle.std.specs.Prelude.{IfSome, IsTrue, ◌↔◌}
use Rattle.std.proofs.lemmas.List.{length-take}
use Rattle.dd_nodes.specs.Stores.{Keeps, Means, Store, function, gets}
use Rattle.dd_nodes.specs.Spending.{Has}
use Rattle.dd_nodes.proofs.Spending.{Covers, Means-same}
use Rattle.dd_nodes.proofs.Stores.{IsGood}
use Rattle.dd_ops.specs.declared.fault.OpFault.{OpFault}
use Rattle.dual_rail.specs.Rail.{Built}
use Rattle.dual_rail.proofs.Works.{Built-covers}
use Rattle.net_core.specs.declared.raw.RawNet.{RawNet}
use Rattle.net_core.specs.Flat.{IsInRange}
use Rattle.ste_base.specs.Functions.{Function}
use Rattle.ste_model.specs.declared.task.Assertion.{Assertion}
use Rattle.engine_parts.specs.declared.results.Results.{Results}
use Rattle.sym_step.specs.declared.frame.Frame.{Frame}
use Rattle.sym_step.specs.Frame.{IsFrame}
use Rattle.sym_step.proofs.Framing.{frame_keeps}
use Rattle.exact_model.specs.Choices.{choices}
use Rattle.exact_model.specs.Exact.{IsExactlyContradictory, IsExactlyStrong, IsSoundFor}
use Rattle.exact_model.specs.ExactWork.{AreExactBits, counter_where, exact_work, exactly_contradictory_where, exactly_strong_where, met_where, some_bits}
use Rattle.exact_model.specs.Wider.{bits_over_more}
use Rattle.exact_model.proofs.ExactFindings.{exact_results_are_findings}
use Rattle.exact_engine.specs.private.Copying.{AreCopies}
use Rattle.exact_engine.specs.private.Reporting.{TellSets}
use Rattle.exact_engine.proofs.Resulting.{take_take, wide_exact}
use Rattle.exact_model.proofs.WiderCubes.{same_bit}
use Rattle.exact_engine.proofs.AllTimes.{tail_in}

-- ---- a store that begins anew

-- what was held stays
begun_keeps : (steps : ℕ) (s : Store) → Keeps s (gets steps s)
begun_keeps steps s = record { grows = λ r n h. h; vars = refl; table = refl }

-- so a frame stays one
pub begun_frame : (steps : ℕ) (s : Store) (net : RawNet) (last : Option Frame) → IsInRange net → IsGood s → IfSome last (IsFrame s net) → IfSome last (IsFrame (gets steps s) net)
begun_frame steps s net None range good h = tt
begun_frame steps s net (Some frame) range good h = frame_keeps s (gets steps s) net frame range good good (begun_keeps steps s) h

-- ---- both sets

module _ (net : RawNet) (vars : ℕ) (task : Assertion) (bit : ℕ → ℕ → Function) (sound : IsSoundFor net vars task) (exact : AreExactBits net vars task bit) where
  abbrev w : ℕ
  w = length (choices net task)

  abbrev wide : ℕ → ℕ → Function
  wide = bits_over_more (vars + w) bit

  abbrev work : List Function
  work = exact_work net vars task wide

  abbrev strong_set : Function
  strong_set = exactly_strong_where net vars task wide

  abbrev contradictory_set : Function
  contradictory_set = exactly_contradictory_where net vars task wide

  strong_tells : (bits : List Bool) → vars ≤ length bits → IsTrue (strong_set bits) ↔ IsExactlyStrong net task (take vars bits)
  strong_tells bits l =
      subst (λ (c : Bool). IsTrue c ↔ IsExactlyStrong net task (take vars bits)) (ap (λ (xs : List Bool). some_bits w (λ rest. counter_where task wide (xs ++ rest))) (take_take vars bits))
      (exact_results_are_findings.strong net vars task wide sound (wide_exact net vars task bit sound exact) (take vars bits) (simp (length-take) (omega (arith, l))))

  contradictory_tells : (bits : List Bool) → vars ≤ length bits → IsTrue (contradictory_set bits) ↔ IsExactlyContradictory net task (take vars bits)
  contradictory_tells bits l =
      subst (λ (c : Bool). IsTrue c ↔ IsExactlyContradictory net task (take vars bits)) (ap (λ (xs : List Bool). not (some_bits w (λ rest. met_where task wide (xs ++ rest)))) (take_take vars bits))
      (exact_results_are_findings.contradictory net vars task wide sound (wide_exact net vars task bit sound exact) (take vars bits) (simp (length-take) (omega (arith, l))))

  module _ (source s : Store) (r : Results) (vars_same : source.vars ≡ s.vars) (room : vars + w ≤ s.vars) (told : TellSets net vars task source r) where
    abbrev copies_work : List Function
    copies_work = function source r.strong ∷ function source r.contradictory ∷ []

    strong_same : (bits : List Bool) → length bits ≡ s.vars → function source r.strong bits ≡ strong_set bits
    strong_same bits l = same_bit (function source r.strong bits) (strong_set bits) (IsExactlyStrong net task (take vars bits)) (told.strong bits (l ∙ sym vars_same)) (strong_tells bits (omega (arith, l, room)))

    contradictory_same : (bits : List Bool) → length bits ≡ s.vars → function source r.contradictory bits ≡ contradictory_set bits
    contradictory_same bits l = same_bit (function source r.contradictory bits) (contradictory_set bits) (IsExactlyContradictory net task (take vars bits)) (told.contradictory bits (l ∙ sym vars_same)) (contradictory_tells bits (omega (arith, l, room)))

    covers : Covers s.vars copies_work work
    covers f (zero, lt, e) = subst (λ (g : Function). Has s.vars work g) e (strong_set, tail_in net vars task wide strong_set (2, omega arith, refl), λ bits l. sym (strong_same bits l))
    covers f (suc zero, lt, e) = subst (λ (g : Function). Has s.vars work g) e (contradictory_set, tail_in net vars task wide contradictory_set (4, omega arith, refl), λ bits l. sym (contradictory_same bits l))
    covers f (suc (suc k), lt, e) = absurd (omega arith)

    -- what is made for the copies is made for the exact check
    pub copies_built : (t : Store) (result : Result Results OpFault) → Built copies_work (AreCopies source r) s t result → Built work (AreCopies source r) s t result
    copies_built t result b = Built-covers work copies_work (AreCopies source r) s t result covers b

    module _ (t : Store) (copies : Results) (stays : t.vars ≡ s.vars) (are : AreCopies source r t copies) where
      pub strong_means : Means t strong_set copies.strong
      strong_means = Means-same t (function source r.strong) strong_set copies.strong (λ bits l. strong_same bits (l ∙ stays)) are.strong

      pub contradictory_means : Means t contradictory_set copies.contradictory
      contradictory_means = Means-same t (function source r.contradictory) contradictory_set copies.contradictory (λ bits l. contradictory_same bits (l ∙ stays)) are.contradictory
