-- One time more under one assignment, and the place where it fails.
use Rattle.std.proofs.Common.{◌≡◌, ◌≢◌, ℕ, suc, ◌+◌, ◌<◌, Bool, List, Option, None, Some, refl, sym, subst, arith, All, Result, Err, inl, inr}
use Rattle.std.specs.Prelude.{Any, IsSome}
use Rattle.std.specs.List.{AllZip}
use Rattle.std.proofs.lemmas.Bool.{cases_lt}
use Rattle.dd_nodes.specs.declared.node.Ref.{Ref}
use Rattle.dd_nodes.specs.Stores.{Store}
use Rattle.dd_nodes.proofs.Stores.{IsGood}
use Rattle.dd_ops.specs.declared.fault.OpFault.{OpFault}
use Rattle.dd_ops.specs.declared.fault.OpFault.TheVariants.{StepsOut}
use Rattle.dual_rail.specs.declared.rails.Rails.{Rails}
use Rattle.dual_rail.specs.Rail.{AreRails, Built}
use Rattle.net_core.specs.declared.bit_set.BitSet.{BitSet}
use Rattle.net_core.specs.declared.raw.RawNet.{RawNet}
use Rattle.net_core.specs.Work.{ArePossibleEach, SymbolicAsked, SymbolicSet, time_work}
use Rattle.ste_base.specs.declared.id.NodeId.{NodeId}
use Rattle.ste_model.specs.declared.task.Assertion.{Assertion}
use Rattle.ste_model.specs.Asked.{cuts_at, depth, weakened_at}
use Rattle.ste_model.specs.Found.{IsTableOf}
use Rattle.ste_model.specs.Report.{IsFailingPlace}
use Rattle.ste_model.specs.Work.{latches_at, symbolic_asked_at, symbolic_cuts_at}
use Rattle.sym_step.specs.declared.cut.Cut.{Cut}
use Rattle.sym_step.specs.declared.frame.Frame.{Frame}
use Rattle.sym_step.specs.declared.made.Step.{Step}
use Rattle.sym_step.specs.Frame.{step_of}
use Rattle.sym_step.specs.Step.{IsCutBy, IsStep, ids_of}
use Rattle.engine_parts.specs.declared.failing.Failure.{Failure}
use Rattle.engine_parts.specs.Failing.{FailsBy, MakesNothing}
use Rattle.ste_engine.specs.private.Places.{fixed_task}
use Rattle.engine_parts.proofs.Constants.{never_out, nothing_made, of_time}
use Rattle.ste_engine.proofs.Family.{family_at}
use Rattle.engine_parts.proofs.FirstFails.{IsFirstFail}
use Rattle.ste_engine.proofs.FixedTasks.{constant_cuts, constant_family, constant_latches, constant_table, fixed_depth, fixed_whole}

-- ---- the times of an assertion under an assignment

module _ (net : RawNet) (task : Assertion) (bits : List Bool) (failure : Failure) where
  abbrev fixed : Assertion
  fixed = fixed_task bits task

  -- the latches have their sets at time k, and no consequent failed so before
  pub record IsPlaceAt (table : ℕ → ℕ → BitSet) (t : Store) (k : ℕ) (held : List Rails) : Type 0 where
    pub latches : AllZip (AreRails t) (latches_at net fixed (constant_table table) k) held
    pub none : (j : ℕ) → j < k → ¬ Any (FailsBy failure (table j)) (cuts_at task.con bits j)

  pub place_begins : (table : ℕ → ℕ → BitSet) (t : Store) (held : List Rails) → IsGood t → AllZip (AreRails t) (latches_at net fixed (constant_table table) 0) held → IsPlaceAt table t 0 held
  place_begins table t held d zip = record { latches = zip; none = λ j lt. absurd (omega (arith, lt)) }

  module _ (table : ℕ → ℕ → BitSet) (is : IsTableOf net task bits table) (t u : Store) (k : ℕ) (lt : k < depth task) (frame : Frame) (weak : List NodeId) (weak_is : weakened_at task.weak k ≡ ids_of weak) where
    abbrev pub StepCall : List Cut → List Rails → Result Ref OpFault → Type 0
    StepCall cuts held result = (ls : List SymbolicSet) (asked : SymbolicAsked) (sets : ℕ → SymbolicSet) → AllZip (AreRails t) ls held → AllZip (IsCutBy t) asked.cuts cuts → asked.weak ≡ ids_of weak → ArePossibleEach t.vars net ls asked sets
        → Built (time_work net ls asked sets) (λ (v : Store) (r : Ref). IsStep net sets v (step_of net frame r)) t u result

    pub step_built : (cuts : List Cut) (held : List Rails) (result : Result Ref OpFault) → AllZip (IsCutBy t) (symbolic_cuts_at fixed.ant k) cuts → IsPlaceAt table t k held → StepCall cuts held result
        → Built (time_work net (latches_at net fixed (constant_table table) k) (symbolic_asked_at fixed k) (constant_table table k)) (λ (v : Store) (r : Ref). IsStep net (constant_table table k) v (step_of net frame r)) t u result
    step_built cuts held result fits p call =
        call (latches_at net fixed (constant_table table) k) (symbolic_asked_at fixed k) (constant_table table k) p.latches fits weak_is
        (family_at net t.vars fixed (constant_table table) k (fixed_whole net t.vars task bits table is) (subst (λ n. k < n) (sym (fixed_depth bits task)) lt))

    module _ (cuts : List Cut) (held : List Rails) (result : Result Ref OpFault) (gu : IsGood u) (made : All (λ r. IsSome (u.held r)) u.made)
        (fits : AllZip (IsCutBy t) (symbolic_cuts_at fixed.ant k) cuts) (p : IsPlaceAt table t k held) (call : StepCall cuts held result) where
      -- a step makes nothing
      pub step_makes : MakesNothing t u
      step_makes =
          let b = step_built cuts held result fits p call in
          nothing_made _ t u (result ≡ Err StepsOut) (of_time net (symbolic_asked_at fixed k) (constant_table table k) (constant_latches net fixed table k) (constant_cuts bits k task.ant) (constant_family table k)) gu made b.spends

      -- and is not out of steps
      pub step_goes : result ≢ Err StepsOut
      step_goes =
          let b = step_built cuts held result fits p call in
          never_out _ t u (result ≡ Err StepsOut) (of_time net (symbolic_asked_at fixed k) (constant_table table k) (constant_latches net fixed table k) (constant_cuts bits k task.ant) (constant_family table k)) gu made b.spends

    pub place_next : (held : List Rails) (made : Step) → IsPlaceAt table t k held → IsStep net (constant_table table k) u made → ¬ Any (FailsBy failure (table k)) (cuts_at task.con bits k) → IsPlaceAt table u (k + 1) made.next
    place_next held made p step none =
        let e : k + 1 ≡ suc k = omega arith in
        record {
          latches = subst (λ j. AllZip (AreRails u) (latches_at net fixed (constant_table table) j) made.next) (sym e) step.next;
          none = λ j below. elim (cases_lt j k) [
            | inl earlier ↦ p.none j earlier
            | inr late ↦ let same : k ≡ j = omega (arith, below, late) in subst (λ (i : ℕ). ¬ Any (FailsBy failure (table i)) (cuts_at task.con bits i)) same none
          ];
        }

    pub place_is : (held : List Rails) (node : NodeId) → IsPlaceAt table t k held → IsFirstFail failure (table k) (cuts_at task.con bits k) node → IsFailingPlace (FailsBy failure) net task bits (node, k)
    place_is held node p h = record {
      table = table;
      possible = is;
      within = lt;
      number = h.number;
      cut = h.cut;
      here = h.here;
      fails = h.fails;
      node = h.node_is;
      first = h.first;
      earliest = p.none;
    }

  -- some time fails, so the times do not end
  pub place_ends : (table : ℕ → ℕ → BitSet) (t : Store) (k : ℕ) (held : List Rails) → IsPlaceAt table t k held → k ≡ depth task → ((j : ℕ) × (j < depth task) × Any (FailsBy failure (table j)) (cuts_at task.con bits j)) → ⊥
  place_ends table t k held p end (j, lt, any) = p.none j (omega (arith, lt, end)) any

pub not_some : (o : Option NodeId) → ((node : NodeId) → o ≡ Some node → ⊥) → o ≡ None
not_some None never = refl
not_some (Some node) never = absurd (never node refl)
