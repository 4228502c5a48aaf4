-- An assertion has one exact report at most.
use Rattle.std.proofs.Common.{◌≡◌, ◌≢◌, ℕ, ◌<◌, ◌≤◌, Bool, true, false, not, List, Some, arith, refl, sym, ◌∙◌, ap, subst, inl, inr}
use Rattle.std.specs.Prelude.{Contains, IsTrue, ◌⊎◌, slice_get}
use Rattle.std.proofs.Math.Decide.{dec_lt}
use Rattle.std.proofs.lemmas.List.{length-map}
use Rattle.std.proofs.lemmas.List.Elements.{All-contains}
use Rattle.std.proofs.lemmas.Option.{get_or_from_slice_get, slice_get_within}
use Rattle.ste_base.specs.declared.id.NodeId.{NodeId}
use Rattle.net_core.specs.declared.raw.RawNet.{RawNet}
use Rattle.net_core.specs.Flat.{HasOneDriver, IsInRange}
use Rattle.net_core.specs.Run.{Cut, IsSettled, Meets}
use Rattle.ste_model.specs.declared.report.Report.{Report}
use Rattle.ste_model.specs.declared.run.Run.{Run}
use Rattle.ste_model.specs.declared.task.Assertion.{Assertion}
use Rattle.ste_model.specs.declared.verdict.Verdict.{Verdict}
use Rattle.ste_model.specs.declared.verdict.Verdict.TheVariants.{Pass, Weak, Strong, Vacuous, Budget}
use Rattle.ste_model.specs.Asked.{cuts_at, depth}
use Rattle.ste_model.specs.Assignments.{IsBefore}
use Rattle.ste_model.specs.Breaks.{Breaks, BreaksAt}
use Rattle.ste_model.specs.Runs.{run_of}
use Rattle.ste_model.proofs.Leasts.{one_least_with}
use Rattle.ste_model.proofs.OneShown.{same_place}
use Rattle.ste_model.proofs.Orders.{assignments_are_ordered}
use Rattle.ste_model.proofs.Reports.{one_list, same_parts}
use Rattle.ste_model.proofs.RunData.{same_data}
use Rattle.exact_model.specs.Choices.{Cell, bits_at, choices}
use Rattle.exact_model.specs.Exact.{IsCounterexample, IsExactVerdictOf, IsExactlyContradictory, IsExactlyStrong}
use Rattle.exact_model.specs.ExactReport.{ExactFailureBreaks, IsBrokenFirst, IsExactlyShown, OneExactReportOf, ShowsExactly, TellsFailure}
use Rattle.exact_model.proofs.ChoiceRuns.{runs_are_choices}
use Rattle.exact_model.proofs.Exactly.{one_verdict_at_most}

-- ---- the place

opposite_differs : (a b : Bool) → a ≡ b → a ≡ not b → ⊥
opposite_differs a false e f = cc
opposite_differs a true e f = cc

-- bits that break a cut of a list do not meet it
not_met : (bit : ℕ → Bool) (cuts : List Cut) (k : ℕ) (cut : Cut) → slice_get cuts k ≡ Some cut → Breaks bit cut → ¬ Meets cuts bit
not_met bit cuts k cut e broken meets =
    let here : Contains cuts cut = (k, slice_get_within cuts k cut e, get_or_from_slice_get cuts k cut cut e) in
    opposite_differs (bit cut.node) cut.value (All-contains (λ (c : Cut). IsTrue c.on → bit c.node ≡ c.value) cuts cut meets here broken.0) broken.1

module _ (task : Assertion) (bits : List Bool) (run : ℕ → ℕ → Bool) where
  not_before : (p q : NodeId × ℕ) → IsBrokenFirst task bits run p → IsBrokenFirst task bits run q → p.1 < q.1 → ⊥
  not_before p q a b l = not_met (run p.1) (cuts_at task.con bits p.1) a.number a.here.cut a.here.here a.here.broken (b.earliest p.1 l)

  not_lower : (t n m : ℕ) → BreaksAt task bits run t n → BreaksAt task bits run t m → n < m → ⊥
  not_lower t n m a b l = b.first n a.cut l a.here a.broken

  one_cut : (t n m : ℕ) (a : BreaksAt task bits run t n) (b : BreaksAt task bits run t m) → a.cut ≡ b.cut
  one_cut t n m a b =
      let numbers : n ≡ m = elim (dec_lt n m) [
        | yes l ↦ absurd (not_lower t n m a b l)
        | no f ↦ elim (dec_lt m n) [
          | yes l ↦ absurd (not_lower t m n b a l)
          | no g ↦ omega (arith, f, g)
        ]
      ] in
      let here : slice_get (cuts_at task.con bits t) m ≡ Some a.cut = subst (λ (k : ℕ). slice_get (cuts_at task.con bits t) k ≡ Some a.cut) numbers a.here in
      let both : Some a.cut ≡ Some b.cut = sym here ∙ b.here in
      cc both

  same_node : (s t : ℕ) (n m : ℕ) → s ≡ t → (a : BreaksAt task bits run s n) (b : BreaksAt task bits run t m) → a.cut.node ≡ b.cut.node
  same_node s t n m e a b =
      let moved : BreaksAt task bits run t n = subst (λ (u : ℕ). BreaksAt task bits run u n) e a in
      let here : slice_get (cuts_at task.con bits t) n ≡ Some a.cut = subst (λ (u : ℕ). slice_get (cuts_at task.con bits u) n ≡ Some a.cut) e a.here in
      let first : a.cut ≡ moved.cut = cc in
      ap (λ (c : Cut). c.node) (first ∙ one_cut t n m moved b)

  one_place : (p q : NodeId × ℕ) → IsBrokenFirst task bits run p → IsBrokenFirst task bits run q → p ≡ q
  one_place p q a b =
      let times : p.1 ≡ q.1 = elim (dec_lt p.1 q.1) [
        | yes l ↦ absurd (not_before p q a b l)
        | no f ↦ elim (dec_lt q.1 p.1) [
          | yes l ↦ absurd (not_before q p b a l)
          | no g ↦ omega (arith, f, g)
        ]
      ] in
      same_place p q (a.node ∙ same_node p.1 q.1 a.number b.number times a.here b.here ∙ sym b.node) times

-- ---- what is shown

module _ (net : RawNet) (vars : ℕ) (task : Assertion) (range : IsInRange net) (driver : HasOneDriver net) (settled : IsSettled net) where
  -- of two counterexamples neither of which has choices before those of the other, the bits are one
  same_least : (bits : List Bool) (one other : ℕ → ℕ → Bool) → IsCounterexample net task bits one → IsCounterexample net task bits other → ¬ IsBefore (bits_at (choices net task) one) (bits_at (choices net task) other) → ¬ IsBefore (bits_at (choices net task) other) (bits_at (choices net task) one) → (t id : ℕ) → t < depth task → id < net.nets → one t id ≡ other t id
  same_least bits one other a b first second =
      let long = length-map (choices net task) (λ (c : Cell). one c.time c.net) in
      let wide = length-map (choices net task) (λ (c : Cell). other c.time c.net) in
      let same : bits_at (choices net task) one ≡ bits_at (choices net task) other = elim (assignments_are_ordered.either (bits_at (choices net task) one) (bits_at (choices net task) other) (long ∙ sym wide)) [
        | inl e ↦ e
        | inr either ↦ elim either [
          | inl l ↦ absurd (first l)
          | inr l ↦ absurd (second l)
        ]
      ] in
      runs_are_choices.same net task one other range driver settled a.allowed.is_run b.allowed.is_run same

  one_shown : (one other : Report) → IsExactlyShown net vars task one → IsExactlyShown net vars task other → (one.least ≡ other.least) × (one.fails ≡ other.fails) × (one.run ≡ other.run)
  one_shown one other a b =
      let bits : a.bits ≡ b.bits = one_least_with vars (IsExactlyStrong net task) a.bits b.bits a.is_least b.is_least in
      let counter : IsCounterexample net task b.bits (run_of a.told) = subst (λ (bs : List Bool). IsCounterexample net task bs (run_of a.told)) bits a.counter in
      let back : IsCounterexample net task a.bits (run_of b.told) = subst (λ (bs : List Bool). IsCounterexample net task bs (run_of b.told)) (sym bits) b.counter in
      let told : a.told ≡ b.told = same_data net.nets (depth task) a.told b.told a.rows b.rows
      (same_least b.bits (run_of a.told) (run_of b.told) counter b.counter (b.first (run_of a.told) counter) (a.first (run_of b.told) back)) in
      let there : IsBrokenFirst task b.bits (run_of b.told) a.place =
      subst (λ (r : Run). IsBrokenFirst task b.bits (run_of r) a.place) told (subst (λ (bs : List Bool). IsBrokenFirst task bs (run_of a.told) a.place) bits a.is_place) in
      let place : a.place ≡ b.place = one_place task b.bits (run_of b.told) a.place b.place there b.is_place in
      (a.least_is ∙ ap Some bits ∙ sym b.least_is, a.fails_is ∙ ap Some place ∙ sym b.fails_is, a.run_is ∙ ap Some told ∙ sym b.run_is)

  same_shown : (one other : Report) → one.verdict ≡ other.verdict → ShowsExactly net vars task one → ShowsExactly net vars task other → (one.least ≡ other.least) × (one.fails ≡ other.fails) × (one.run ≡ other.run)
  same_shown one other e (inl a) (inl b) = one_shown one other a.1 b.1
  same_shown one other e (inl a) (inr b) = absurd (b.0 (sym e ∙ a.0))
  same_shown one other e (inr a) (inl b) = absurd (a.0 (e ∙ b.0))
  same_shown one other e (inr a) (inr b) = (a.1 ∙ sym b.1, a.2 ∙ sym b.2, a.3 ∙ sym b.3)

pub one_exact_report_of : OneExactReportOf
one_exact_report_of net range driver settled vars cubes task one other a b =
    let verdict : one.verdict ≡ other.verdict = one_verdict_at_most net vars task one.verdict other.verdict a.judged b.judged in
    let shown = same_shown net vars task range driver settled one other verdict a.shown b.shown in
    same_parts one other (a.named ∙ sym b.named) verdict
    (one_list cubes vars (IsExactlyStrong net task) one.guards.strong other.guards.strong a.strong b.strong)
    (one_list cubes vars (λ bits. ⊥) one.guards.weak other.guards.weak a.weak b.weak)
    (one_list cubes vars (IsExactlyContradictory net task) one.guards.contradictory other.guards.contradictory a.contradictory b.contradictory)
    shown.0 (a.path ∙ sym b.path) shown.1 shown.2

-- ---- a failure

no_break_before : (task : Assertion) (bits : List Bool) (run : ℕ → ℕ → Bool) (place : NodeId × ℕ) (is : IsBrokenFirst task bits run place) (t k : ℕ) (other : Cut) → slice_get (cuts_at task.con bits t) k ≡ Some other → Breaks (run t) other → (place.1 < t) ⊎ ((place.1 ≡ t) × (is.number ≤ k))
no_break_before task bits run place is t k other e breaks = elim (dec_lt place.1 t) [
  | yes later ↦ inl later
  | no late ↦ elim (dec_lt t place.1) [
    | yes earlier ↦ absurd (not_met (run t) (cuts_at task.con bits t) k other e breaks (is.earliest t earlier))
    | no early ↦
        let same : place.1 ≡ t = omega (arith, late, early) in
        elim (dec_lt k is.number) [
          | yes l ↦ absurd (is.here.first k other l (subst (λ (u : ℕ). slice_get (cuts_at task.con bits u) k ≡ Some other) (sym same) e)
              (subst (λ (u : ℕ). Breaks (run u) other) (sym same) breaks))
          | no l ↦ inr (same, omega (arith, l))
        ]
  ]
]

tells_failure : (net : RawNet) (vars : ℕ) (task : Assertion) (report : Report) → IsExactlyShown net vars task report → TellsFailure net task report
tells_failure net vars task report shown = record {
  bits = shown.bits;
  least_is = shown.least_is;
  told = shown.told;
  run_is = shown.run_is;
  counter = shown.counter;
  place = shown.place;
  fails_is = shown.fails_is;
  number = shown.is_place.number;
  cut = shown.is_place.here.cut;
  here = shown.is_place.here.here;
  node = shown.is_place.node;
  broken = shown.is_place.here.broken;
  none_before = no_break_before task shown.bits (run_of shown.told) shown.place shown.is_place;
}

strong_only : (net : RawNet) (vars : ℕ) (task : Assertion) (verdict : Verdict) → IsExactVerdictOf net vars task verdict → verdict ≢ Pass → verdict ≡ Strong
strong_only net vars task Strong is other = refl
strong_only net vars task Pass is other = absurd (other refl)
strong_only net vars task Weak is other = absurd is
strong_only net vars task Vacuous is other = absurd is
strong_only net vars task Budget is other = absurd is

pub exact_failure_breaks : ExactFailureBreaks
exact_failure_breaks net vars cubes task report is other = elim is.shown [
  | inl shown ↦ tells_failure net vars task report shown.1
  | inr none ↦ absurd (none.0 (strong_only net vars task report.verdict is.judged other))
]
