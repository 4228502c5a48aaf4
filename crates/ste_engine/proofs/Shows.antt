-- What a failure shows, from the parts; and the report.
use Rattle.std.proofs.Common.{◌≡◌, ℕ, Bool, true, false, List, Option, None, Some, refl, sym, subst, ◌∙◌, inl, inr}
use Rattle.std.specs.Prelude.{◌⊎◌, IsTrue}
use Rattle.dd_nodes.specs.declared.node.Ref.{Ref}
use Rattle.ste_base.specs.Functions.{Function}
use Rattle.dd_nodes.specs.Stores.{Means, Store, function}
use Rattle.net_core.specs.declared.raw.RawNet.{RawNet}
use Rattle.net_core.specs.Run.{IsSettled}
use Rattle.net_core.specs.Work.{SymbolicSet}
use Rattle.ste_base.specs.declared.id.NodeId.{NodeId}
use Rattle.ste_model.specs.declared.run.Run.{Run}
use Rattle.ste_model.specs.declared.task.Assertion.{Assertion}
use Rattle.ste_model.specs.declared.verdict.Verdict.TheVariants.{Strong, Weak}
use Rattle.ste_model.specs.Asked.{asked_at, depth}
use Rattle.ste_model.specs.Assignments.{SomeAssignment, Tells}
use Rattle.ste_model.specs.Found.{FailsStrongly, FailsWeakly, IsContradictory, IsFound, IsStrong, IsWeak}
use Rattle.ste_model.specs.Least.{IsLeast, IsLeastOf}
use Rattle.ste_model.specs.Need.{IsWholeTable}
use Rattle.ste_model.specs.Report.{IsDue, IsFailingPlace, IsPrintedUnder, IsShown}
use Rattle.ste_model.specs.Work.{contradictory_where, strong_where, weak_where}
use Rattle.ste_model.proofs.Tables.{same_table}
use Rattle.ste_model.proofs.Wheres.{results_are_findings}
use Rattle.engine_parts.specs.declared.failing.Failure.{Failure}
use Rattle.engine_parts.specs.declared.failing.Failure.TheVariants as failure
use Rattle.engine_parts.specs.declared.results.Results.{Results}
use Rattle.engine_parts.specs.Failing.{FailsBy}
use Rattle.ste_engine.specs.private.Places.{IsFoundBy}
use Rattle.ste_engine.specs.Findings.{TellFindings}
use Rattle.ste_engine.specs.private.Reports.{IsFailureOf, IsRunDue}
use Rattle.ste_engine.specs.private.Turns.{AreResults}

-- ---- what the references tell

tells_by : (t : Store) (f : Function) (r : Ref) (P : List Bool → Type 0) → Means t f r → Tells t.vars f P → Tells t.vars (function t r) P
tells_by t f r P m tells bits l = (λ h. (tells bits l).0 (sym (m.value bits l) ∙ h), λ p. m.value bits l ∙ (tells bits l).1 p)

pub results_tell : (net : RawNet) (task : Assertion) (table : ℕ → ℕ → SymbolicSet) (t : Store) (r : Results) → IsSettled net → IsWholeTable net t.vars task table → AreResults net task table t r → TellFindings t net task r
results_tell net task table t r settled whole h = record {
  refs = record { strong = h.strong.ref; weak = h.weak.ref; contradictory = h.contradictory.ref };
  strong = tells_by t (strong_where net task table) r.strong (IsStrong net task) h.strong (results_are_findings.strong net t.vars task table settled whole);
  weak = tells_by t (weak_where net task table) r.weak (IsWeak net task) h.weak (results_are_findings.weak net t.vars task table settled whole);
  contradictory = tells_by t (contradictory_where net task table) r.contradictory (IsContradictory net task) h.contradictory (results_are_findings.contradictory net t.vars task table settled whole);
}

-- ---- the least assignment

pub found_of : (f : Failure) (net : RawNet) (task : Assertion) (bits : List Bool) → IsFoundBy f net task bits → IsFound (FailsBy f) net task bits
found_of failure.Strong net task bits h = h
found_of failure.Weak net task bits h = h.1

module _ (f : Failure) (net : RawNet) (vars : ℕ) (task : Assertion) (told : Function) (tells : Tells vars told (IsFoundBy f net task)) where
  pub least_has : (bits : List Bool) → IsLeast vars (λ other. IsTrue (told other)) bits → IsFoundBy f net task bits
  least_has bits h = (tells bits h.long).0 h.has

  pub least_shown : (bits : List Bool) (place : NodeId × ℕ) → IsLeast vars (λ other. IsTrue (told other)) bits → IsFailingPlace (FailsBy f) net task bits place
      → IsShown (IsFoundBy f net task) (FailsBy f) net vars task (Some bits) (Some place)
  least_shown bits place h p = record {
    bits = bits;
    least_is = refl;
    is_least = record { long = h.long; has = least_has bits h; least = λ other l is. h.least other l ((tells other l).1 is) };
    place = place;
    fails_is = refl;
    is_place = p;
  }

  pub none_least : IsLeastOf vars told None → SomeAssignment vars (IsFoundBy f net task) → ⊥
  none_least none some = let e : false ≡ true = sym (none some.0 some.1) ∙ (tells some.0 some.1).1 some.2 in cc e

-- what is shown of a strong failure is a strong assignment
pub strong_of : (net : RawNet) (vars : ℕ) (task : Assertion) (bits : List Bool) (place : NodeId × ℕ) → IsShown (IsStrong net task) FailsStrongly net vars task (Some bits) (Some place) → IsStrong net task bits
strong_of net vars task bits place h = let e : bits ≡ h.bits = let f = h.least_is in cc f in subst (IsStrong net task) (sym e) h.is_least.has

-- ---- the run

pub not_contradictory : (net : RawNet) (task : Assertion) (bits : List Bool) → IsSettled net → IsStrong net task bits → ¬ IsContradictory net task bits
not_contradictory net task bits settled strong (other, is, (t, lt, (id, inside, empty))) =
    strong.2 (t, lt, (id, inside, same_table net task.reset (asked_at task bits) (depth task) settled strong.0 other strong.1 is t id lt ∙ empty))

module _ (net : RawNet) (vars : ℕ) (task : Assertion) (bits : List Bool) (place : NodeId × ℕ) where
  pub strong_shows : (run : Option Run) → IsShown (IsStrong net task) FailsStrongly net vars task (Some bits) (Some place) → IsRunDue net task bits run → IsFailureOf net vars task Strong (Some bits) (Some place) run
  strong_shows run shown due = record { shown = inl (refl, shown); run = by due }
    where
      by : IsRunDue net task bits run → (IsDue net task Strong × IsPrintedUnder net task (Some bits) run) ⊎ ((¬ IsDue net task Strong) × (run ≡ None))
      by (inl d) = inl ((refl, d.0), d.1)
      by (inr d) = inr (λ h. d.0 h.1, d.1)

  pub weak_shows : IsShown (IsWeak net task) FailsWeakly net vars task (Some bits) (Some place) → IsFailureOf net vars task Weak (Some bits) (Some place) None
  weak_shows shown = record { shown = inr (inl (refl, shown)); run = inr (λ h. absurd (cc h.0), refl) }
