-- For private functions. The parts of a report.
use Rattle.std.specs.Prelude.{◌≡◌, ◌≢◌, ◌⊎◌, ℕ, Bool, List, Option, None, Some}
use Rattle.net_core.specs.declared.raw.RawNet.{RawNet}
use Rattle.ste_base.specs.declared.id.NodeId.{NodeId}
use Rattle.ste_model.specs.declared.run.Run.{Run}
use Rattle.ste_model.specs.declared.task.Assertion.{Assertion}
use Rattle.ste_model.specs.declared.task.Task.TheVariants.{Ste}
use Rattle.ste_model.specs.declared.verdict.Verdict.{Verdict}
use Rattle.ste_model.specs.declared.verdict.Verdict.TheVariants.{Strong, Weak}
use Rattle.ste_model.specs.Found.{FailsStrongly, FailsWeakly, IsStrong, IsWeak}
use Rattle.ste_model.specs.Report.{IsDue, IsPrintedUnder, IsShown}
use Rattle.ste_model.specs.Shown.{IsBindable}

-- the printed run under a strong assignment, where the antecedent is bindable
abbrev pub IsRunDue : RawNet → Assertion → List Bool → Option Run → Type 0
IsRunDue net task bits run =
    (IsBindable net (Ste task) × IsPrintedUnder net task (Some bits) run) ⊎
    ((¬ IsBindable net (Ste task)) × (run ≡ None))

-- what a failure shows, with this verdict
pub record IsFailureOf (net : RawNet) (vars : ℕ) (task : Assertion) (verdict : Verdict)
    (least : Option (List Bool)) (fails : Option (NodeId × ℕ)) (told : Option Run) : Type 0 where
  pub shown :
      ((verdict ≡ Strong) × IsShown (IsStrong net task) FailsStrongly net vars task least fails)
      ⊎ (((verdict ≡ Weak) × IsShown (IsWeak net task) FailsWeakly net vars task least fails)
      ⊎ ((verdict ≢ Strong) × (verdict ≢ Weak) × (least ≡ None) × (fails ≡ None)))
  pub run :
      (IsDue net task verdict × IsPrintedUnder net task least told)
      ⊎ ((¬ IsDue net task verdict) × (told ≡ None))
