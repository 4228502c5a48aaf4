-- Laws. Where the antecedent is bindable, a check by sets of bits says nearly all that runs say,
-- and the run that it prints is the one that is asked for.
use Rattle.std.specs.Prelude.{◌≡◌, ◌↔◌, ℕ, Bool, List, Some}
use Rattle.ste_base.specs.declared.id.NodeId.{NodeId}
use Rattle.net_core.specs.declared.raw.RawNet.{RawNet}
use Rattle.net_core.specs.Flat.{HasOneDriver, IsInRange}
use Rattle.net_core.specs.Run.{IsSettled}
use Rattle.ste_model.specs.declared.report.Report.{Report}
use Rattle.ste_model.specs.declared.run.Run.{Run}
use Rattle.ste_model.specs.declared.task.Assertion.{Assertion}
use Rattle.ste_model.specs.declared.task.Task.TheVariants.{Ste}
use Rattle.ste_model.specs.Asked.{depth}
use Rattle.ste_model.specs.Assignments.{EachAssignment, IsBefore}
use Rattle.ste_model.specs.Found.{IsContradictory, IsStrong, IsWeak}
use Rattle.ste_model.specs.Least.{IsLeast}
use Rattle.ste_model.specs.Runs.{HasRows, run_of}
use Rattle.ste_model.specs.Shown.{IsBindable, IsPrinted}
use Rattle.exact_model.specs.Choices.{bits_at, choices}
use Rattle.exact_model.specs.Exact.{IsCounterexample, IsExactlyContradictory, IsExactlyStrong, IsOverNet}
use Rattle.exact_model.specs.ExactReport.{IsBrokenFirst, IsExactlyShown}

-- a sound net without loops, and an assertion over its nets whose antecedent is bindable
pub record IsBoundOver (net : RawNet) (task : Assertion) : Type 0 where
  pub range : IsInRange net
  pub driver : HasOneDriver net
  pub settled : IsSettled net
  pub over : IsOverNet net task
  pub bindable : IsBindable net (Ste task)

-- Law: where the antecedent is bindable, an assignment is contradictory by sets exactly where it is
-- exactly so; one that is strong by sets is exactly strong; and one that is not weak by sets is
-- strong by sets exactly where it is exactly so.
pub record BindableIsFree : Type 0 where
  pub contradictory : (net : RawNet) (task : Assertion) (bits : List Bool) → IsBoundOver net task →
      IsContradictory net task bits ↔ IsExactlyContradictory net task bits
  pub strong : (net : RawNet) (task : Assertion) (bits : List Bool) → IsBoundOver net task →
      IsStrong net task bits → IsExactlyStrong net task bits
  pub unless_weak : (net : RawNet) (task : Assertion) (bits : List Bool) → IsBoundOver net task →
      ¬ IsWeak net task bits → IsStrong net task bits ↔ IsExactlyStrong net task bits

-- Law: where the antecedent is bindable, the printed run under an assignment that is strong by sets
-- is a counterexample, and no other has choices that stand before its own. So where no assignment
-- is weak by sets, the least one that is strong by sets, its printed run and the place that this
-- run shows are what an exact failure shows.
pub record PrintedIsLeast : Type 0 where
  pub counter : (net : RawNet) (task : Assertion) (bits : List Bool) (run : ℕ → ℕ → Bool) →
      IsBoundOver net task → IsStrong net task bits → IsPrinted net task bits run →
      IsCounterexample net task bits run
  pub least : (net : RawNet) (task : Assertion) (bits : List Bool) (run other : ℕ → ℕ → Bool) →
      IsBoundOver net task → IsStrong net task bits → IsPrinted net task bits run →
      IsCounterexample net task bits other →
      ¬ IsBefore (bits_at (choices net task) other) (bits_at (choices net task) run)
  pub shown : (net : RawNet) (vars : ℕ) (task : Assertion) (bits : List Bool) (told : Run)
      (place : NodeId × ℕ) (report : Report) →
      IsBoundOver net task → EachAssignment vars (λ other. ¬ IsWeak net task other) →
      IsLeast vars (IsStrong net task) bits → HasRows net.nets (depth task) told →
      IsPrinted net task bits (run_of told) → IsBrokenFirst task bits (run_of told) place →
      report.least ≡ Some bits → report.run ≡ Some told → report.fails ≡ Some place →
      IsExactlyShown net vars task report
