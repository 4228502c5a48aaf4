-- For private functions. The parts of an exact report.
use Rattle.std.specs.Prelude.{◌≡◌, ◌↔◌, ◌≤◌, ◌+◌, ◌++◌, ℕ, Bool, List, Option, None, Some, IsTrue, drop, length, take}
use Rattle.dd_nodes.specs.declared.node.Ref.{Ref}
use Rattle.dd_nodes.specs.Stores.{Store, function}
use Rattle.net_core.specs.declared.raw.RawNet.{RawNet}
use Rattle.ste_model.specs.declared.report.Report.{Report}
use Rattle.ste_model.specs.declared.task.Assertion.{Assertion}
use Rattle.ste_model.specs.Asked.{depth}
use Rattle.ste_model.specs.Assignments.{EachAssignment, IsBefore}
use Rattle.ste_model.specs.Holds.{IsTaskRun}
use Rattle.exact_model.specs.Choices.{bits_at, choices}
use Rattle.engine_parts.specs.declared.results.Results.{Results}
use Rattle.engine_parts.specs.Reporting.{AreResultRefs}
use Rattle.exact_model.specs.Exact.{IsCounterexample, IsExactVerdictOf, IsExactlyContradictory, IsExactlyStrong}
use Rattle.exact_model.specs.ExactReport.{ShowsExactly}
use Rattle.exact_engine.specs.declared.results.ExactResults.{ExactResults}
use Rattle.exact_engine.specs.declared.showing.Shown.{Shown}
use Rattle.exact_engine.specs.Results.{TellExactly}

-- The reference tells the assignments and choices that make a counterexample: where it is 1 each
-- run with these choices is one; and it is 1 at the choices of each counterexample, whatever stands
-- behind them.
pub record TellsCounters (net : RawNet) (vars : ℕ) (task : Assertion) (s : Store) (r : Ref) :
    Type 0 where
  pub sound : (bits : List Bool) (run : ℕ → ℕ → Bool) → length bits ≡ s.vars →
      IsTrue (function s r bits) → IsTaskRun net task.reset (depth task) run →
      bits_at (choices net task) run ≡ take (length (choices net task)) (drop vars bits) →
      IsCounterexample net task (take vars bits) run
  pub complete : (bits rest : List Bool) (run : ℕ → ℕ → Bool) → length bits ≡ vars →
      length ((bits ++ bits_at (choices net task) run) ++ rest) ≡ s.vars →
      IsCounterexample net task bits run →
      IsTrue (function s r ((bits ++ bits_at (choices net task) run) ++ rest))

-- the references tell all that is reported, and there is room for the choices
pub record DoTell (net : RawNet) (vars : ℕ) (task : Assertion) (s : Store) (r : ExactResults) :
    Type 0 where
  pub room : vars + length (choices net task) ≤ s.vars
  pub findings : TellExactly net vars task s r
  pub counters : TellsCounters net vars task s r.counter

-- The list begins with the least assignment that has a counterexample, and behind it the least
-- choices of one: each run with these is a counterexample, and none has an assignment and choices
-- that stand before these.
pub record IsLeastCounter (net : RawNet) (vars : ℕ) (task : Assertion) (all : List Bool) :
    Type 0 where
  pub room : vars + length (choices net task) ≤ length all
  pub counter : (run : ℕ → ℕ → Bool) → IsTaskRun net task.reset (depth task) run →
      bits_at (choices net task) run ≡ take (length (choices net task)) (drop vars all) →
      IsCounterexample net task (take vars all) run
  pub least : (bits : List Bool) (run : ℕ → ℕ → Bool) → length bits ≡ vars →
      IsCounterexample net task bits run →
      ¬ IsBefore (bits ++ bits_at (choices net task) run)
      (take (vars + length (choices net task)) all)

-- that list, or that no assignment has a counterexample
abbrev pub IsLeastFound : RawNet → ℕ → Assertion → Option (List Bool) → Type 0
IsLeastFound net vars task None = EachAssignment vars (λ bits. ¬ IsExactlyStrong net task bits)
IsLeastFound net vars task (Some all) = IsLeastCounter net vars task all

-- The references tell the exactly strong and the exactly contradictory assignments, which are the
-- bits of the first variables; no assignment is weak.
pub record TellSets (net : RawNet) (vars : ℕ) (task : Assertion) (s : Store) (r : Results) :
    Type 0 where
  pub within : vars ≤ s.vars
  pub refs : AreResultRefs s r
  pub none : r.weak.0 ≡ 0
  pub strong : (bits : List Bool) → length bits ≡ s.vars →
      IsTrue (function s r.strong bits) ↔ IsExactlyStrong net task (take vars bits)
  pub contradictory : (bits : List Bool) → length bits ≡ s.vars →
      IsTrue (function s r.contradictory bits) ↔ IsExactlyContradictory net task (take vars bits)

-- the verdict is the exact one, and each report with these parts shows what it has to
pub record IsShownExactly (net : RawNet) (vars : ℕ) (task : Assertion) (shown : Shown) :
    Type 0 where
  pub judged : IsExactVerdictOf net vars task shown.verdict
  pub shows : (report : Report) → report.verdict ≡ shown.verdict → report.least ≡ shown.least →
      report.fails ≡ shown.fails → report.run ≡ shown.run → ShowsExactly net vars task report
