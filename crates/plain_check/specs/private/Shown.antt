-- For private functions. What a failure of a graph shows, by the plain program.
use Rattle.std.specs.Prelude.{◌≡◌, Bool, List, Option, None, Some}
use Rattle.net_core.specs.declared.raw.RawNet.{RawNet}
use Rattle.ste_model.specs.declared.task.Edge.{Edge}
use Rattle.ste_model.specs.declared.task.Graph.{Graph}
use Rattle.ste_model.specs.Edges.{AreNumbers}
use Rattle.ste_model.specs.GraphFound.{IsGraphFound}
use Rattle.ste_model.specs.GraphShown.{IsPathPlace, IsShownPath}
use Rattle.plain_check.specs.declared.found.Failure.{Failure}
use Rattle.plain_check.specs.declared.found.Failure.TheVariants as failure
use Rattle.plain_check.specs.declared.found.Outcome.{Outcome}
use Rattle.plain_check.specs.declared.found.Outcome.TheVariants.{Strong, Weak}
use Rattle.plain_check.specs.declared.graph_checker.GraphFound.{GraphFound}
use Rattle.plain_check.specs.declared.graph_checker.Shown.{Shown}
use Rattle.plain_check.specs.private.Hops.{IsGraphOutcome, fails_of}

-- the shown path, and the failing place along it
pub record IsShownSo (net : RawNet) (graph : Graph) (bits : List Bool) (how : Failure)
    (shown : Shown) : Type 0 where
  pub is_path : IsShownPath (fails_of how) net graph bits shown.path
  pub is_place : (path : List Edge) → AreNumbers graph shown.path path →
      IsPathPlace (fails_of how) net graph bits path shown.time shown.consequent

-- what is shown, or nothing where nothing fails so
abbrev pub IsShownIf : RawNet → Graph → List Bool → Failure → Option Shown → Type 0
IsShownIf net graph bits how None = ¬ IsGraphFound (fails_of how) net graph bits
IsShownIf net graph bits how (Some shown) = IsShownSo net graph bits how shown

-- the way to fail that an outcome says
abbrev pub failure_of : Outcome → Option Failure
failure_of Strong = Some failure.Strong
failure_of Weak = Some failure.Weak
failure_of other = None

-- what goes with it: what it shows, and nothing where nothing fails
abbrev pub GoesWith : RawNet → Graph → List Bool → Option Failure → Option Shown → Type 0
GoesWith net graph bits None shown = shown ≡ None
GoesWith net graph bits (Some how) shown = IsShownIf net graph bits how shown

-- what is found of a graph under an assignment
pub record IsFoundBy (net : RawNet) (graph : Graph) (bits : List Bool)
    (found : GraphFound) : Type 0 where
  pub outcome : IsGraphOutcome net graph bits found.outcome
  pub shown : GoesWith net graph bits (failure_of found.outcome) found.shown
