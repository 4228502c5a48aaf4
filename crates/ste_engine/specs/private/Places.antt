-- For private functions. An assertion under one assignment, as one that reads no variables, and
-- where it fails.
use Rattle.std.specs.Prelude.{ℕ, suc, Bool, List, [], ◌∷◌, map}
use Rattle.bool_expr.specs.Value.{value_of}
use Rattle.net_core.specs.declared.raw.RawNet.{RawNet}
use Rattle.ste_model.specs.declared.task.Assertion.{Assertion}
use Rattle.ste_model.specs.declared.task.Quint.{Quint}
use Rattle.ste_model.specs.Found.{IsStrong, IsWeak}
use Rattle.engine_parts.specs.Failing.{constant_ref, fixed_quint}
use Rattle.ste_engine.specs.declared.timed_cuts.TimedCut.{TimedCut}
use Rattle.engine_parts.specs.declared.failing.Failure.{Failure}
use Rattle.engine_parts.specs.declared.failing.Failure.TheVariants.{Strong, Weak}

-- an assignment is so
abbrev pub IsFoundBy : Failure → RawNet → Assertion → List Bool → Type 0
IsFoundBy Strong = IsStrong
IsFoundBy Weak = IsWeak

-- ---- under one assignment

-- what a quintuple asks under an assignment, by constants
abbrev pub fixed_timed_cut : List Bool → ℕ → Quint → TimedCut
fixed_timed_cut bits place quint = record {
  cut = record {
    node = quint.node;
    guard = constant_ref (value_of quint.guard bits);
    value = constant_ref (value_of quint.value bits);
  };
  from = quint.from;
  to = quint.to;
  place = place;
}

-- the same of lists, from this place on
abbrev pub fixed_timed_cuts : List Bool → ℕ → List Quint → List TimedCut
fixed_timed_cuts bits place [] = []
fixed_timed_cuts bits place (quint ∷ quints) =
    fixed_timed_cut bits place quint ∷ fixed_timed_cuts bits (suc place) quints

-- an assertion with each guard and value under an assignment
abbrev pub fixed_task : List Bool → Assertion → Assertion
fixed_task bits task =
    record task { ant = map (fixed_quint bits) task.ant; con = map (fixed_quint bits) task.con }
