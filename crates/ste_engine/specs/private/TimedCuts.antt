-- For private functions. What quintuples ask, by references, and how it stands in a timeline.
use Rattle.std.specs.Prelude.{◌≡◌, ◌≤◌, ℕ, suc, ◌==◌, ◌&&◌, nat_le, nat_lt, Bool, List, [], ◌∷◌, ◌++◌, map, filter, IsTrue, if◌then◌else◌}
use Rattle.ste_base.specs.Functions.{Function}
use Rattle.dd_nodes.specs.Stores.{Store, Means}
use Rattle.bool_expr.specs.Value.{value_of}
use Rattle.ste_model.specs.declared.task.Quint.{Quint}
use Rattle.ste_model.specs.Expressions.{reads, symbolic_value}
use Rattle.sym_step.specs.declared.cut.Cut.{Cut}
use Rattle.ste_engine.specs.declared.timed_cuts.TimedCut.{TimedCut}

-- both expressions read variables below this number alone
abbrev pub DoesRead : ℕ → Quint → Type 0
DoesRead vars quint = IsTrue (reads vars quint.guard && reads vars quint.value)

-- the functions for one quintuple
abbrev pub quint_work : Quint → List Function
quint_work quint = (symbolic_value quint.guard).work ++ (symbolic_value quint.value).work

-- the references have the functions of the quintuple at this place
pub record IsTimedCut (t : Store) (place : ℕ) (quint : Quint) (timed_cut : TimedCut) : Type 0 where
  pub node : timed_cut.cut.node ≡ quint.node
  pub from : timed_cut.from ≡ quint.from
  pub to : timed_cut.to ≡ quint.to
  pub guard : Means t (value_of quint.guard) timed_cut.cut.guard
  pub value : Means t (value_of quint.value) timed_cut.cut.value
  pub placed : timed_cut.place ≡ place

-- the same of lists, from this place on
abbrev pub AreTimedCuts : Store → ℕ → List Quint → List TimedCut → Type 0
AreTimedCuts t place [] [] = Unit {0}
AreTimedCuts t place [] (timed_cut ∷ timed_cuts) = ⊥
AreTimedCuts t place (quint ∷ quints) [] = ⊥
AreTimedCuts t place (quint ∷ quints) (timed_cut ∷ timed_cuts) =
    IsTimedCut t place quint timed_cut × AreTimedCuts t (suc place) quints timed_cuts

-- t is a time of the quintuple
abbrev pub runs_at : ℕ → TimedCut → Bool
runs_at t timed_cut = nat_le timed_cut.from t && nat_lt t timed_cut.to

-- it is the first
abbrev pub begins_at : ℕ → TimedCut → Bool
begins_at t timed_cut = (timed_cut.from == t) && nat_lt t timed_cut.to

-- the time before t is one
abbrev pub ran_before : ℕ → TimedCut → Bool
ran_before t timed_cut = nat_lt timed_cut.from t && nat_le t timed_cut.to

-- the cuts of these
abbrev pub cuts_of : List TimedCut → List Cut
cuts_of timed_cuts = map (λ (timed_cut : TimedCut). timed_cut.cut) timed_cuts

-- the cuts at time t, in order
abbrev pub running_cuts : ℕ → List TimedCut → List Cut
running_cuts t timed_cuts = cuts_of (filter (runs_at t) timed_cuts)

-- places rise, and are at least this
abbrev pub ArePlaced : ℕ → List TimedCut → Type 0
ArePlaced place [] = Unit {0}
ArePlaced place (timed_cut ∷ timed_cuts) =
    (place ≤ timed_cut.place) × ArePlaced (suc timed_cut.place) timed_cuts

-- two lists by place
abbrev pub merge : List TimedCut → List TimedCut → List TimedCut
merge xs [] = xs
merge [] (y ∷ ys) = y ∷ ys
merge (x ∷ xs) (y ∷ ys) =
    if nat_lt x.place y.place then (x ∷ merge xs (y ∷ ys)) else (y ∷ merge (x ∷ xs) ys)
