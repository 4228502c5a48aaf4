-- For private functions. Where a run breaks quintuples first.
use Rattle.std.specs.Prelude.{◌≡◌, ◌<◌, ◌≤◌, ℕ, Bool, false, not, List, Option, None, Some, All, slice_get, slice_index_or}
use Rattle.ste_base.specs.declared.id.NodeId.{NodeId}
use Rattle.net_core.specs.Run.{Cut}
use Rattle.ste_model.specs.declared.task.Quint.{Quint}
use Rattle.ste_model.specs.Asked.{cuts_at, quint_at}
use Rattle.ste_model.specs.Breaks.{Breaks}

-- the first time of these at which a row has the opposite of a bit
abbrev pub IsFirstOpposite : List Bool → ℕ → ℕ → Bool → Option ℕ → Type 0
IsFirstOpposite row from to bit None =
    (t : ℕ) → from ≤ t → t < to → slice_index_or row t false ≡ bit
IsFirstOpposite row from to bit (Some time) =
    (from ≤ time) × (time < to) × (slice_index_or row time false ≡ not bit)
    × ((t : ℕ) → from ≤ t → t < time → slice_index_or row t false ≡ bit)

-- the first time before a limit at which a run breaks a quintuple
abbrev pub IsFirstBreach : (ℕ → ℕ → Bool) → List Bool → Quint → ℕ → Option ℕ → Type 0
IsFirstBreach run bits quint limit None =
    (t : ℕ) → t < limit → ¬ Breaks (run t) (quint_at bits t quint)
IsFirstBreach run bits quint limit (Some time) =
    (time < limit) × Breaks (run time) (quint_at bits time quint)
    × ((t : ℕ) → t < time → ¬ Breaks (run t) (quint_at bits t quint))

-- the run breaks none of the quintuples before a time
abbrev pub AreKeptBefore : (ℕ → ℕ → Bool) → List Bool → List Quint → ℕ → Type 0
AreKeptBefore run bits quints limit =
    (t : ℕ) → t < limit → All (λ cut. ¬ Breaks (run t) cut) (cuts_at quints bits t)

-- the least time at which the run breaks some of the quintuples, and the net of the first one that
-- it breaks then
pub record IsFirstPlace (run : ℕ → ℕ → Bool) (bits : List Bool) (depth : ℕ) (quints : List Quint)
    (place : NodeId × ℕ) : Type 0 where
  pub number : ℕ
  pub cut : Cut
  pub within : place.1 < depth
  pub here : slice_get (cuts_at quints bits place.1) number ≡ Some cut
  pub node : place.0.0 ≡ cut.node
  pub broken : Breaks (run place.1) cut
  pub first : (j : ℕ) (other : Cut) → j < number →
      slice_get (cuts_at quints bits place.1) j ≡ Some other → ¬ Breaks (run place.1) other
  pub earliest : AreKeptBefore run bits quints place.1

-- the first place before the depth at which the run breaks quintuples
abbrev pub IsFirstOf : (ℕ → ℕ → Bool) → List Bool → ℕ → List Quint → Option (NodeId × ℕ) → Type 0
IsFirstOf run bits depth quints None = AreKeptBefore run bits quints depth
IsFirstOf run bits depth quints (Some place) = IsFirstPlace run bits depth quints place

-- the time before which a place would be an earlier one
abbrev pub limit_of : Option (NodeId × ℕ) → ℕ → ℕ
limit_of None depth = depth
limit_of (Some place) depth = place.1
