-- For private functions. What one quintuple asks over all times.
use Rattle.std.specs.Prelude.{◌≡◌, ℕ, ◌≤◌, ◌<◌, Bool, false, List, IsTrue, slice_index_or}
use Rattle.ste_model.specs.declared.task.Quint.{Quint}
use Rattle.ste_model.specs.Asked.{quint_at}

-- a row has the bit at each time from one up to, but not at, another; a time without a bit has 0
abbrev pub HasBitFrom : List Bool → ℕ → ℕ → Bool → Type 0
HasBitFrom row from to bit = (t : ℕ) → from ≤ t → t < to → slice_index_or row t false ≡ bit

-- a run meets a quintuple
abbrev pub IsMet : (ℕ → ℕ → Bool) → List Bool → Quint → Type 0
IsMet run bits quint =
    (t : ℕ) → IsTrue (quint_at bits t quint).on → run t quint.node.0 ≡ (quint_at bits t quint).value
