-- For private functions. Marks of nets: which nets a run shows.
use Rattle.std.specs.Prelude.{◌≡◌, ◌<◌, ◌||◌, ℕ, Bool, false, if◌then◌else◌, List, [], length, nat_eq, slice_index_or}
use Rattle.std.specs.List.{list_any}
use Rattle.ste_model.specs.declared.task.Bind.{Bind}
use Rattle.ste_model.specs.declared.task.Edge.{Edge}
use Rattle.ste_model.specs.declared.task.Quint.{Quint}
use Rattle.report_text.specs.Text.{net_line}

-- a quintuple of the list names the net
abbrev pub in_quints : List Quint → ℕ → Bool
in_quints quints id = list_any (λ (quint : Quint). nat_eq quint.node.0 id) quints

-- a binding of the list names the net
abbrev pub in_binds : List Bind → ℕ → Bool
in_binds binds id = list_any (λ (bind : Bind). nat_eq bind.node.0 id) binds

-- a binding of an edge of the list names the net
abbrev pub in_edges : List Edge → ℕ → Bool
in_edges edges id = list_any (λ (edge : Edge). in_binds edge.ant id || in_binds edge.con id) edges

-- as many marks as before; a net is marked where it was, or is named
pub record AddsMarks (before after : List Bool) (named : ℕ → Bool) : Type 0 where
  pub long : length after ≡ length before
  pub marked : (id : ℕ) → id < length before → slice_index_or after id false
      ≡ slice_index_or before id false || named id

-- the line of a net in a run, where it is marked
abbrev pub marked_line : List Bool → ℕ × (List ℕ × List Bool) → List ℕ
marked_line marks at = if slice_index_or marks at.0 false then net_line at.1 else []
