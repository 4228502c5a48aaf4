-- For private functions. The sets of the nets that consequents name.
use Rattle.std.specs.Prelude.{◌≡◌, ◌≢◌, ◌<◌, ℕ, List, Contains, get_or, length}
use Rattle.std.specs.List.{AllZip}
use Rattle.dd_nodes.specs.Stores.{Store}
use Rattle.net_core.specs.declared.raw.RawNet.{RawNet}
use Rattle.net_core.specs.Work.{ArePossibleEach, SymbolicSet}
use Rattle.dual_rail.specs.declared.rails.Rails.{Rails}
use Rattle.dual_rail.specs.Rail.{AreRails}
use Rattle.sym_step.specs.Step.{rails_at}
use Rattle.ste_model.specs.declared.task.Bind.{Bind}
use Rattle.ste_model.specs.declared.task.Edge.{Edge}
use Rattle.ste_model.specs.GraphWork.{SymbolicState, symbolic_asked_on}
use Rattle.gste_engine.specs.declared.state.State.{State}
use Rattle.gste_engine.specs.Tables.{IsState}

-- the set of the net that a binding names
abbrev pub rails_of : List Rails → Bind → Rails
rails_of nets bind = rails_at nets bind.node.0

-- Where its source is said to be so, these are the sets of the nets that an edge's consequents
-- name, and the sets of all nets are held: for some state and sets, and so for all.
pub record IsSeenFrom (t : Store) (net : RawNet) (edge : Edge) (source : State)
    (rails : List Rails) : Type 0 where
  pub state : SymbolicState
  pub sets : ℕ → SymbolicSet
  pub is_source : IsState t state source
  pub possible : ArePossibleEach t.vars net state.latches (symbolic_asked_on edge) sets
  pub nets : (id : ℕ) → id < net.nets → (r : Rails) × AreRails t (sets id) r
  pub seen : AllZip (λ bind r. bind.node.0 < net.nets →
      AreRails t (sets bind.node.0) r) edge.con rails

-- the same of each edge on a table, by number, where its source is reached, but for edges from
-- stale vertices, and for those from this vertex from the m-th edge on
pub record AreSeenBut (t : Store) (net : RawNet) (edges : List Edge) (table : List State)
    (stale : List ℕ) (vertex m : ℕ) (seen : List (List Rails)) : Type 0 where
  pub long : length seen ≡ length edges
  pub each : (k : ℕ) (d : Edge) (e : State) (f : List Rails) → k < length edges →
      ¬ Contains stale (get_or edges k d).from →
      ((get_or edges k d).from ≡ vertex → k < m) →
      (get_or table (get_or edges k d).from e).reached.0 ≢ 0 →
      IsSeenFrom t net (get_or edges k d) (get_or table (get_or edges k d).from e) (get_or seen k f)

-- and of all edges
pub record AreSeen (t : Store) (net : RawNet) (edges : List Edge) (table : List State)
    (seen : List (List Rails)) : Type 0 where
  pub long : length seen ≡ length edges
  pub each : (k : ℕ) (d : Edge) (e : State) (f : List Rails) → k < length edges →
      (get_or table (get_or edges k d).from e).reached.0 ≢ 0 →
      IsSeenFrom t net (get_or edges k d) (get_or table (get_or edges k d).from e) (get_or seen k f)
