-- For private functions. The work functions of one round as it is done, and how far the rounds are.
use Rattle.std.specs.Prelude.{◌≡◌, ◌<◌, ◌⊎◌, ℕ, false, List, [], ◌∷◌, ◌++◌, All, Contains, IsTrue, get_or, length, replicate, set}
use Rattle.std.specs.List.{flat_map}
use Rattle.ste_base.specs.Functions.{Function}
use Rattle.dd_nodes.specs.Diagram.{IsDiagram}
use Rattle.dd_nodes.specs.Stores.{Store}
use Rattle.net_core.specs.declared.raw.RawNet.{RawNet}
use Rattle.net_core.specs.Work.{ArePossibleEach, SymbolicSet}
use Rattle.dual_rail.specs.declared.rails.Rails.{Rails}
use Rattle.sym_step.specs.Frame.{IsFrame}
use Rattle.ste_model.specs.declared.task.Edge.{Edge}
use Rattle.ste_model.specs.declared.task.Graph.{Graph}
use Rattle.ste_model.specs.GraphTable.{enough}
use Rattle.ste_model.specs.GraphWork.{SymbolicState, edge_work, given_by, symbolic_asked_on}
use Rattle.gste_engine.specs.declared.links.End.TheVariants.{From, To}
use Rattle.gste_engine.specs.declared.rounds.Ends.{Ends}
use Rattle.gste_engine.specs.declared.rounds.Progress.{Progress}
use Rattle.gste_engine.specs.declared.rounds.Known.{Known}
use Rattle.gste_engine.specs.declared.rounds.Sweep.{Sweep}
use Rattle.gste_engine.specs.declared.rounds.EdgeResults.{EdgeResults}
use Rattle.gste_engine.specs.declared.state.State.{State}
use Rattle.gste_engine.specs.Tables.{AreStateRefs, HasStates, IsState}
use Rattle.gste_engine.specs.private.Links.{AreLinks}
use Rattle.gste_engine.specs.private.Seen.{AreSeen, AreSeenBut}
use Rattle.gste_engine.specs.private.Sums.{IsSumOf, arrivals_work, first_table, summed_at, unreached}
use Rattle.gste_engine.specs.private.Waiting.{IsWaiting}

-- the functions for some edges
abbrev pub edges_work : RawNet → (ℕ → SymbolicState) → (Edge → ℕ → SymbolicSet) → List Edge →
    List Function
edges_work net states sets edges =
    flat_map (λ (edge : Edge). edge_work net edge (states edge.from) (sets edge)) edges

-- the functions for one round, with those of its edges' expressions
abbrev pub one_round_work : RawNet → Graph → (ℕ → SymbolicState) → (Edge → ℕ → SymbolicSet) →
    List Function
one_round_work net graph states sets =
    edges_work net states sets graph.edges ++
    arrivals_work net graph (λ edge. given_by net (states edge.from) (sets edge))

-- this is what an edge gives, where its source is said to be so: for some state and sets, and so
-- for all
pub record IsGivenFrom (t : Store) (net : RawNet) (edge : Edge)
    (source given : State) : Type 0 where
  pub state : SymbolicState
  pub sets : ℕ → SymbolicSet
  pub is_source : IsState t state source
  pub possible : ArePossibleEach t.vars net state.latches (symbolic_asked_on edge) sets
  pub is_given : IsState t (given_by net state sets) given

-- this is what each edge gives on a table, by number
pub record AreGivenFrom (t : Store) (net : RawNet) (edges : List Edge)
    (table givens : List State) : Type 0 where
  pub long : length givens ≡ length edges
  pub each : (k : ℕ) (d : Edge) (e f : State) → k < length edges →
      IsGivenFrom t net (get_or edges k d) (get_or table (get_or edges k d).from e)
      (get_or givens k f)

-- the same, but for edges from stale vertices, and for those from this vertex from the m-th edge on
pub record AreGivenBut (t : Store) (net : RawNet) (edges : List Edge) (table : List State)
    (stale : List ℕ) (vertex m : ℕ) (givens : List State) : Type 0 where
  pub long : length givens ≡ length edges
  pub each : (k : ℕ) (d : Edge) (e f : State) → k < length edges →
      ¬ Contains stale (get_or edges k d).from →
      ((get_or edges k d).from ≡ vertex → k < m) →
      IsGivenFrom t net (get_or edges k d) (get_or table (get_or edges k d).from e)
      (get_or givens k f)

-- What each edge gives on a table, but for those; and where a vertex does not wait, its state is
-- the sum of what comes. The frame is one of some time.
pub record AreEdgeResults (t : Store) (net : RawNet) (graph : Graph) (table : List State)
    (stale : List ℕ) (vertex m : ℕ) (r : EdgeResults) : Type 0 where
  pub given : AreGivenBut t net graph.edges table stale vertex m r.givens.items
  pub seen : AreSeenBut t net graph.edges table stale vertex m r.seen.items
  pub waiting : IsWaiting r.waiting
  pub flags : length r.waiting.flags.items ≡ length graph.vertices
  pub sums : (v : ℕ) (d : State) → v < length graph.vertices → ¬ Contains r.waiting.list.items v →
      IsSumOf t net graph r.givens.items v (get_or table v d)
  pub frame : IsFrame t net r.frame

-- edge k gives this, with these sets, and where it gave something else, the vertex waits
pub record IsWithGiven (old : EdgeResults) (k to : ℕ) (given : State) (rails : List Rails)
    (new : EdgeResults) : Type 0 where
  pub givens : new.givens.items ≡ set old.givens.items k given
  pub seen : new.seen.items ≡ set old.seen.items k rails
  pub waiting : IsWaiting new.waiting
  pub flags : length new.waiting.flags.items ≡ length old.waiting.flags.items
  pub others : (v : ℕ) → Contains old.waiting.list.items v → Contains new.waiting.list.items v
  pub moved : (new.givens.items ≡ old.givens.items) ⊎ Contains new.waiting.list.items to
  pub frame : new.frame ≡ old.frame

-- A table that was another one: where a vertex is not left to be summed, its state is the sum of
-- what comes, and where it is not listed as changed, its state is the one that it was.
pub record IsSwept (t : Store) (net : RawNet) (graph : Graph) (givens table : List State)
    (left : List ℕ) (r : Sweep) : Type 0 where
  pub long : length r.table.items ≡ length graph.vertices
  pub refs : All (AreStateRefs t net) r.table.items
  pub flags : length r.flags.items ≡ length graph.vertices
  pub clear : (v : ℕ) → IsTrue (get_or r.flags.items v false) → Contains left v
  pub inside : All (λ v. v < length graph.vertices) r.changed.items
  pub sums : (v : ℕ) (d : State) → v < length graph.vertices → ¬ Contains left v →
      IsSumOf t net graph givens v (get_or r.table.items v d)
  pub same : (v : ℕ) (d : State) → v < length graph.vertices → ¬ Contains r.changed.items v →
      get_or r.table.items v d ≡ get_or table v d

-- the vertex has this state and waits no longer, and where it had another one, it is listed as
-- changed
pub record IsWithSum (old : Sweep) (vertex : ℕ) (sum : State) (new : Sweep) : Type 0 where
  pub table : new.table.items ≡ set old.table.items vertex sum
  pub flags : new.flags.items ≡ set old.flags.items vertex false
  pub moved : (new.table.items ≡ old.table.items) × (new.changed.items ≡ old.changed.items)
      ⊎ (new.changed.items ≡ old.changed.items ++ vertex ∷ [])

-- Between two rounds: each state is the sum of what comes to its vertex, and what an edge gives is
-- known, but for edges from vertices that have changed; no vertex waits.
pub record IsBetween (t : Store) (net : RawNet) (graph : Graph) (r : Progress) : Type 0 where
  pub long : length r.table.items ≡ length graph.vertices
  pub refs : All (AreStateRefs t net) r.table.items
  pub given : AreGivenBut t net graph.edges r.table.items r.changed.items 0
      (length graph.edges) r.givens.items
  pub seen : AreSeenBut t net graph.edges r.table.items r.changed.items 0
      (length graph.edges) r.seen.items
  pub sums : (v : ℕ) (d : State) → v < length graph.vertices →
      IsSumOf t net graph r.givens.items v (get_or r.table.items v d)
  pub inside : All (λ v. v < length graph.vertices) r.changed.items
  pub flags : length r.flags.items ≡ length graph.vertices
  pub clear : (v : ℕ) → ¬ IsTrue (get_or r.flags.items v false)
  pub frame : IsFrame t net r.frame

-- the table of the sums of what each edge gives on these states, with these sets
pub record IsTurn (net : RawNet) (graph : Graph) (states : ℕ → SymbolicState)
    (sets : Edge → ℕ → SymbolicSet) (t : Store) (r : Progress) : Type 0 where
  pub between : IsBetween t net graph r
  pub has : HasStates (summed_at net graph.reset
      (λ edge. given_by net (states edge.from) (sets edge)) graph.edges)
      (length graph.vertices) t r.table.items

-- vertex 0 is reached and has changed, and nothing is given; the frame is of no time
pub record AtStart (net : RawNet) (graph : Graph) (r : Progress) : Type 0 where
  pub table : r.table.items ≡ first_table net graph.reset (length graph.vertices)
  pub givens : r.givens.items ≡ replicate (length graph.edges) (unreached net)
  pub seen : length r.seen.items ≡ length graph.edges
  pub changed : r.changed.items ≡ 0 ∷ []
  pub flags : r.flags.items ≡ replicate (length graph.vertices) false
  pub frame : (s : Store) → IsDiagram s.held s.vars → IsFrame s net r.frame

-- the edges at each vertex, by both ends
pub record AreEnds (graph : Graph) (r : Ends) : Type 0 where
  pub from : AreLinks From (length graph.vertices) graph.edges r.from
  pub into : AreLinks To (length graph.vertices) graph.edges r.into

-- the table is that of round n, or already that of the round that settles, where no vertex has
-- changed
pub record IsProgress (net : RawNet) (graph : Graph) (tables : ℕ → ℕ → SymbolicState) (n : ℕ)
    (t : Store) (r : Progress) : Type 0 where
  pub between : IsBetween t net graph r
  pub more : 0 < length r.changed.items →
      HasStates (tables n) (length graph.vertices) t r.table.items
  pub done : length r.changed.items ≡ 0 →
      HasStates (tables (enough net graph)) (length graph.vertices) t r.table.items

-- the table of these states, between two rounds
pub record IsLast (net : RawNet) (graph : Graph) (states : ℕ → SymbolicState) (t : Store)
    (r : Progress) : Type 0 where
  pub between : IsBetween t net graph r
  pub has : HasStates states (length graph.vertices) t r.table.items

-- the table of these states, with what is known of each edge on it
pub record IsSettledOn (net : RawNet) (graph : Graph) (states : ℕ → SymbolicState) (t : Store)
    (r : Known) : Type 0 where
  pub has : HasStates states (length graph.vertices) t r.table.items
  pub refs : All (AreStateRefs t net) r.table.items
  pub given : AreGivenFrom t net graph.edges r.table.items r.givens.items
  pub seen : AreSeen t net graph.edges r.table.items r.seen.items
