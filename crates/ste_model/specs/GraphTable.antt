-- Meaning, and laws. The tables of an assertion graph under one assignment: for each vertex whether
-- it is reached, and a set of bits for each latch. The closed ones, the least of them, and the
-- rounds that come to it. Source: Yang and Seger; that an edge is left out where some net has no
-- bit is a choice of this project.
use Rattle.std.specs.Prelude.{◌≡◌, ℕ, suc, ◌+◌, ◌*◌, Bool, false, List, length, All, IsTrue}
use Rattle.std.specs.List.{AllZip}
use Rattle.net_core.specs.declared.bit_set.BitSet.{BitSet}
use Rattle.net_core.specs.declared.raw.RawNet.{RawNet}
use Rattle.net_core.specs.Run.{IsSettled}
use Rattle.net_core.specs.Sets.{IsEmptyAt, IsWithin, first_sets, neither, next_sets}
use Rattle.net_core.specs.Possible.{ArePossible}
use Rattle.ste_model.specs.declared.task.Edge.{Edge}
use Rattle.ste_model.specs.declared.task.Graph.{Graph}
use Rattle.ste_model.specs.Edges.{IsGraph, asked_on}

-- ---- tables

-- what a table says of a vertex: whether it is reached, and a set for each latch
pub record VertexState : Type 0 where
  pub reached : Bool
  pub latches : List BitSet

-- the vertex is reached with at least these latch sets
abbrev pub IsReachedWith : List BitSet → VertexState → Type 0
IsReachedWith sets state = IsTrue state.reached × AllZip IsWithin sets state.latches

-- the one says no more than the other: it is reached only where the other is, and with no other
-- bits
abbrev pub IsStateWithin : VertexState → VertexState → Type 0
IsStateWithin small large =
    (IsTrue small.reached → IsTrue large.reached) × AllZip IsWithin small.latches large.latches

-- so at each vertex
abbrev pub IsTableWithin : (ℕ → VertexState) → (ℕ → VertexState) → Type 0
IsTableWithin small large = (vertex : ℕ) → IsStateWithin (small vertex) (large vertex)

-- The edge is feasible under the table, with these sets: its source is reached, and these are the
-- possible sets of one time from the source's latch sets and what the edge asks, and no net is
-- empty.
pub record IsFeasible (net : RawNet) (bits : List Bool) (table : ℕ → VertexState) (edge : Edge)
    (sets : ℕ → BitSet) : Type 0 where
  pub reached : IsTrue (table edge.from).reached
  pub possible : ArePossible net (table edge.from).latches (asked_on edge bits) sets
  pub full : ¬ IsEmptyAt net sets

-- ---- the least closed table

-- The second table takes what the first one gives: vertex 0 is reached with at least the first
-- values, and the target of each edge that is feasible under the first with at least that edge's
-- next sets.
pub record Takes (net : RawNet) (graph : Graph) (bits : List Bool) (now next : ℕ → VertexState) :
    Type 0 where
  pub long : (vertex : ℕ) → length (next vertex).latches ≡ length net.latches
  pub start : IsReachedWith (first_sets net graph.reset) (next 0)
  pub edges : All (λ edge. (sets : ℕ → BitSet) → IsFeasible net bits now edge sets →
      IsReachedWith (next_sets net sets) (next edge.to)) graph.edges

-- a closed table takes what it gives
abbrev pub IsClosed : RawNet → Graph → List Bool → (ℕ → VertexState) → Type 0
IsClosed net graph bits table = Takes net graph bits table table

-- the least closed table: closed, and within every closed one
pub record IsLeastClosed (net : RawNet) (graph : Graph) (bits : List Bool)
    (table : ℕ → VertexState) : Type 0 where
  pub closed : IsClosed net graph bits table
  pub least : (other : ℕ → VertexState) → IsClosed net graph bits other → IsTableWithin table other

-- ---- rounds

-- the table of the next round: it takes what the one before gives, and is within every table that
-- does; so what comes to one vertex is united, and nothing else is reached
pub record IsNext (net : RawNet) (graph : Graph) (bits : List Bool) (now next : ℕ → VertexState) :
    Type 0 where
  pub takes : Takes net graph bits now next
  pub least : (other : ℕ → VertexState) → Takes net graph bits now other → IsTableWithin next other

-- nothing is reached, and no latch has a bit
pub record IsUnreached (net : RawNet) (state : VertexState) : Type 0 where
  pub long : length state.latches ≡ length net.latches
  pub reached : state.reached ≡ false
  pub empty : All (λ set. set ≡ neither) state.latches

-- the tables of the rounds: in round 0 nothing is reached
pub record AreRounds (net : RawNet) (graph : Graph) (bits : List Bool)
    (rounds : ℕ → ℕ → VertexState) : Type 0 where
  pub start : (vertex : ℕ) → IsUnreached net (rounds 0 vertex)
  pub next : (n : ℕ) → IsNext net graph bits (rounds n) (rounds (suc n))

-- the number of the round that settles, whatever the assignment
abbrev pub enough : RawNet → Graph → ℕ
enough net graph = 2 * length graph.vertices * length net.latches + length graph.vertices + 1

-- Law: in a net without loops there are rounds, and only one table of each; after enough rounds it
-- is the least closed one.
pub record RoundsSettle : Type 0 where
  pub some : (net : RawNet) (graph : Graph) (bits : List Bool) → IsSettled net →
      (rounds : ℕ → ℕ → VertexState) × AreRounds net graph bits rounds
  pub same : (net : RawNet) (graph : Graph) (bits : List Bool) → IsSettled net →
      (one other : ℕ → ℕ → VertexState) → AreRounds net graph bits one →
      AreRounds net graph bits other →
      (n vertex : ℕ) → one n vertex ≡ other n vertex
  pub settle : (net : RawNet) (graph : Graph) (bits : List Bool) (rounds : ℕ → ℕ → VertexState) →
      IsSettled net →
      IsGraph graph → AreRounds net graph bits rounds →
      IsLeastClosed net graph bits (rounds (enough net graph))

-- Law: in a net without loops there is exactly one least closed table.
pub record OneLeastClosed : Type 0 where
  pub some : (net : RawNet) (graph : Graph) (bits : List Bool) → IsSettled net → IsGraph graph →
      (table : ℕ → VertexState) × IsLeastClosed net graph bits table
  pub same : (net : RawNet) (graph : Graph) (bits : List Bool) (one other : ℕ → VertexState) →
      IsLeastClosed net graph bits one → IsLeastClosed net graph bits other →
      (vertex : ℕ) → one vertex ≡ other vertex
