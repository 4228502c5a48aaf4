-- For private functions. What is known of the edges of a graph under one assignment, and routes
-- along them.
use Rattle.std.specs.Prelude.{◌≡◌, ◌≢◌, ◌<◌, ◌≤◌, ◌↔◌, ◌==◌, ◌&&◌, ℕ, Bool, not, List, [], ◌∷◌, length, IsTrue, nat_lt, if◌then◌else◌, Some, slice_get, slice_index_or}
use Rattle.std.specs.declared.cmp.Ordering.TheVariants.{Greater}
use Rattle.std.specs.Cmp.Lexicographic.{slice_cmp}
use Rattle.std.specs.List.{AllZip, list_any}
use Rattle.std.specs.Ordering.{nat_cmp}
use Rattle.net_core.specs.declared.bit_set.BitSet.{BitSet}
use Rattle.net_core.specs.declared.raw.RawNet.{RawNet}
use Rattle.net_core.specs.Run.{Cut}
use Rattle.ste_model.specs.declared.task.Edge.{Edge}
use Rattle.ste_model.specs.declared.task.Graph.{Graph}
use Rattle.ste_model.specs.Found.{FailsStrongly, FailsWeakly}
use Rattle.ste_model.specs.GraphFound.{FailsOn, IsGraphContradictory, IsGraphStrong, IsGraphWeak}
use Rattle.ste_model.specs.GraphTable.{IsFeasible, VertexState}
use Rattle.plain_check.specs.declared.found.Failure.{Failure}
use Rattle.plain_check.specs.declared.found.Failure.TheVariants as failure
use Rattle.plain_check.specs.declared.found.Outcome.{Outcome}
use Rattle.plain_check.specs.declared.found.Outcome.TheVariants.{Contradictory, Strong, Weak, Fine}
use Rattle.plain_check.specs.declared.hops.Hop.{Hop}

-- the two ways to fail, by their names in the code
abbrev pub fails_of : Failure → (ℕ → BitSet) → Cut → Type 0
fails_of failure.Strong = FailsStrongly
fails_of failure.Weak = FailsWeakly

-- some consequent of the hop's edge fails so
abbrev pub hop_fails : Failure → Hop → Bool
hop_fails failure.Strong hop = hop.strong
hop_fails failure.Weak hop = hop.weak

abbrev pub is_feasible : Hop → Bool
is_feasible hop = hop.feasible

-- the hop has the edge's ends, and says whether the edge is feasible under the table, and whether a
-- consequent of it fails
pub record IsHopOf (net : RawNet) (bits : List Bool) (table : ℕ → VertexState) (edge : Edge)
    (hop : Hop) : Type 0 where
  pub from : hop.from ≡ edge.from
  pub to : hop.to ≡ edge.to
  pub feasible : IsTrue hop.feasible ↔ ((sets : ℕ → BitSet) × IsFeasible net bits table edge sets)
  pub fails : (how : Failure) → IsTrue (hop_fails how hop) ↔ FailsOn
      (fails_of how) net bits table edge

-- a hop for each edge, by number
abbrev pub AreHops : RawNet → List Bool → (ℕ → VertexState) → List Edge → List Hop → Type 0
AreHops net bits table edges hops = AllZip (IsHopOf net bits table) edges hops

-- the outcome, from the hops of all edges
abbrev pub outcome_of : List Hop → Outcome
outcome_of hops =
    if not (list_any is_feasible hops) then Contradictory
    else if list_any (hop_fails failure.Strong) hops then Strong
    else if list_any (hop_fails failure.Weak) hops then Weak
    else Fine

-- the outcome of an assignment, which no other is
abbrev pub IsGraphOutcome : RawNet → Graph → List Bool → Outcome → Type 0
IsGraphOutcome net graph bits Contradictory = IsGraphContradictory net graph bits
IsGraphOutcome net graph bits Strong = IsGraphStrong net graph bits
IsGraphOutcome net graph bits Weak = IsGraphWeak net graph bits
IsGraphOutcome net graph bits Fine =
    (¬ IsGraphContradictory net graph bits) × (¬ IsGraphStrong net graph bits) ×
    (¬ IsGraphWeak net graph bits)

-- ---- routes

-- a route from a vertex, by the numbers of its hops: the first one from this vertex, each other
-- from where the one before leads; all but the last are feasible, and the last one fails so
abbrev pub IsRoute : Failure → List Hop → ℕ → List ℕ → Type 0
IsRoute how hops vertex [] = ⊥
IsRoute how hops vertex (n ∷ []) =
    (hop : Hop) × (slice_get hops n ≡ Some hop) × (hop.from ≡ vertex) × IsTrue (hop_fails how hop)
IsRoute how hops vertex (n ∷ m ∷ rest) =
    (hop : Hop) × (slice_get hops n ≡ Some hop) × (hop.from ≡ vertex) × IsTrue hop.feasible
    × IsRoute how hops hop.to (m ∷ rest)

-- the least route of so many hops from a vertex, or no number where there is none
abbrev pub IsBest : Failure → List Hop → ℕ → ℕ → List ℕ → Type 0
IsBest how hops n vertex [] = (other : List ℕ) → IsRoute how hops vertex other → length other ≢ n
IsBest how hops n vertex (k ∷ path) =
    IsRoute how hops vertex (k ∷ path) × (length (k ∷ path) ≡ n)
    × ((other : List ℕ) → IsRoute how hops vertex other → length other ≡ n →
    slice_cmp nat_cmp (k ∷ path) other ≢ Greater)

-- so for each vertex
abbrev pub AreBest : Failure → List Hop → ℕ → List (List ℕ) → Type 0
AreBest how hops n best =
    (vertex : ℕ) → vertex < length best → IsBest how hops n vertex (slice_index_or best vertex [])

-- the hop is from the vertex, feasible, and leads to a vertex with a route
abbrev pub leads : List (List ℕ) → ℕ → Hop → Bool
leads best vertex hop =
    (hop.from == vertex) && (hop.feasible && nat_lt 0 (length (slice_index_or best hop.to [])))

-- the hop is from the vertex, and fails so
abbrev pub ends_so : Failure → ℕ → Hop → Bool
ends_so how vertex hop = (hop.from == vertex) && hop_fails how hop

-- a search for routes from vertex 0 with up to n hops: these are the least ones of some number of
-- hops, no route from vertex 0 has fewer, and where vertex 0 has none the number is n
pub record IsSearched (how : Failure) (hops : List Hop) (n : ℕ)
    (best : List (List ℕ)) : Type 0 where
  pub count : ℕ
  pub some : 0 < count
  pub are : AreBest how hops count best
  pub fewest : (other : List ℕ) → IsRoute how hops 0 other → count ≤ length other
  pub all : slice_index_or best 0 [] ≡ [] → count ≡ n

-- the route from vertex 0 with the fewest hops, and among those with the least list of numbers; or
-- no number where each route has more than n hops
abbrev pub IsShortest : Failure → List Hop → ℕ → List ℕ → Type 0
IsShortest how hops n [] = (other : List ℕ) → IsRoute how hops 0 other → n < length other
IsShortest how hops n (k ∷ path) =
    IsRoute how hops 0 (k ∷ path)
    × ((other : List ℕ) → IsRoute how hops 0 other → (length (k ∷ path) ≤ length other)
    × (length other ≡ length (k ∷ path) → slice_cmp nat_cmp (k ∷ path) other ≢ Greater))
