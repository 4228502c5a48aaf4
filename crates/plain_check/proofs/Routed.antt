-- Routes along hops are paths of a graph, and the least of the shortest is the one that is shown.
use Rattle.std.proofs.Common.{◌≡◌, ℕ, ◌<◌, zero, suc, Bool, List, [], ◌∷◌, length, get_or, sym, refl, ap, subst, ◌∙◌, arith}
use Rattle.std.specs.Prelude.{All, Contains, Some, slice_get}
use Rattle.std.specs.List.{AllZip}
use Rattle.std.proofs.lemmas.List.Elements.{All-cons, All-head, All-nil, All-tail}
use Rattle.net_core.specs.declared.bit_set.BitSet.{BitSet}
use Rattle.net_core.specs.declared.raw.RawNet.{RawNet}
use Rattle.net_core.specs.Run.{IsSettled}
use Rattle.ste_model.specs.declared.task.Edge.{Edge}
use Rattle.ste_model.specs.declared.task.Graph.{Graph}
use Rattle.ste_model.specs.Edges.{AreNumbers, IsGraph, IsLastEdge, IsPathFrom}
use Rattle.ste_model.specs.GraphFound.{FailsOn, IsGraphFound}
use Rattle.ste_model.specs.GraphShown.{IsCandidate, IsShownPath}
use Rattle.ste_model.specs.GraphTable.{IsFeasible, IsLeastClosed, VertexState, enough}
use Rattle.ste_model.proofs.Reached.{short_candidate}
use Rattle.ste_model.proofs.Rounds.{least_alike}
use Rattle.plain_check.specs.declared.found.Failure.{Failure}
use Rattle.plain_check.specs.declared.hops.Hop.{Hop}
use Rattle.plain_check.specs.private.Hops.{AreHops, IsHopOf, IsRoute, IsShortest, fails_of}

the_same : {X : Type 0} → (a b : X) → Some a ≡ Some b → a ≡ b
the_same a b e = cc

-- ---- hops and edges by number

module _ (R : Edge → Hop → Type 0) where
  hop_at : (edges : List Edge) (hops : List Hop) → AllZip R edges hops → (n : ℕ) (hop : Hop) → slice_get hops n ≡ Some hop → (edge : Edge) × (slice_get edges n ≡ Some edge) × R edge hop
  hop_at [] [] are n hop e = absurd (cc e)
  hop_at [] (h ∷ hops) are n hop e = absurd are
  hop_at (x ∷ edges) [] are n hop e = absurd are
  hop_at (x ∷ edges) (h ∷ hops) are zero hop e = (x, refl, subst (R x) (the_same h hop e) are.0)
  hop_at (x ∷ edges) (h ∷ hops) are (suc n) hop e = hop_at edges hops are.1 n hop e

  edge_at : (edges : List Edge) (hops : List Hop) → AllZip R edges hops → (n : ℕ) (edge : Edge) → slice_get edges n ≡ Some edge → (hop : Hop) × (slice_get hops n ≡ Some hop) × R edge hop
  edge_at [] hops are n edge e = absurd (cc e)
  edge_at (x ∷ edges) [] are n edge e = absurd are
  edge_at (x ∷ edges) (h ∷ hops) are zero edge e = (h, refl, subst (λ y. R y h) (the_same x edge e) are.0)
  edge_at (x ∷ edges) (h ∷ hops) are (suc n) edge e = edge_at edges hops are.1 n edge e

contained : (edges : List Edge) (n : ℕ) (edge : Edge) → slice_get edges n ≡ Some edge → Contains edges edge
contained [] n edge e = absurd (cc e)
contained (x ∷ edges) zero edge e = (0, omega arith, the_same x edge e)
contained (x ∷ edges) (suc n) edge e = let h = contained edges n edge e in (suc h.0, let l = h.1 in omega arith, h.2)

pub numbers_long : (graph : Graph) (numbers : List ℕ) (path : List Edge) → AreNumbers graph numbers path → length numbers ≡ length path
numbers_long graph [] [] are = refl
numbers_long graph [] (edge ∷ path) are = absurd are
numbers_long graph (n ∷ numbers) [] are = absurd are
numbers_long graph (n ∷ numbers) (edge ∷ path) are = ap suc (numbers_long graph numbers path are.1)

-- the edge at a place of the path is that of the number there
pub edge_of_number : (graph : Graph) (numbers : List ℕ) (path : List Edge) → AreNumbers graph numbers path → (i : ℕ) (edge : Edge) → slice_get graph.edges (get_or numbers i 0) ≡ Some edge → i < length numbers → slice_get path i ≡ Some edge
edge_of_number graph [] path are i edge e l = absurd (omega arith)
edge_of_number graph (n ∷ numbers) [] are i edge e l = absurd are
edge_of_number graph (n ∷ numbers) (x ∷ path) are zero edge e l = sym are.0 ∙ e
edge_of_number graph (n ∷ numbers) (x ∷ path) are (suc i) edge e l = edge_of_number graph numbers path are.1 i edge e (omega arith)

pub number_of_edge : (graph : Graph) (numbers : List ℕ) (path : List Edge) → AreNumbers graph numbers path → (i : ℕ) (edge : Edge) → slice_get path i ≡ Some edge → slice_get graph.edges (get_or numbers i 0) ≡ Some edge
number_of_edge graph [] [] are i edge e = absurd (cc e)
number_of_edge graph [] (x ∷ path) are i edge e = absurd are
number_of_edge graph (n ∷ numbers) [] are i edge e = absurd are
number_of_edge graph (n ∷ numbers) (x ∷ path) are zero edge e = are.0 ∙ e
number_of_edge graph (n ∷ numbers) (x ∷ path) are (suc i) edge e = number_of_edge graph numbers path are.1 i edge e

-- ---- routes and paths

module _ (how : Failure) (net : RawNet) (graph : Graph) (bits : List Bool) (table : ℕ → VertexState) (hops : List Hop) (are : AreHops net bits table graph.edges hops) where
  abbrev CanTake : Edge → Type 0
  CanTake edge = (sets : ℕ → BitSet) × IsFeasible net bits table edge sets

  -- what a path of edges is, read with the table
  record Goes (vertex : ℕ) (numbers : List ℕ) (path : List Edge) : Type 0 where
    numbered : AreNumbers graph numbers path
    is_path : IsPathFrom graph.edges vertex path
    feasible : All CanTake path
    edge : Edge
    last : IsLastEdge path edge
    fails : FailsOn (fails_of how) net bits table edge

  one_edge : (vertex n : ℕ) (edge : Edge) → slice_get graph.edges n ≡ Some edge → edge.from ≡ vertex → FailsOn (fails_of how) net bits table edge → Goes vertex (n ∷ []) (edge ∷ [])
  one_edge vertex n edge e from fails = record {
    numbered = (e, tt);
    is_path = (contained graph.edges n edge e, from, tt);
    feasible = All-cons CanTake edge [] (fails.0, fails.1) (All-nil CanTake);
    edge = edge;
    last = record { number = 0; last = refl; here = refl };
    fails = fails;
  }

  more_edges : (vertex n : ℕ) (edge : Edge) (numbers : List ℕ) (path : List Edge) → slice_get graph.edges n ≡ Some edge → edge.from ≡ vertex → CanTake edge → Goes edge.to numbers path → Goes vertex (n ∷ numbers) (edge ∷ path)
  more_edges vertex n edge numbers path e from feasible rest = record {
    numbered = (e, rest.numbered);
    is_path = (contained graph.edges n edge e, from, rest.is_path);
    feasible = All-cons CanTake edge path feasible rest.feasible;
    edge = rest.edge;
    last = record { number = suc rest.last.number; last = ap suc rest.last.last; here = rest.last.here };
    fails = rest.fails;
  }

  -- a route is a path
  path_of : (vertex : ℕ) (numbers : List ℕ) → IsRoute how hops vertex numbers → (path : List Edge) × Goes vertex numbers path
  path_of vertex [] route = absurd route
  path_of vertex (n ∷ []) route =
      let at = hop_at (IsHopOf net bits table) graph.edges hops are n route.0 route.1 in
      (at.0 ∷ [], one_edge vertex n at.0 at.1 (sym at.2.from ∙ route.2) ((at.2.fails how).0 route.3))
  path_of vertex (n ∷ m ∷ rest) route =
      let at = hop_at (IsHopOf net bits table) graph.edges hops are n route.0 route.1 in
      let next = path_of route.0.to (m ∷ rest) route.4 in
      (at.0 ∷ next.0, more_edges vertex n at.0 (m ∷ rest) next.0 at.1 (sym at.2.from ∙ route.2) (at.2.feasible.0 route.3) (subst (λ (v : ℕ). Goes v (m ∷ rest) next.0) at.2.to next.1))

  last_alone : (edge other : Edge) → IsLastEdge (edge ∷ []) other → edge ≡ other
  last_alone edge other last = at last.number last.last last.here
    where
      at : (k : ℕ) → suc k ≡ 1 → slice_get (edge ∷ []) k ≡ Some other → edge ≡ other
      at zero e here = the_same edge other here
      at (suc k) e here = absurd (omega (arith, e))

  last_behind : (edge next other : Edge) (path : List Edge) → IsLastEdge (edge ∷ next ∷ path) other → IsLastEdge (next ∷ path) other
  last_behind edge next other path last = at last.number last.last last.here
    where
      at : (k : ℕ) → suc k ≡ length (edge ∷ next ∷ path) → slice_get (edge ∷ next ∷ path) k ≡ Some other → IsLastEdge (next ∷ path) other
      at zero e here = absurd (omega (arith, e))
      at (suc k) e here = record { number = k; last = omega (arith, e); here = here }

  -- a path is a route
  route_of : (vertex : ℕ) (numbers : List ℕ) (path : List Edge) → Goes vertex numbers path → IsRoute how hops vertex numbers
  route_of vertex [] [] goes = absurd (let e = goes.last.last in omega (arith, e))
  route_of vertex [] (edge ∷ path) goes = absurd goes.numbered
  route_of vertex (n ∷ numbers) [] goes = absurd goes.numbered
  route_of vertex (n ∷ []) (edge ∷ []) goes =
      let at = edge_at (IsHopOf net bits table) graph.edges hops are n edge goes.numbered.0 in
      (at.0, at.1, at.2.from ∙ goes.is_path.1, (at.2.fails how).1 (subst (FailsOn (fails_of how) net bits table) (sym (last_alone edge goes.edge goes.last)) goes.fails))
  route_of vertex (n ∷ []) (edge ∷ other ∷ path) goes = absurd goes.numbered.1
  route_of vertex (n ∷ m ∷ numbers) (edge ∷ []) goes = absurd goes.numbered.1
  route_of vertex (n ∷ m ∷ numbers) (edge ∷ other ∷ path) goes =
      let at = edge_at (IsHopOf net bits table) graph.edges hops are n edge goes.numbered.0 in (
        at.0,
        at.1,
        at.2.from ∙ goes.is_path.1,
        at.2.feasible.1 (All-head CanTake edge (other ∷ path) goes.feasible),
        subst (λ (v : ℕ). IsRoute how hops v (m ∷ numbers)) (sym at.2.to) (route_of edge.to (m ∷ numbers) (other ∷ path) (record {
          numbered = goes.numbered.1;
          is_path = goes.is_path.2;
          feasible = All-tail CanTake edge (other ∷ path) goes.feasible;
          edge = goes.edge;
          last = last_behind edge other goes.edge path goes.last;
          fails = goes.fails;
        })),
      )

  module _ (least : IsLeastClosed net graph bits table) where
    -- a candidate is a route
    candidate_route : (numbers : List ℕ) (path : List Edge) → AreNumbers graph numbers path → IsCandidate (fails_of how) net graph bits path → IsRoute how hops 0 numbers
    candidate_route numbers path numbered c =
        let same = least_alike net graph bits c.table table c.is_table least in
        route_of 0 numbers path (record {
          numbered = numbered;
          is_path = c.is_path;
          feasible = subst (λ (t : ℕ → VertexState). All (λ edge. (sets : ℕ → BitSet) × IsFeasible net bits t edge sets) path) same c.feasible;
          edge = c.edge;
          last = c.last;
          fails = subst (λ (t : ℕ → VertexState). FailsOn (fails_of how) net bits t c.edge) same c.fails;
        })

    -- the route that was found is the path that is shown
    pub shown_is : (n k : ℕ) (rest : List ℕ) → IsShortest how hops n (k ∷ rest) → IsShownPath (fails_of how) net graph bits (k ∷ rest)
    shown_is n k rest is =
        let made = path_of 0 (k ∷ rest) is.0 in
        record {
          path = made.0;
          are = made.1.numbered;
          candidate = record { table = table; is_table = least; is_path = made.1.is_path; feasible = made.1.feasible; edge = made.1.edge; last = made.1.last; fails = made.1.fails };
          least = λ others other numbered c. is.1 others (candidate_route others other numbered c);
        }

    -- where no route was found nothing fails
    pub none_shown : IsSettled net → IsGraph graph → (n : ℕ) → n ≡ enough net graph → IsShortest how hops n [] → ¬ IsGraphFound (fails_of how) net graph bits
    none_shown settled good n e none found =
        let short = short_candidate net graph bits settled (fails_of how) good found in
        let route = candidate_route short.0 short.1 short.2 short.3 in
        let more = none short.0 route in
        let long = numbers_long graph short.0 short.1 short.2 in
        let few = short.4 in
        absurd (omega (arith, more, long, few, e))
