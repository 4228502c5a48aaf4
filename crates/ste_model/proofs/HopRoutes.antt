-- Routes along the hops of edges are paths of a graph, and the least one is the one that is shown.
use Rattle.std.proofs.Common.{◌≡◌, ℕ, zero, suc, Bool, List, [], ◌∷◌, length, sym, refl, ap, subst, ◌∙◌, arith}
use Rattle.std.specs.Prelude.{All, Contains, None, Some, slice_get}
use Rattle.std.specs.List.{AllZip}
use Rattle.std.proofs.lemmas.List.Elements.{All-cons, All-head, All-nil, All-tail}
use Rattle.graph_path.specs.declared.hop.Hop.{Hop}
use Rattle.graph_path.specs.Routes.{IsHopRoute, IsPathOf}
use Rattle.net_core.specs.declared.bit_set.BitSet.{BitSet}
use Rattle.net_core.specs.declared.raw.RawNet.{RawNet}
use Rattle.net_core.specs.Run.{Cut}
use Rattle.ste_model.specs.declared.task.Edge.{Edge}
use Rattle.ste_model.specs.declared.task.Graph.{Graph}
use Rattle.ste_model.specs.Edges.{AreNumbers, IsLastEdge, IsPathFrom}
use Rattle.ste_model.specs.Found.{FailsStrongly, FailsWeakly}
use Rattle.ste_model.specs.GraphFound.{FailsOn}
use Rattle.ste_model.specs.GraphHops.{AreEdgeHops, IsEdgeHop, PathIsShown, PathsAreShown}
use Rattle.ste_model.specs.GraphShown.{HasCandidate, IsCandidate, IsShownPath}
use Rattle.ste_model.specs.GraphTable.{IsLeastClosed, VertexState}
use Rattle.ste_model.proofs.Reached.{CanTake}
use Rattle.ste_model.proofs.Rounds.{least_alike}

the_same : {X : Type 0} → (a b : X) → Some a ≡ Some b → a ≡ b
the_same a b e = cc

-- ---- hops and edges by number

module _ (R : Edge → Hop → Type 0) where
  edge_of : (edges : List Edge) (hops : List Hop) → AllZip R edges hops → (n : ℕ) (hop : Hop) → slice_get hops n ≡ Some hop → (edge : Edge) × (slice_get edges n ≡ Some edge) × R edge hop
  edge_of [] [] are n hop e = absurd (cc e)
  edge_of [] (h ∷ hops) are n hop e = absurd are
  edge_of (x ∷ edges) [] are n hop e = absurd are
  edge_of (x ∷ edges) (h ∷ hops) are zero hop e = (x, refl, subst (R x) (the_same h hop e) are.0)
  edge_of (x ∷ edges) (h ∷ hops) are (suc n) hop e = edge_of edges hops are.1 n hop e

  hop_of : (edges : List Edge) (hops : List Hop) → AllZip R edges hops → (n : ℕ) (edge : Edge) → slice_get edges n ≡ Some edge → (hop : Hop) × (slice_get hops n ≡ Some hop) × R edge hop
  hop_of [] hops are n edge e = absurd (cc e)
  hop_of (x ∷ edges) [] are n edge e = absurd are
  hop_of (x ∷ edges) (h ∷ hops) are zero edge e = (h, refl, subst (λ (y : Edge). R y h) (the_same x edge e) are.0)
  hop_of (x ∷ edges) (h ∷ hops) are (suc n) edge e = hop_of edges hops are.1 n edge e

contained : (edges : List Edge) (n : ℕ) (edge : Edge) → slice_get edges n ≡ Some edge → Contains edges edge
contained [] n edge e = absurd (cc e)
contained (x ∷ edges) zero edge e = (0, omega arith, the_same x edge e)
contained (x ∷ edges) (suc n) edge e = let h = contained edges n edge e in (suc h.0, let l = h.1 in omega arith, h.2)

-- ---- the last edge of a path

last_alone : (edge other : Edge) → IsLastEdge (edge ∷ []) other → edge ≡ other
last_alone edge other last = at last.number last.last last.here
  where
    at : (k : ℕ) → suc k ≡ 1 → slice_get (edge ∷ []) k ≡ Some other → edge ≡ other
    at zero e here = the_same edge other here
    at (suc k) e here = absurd (omega (arith, e))

last_behind : (edge next other : Edge) (path : List Edge) → IsLastEdge (edge ∷ next ∷ path) other → IsLastEdge (next ∷ path) other
last_behind edge next other path last = at last.number last.last last.here
  where
    at : (k : ℕ) → suc k ≡ length (edge ∷ next ∷ path) → slice_get (edge ∷ next ∷ path) k ≡ Some other → IsLastEdge (next ∷ path) other
    at zero e here = absurd (omega (arith, e))
    at (suc k) e here = record { number = k; last = omega (arith, e); here = here }

-- ---- routes and paths

module _ (Fails : (ℕ → BitSet) → Cut → Type 0) (net : RawNet) (graph : Graph) (bits : List Bool) (table : ℕ → VertexState) (hops : List Hop) (are : AreEdgeHops Fails net bits table graph.edges hops) where
  -- what a candidate is, read with the table, from any vertex
  record LeadsToFailure (vertex : ℕ) (numbers : List ℕ) (path : List Edge) : Type 0 where
    numbered : AreNumbers graph numbers path
    is_path : IsPathFrom graph.edges vertex path
    feasible : All (CanTake net bits table) path
    edge : Edge
    last : IsLastEdge path edge
    fails : FailsOn Fails net bits table edge

  one_edge : (vertex n : ℕ) (edge : Edge) → slice_get graph.edges n ≡ Some edge → edge.from ≡ vertex → FailsOn Fails net bits table edge → LeadsToFailure vertex (n ∷ []) (edge ∷ [])
  one_edge vertex n edge e from fails = record {
    numbered = (e, tt);
    is_path = (contained graph.edges n edge e, from, tt);
    feasible = All-cons (CanTake net bits table) edge [] (fails.0, fails.1) (All-nil (CanTake net bits table));
    edge = edge;
    last = record { number = 0; last = refl; here = refl };
    fails = fails;
  }

  more_edges : (vertex n : ℕ) (edge : Edge) (numbers : List ℕ) (path : List Edge) → slice_get graph.edges n ≡ Some edge → edge.from ≡ vertex → CanTake net bits table edge → LeadsToFailure edge.to numbers path → LeadsToFailure vertex (n ∷ numbers) (edge ∷ path)
  more_edges vertex n edge numbers path e from feasible rest = record {
    numbered = (e, rest.numbered);
    is_path = (contained graph.edges n edge e, from, rest.is_path);
    feasible = All-cons (CanTake net bits table) edge path feasible rest.feasible;
    edge = rest.edge;
    last = record { number = suc rest.last.number; last = ap suc rest.last.last; here = rest.last.here };
    fails = rest.fails;
  }

  -- a route is a path
  path_of_route : (vertex : ℕ) (numbers : List ℕ) → IsHopRoute hops vertex numbers → (path : List Edge) × LeadsToFailure vertex numbers path
  path_of_route vertex [] route = absurd route
  path_of_route vertex (n ∷ []) route =
      let at = edge_of (IsEdgeHop Fails net bits table) graph.edges hops are n route.0 route.1 in
      (at.0 ∷ [], one_edge vertex n at.0 at.1 (sym at.2.from ∙ route.2) ((at.2.fails route.3).0 route.4))
  path_of_route vertex (n ∷ m ∷ rest) route =
      let at = edge_of (IsEdgeHop Fails net bits table) graph.edges hops are n route.0 route.1 in
      let next = path_of_route route.0.to (m ∷ rest) route.4 in
      (at.0 ∷ next.0, more_edges vertex n at.0 (m ∷ rest) next.0 at.1 (sym at.2.from ∙ route.2) (at.2.feasible.0 route.3) (subst (λ (v : ℕ). LeadsToFailure v (m ∷ rest) next.0) at.2.to next.1))

  -- a path is a route
  route_of_path : (vertex : ℕ) (numbers : List ℕ) (path : List Edge) → LeadsToFailure vertex numbers path → IsHopRoute hops vertex numbers
  route_of_path vertex [] [] leads = absurd (let e = leads.last.last in omega (arith, e))
  route_of_path vertex [] (edge ∷ path) leads = absurd leads.numbered
  route_of_path vertex (n ∷ numbers) [] leads = absurd leads.numbered
  route_of_path vertex (n ∷ []) (edge ∷ []) leads =
      let at = hop_of (IsEdgeHop Fails net bits table) graph.edges hops are n edge leads.numbered.0 in
      let fails = subst (FailsOn Fails net bits table) (sym (last_alone edge leads.edge leads.last)) leads.fails in
      let feasible = at.2.feasible.1 (fails.0, fails.1) in
      (at.0, at.1, at.2.from ∙ leads.is_path.1, feasible, (at.2.fails feasible).1 fails)
  route_of_path vertex (n ∷ []) (edge ∷ other ∷ path) leads = absurd leads.numbered.1
  route_of_path vertex (n ∷ m ∷ numbers) (edge ∷ []) leads = absurd leads.numbered.1
  route_of_path vertex (n ∷ m ∷ numbers) (edge ∷ other ∷ path) leads =
      let at = hop_of (IsEdgeHop Fails net bits table) graph.edges hops are n edge leads.numbered.0 in (
        at.0,
        at.1,
        at.2.from ∙ leads.is_path.1,
        at.2.feasible.1 (All-head (CanTake net bits table) edge (other ∷ path) leads.feasible),
        subst (λ (v : ℕ). IsHopRoute hops v (m ∷ numbers)) (sym at.2.to) (route_of_path edge.to (m ∷ numbers) (other ∷ path) (record {
          numbered = leads.numbered.1;
          is_path = leads.is_path.2;
          feasible = All-tail (CanTake net bits table) edge (other ∷ path) leads.feasible;
          edge = leads.edge;
          last = last_behind edge other leads.edge path leads.last;
          fails = leads.fails;
        })),
      )

  module _ (least : IsLeastClosed net graph bits table) where
    -- a candidate is a route
    candidate_route : (numbers : List ℕ) (path : List Edge) → AreNumbers graph numbers path → IsCandidate Fails net graph bits path → IsHopRoute hops 0 numbers
    candidate_route numbers path numbered c =
        let same = least_alike net graph bits c.table table c.is_table least in
        route_of_path 0 numbers path (record {
          numbered = numbered;
          is_path = c.is_path;
          feasible = subst (λ (t : ℕ → VertexState). All (CanTake net bits t) path) same c.feasible;
          edge = c.edge;
          last = c.last;
          fails = subst (λ (t : ℕ → VertexState). FailsOn Fails net bits t c.edge) same c.fails;
        })

    path_shown : (numbers : List ℕ) → IsPathOf hops (Some numbers) → IsShownPath Fails net graph bits numbers
    path_shown numbers is =
        let made = path_of_route 0 numbers is.route in
        record {
          path = made.0;
          are = made.1.numbered;
          candidate = record { table = table; is_table = least; is_path = made.1.is_path; feasible = made.1.feasible; edge = made.1.edge; last = made.1.last; fails = made.1.fails };
          least = λ others other numbered c. is.least others (candidate_route others other numbered c);
        }

    none_shown : IsPathOf hops None → ¬ HasCandidate Fails net graph bits
    none_shown none has = none has.0 (candidate_route has.0 has.1 has.2 has.3)

path_is_shown : (Fails : (ℕ → BitSet) → Cut → Type 0) → PathIsShown Fails
path_is_shown Fails = record {
  shown = λ net graph bits table hops least are. path_shown Fails net graph bits table hops are least;
  none = λ net graph bits table hops least are. none_shown Fails net graph bits table hops are least;
}

pub paths_are_shown : PathsAreShown
paths_are_shown = record { strong = path_is_shown FailsStrongly; weak = path_is_shown FailsWeakly }
