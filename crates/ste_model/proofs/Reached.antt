-- Whence a vertex is reached: what is found of a graph has a candidate path.
use Rattle.std.proofs.Common.{◌≡◌, ℕ, ◌<◌, ◌≤◌, zero, suc, Bool, List, [], ◌∷◌, ◌++◌, length, get_or, arith, sym, ap, refl, inl, inr, ◌∙◌}
use Rattle.std.specs.Prelude.{All, Any, Contains, IsTrue, ◌⊎◌, Some, slice_get}
use Rattle.std.proofs.lemmas.List.Elements.{All-nil, All-push}
use Rattle.net_core.specs.declared.bit_set.BitSet.{BitSet}
use Rattle.net_core.specs.declared.raw.RawNet.{RawNet}
use Rattle.net_core.specs.Run.{Cut, IsSettled}
use Rattle.ste_model.specs.declared.task.Edge.{Edge}
use Rattle.ste_model.specs.declared.task.Graph.{Graph}
use Rattle.ste_model.specs.Edges.{AreNumbers, IsGraph, IsPathFrom}
use Rattle.ste_model.specs.Found.{FailsStrongly, FailsWeakly}
use Rattle.ste_model.specs.GraphFound.{FailsOn, IsGraphFound}
use Rattle.ste_model.specs.GraphShown.{FoundHasCandidate, HasCandidate, IsCandidate}
use Rattle.ste_model.specs.GraphTable.{AreRounds, IsClosed, IsFeasible, IsNext, VertexState, enough}
use Rattle.ste_model.proofs.NextRound.{arrive, begin, next_from, next_is, some_rounds}
use Rattle.ste_model.proofs.Rounds.{below, feasible_grows, nothing, settle_all}

-- the edge is feasible under the table
abbrev pub CanTake : RawNet → List Bool → (ℕ → VertexState) → Edge → Type 0
CanTake net bits table edge = (sets : ℕ → BitSet) × IsFeasible net bits table edge sets

module _ (net : RawNet) (graph : Graph) (bits : List Bool) (settled : IsSettled net) where
  whence_arrive : (now : ℕ → VertexState) (edge : Edge) (vertex : ℕ) (state : VertexState) (d : Dec (edge.to ≡ vertex)) (f : Dec (CanTake net bits now edge)) → IsTrue (arrive net graph bits settled state d f).reached → ((edge.to ≡ vertex) × CanTake net bits now edge) ⊎ IsTrue state.reached
  unfolding arrive
  whence_arrive now edge vertex state (yes e) (yes f) h = inl (e, f)
  whence_arrive now edge vertex state (yes e) (no f) h = inr h
  whence_arrive now edge vertex state (no e) f h = inr h

  whence_begin : (vertex : ℕ) (d : Dec (vertex ≡ 0)) → IsTrue (begin net graph bits settled d).reached → vertex ≡ 0
  unfolding begin nothing
  whence_begin vertex (yes e) h = e
  whence_begin vertex (no e) h = absurd (cc h)

  whence_from : (now : ℕ → VertexState) (edges : List Edge) (vertex : ℕ) → IsTrue (next_from net graph bits settled now edges vertex).reached → (vertex ≡ 0) ⊎ Any (λ edge. (edge.to ≡ vertex) × CanTake net bits now edge) edges
  unfolding next_from
  whence_from now [] vertex h = inl (whence_begin vertex _ h)
  whence_from now (edge ∷ edges) vertex h = elim (whence_arrive now edge vertex (next_from net graph bits settled now edges vertex) _ _ h) [
    | inl here ↦ inr (0, edge, omega arith, refl, here)
    | inr before ↦ elim (whence_from now edges vertex before) [
      | inl e ↦ inl e
      | inr any ↦ inr (suc any.0, any.1, omega arith, any.3, any.4)
    ]
  ]

  -- a vertex that is reached in the next round is 0, or an edge feasible in this one leads to it
  whence : (now next : ℕ → VertexState) → IsNext net graph bits now next → (vertex : ℕ) → IsTrue (next vertex).reached → (vertex ≡ 0) ⊎ Any (λ edge. (edge.to ≡ vertex) × CanTake net bits now edge) graph.edges
  whence now next is vertex h =
      whence_from now graph.edges vertex ((is.least (next_from net graph bits settled now graph.edges) (next_is net graph bits settled now).takes vertex).0 h)

-- ---- paths

-- where a path leads
abbrev pub end_of : ℕ → List Edge → ℕ
end_of vertex [] = vertex
end_of vertex (edge ∷ path) = end_of edge.to path

path_more : (edges : List Edge) (vertex : ℕ) (path : List Edge) (edge : Edge) → IsPathFrom edges vertex path → Contains edges edge → edge.from ≡ end_of vertex path → IsPathFrom edges vertex (path ++ edge ∷ [])
path_more edges vertex [] edge is_path here e = (here, e, tt)
path_more edges vertex (first ∷ path) edge is_path here e = (is_path.0, is_path.1, path_more edges first.to path edge is_path.2 here e)

end_more : (vertex : ℕ) (path : List Edge) (edge : Edge) → end_of vertex (path ++ edge ∷ []) ≡ edge.to
end_more vertex [] edge = refl
end_more vertex (first ∷ path) edge = end_more first.to path edge

at_number : (edges : List Edge) (k : ℕ) (edge : Edge) → k < length edges → get_or edges k edge ≡ edge → slice_get edges k ≡ Some edge
at_number [] k edge l e = absurd (omega arith)
at_number (x ∷ edges) zero edge l e = ap Some e
at_number (x ∷ edges) (suc k) edge l e = at_number edges k edge (omega arith) e

-- the numbers of the edges of a path
numbers_of : (graph : Graph) (vertex : ℕ) (path : List Edge) → IsPathFrom graph.edges vertex path → (numbers : List ℕ) × AreNumbers graph numbers path
numbers_of graph vertex [] is_path = ([], tt)
numbers_of graph vertex (edge ∷ path) is_path =
    let rest = numbers_of graph edge.to path is_path.2 in
    (is_path.0.0 ∷ rest.0, (at_number graph.edges is_path.0.0 edge is_path.0.1 is_path.0.2, rest.1))

at_end : (path : List Edge) (edge : Edge) → slice_get (path ++ edge ∷ []) (length path) ≡ Some edge
at_end [] edge = refl
at_end (x ∷ path) edge = at_end path edge

long_more : (path : List Edge) (edge : Edge) → suc (length path) ≡ length (path ++ edge ∷ [])
long_more [] edge = refl
long_more (x ∷ path) edge = let h = long_more path edge in omega arith

-- ---- candidates

-- a path of fewer than n edges that are feasible under a table leads to the vertex
record LeadsTo (net : RawNet) (graph : Graph) (bits : List Bool) (table : ℕ → VertexState) (vertex n : ℕ) : Type 0 where
  path : List Edge
  short : length path < n
  is_path : IsPathFrom graph.edges 0 path
  ends : end_of 0 path ≡ vertex
  feasible : All (CanTake net bits table) path

module _ (net : RawNet) (graph : Graph) (bits : List Bool) (settled : IsSettled net) where
  -- so it is for a vertex that is reached in some round, under every closed table
  reached_by : (rounds : ℕ → ℕ → VertexState) → AreRounds net graph bits rounds → (table : ℕ → VertexState) → IsClosed net graph bits table → (n vertex : ℕ) → IsTrue (rounds n vertex).reached → LeadsTo net graph bits table vertex n
  reached_by rounds are table closed zero vertex h = let e = (are.start vertex).reached in absurd (cc)
  reached_by rounds are table closed (suc n) vertex h = elim (whence net graph bits settled (rounds n) (rounds (suc n)) (are.next n) vertex h) [
    | inl e ↦ record { path = []; short = omega arith; is_path = tt; ends = sym e; feasible = All-nil (CanTake net bits table) }
    | inr any ↦
        let edge = any.1 in
        let feasible = any.4.1 in
        let before = reached_by rounds are table closed n edge.from feasible.1.reached in
        let up = feasible_grows net graph bits settled (rounds n) table (below net graph bits settled rounds are table closed n) edge feasible.0 feasible.1 in
        record {
          path = before.path ++ edge ∷ [];
          short = let long = long_more before.path edge in let less = before.short in omega (arith, long, less);
          is_path = path_more graph.edges 0 before.path edge before.is_path (any.0, any.2, any.3) (sym before.ends);
          ends = end_more 0 before.path edge ∙ any.4.0;
          feasible = All-push (CanTake net bits table) before.path edge before.feasible (up.0, up.1);
        }
  ]

  -- what is found has a candidate with no more edges than the rounds that settle
  pub short_candidate : (Fails : (ℕ → BitSet) → Cut → Type 0) → IsGraph graph → IsGraphFound Fails net graph bits → (numbers : List ℕ) × (path : List Edge) × AreNumbers graph numbers path × IsCandidate Fails net graph bits path × (length path ≤ enough net graph)
  short_candidate Fails good found =
      let table = found.0 in
      let least = found.1 in
      let any = found.2 in
      let edge = any.1 in
      let fails : FailsOn Fails net bits table edge = any.4 in
      let made = some_rounds net graph bits settled in
      let settles = settle_all net graph bits made.0 settled good made.1 in
      let reached = (least.least (made.0 (enough net graph)) settles.closed edge.from).0 fails.1.reached in
      let before = reached_by made.0 made.1 table least.closed (enough net graph) edge.from reached in
      let whole = before.path ++ edge ∷ [] in
      let is_path = path_more graph.edges 0 before.path edge before.is_path (any.0, any.2, any.3) (sym before.ends) in
      let numbered = numbers_of graph 0 whole is_path in (
        numbered.0,
        whole,
        numbered.1,
        record {
          table = table;
          is_table = least;
          is_path = is_path;
          feasible = All-push (CanTake net bits table) before.path edge before.feasible (fails.0, fails.1);
          edge = edge;
          last = record { number = length before.path; last = long_more before.path edge; here = at_end before.path edge };
          fails = fails;
        },
        let long = long_more before.path edge in let less = before.short in omega (arith, long, less),
      )

  some_candidate : (Fails : (ℕ → BitSet) → Cut → Type 0) → IsGraph graph → IsGraphFound Fails net graph bits → HasCandidate Fails net graph bits
  some_candidate Fails good found = let short = short_candidate Fails good found in (short.0, short.1, short.2, short.3)

pub found_has_candidate : FoundHasCandidate
found_has_candidate = record {
  strong = λ net graph bits settled good found. some_candidate net graph bits settled FailsStrongly good found;
  weak = λ net graph bits settled good found. some_candidate net graph bits settled FailsWeakly good found;
}
