-- For private functions. The edges at each vertex, in ascending order.
use Rattle.std.specs.Prelude.{◌≡◌, ◌≢◌, ◌<◌, ◌≤◌, ◌+◌, ℕ, List, get_or, length, replicate}
use Rattle.ste_model.specs.declared.task.Edge.{Edge}
use Rattle.gste_engine.specs.declared.links.End.{End}
use Rattle.gste_engine.specs.declared.links.End.TheVariants.{From, To}
use Rattle.gste_engine.specs.declared.links.Links.{Links}

-- the vertex at an end of an edge
abbrev pub end_of : End → Edge → ℕ
end_of From edge = edge.from
end_of To edge = edge.to

-- the first edge from the m-th on with this vertex at its end is the k-th, or the number of edges
-- where there is none
pub record IsNextAt (at : End) (edges : List Edge) (vertex m k : ℕ) : Type 0 where
  pub low : m ≤ k
  pub most : k ≤ length edges
  pub here : (d : Edge) → k < length edges → end_of at (get_or edges k d) ≡ vertex
  pub none : (i : ℕ) (d : Edge) → m ≤ i → i < k → end_of at (get_or edges i d) ≢ vertex

-- the first edge at each vertex, and the next one behind each edge, from the m-th on
pub record AreLinksFrom (at : End) (vertices : ℕ) (edges : List Edge) (m : ℕ)
    (r : Links) : Type 0 where
  pub firsts : length r.first.items ≡ vertices
  pub nexts : length r.next.items ≡ length edges
  pub first : (vertex : ℕ) → vertex < vertices →
      IsNextAt at edges vertex m (get_or r.first.items vertex 0)
  pub next : (k : ℕ) (d : Edge) → m ≤ k → k < length edges →
      IsNextAt at edges (end_of at (get_or edges k d)) (k + 1) (get_or r.next.items k 0)

abbrev pub AreLinks : End → ℕ → List Edge → Links → Type 0
AreLinks at vertices edges r = AreLinksFrom at vertices edges 0 r

-- there are no edges
pub record HasNone (vertices edges : ℕ) (r : Links) : Type 0 where
  pub first : r.first.items ≡ replicate vertices edges
  pub next : r.next.items ≡ replicate edges edges
