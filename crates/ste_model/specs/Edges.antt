-- Meaning. What an edge of a graph asks at its time step, under one assignment, and paths of edges.
-- Source: Yang and Seger.
use Rattle.std.specs.Prelude.{◌≡◌, ℕ, suc, ◌<◌, Bool, List, [], ◌∷◌, length, map, All, Contains, Some, slice_get, ⊤}
use Rattle.std.specs.List.{AllZip}
use Rattle.bool_expr.specs.Value.{value_of}
use Rattle.net_core.specs.Run.{Cut}
use Rattle.net_core.specs.Possible.{Asked}
use Rattle.ste_model.specs.declared.task.Bind.{Bind}
use Rattle.ste_model.specs.declared.task.Edge.{Edge}
use Rattle.ste_model.specs.declared.task.Graph.{Graph}

-- what a binding asks: it applies where its guard is 1, and asks for its value's bit
abbrev pub bind_at : List Bool → Bind → Cut
bind_at bits bind =
    record { node = bind.node.0; on = value_of bind.guard bits; value = value_of bind.value bits }

-- the cuts that a list of bindings makes, in order
abbrev pub bind_cuts : List Bind → List Bool → List Cut
bind_cuts binds bits = map (bind_at bits) binds

-- the nets that are weakened at the edge's time step, in order
abbrev pub weakened_on : Edge → List ℕ
weakened_on edge = map (λ node. node.0) edge.weak

-- what an edge asks
abbrev pub asked_on : Edge → List Bool → Asked
asked_on edge bits = record { cuts = bind_cuts edge.ant bits; weak = weakened_on edge }

-- a path from a vertex: edges of the graph, the first one from this vertex, and each other from
-- where the one before it leads
abbrev pub IsPathFrom : List Edge → ℕ → List Edge → Type 0
IsPathFrom edges vertex [] = ⊤
IsPathFrom edges vertex (edge ∷ path) = Contains edges edge × (edge.from ≡ vertex)
    × IsPathFrom edges edge.to path

-- the edge is the last one of the path
pub record IsLastEdge (path : List Edge) (edge : Edge) : Type 0 where
  pub number : ℕ
  pub last : suc number ≡ length path
  pub here : slice_get path number ≡ Some edge

-- the path by the numbers of its edges
abbrev pub AreNumbers : Graph → List ℕ → List Edge → Type 0
AreNumbers graph numbers path =
    AllZip (λ number edge. slice_get graph.edges number ≡ Some edge) numbers path

-- a sound graph: it has a vertex, and its edges lead to vertices
pub record IsGraph (graph : Graph) : Type 0 where
  pub some : 0 < length graph.vertices
  pub ends : All (λ edge. edge.to < length graph.vertices) graph.edges
