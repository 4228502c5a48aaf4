-- Law. How many nodes the work functions of a small assertion graph have, as counted by hand.
use Rattle.std.specs.Prelude.{◌≡◌, ℕ, zero, suc, false, [], ◌∷◌}
use Rattle.bool_expr.specs.declared.expr.Expr.{Expr}
use Rattle.dd_nodes.specs.Functions.{node_count}
use Rattle.net_core.specs.declared.raw.Init.TheVariants.{Free}
use Rattle.net_core.specs.declared.raw.RawNet.{RawNet}
use Rattle.net_core.specs.Work.{SymbolicSet, always, everything, never}
use Rattle.ste_model.specs.declared.task.Bind.{Bind}
use Rattle.ste_model.specs.declared.task.Edge.{Edge}
use Rattle.ste_model.specs.declared.task.Graph.{Graph}
use Rattle.ste_model.specs.GraphWork.{SymbolicState, graph_work}
use Rattle.ste_model.specs.Samples.{exactly, id_of, one, p, variable}

-- a latch from d, which is net 0, to q, which is net 1
abbrev pub latch_alone : RawNet
latch_alone = record {
  nets = 2;
  inputs = id_of 0 ∷ [];
  outputs = id_of 1 ∷ [];
  gates = [];
  latches = record { input = id_of 0; output = id_of 1; init = Free } ∷ [];
  covers = [];
}

abbrev pub bind : ℕ → Expr → Bind
bind node value = record { guard = one; node = id_of node; value = value }

-- from vertex 0 to vertex 1 d is the first variable; from vertex 1 to vertex 2 q is the second one
abbrev pub edge_in : Edge
edge_in = record { from = 0; to = 1; ant = bind 0 (variable 0) ∷ []; con = []; weak = [] }

abbrev pub edge_out : Edge
edge_out = record { from = 1; to = 2; ant = []; con = bind 1 (variable 1) ∷ []; weak = [] }

abbrev pub short_graph : Graph
short_graph = record {
  name = [];
  reset = false;
  vertices = [] ∷ [] ∷ [] ∷ [];
  edges = edge_in ∷ edge_out ∷ [];
}

-- no bit
abbrev pub nothing : SymbolicSet
nothing = record { zero = never; one = never }

-- not reached, and reached with this set of the latch
abbrev pub unreached : SymbolicState
unreached = record { reached = never; latches = nothing ∷ [] }

abbrev pub reached_with : SymbolicSet → SymbolicState
reached_with set = record { reached = always; latches = set ∷ [] }

-- vertex 0 is reached from round 1 on, and each vertex behind it one round later, vertex 1 with the
-- first variable in the latch
abbrev pub short_tables : ℕ → ℕ → SymbolicState
short_tables zero vertex = unreached
short_tables (suc n) zero = reached_with everything
short_tables (suc zero) (suc vertex) = unreached
short_tables (suc (suc n)) (suc zero) = reached_with (exactly p)
short_tables (suc (suc zero)) (suc (suc vertex)) = unreached
short_tables (suc (suc (suc n))) (suc (suc zero)) = reached_with everything
short_tables (suc (suc (suc n))) (suc (suc (suc vertex))) = unreached

-- on the first edge d is the first variable, on the second one it is free; q is what the latch is
-- at the source
abbrev pub sets_from : ℕ → ℕ → ℕ → SymbolicSet
sets_from n zero zero = exactly p
sets_from n (suc vertex) zero = everything
sets_from zero vertex (suc id) = nothing
sets_from (suc n) zero (suc id) = everything
sets_from (suc zero) (suc vertex) (suc id) = nothing
sets_from (suc (suc n)) (suc vertex) (suc id) = exactly p

abbrev pub short_sets : ℕ → Edge → ℕ → SymbolicSet
short_sets n edge id = sets_from n edge.from id

-- Law: a graph of two edges over a latch takes 8 nodes: with p and r the variables, p, !p, r, !r, p
-- & !r, !p & r, p ^ r and !(p ^ r).
abbrev pub GraphSamplesAreCounted : Type 0
GraphSamplesAreCounted = node_count 2 (graph_work latch_alone short_graph short_tables short_sets)
    ≡ 8
