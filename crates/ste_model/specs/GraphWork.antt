-- Meaning. The work functions of an assertion graph: what its check under all assignments at once
-- has to build, and where the graph is found strong, weak and contradictory. Which functions these
-- are, and in which order they are taken, is a choice of this project; the dual rail is that of
-- Seger and Bryant 1995.
use Rattle.std.specs.Prelude.{◌==◌, ℕ, suc, Bool, List, [], ◌∷◌, ◌++◌, filter, if◌then◌else◌, length, map, slice_index_or}
use Rattle.std.specs.List.{flat_map}
use Rattle.bool_expr.specs.Value.{value_of}
use Rattle.net_core.specs.declared.raw.RawNet.{RawNet}
use Rattle.net_core.specs.Sets.{first_set}
use Rattle.ste_base.specs.Functions.{Function}
use Rattle.net_core.specs.Work.{SymbolicAsked, SymbolicCut, SymbolicSet, always, conjunction, negation, never, set_at, some_empty, sum, sums, time_work}
use Rattle.ste_model.specs.declared.task.Bind.{Bind}
use Rattle.ste_model.specs.declared.task.Edge.{Edge}
use Rattle.ste_model.specs.declared.task.Graph.{Graph}
use Rattle.ste_model.specs.Edges.{weakened_on}
use Rattle.ste_model.specs.Expressions.{symbolic_value}
use Rattle.ste_model.specs.GraphTable.{VertexState, enough}
use Rattle.ste_model.specs.Work.{consequents_work, constant_set, over_times, strong_findings, weak_findings}

-- ---- what is asked

-- the functions for the guard and the value of each binding
abbrev pub binds_work : List Bind → List Function
binds_work [] = []
binds_work (bind ∷ binds) = (symbolic_value bind.guard).work
    ++ ((symbolic_value bind.value).work ++ binds_work binds)

-- a binding as a cut under all assignments
abbrev pub symbolic_bind : Bind → SymbolicCut
symbolic_bind bind =
    record { node = bind.node.0; guard = value_of bind.guard; value = value_of bind.value }

-- the cuts of bindings, in order
abbrev pub symbolic_binds : List Bind → List SymbolicCut
symbolic_binds binds = map symbolic_bind binds

-- what an edge asks
abbrev pub symbolic_asked_on : Edge → SymbolicAsked
symbolic_asked_on edge = record { cuts = symbolic_binds edge.ant; weak = weakened_on edge }

-- ---- one edge

-- what a table says of a vertex under all assignments: where it is reached, and a set for each
-- latch
pub record SymbolicState : Type 0 where
  pub reached : Function
  pub latches : List SymbolicSet

-- the same under one assignment
abbrev pub state_at : List Bool → SymbolicState → VertexState
state_at bits state =
    record { reached = state.reached bits; latches = map (set_at bits) state.latches }

-- z & f, o & f: the set where f is 1, and no bit elsewhere
abbrev pub gated_set : SymbolicSet → Function → SymbolicSet
gated_set w f = record { zero = conjunction w.zero f; one = conjunction w.one f }

-- f = r & !c: where an edge is feasible, from the state of its source and the sets of all nets
abbrev pub feasible_where : RawNet → SymbolicState → (ℕ → SymbolicSet) → Function
feasible_where net source sets = conjunction source.reached (negation (some_empty net sets))

-- what an edge gives to its target: where it is feasible the sets of the latch inputs, and nothing
-- elsewhere
abbrev pub given_by : RawNet → SymbolicState → (ℕ → SymbolicSet) → SymbolicState
given_by net source sets = record {
  reached = feasible_where net source sets;
  latches = map (λ latch. gated_set (sets latch.input.0) (feasible_where net source sets))
      net.latches;
}

-- z and o of each set
abbrev pub sets_functions : List SymbolicSet → List Function
sets_functions [] = []
sets_functions (w ∷ sets) = w.zero ∷ w.one ∷ sets_functions sets

-- the functions for an edge on a table, but for those of its expressions: those of one time, !c, f,
-- and z & f and o & f of each latch input
abbrev pub edge_time_work : RawNet → Edge → SymbolicState → (ℕ → SymbolicSet) → List Function
edge_time_work net edge source sets =
    time_work net source.latches (symbolic_asked_on edge) sets
    ++ (negation (some_empty net sets) ∷ feasible_where net source sets
    ∷ sets_functions (given_by net source sets).latches)

-- The work functions of an edge on a table, where this is the state of its source, and these are
-- its sets: those of every guard and value of its antecedent too.
abbrev pub edge_work : RawNet → Edge → SymbolicState → (ℕ → SymbolicSet) → List Function
edge_work net edge source sets = binds_work edge.ant ++ edge_time_work net edge source sets

-- ---- one round

-- vertex 0 before any edge: reached, with the first values
abbrev pub start_state : RawNet → Bool → SymbolicState
start_state net reset = record {
  reached = always;
  latches = map (λ latch. constant_set (first_set reset latch)) net.latches;
}

-- what the edges into a vertex give to it, by number; at vertex 0 the start comes first
abbrev pub arrivals : RawNet → Graph → (ℕ → SymbolicState) → (Edge → ℕ → SymbolicSet) → ℕ →
    List SymbolicState
arrivals net graph table sets vertex =
    (if vertex == 0 then start_state net graph.reset ∷ [] else [])
    ++ map (λ (edge : Edge). given_by net (table edge.from) (sets edge))
    (filter (λ edge. edge.to == vertex) graph.edges)

-- where a vertex is reached by each of them, and the set of latch l in each of them
abbrev pub reached_in : List SymbolicState → List Function
reached_in states = map (λ (state : SymbolicState). state.reached) states

abbrev pub latch_in : ℕ → List SymbolicState → List SymbolicSet
latch_in l states =
    map (λ (state : SymbolicState). slice_index_or state.latches l
    (record { zero = never; one = never })) states

-- z of each set, and o of each set
abbrev pub zeros_of : List SymbolicSet → List Function
zeros_of sets = map (λ (w : SymbolicSet). w.zero) sets

abbrev pub ones_of : List SymbolicSet → List Function
ones_of sets = map (λ (w : SymbolicSet). w.one) sets

-- the functions for a vertex of the next table: the sums of where it is reached, and those of z and
-- of o of each latch
abbrev pub vertex_work : RawNet → List SymbolicState → List Function
vertex_work net states =
    sums (reached_in states)
    ++ over_times (λ l. sums (zeros_of (latch_in l states)) ++ sums (ones_of (latch_in l states)))
    (length net.latches)

-- the functions for one round, where these are the table of the round and the sets of each edge on
-- it
abbrev pub round_work : RawNet → Graph → (ℕ → SymbolicState) → (Edge → ℕ → SymbolicSet) →
    List Function
round_work net graph table sets =
    flat_map (λ (edge : Edge). edge_time_work net edge (table edge.from) (sets edge)) graph.edges
    ++ over_times (λ vertex. vertex_work net (arrivals net graph table sets vertex))
    (length graph.vertices)

-- ---- the last table

-- the functions, each where the edge is feasible
abbrev pub where_feasible : RawNet → SymbolicState → (ℕ → SymbolicSet) → List Function →
    List Function
where_feasible net source sets fs = map (λ f. conjunction f (feasible_where net source sets)) fs

-- where each consequent of an edge is found strong, and found weak
abbrev pub strong_on : RawNet → Edge → SymbolicState → (ℕ → SymbolicSet) → List Function
strong_on net edge source sets =
    where_feasible net source sets (strong_findings sets (symbolic_binds edge.con))

abbrev pub weak_on : RawNet → Edge → SymbolicState → (ℕ → SymbolicSet) → List Function
weak_on net edge source sets =
    where_feasible net source sets (weak_findings sets (symbolic_binds edge.con))

-- the functions for the consequents of an edge
abbrev pub found_work : RawNet → Edge → SymbolicState → (ℕ → SymbolicSet) → List Function
found_work net edge source sets =
    consequents_work sets (symbolic_binds edge.con) ++ (weak_on net edge source sets
    ++ strong_on net edge source sets)

-- where a consequent is found strong, and found weak: by edge, and then in text order; and where
-- each edge is feasible
abbrev pub graph_strong : RawNet → Graph → (ℕ → SymbolicState) → (Edge → ℕ → SymbolicSet) →
    List Function
graph_strong net graph table sets =
    flat_map (λ (edge : Edge). strong_on net edge (table edge.from) (sets edge)) graph.edges

abbrev pub graph_weak : RawNet → Graph → (ℕ → SymbolicState) → (Edge → ℕ → SymbolicSet) →
    List Function
graph_weak net graph table sets =
    flat_map (λ (edge : Edge). weak_on net edge (table edge.from) (sets edge)) graph.edges

abbrev pub graph_feasible : RawNet → Graph → (ℕ → SymbolicState) → (Edge → ℕ → SymbolicSet) →
    List Function
graph_feasible net graph table sets =
    map (λ (edge : Edge). feasible_where net (table edge.from) (sets edge)) graph.edges

-- s: the strong assignments
abbrev pub graph_strong_where : RawNet → Graph → (ℕ → SymbolicState) → (Edge → ℕ → SymbolicSet) →
    Function
graph_strong_where net graph table sets = sum (graph_strong net graph table sets)

-- w & !s: the weak assignments
abbrev pub graph_weak_where : RawNet → Graph → (ℕ → SymbolicState) → (Edge → ℕ → SymbolicSet) →
    Function
graph_weak_where net graph table sets =
    conjunction (sum (graph_weak net graph table sets))
    (negation (graph_strong_where net graph table sets))

-- the contradictory assignments: where no edge is feasible
abbrev pub graph_contradictory_where : RawNet → Graph → (ℕ → SymbolicState) →
    (Edge → ℕ → SymbolicSet) → Function
graph_contradictory_where net graph table sets =
    negation (sum (graph_feasible net graph table sets))

-- the functions for the results: those for the consequents of each edge, the sums of found strong,
-- which end with s, and of found weak, which end with w; !s, w & !s; the sums of where each edge is
-- feasible, and the negation of the whole sum
abbrev pub results_work : RawNet → Graph → (ℕ → SymbolicState) → (Edge → ℕ → SymbolicSet) →
    List Function
results_work net graph table sets =
    flat_map (λ (edge : Edge). found_work net edge (table edge.from) (sets edge)) graph.edges
    ++ (sums (graph_strong net graph table sets) ++ (sums (graph_weak net graph table sets)
    ++ (negation (graph_strong_where net graph table sets) ∷ graph_weak_where net graph table sets
    ∷ (sums (graph_feasible net graph table sets) ++ graph_contradictory_where net graph table sets ∷ []))))

-- ---- all rounds

-- the functions for every guard and every value
abbrev pub guards_work : Graph → List Function
guards_work graph =
    flat_map (λ (edge : Edge). binds_work edge.ant ++ binds_work edge.con) graph.edges

-- The work functions of a graph, where these are the tables of its rounds under each assignment,
-- and the sets of each edge on each of them: those of every guard and value; those of each round up
-- to the one that settles; and those of the results on the table of this one.
abbrev pub graph_work : RawNet → Graph → (ℕ → ℕ → SymbolicState) → (ℕ → Edge → ℕ → SymbolicSet) →
    List Function
graph_work net graph tables sets =
    guards_work graph
    ++ (over_times (λ n. round_work net graph (tables n) (sets n)) (suc (enough net graph))
    ++ results_work net graph (tables (enough net graph)) (sets (enough net graph)))
