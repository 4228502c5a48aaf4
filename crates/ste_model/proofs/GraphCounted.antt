-- The sample of a graph: expressions give way to their functions, and then the number is counted.
use Rattle.std.proofs.Common.{ℕ, List, [], ◌∷◌, ◌++◌, refl}
use Rattle.ste_base.specs.Functions.{Function}
use Rattle.net_core.specs.Work.{SymbolicCut, SymbolicSet, conjunction, negation, some_empty, sum, sums, time_work}
use Rattle.ste_model.specs.declared.task.Edge.{Edge}
use Rattle.ste_model.specs.Expressions.{SymbolicValue}
use Rattle.ste_model.specs.GraphSamples.{GraphSamplesAreCounted, edge_in, edge_out, latch_alone, short_graph, short_sets, short_tables}
use Rattle.ste_model.specs.GraphWork.{SymbolicState, arrivals, feasible_where, given_by, graph_feasible, sets_functions, vertex_work, where_feasible}
use Rattle.ste_model.specs.Work.{consequents_work, over_times, strong_findings, weak_findings}
use Rattle.ste_model.proofs.Counted.{by_functions}

module _ (w : ℕ → SymbolicValue) (f : ℕ → Function) where
  abbrev cut : ℕ → ℕ → ℕ → SymbolicCut
  cut guard node value = record { node = node; guard = f guard; value = f value }

  abbrev on_edge : ℕ → Edge → List SymbolicCut → List Function
  on_edge n edge cuts =
      let source : SymbolicState = short_tables n edge.from in
      let sets : ℕ → SymbolicSet = short_sets n edge in
      time_work latch_alone source.latches (record { cuts = cuts; weak = [] }) sets
      ++ (negation (some_empty latch_alone sets) ∷ feasible_where latch_alone source sets ∷ sets_functions (given_by latch_alone source sets).latches)

  abbrev round : ℕ → List Function
  round n =
      (on_edge n edge_in (cut 0 0 1 ∷ []) ++ (on_edge n edge_out [] ++ []))
      ++ over_times (λ vertex. vertex_work latch_alone (arrivals latch_alone short_graph (short_tables n) (short_sets n) vertex)) 3

  abbrev results : List Function
  results =
      let source : SymbolicState = short_tables 10 1 in
      let sets : ℕ → SymbolicSet = short_sets 10 edge_out in
      let con : List SymbolicCut = cut 0 1 2 ∷ [] in
      let strong : List Function = where_feasible latch_alone source sets (strong_findings sets con) in
      let weak : List Function = where_feasible latch_alone source sets (weak_findings sets con) in
      let feasible : List Function = graph_feasible latch_alone short_graph (short_tables 10) (short_sets 10) in
      (consequents_work sets con ++ (weak ++ strong)) ++ [] ++ (sums (strong ++ []) ++ (sums (weak ++ [])
      ++ (negation (sum (strong ++ [])) ∷ conjunction (sum (weak ++ [])) (negation (sum (strong ++ [])))
      ∷ (sums feasible ++ negation (sum feasible) ∷ []))))

  abbrev graph_written : List Function
  graph_written =
      ((((w 0).work ++ ((w 1).work ++ [])) ++ []) ++ (((w 0).work ++ ((w 2).work ++ [])) ++ []))
      ++ (over_times round 11 ++ results)

pub graph_samples_are_counted : GraphSamplesAreCounted
graph_samples_are_counted = by_functions graph_written 8 refl
