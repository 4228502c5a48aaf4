-- One round: the functions of its parts, and what it says of all edges.
use Rattle.std.proofs.Common.{ℕ, suc, ◌<◌, List, [], ◌∷◌, ◌++◌, Contains, inl, inr, ⊎_elim}
use Rattle.std.specs.Prelude.{◌⊎◌}
use Rattle.std.specs.List.{flat_map}
use Rattle.std.proofs.lemmas.List.Elements.{Contains-append_cases, Contains-append_left, Contains-append_right}
use Rattle.ste_base.specs.Functions.{Function}
use Rattle.dd_nodes.proofs.Members.{Contains-none}
use Rattle.net_core.specs.declared.raw.RawNet.{RawNet}
use Rattle.net_core.specs.Work.{SymbolicSet}
use Rattle.ste_model.specs.declared.task.Edge.{Edge}
use Rattle.ste_model.specs.declared.task.Graph.{Graph}
use Rattle.ste_model.specs.GraphTable.{enough}
use Rattle.ste_model.specs.GraphWork.{SymbolicState, binds_work, edge_time_work, round_work}
use Rattle.ste_model.specs.Work.{over_times}
use Rattle.dual_rail.proofs.Works.{Within}
use Rattle.gste_engine.specs.Tables.{antecedents_work, rounds_work}
use Rattle.gste_engine.specs.private.Rounds.{edges_work, one_round_work}
use Rattle.gste_engine.specs.private.Sums.{arrivals_work}
use Rattle.gste_engine.proofs.AllGiven.{given_of}
use Rattle.gste_engine.proofs.Comings.{through}

module _ (net : RawNet) (graph : Graph) (states : ℕ → SymbolicState) (sets : Edge → ℕ → SymbolicSet) where
  pub edges_in : Within (edges_work net states sets graph.edges) (one_round_work net graph states sets)
  edges_in f h = Contains-append_left (edges_work net states sets graph.edges) (arrivals_work net graph (given_of net states sets)) f h

  pub arrivals_in : Within (arrivals_work net graph (given_of net states sets)) (one_round_work net graph states sets)
  arrivals_in f h = Contains-append_right (edges_work net states sets graph.edges) (arrivals_work net graph (given_of net states sets)) f h

-- lists of two parts each
pub flat_parts : {X : Type 0} (A B : X → List Function) (xs : List X) (f : Function) → Contains (flat_map (λ x. A x ++ B x) xs) f → Contains (flat_map A xs) f ⊎ Contains (flat_map B xs) f
flat_parts A B [] f h = absurd (Contains-none f h)
flat_parts A B (x ∷ xs) f h = ⊎_elim
    (λ (here : Contains (A x ++ B x) f). ⊎_elim
    (λ (a : Contains (A x) f). inl (Contains-append_left (A x) (flat_map A xs) f a))
    (λ (b : Contains (B x) f). inr (Contains-append_left (B x) (flat_map B xs) f b))
    (Contains-append_cases (A x) (B x) f here))
    (λ (later : Contains (flat_map (λ y. A y ++ B y) xs) f). ⊎_elim
    (λ (a : Contains (flat_map A xs) f). inl (Contains-append_right (A x) (flat_map A xs) f a))
    (λ (b : Contains (flat_map B xs) f). inr (Contains-append_right (B x) (flat_map B xs) f b))
    (flat_parts A B xs f later))
    (Contains-append_cases (A x ++ B x) (flat_map (λ y. A y ++ B y) xs) f h)

-- the functions of one round are among those of all
module _ (net : RawNet) (graph : Graph) (tables : ℕ → ℕ → SymbolicState) (sets : ℕ → Edge → ℕ → SymbolicSet) where
  pub round_in : (m : ℕ) → m < suc (enough net graph) → Within (one_round_work net graph (tables m) (sets m)) (rounds_work net graph tables sets)
  round_in m lt f h =
      let rounds : List Function = over_times (λ n. round_work net graph (tables n) (sets n)) (suc (enough net graph)) in
      let asks : List Function = antecedents_work graph in
      let times : List Function = flat_map (λ (e : Edge). edge_time_work net e (tables m e.from) (sets m e)) graph.edges in
      let arrive : List Function = arrivals_work net graph (given_of net (tables m) (sets m)) in
      let this : (g : Function) → Contains (round_work net graph (tables m) (sets m)) g → Contains (asks ++ rounds) g =
      λ g c. Contains-append_right asks rounds g (through (λ n. round_work net graph (tables n) (sets n)) m (suc (enough net graph)) lt g c) in
      ⊎_elim
      (λ (here : Contains (edges_work net (tables m) (sets m) graph.edges) f). ⊎_elim
      (λ (a : Contains asks f). Contains-append_left asks rounds f a)
      (λ (b : Contains times f). this f (Contains-append_left times arrive f b))
      (flat_parts (λ (e : Edge). binds_work e.ant) (λ (e : Edge). edge_time_work net e (tables m e.from) (sets m e)) graph.edges f here))
      (λ (there : Contains arrive f). this f (Contains-append_right times arrive f there))
      (Contains-append_cases (edges_work net (tables m) (sets m) graph.edges) arrive f h)
