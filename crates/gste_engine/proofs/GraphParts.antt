-- A graph: the functions of the rounds, of its edges and of its results are among its work functions; and what is kept.
use Rattle.std.proofs.Common.{◌≡◌, ℕ, suc, Bool, true, false, List, [], ◌∷◌, ◌++◌, refl, arith, Contains, ⊎_elim, subst}
use Rattle.std.specs.Prelude.{if◌then◌else◌}
use Rattle.std.specs.List.{flat_map}
use Rattle.std.proofs.lemmas.List.Elements.{Contains-append_cases, Contains-append_left, Contains-append_right}
use Rattle.dd_nodes.specs.declared.node.Ref.{Ref}
use Rattle.ste_base.specs.Functions.{Function}
use Rattle.dd_nodes.specs.Stores.{Store, Means}
use Rattle.dd_nodes.proofs.Members.{Contains-cons_cases, Contains-none}
use Rattle.net_core.specs.declared.raw.RawNet.{RawNet}
use Rattle.net_core.specs.Work.{SymbolicSet, negation, sum, sums}
use Rattle.engine_parts.specs.declared.results.Results.{Results}
use Rattle.engine_parts.proofs.Opposites.{within_both}
use Rattle.ste_model.specs.declared.task.Edge.{Edge}
use Rattle.ste_model.specs.declared.task.Graph.{Graph}
use Rattle.ste_model.specs.GraphNeed.{bind_functions, edge_functions, graph_kept_functions, is_somewhere}
use Rattle.ste_model.specs.GraphTable.{enough}
use Rattle.ste_model.specs.GraphWork.{SymbolicState, binds_work, edge_work, found_work, graph_contradictory_where, graph_feasible, graph_strong, graph_strong_where, graph_weak, graph_weak_where, graph_work, guards_work, results_work, round_work}
use Rattle.ste_model.specs.Need.{set_functions}
use Rattle.ste_model.specs.Work.{over_times}
use Rattle.dual_rail.proofs.Turns.{within_more}
use Rattle.dual_rail.proofs.Works.{Within, behind}
use Rattle.gste_engine.specs.Tables.{antecedents_work, rounds_work}
use Rattle.gste_engine.specs.private.EdgeFinds.{HaveRefs, all_found_work, asked_work, edge_kept, ending_work, feasible_of, kept_of, strong_of, weak_of}
use Rattle.gste_engine.specs.private.Rounds.{edges_work}
use Rattle.gste_engine.proofs.RoundParts.{edges_in, flat_parts, round_in}

-- what each gives is among what each gives otherwise
flat_within : {X : Type 0} (A B : X → List Function) → ((x : X) → Within (A x) (B x)) → (xs : List X) → Within (flat_map A xs) (flat_map B xs)
flat_within A B give [] f h = h
flat_within A B give (x ∷ xs) f h = ⊎_elim
    (λ (a : Contains (A x) f). Contains-append_left (B x) (flat_map B xs) f (give x f a))
    (λ (b : Contains (flat_map A xs) f). Contains-append_right (B x) (flat_map B xs) f (flat_within A B give xs f b))
    (Contains-append_cases (A x) (flat_map A xs) f h)

-- ---- the work functions

module _ (net : RawNet) (graph : Graph) (tables : ℕ → ℕ → SymbolicState) (sets : ℕ → Edge → ℕ → SymbolicSet) where
  abbrev last_table : ℕ → SymbolicState
  last_table = tables (enough net graph)

  abbrev last_sets : Edge → ℕ → SymbolicSet
  last_sets = sets (enough net graph)

  abbrev all : List Function
  all = graph_work net graph tables sets

  abbrev rounds : List Function
  rounds = over_times (λ n. round_work net graph (tables n) (sets n)) (suc (enough net graph))

  abbrev results : List Function
  results = results_work net graph last_table last_sets

  guards_in : Within (guards_work graph) all
  guards_in f h = Contains-append_left (guards_work graph) (rounds ++ results) f h

  results_in : Within results all
  results_in f h = Contains-append_right (guards_work graph) (rounds ++ results) f (Contains-append_right rounds results f h)

  pub rounds_in : Within (rounds_work net graph tables sets) all
  rounds_in = within_both (antecedents_work graph) rounds all
      (λ f h. guards_in f (flat_within (λ (edge : Edge). binds_work edge.ant) asked_work (λ edge y c. Contains-append_left (binds_work edge.ant) (binds_work edge.con) y c) graph.edges f h))
      (λ f h. Contains-append_right (guards_work graph) (rounds ++ results) f (Contains-append_left rounds results f h))

  abbrev finds : List Function
  finds = flat_map (λ (edge : Edge). found_work net edge (last_table edge.from) (last_sets edge)) graph.edges

  abbrev strongs : List Function
  strongs = sums (graph_strong net graph last_table last_sets)

  abbrev weaks : List Function
  weaks = sums (graph_weak net graph last_table last_sets)

  abbrev feasibles : List Function
  feasibles = sums (graph_feasible net graph last_table last_sets)

  abbrev strong_end : Function
  strong_end = graph_strong_where net graph last_table last_sets

  abbrev weak_end : Function
  weak_end = graph_weak_where net graph last_table last_sets

  abbrev contradictory_end : Function
  contradictory_end = graph_contradictory_where net graph last_table last_sets

  abbrev ends : List Function
  ends = negation strong_end ∷ weak_end ∷ (feasibles ++ contradictory_end ∷ [])

  finds_in : Within finds results
  finds_in f h = Contains-append_left finds (strongs ++ (weaks ++ ends)) f h

  strongs_in : Within strongs results
  strongs_in f h = Contains-append_right finds (strongs ++ (weaks ++ ends)) f (Contains-append_left strongs (weaks ++ ends) f h)

  weaks_in : Within weaks results
  weaks_in f h = Contains-append_right finds (strongs ++ (weaks ++ ends)) f (Contains-append_right strongs (weaks ++ ends) f (Contains-append_left weaks ends f h))

  ends_in : Within ends results
  ends_in f h = Contains-append_right finds (strongs ++ (weaks ++ ends)) f (Contains-append_right strongs (weaks ++ ends) f (Contains-append_right weaks ends f h))

  feasibles_in : Within (feasibles ++ contradictory_end ∷ []) results
  feasibles_in f h = ends_in f (behind (negation strong_end) (weak_end ∷ (feasibles ++ contradictory_end ∷ [])) f (behind weak_end (feasibles ++ contradictory_end ∷ []) f h))

  edges_here : Within (edges_work net last_table last_sets graph.edges) all
  edges_here f h = rounds_in f (round_in net graph tables sets (enough net graph) (omega arith) f (edges_in net graph last_table last_sets f h))

  -- the functions for all edges
  pub all_found_in : Within (all_found_work net last_table last_sets graph.edges) all
  all_found_in =
      let A : Edge → List Function = asked_work in
      let B : Edge → List Function = λ (edge : Edge). edge_work net edge (last_table edge.from) (last_sets edge) in
      let D : Edge → List Function = λ (edge : Edge). found_work net edge (last_table edge.from) (last_sets edge) in
      within_both (flat_map (λ (edge : Edge). A edge ++ (B edge ++ D edge)) graph.edges) (strongs ++ (weaks ++ feasibles)) all
      (λ f h. ⊎_elim
      (λ (a : Contains (flat_map A graph.edges) f). guards_in f a)
      (λ (b : Contains (flat_map (λ edge. B edge ++ D edge) graph.edges) f). ⊎_elim
      (λ (y : Contains (flat_map B graph.edges) f). edges_here f y)
      (λ (y : Contains (flat_map D graph.edges) f). results_in f (finds_in f y))
      (flat_parts B D graph.edges f b))
      (flat_parts A (λ edge. B edge ++ D edge) graph.edges f h))
      (within_both strongs (weaks ++ feasibles) all (λ f h. results_in f (strongs_in f h))
      (within_both weaks feasibles all (λ f h. results_in f (weaks_in f h)) (λ f h. results_in f (feasibles_in f (Contains-append_left feasibles (contradictory_end ∷ []) f h)))))

  -- the functions for the results, from the sums
  pub ending_in : Within (ending_work (sum (strong_of net last_table last_sets graph.edges)) (sum (weak_of net last_table last_sets graph.edges)) (sum (feasible_of net last_table last_sets graph.edges))) all
  ending_in =
      within_more (negation strong_end) (weak_end ∷ contradictory_end ∷ []) all (results_in (negation strong_end) (ends_in (negation strong_end) (0, omega arith, refl)))
      (within_more weak_end (contradictory_end ∷ []) all (results_in weak_end (ends_in weak_end (1, omega arith, refl)))
      (within_more contradictory_end [] all (results_in contradictory_end (feasibles_in contradictory_end (Contains-append_right feasibles (contradictory_end ∷ []) contradictory_end (0, omega arith, refl))))
      (λ f h. absurd (Contains-none f h))))

-- ---- what is kept

reached_or_none : (b : Bool) (fs : List Function) → Within (if b then fs else []) fs
reached_or_none true fs f h = h
reached_or_none false fs f h = absurd (Contains-none f h)

-- each kept function has a reference
pub graph_refs : (net : RawNet) (graph : Graph) (table : ℕ → SymbolicState) (sets : Edge → ℕ → SymbolicSet) (v : ℕ) (t : Store) (r : Results) → HaveRefs t (kept_of net sets graph.edges)
    → Means t (graph_strong_where net graph table sets) r.strong → Means t (graph_weak_where net graph table sets) r.weak → Means t (graph_contradictory_where net graph table sets) r.contradictory
    → HaveRefs t (graph_kept_functions net v graph table sets)
graph_refs net graph table sets v t r have ms mw mc f has =
    let K : Edge → List Function = λ (edge : Edge). edge_kept net edge (sets edge) in
    let A : Edge → List Function = λ (edge : Edge). bind_functions edge.ant ++ bind_functions edge.con in
    let B : Edge → List Function = λ (edge : Edge). edge_functions net v (table edge.from) (sets edge) in
    let s : Function = graph_strong_where net graph table sets in
    let w : Function = graph_weak_where net graph table sets in
    let c : Function = graph_contradictory_where net graph table sets in
    let binds : (edge : Edge) → Within (A edge) (K edge) = λ edge y h.
    (let ants : List Function = bind_functions edge.ant in
    let cons : List Function = bind_functions edge.con in
    let all : List Function = set_functions (sets edge) net.nets in
    ⊎_elim
    (λ (a : Contains ants y). Contains-append_left ants (cons ++ all) y a)
    (λ (b : Contains cons y). Contains-append_right ants (cons ++ all) y (Contains-append_left cons all y b))
    (Contains-append_cases ants cons y h)) in
    let nets : (edge : Edge) → Within (B edge) (K edge) = λ edge y h.
    (let ants : List Function = bind_functions edge.ant in
    let cons : List Function = bind_functions edge.con in
    let all : List Function = set_functions (sets edge) net.nets in
    Contains-append_right ants (cons ++ all) y (Contains-append_right cons all y (reached_or_none (is_somewhere v (table edge.from).reached) all y h))) in
    ⊎_elim
    (λ (h : Contains (flat_map A graph.edges) f). have f (flat_within A K binds graph.edges f h))
    (λ (rest : Contains (flat_map B graph.edges ++ s ∷ w ∷ c ∷ []) f). ⊎_elim
    (λ (h : Contains (flat_map B graph.edges) f). have f (flat_within B K nets graph.edges f h))
    (λ (rest : Contains (s ∷ w ∷ c ∷ []) f). ⊎_elim
    (λ (e : s ≡ f). subst (λ g. (x : Ref) × Means t g x) e (r.strong, ms))
    (λ (rest : Contains (w ∷ c ∷ []) f). ⊎_elim
    (λ (e : w ≡ f). subst (λ g. (x : Ref) × Means t g x) e (r.weak, mw))
    (λ (rest : Contains (c ∷ []) f). ⊎_elim
    (λ (e : c ≡ f). subst (λ g. (x : Ref) × Means t g x) e (r.contradictory, mc))
    (λ (none : Contains [] f). absurd (Contains-none f none))
    (Contains-cons_cases c [] f rest))
    (Contains-cons_cases w (c ∷ []) f rest))
    (Contains-cons_cases s (w ∷ c ∷ []) f rest))
    (Contains-append_cases (flat_map B graph.edges) (s ∷ w ∷ c ∷ []) f rest))
    (Contains-append_cases (flat_map A graph.edges) (flat_map B graph.edges ++ s ∷ w ∷ c ∷ []) f has)
