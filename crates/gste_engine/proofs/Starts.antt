-- Before the first round; and how many rounds there are.
use Rattle.std.proofs.Common.{◌≡◌, ℕ, ◌+◌, ◌-◌, ◌*◌, ◌<◌, ◌≤◌, Bool, List, [], ◌∷◌, length, map, replicate, refl, sym, ◌∙◌, ap, subst, arith, All}
use Rattle.std.proofs.lemmas.List.{get_or-replicate, length-replicate}
use Rattle.std.proofs.lemmas.List.Elements.{All-head, All-tail}
use Rattle.dd_nodes.specs.Stores.{Store}
use Rattle.dd_nodes.proofs.Stores.{IsGood}
use Rattle.net_core.specs.declared.bit_set.BitSet.{BitSet}
use Rattle.net_core.specs.declared.raw.Latch.{Latch}
use Rattle.net_core.specs.declared.raw.RawNet.{RawNet}
use Rattle.net_core.specs.Run.{IsSettled}
use Rattle.net_core.specs.Sets.{neither}
use Rattle.net_core.specs.Work.{SymbolicSet, set_at}
use Rattle.ste_model.specs.declared.task.Edge.{Edge}
use Rattle.ste_model.specs.declared.task.Graph.{Graph}
use Rattle.ste_model.specs.GraphNeed.{AreWholeRounds}
use Rattle.ste_model.specs.GraphTable.{VertexState}
use Rattle.ste_model.specs.GraphWork.{SymbolicState, state_at}
use Rattle.ste_model.proofs.GraphNeeds.{one_graph_need}
use Rattle.gste_engine.specs.declared.state.State.{State}
use Rattle.gste_engine.specs.Tables.{HasStates, IsState}
use Rattle.gste_engine.specs.private.Sums.{never_state, unreached}
use Rattle.gste_engine.proofs.Arrivals.{never_is}
use Rattle.gste_engine.proofs.NextTables.{state_moves}
use Rattle.gste_engine.proofs.Sets.{no_set}

nones_are : (bits : List Bool) (latches : List Latch) (sets : List BitSet) → length sets ≡ length latches → All (λ set. set ≡ neither) sets → map (set_at bits) (map (λ latch. no_set) latches) ≡ sets
nones_are bits [] [] e h = refl
nones_are bits [] (s ∷ sets) e h = absurd (omega arith)
nones_are bits (l ∷ ls) [] e h = absurd (omega arith)
nones_are bits (l ∷ ls) (s ∷ sets) e h =
    ap (λ (x : BitSet). x ∷ map (set_at bits) (map (λ latch. no_set) ls)) (sym (All-head (λ (set : BitSet). set ≡ neither) s sets h))
    ∙ ap (λ (xs : List BitSet). s ∷ xs) (nones_are bits ls sets (omega arith) (All-tail (λ (set : BitSet). set ≡ neither) s sets h))

abbrev state_of : Bool → List BitSet → VertexState
state_of reached latches = record { reached = reached; latches = latches }

module _ (net : RawNet) (graph : Graph) (s : Store) (tables : ℕ → ℕ → SymbolicState) (sets : ℕ → Edge → ℕ → SymbolicSet) (whole : AreWholeRounds net s.vars graph tables sets) where
  never_here : (bits : List Bool) → length bits ≡ s.vars → (v : ℕ) → state_at bits (never_state net) ≡ state_at bits (tables 0 v)
  never_here bits l v =
      let start = (whole.rounds bits l).start v in
      ap (λ b. state_of b (map (set_at bits) (map (λ latch. no_set) net.latches))) (sym start.reached)
      ∙ ap (λ xs. state_of ((tables 0 v).reached bits) xs) (nones_are bits net.latches (map (set_at bits) (tables 0 v).latches) start.long start.empty)

  -- in round 0 nothing is reached
  pub starts_are : (rs : List State) → IsGood s → rs ≡ replicate (length graph.vertices) (unreached net) → HasStates (tables 0) (length graph.vertices) s rs
  starts_are rs gs is = subst (HasStates (tables 0) (length graph.vertices) s) (sym {A = List State} is) (record {
    long = length-replicate (length graph.vertices) (unreached net);
    each = λ v d lt.
        let inside : v < length graph.vertices = let n = length-replicate (length graph.vertices) (unreached net) in omega (arith, n, lt) in
        subst (λ (r : State). IsState s (tables 0 v) r) (sym (get_or-replicate (length graph.vertices) v (unreached net) d inside))
        (state_moves s (never_state net) (tables 0 v) (unreached net) (λ bits l. never_here bits l v) (never_is s net gs));
  })

-- there are tables and sets
pub whole_exists : (net : RawNet) (vars : ℕ) (graph : Graph) → IsSettled net → (tables : ℕ → ℕ → SymbolicState) × (sets : ℕ → Edge → ℕ → SymbolicSet) × AreWholeRounds net vars graph tables sets
whole_exists net vars graph settled =
    let need = one_graph_need.some net vars graph settled in
    (need.1.0, need.1.1, need.1.2)

-- ---- the number of rounds

grouped_by : (i d e : ℕ) → i * e + e ≤ (d + (i + 1)) * e
grouped_by i d e = omega arith

pub grouped : (i v e : ℕ) → i < v → i * e + e ≤ v * e
grouped i v e lt = subst (λ n. i * e + e ≤ n * e) (let is : v - (i + 1) + (i + 1) ≡ v = omega (arith, lt) in is) (grouped_by i (v - (i + 1)) e)

pub all_rounds : (v l e : ℕ) → e ≡ l * 2 + 1 → v * e + 1 ≡ 2 * v * l + v + 1
all_rounds v l e is = ap (λ n. v * n + 1) is ∙ omega arith

-- the rounds of one group behind round 1 are among them
pub group_below : (i v l e : ℕ) → e ≡ l * 2 + 1 → i < v → (i * e + 1) + e ≤ 2 * v * l + v + 1
group_below i v l e is lt = let all = all_rounds v l e is in let some = grouped i v e lt in omega (arith, all, some)

pub next_group : (i e : ℕ) → (i * e + 1) + e ≡ (i + 1) * e + 1
next_group i e = omega arith
