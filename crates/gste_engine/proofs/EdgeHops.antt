-- What is known of edges as hops, one edge after another.
use Rattle.std.proofs.Common.{◌≡◌, ◌+◌, ◌<◌, ℕ, Bool, true, false, List, [], ◌∷◌, ◌++◌, length, take, get_or, Option, None, Some, refl, sym, ◌∙◌, ap, subst}
use Rattle.std.specs.Prelude.{◌↔◌, IsTrue, is_some}
use Rattle.std.specs.List.{AllZip}
use Rattle.std.proofs.lemmas.List.{take_more}
use Rattle.std.proofs.lemmas.Option.{get_or_from_slice_get, slice_get_within}
use Rattle.dd_nodes.specs.Stores.{Store}
use Rattle.dd_nodes.proofs.Stores.{IsGood}
use Rattle.graph_path.specs.declared.hop.Hop.{Hop}
use Rattle.net_core.specs.declared.raw.RawNet.{RawNet}
use Rattle.engine_parts.specs.declared.failing.Failure.{Failure}
use Rattle.engine_parts.specs.Failing.{FailsBy, MakesNothing}
use Rattle.ste_model.specs.declared.task.Edge.{Edge}
use Rattle.ste_model.specs.Edges.{bind_cuts}
use Rattle.ste_model.specs.GraphFound.{FailsOn}
use Rattle.ste_model.specs.GraphHops.{IsEdgeHop}
use Rattle.ste_model.specs.GraphTable.{VertexState}
use Rattle.ste_model.specs.GraphWork.{SymbolicState}
use Rattle.gste_engine.specs.declared.state.State.{State}
use Rattle.gste_engine.specs.declared.taken.Taken.{Taken}
use Rattle.gste_engine.specs.Tables.{HasStates, IsState}
use Rattle.gste_engine.specs.private.Taken.{IsFirstOn, IsTaken}
use Rattle.gste_engine.proofs.Lists.{zip_push}
use Rattle.gste_engine.proofs.StateRefs.{State-keeps}

fails_is : (failure : Failure) (net : RawNet) (bits : List Bool) (table : ℕ → VertexState) (edge : Edge) (told : Option _) → IsFirstOn failure net bits table edge told → IsTrue (is_some told) ↔ FailsOn (FailsBy failure) net bits table edge
fails_is failure net bits table edge None none = (λ h. absurd (let e : false ≡ true = h in cc e), λ fails. absurd (none fails))
fails_is failure net bits table edge (Some node) h = (λ t. (h.sets, h.feasible, (h.number, h.first.cut, slice_get_within (bind_cuts edge.con bits) h.number h.first.cut h.first.here, get_or_from_slice_get (bind_cuts edge.con bits) h.number h.first.cut h.first.cut h.first.here, h.first.fails)), λ fails. refl)

pub hop_is : (failure : Failure) (net : RawNet) (bits : List Bool) (table : ℕ → VertexState) (edge : Edge) (told : Taken) (hop : Hop) → IsTaken failure net bits table edge told → hop ≡ record { from = edge.from; to = edge.to; feasible = told.feasible; fails = is_some told.first } → IsEdgeHop (FailsBy failure) net bits table edge hop
hop_is failure net bits table edge told hop h e = subst (IsEdgeHop (FailsBy failure) net bits table edge) (sym e) (record {
  from = refl;
  to = refl;
  feasible = h.feasible;
  fails = λ is. fails_is failure net bits table edge told.first h.first;
})

-- the source of an edge has its state still
module _ (s t : Store) (gs : IsGood s) (gt : IsGood t) (same : MakesNothing s t) (states : ℕ → SymbolicState) (n : ℕ) (table : List State) (has : HasStates states n s table) where
  pub source_is : (vertex : ℕ) (source : State) → vertex < length table → source ≡ get_or table vertex source → IsState t (states vertex) source
  source_is vertex source lt is = State-keeps s t (states vertex) source gs gt same.keeps (subst (λ (r : State). IsState s (states vertex) r) (sym is) (has.each vertex source lt))

-- one more edge
pub more_hops : (R : Edge → Hop → Type 0) (edges : List Edge) (hops after : List Hop) (k : ℕ) (edge : Edge) (hop : Hop) → k < length edges → edge ≡ get_or edges k edge → after ≡ hops ++ hop ∷ [] → AllZip R (take k edges) hops → R edge hop → AllZip R (take (k + 1) edges) after
more_hops R edges hops after k edge hop lt is new fit one =
    let parts : take (k + 1) edges ≡ take k edges ++ edge ∷ [] = take_more edges k edge lt ∙ ap (λ (e : Edge). take k edges ++ e ∷ []) (sym is) in
    subst (λ (hs : List Hop). AllZip R (take (k + 1) edges) hs) (sym new)
    (subst (λ (xs : List Edge). AllZip R xs (hops ++ hop ∷ [])) (sym parts) (zip_push R (take k edges) hops edge hop fit one))
