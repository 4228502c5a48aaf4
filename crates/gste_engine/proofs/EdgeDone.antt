-- One more edge has been dealt with, from the sets of the nets that its consequents name.
use Rattle.std.proofs.Common.{ℕ, ◌<◌, List, Result}
use Rattle.std.specs.List.{AllZip}
use Rattle.ste_base.specs.Functions.{Function}
use Rattle.dd_nodes.specs.Stores.{Store}
use Rattle.dd_nodes.proofs.Stores.{IsGood}
use Rattle.dd_ops.specs.declared.fault.OpFault.{OpFault}
use Rattle.net_core.specs.declared.raw.RawNet.{RawNet}
use Rattle.net_core.specs.Work.{SymbolicSet, disjunction, whole}
use Rattle.dual_rail.specs.declared.rails.Rails.{Rails}
use Rattle.dual_rail.specs.Rail.{AreRails, Built}
use Rattle.dual_rail.proofs.Works.{Built-good, Built-wider, SoFar, last}
use Rattle.sym_step.specs.declared.cut.Cut.{Cut}
use Rattle.sym_step.specs.Step.{IsCutBy}
use Rattle.ste_model.specs.declared.task.Edge.{Edge}
use Rattle.ste_model.specs.GraphNeed.{bind_functions}
use Rattle.ste_model.specs.GraphWork.{SymbolicState, feasible_where, strong_on, symbolic_binds, weak_on}
use Rattle.ste_model.specs.Need.{set_functions}
use Rattle.gste_engine.specs.declared.found.Findings.{Findings}
use Rattle.gste_engine.specs.private.EdgeFinds.{AreFindings, HaveRefs, IsWithEdge, with_edge_work, with_found_work}
use Rattle.gste_engine.proofs.EdgeTurns.{rest_in}
use Rattle.gste_engine.proofs.KeptRefs.{Refs-held, bind_refs, net_refs, refs_both}

module _ (net : RawNet) (edge : Edge) (x : SymbolicState) (sets : ℕ → SymbolicSet) (f h e : Function) where
  -- what is found with this edge
  abbrev pub AreFoundWith : Store → Findings → Type 0
  AreFoundWith = AreFindings (whole disjunction f (strong_on net edge x sets)) (whole disjunction h (weak_on net edge x sets)) (disjunction e (feasible_where net x sets))

  abbrev pub found_with_work : List Function
  found_with_work = with_found_work sets (symbolic_binds edge.con) (feasible_where net x sets) f h e

  pub edge_done : (s u v : Store) (wanted : List Cut) (result : Result Findings OpFault) → IsGood u → IsGood v → SoFar (with_edge_work net edge x sets f h e) s u → AllZip (IsCutBy u) (symbolic_binds edge.con) wanted → HaveRefs u (bind_functions edge.ant) → ((id : ℕ) → id < net.nets → (r : Rails) × AreRails u (sets id) r)
      → Built found_with_work AreFoundWith u v result → Built (with_edge_work net edge x sets f h e) (IsWithEdge net edge x sets f h e) s v result
  edge_done s u v wanted result gu gv so asks given nets d =
      let keeps = d.spends.keeps in
      let ants : List Function = bind_functions edge.ant in
      let cons : List Function = bind_functions edge.con in
      let all : List Function = set_functions sets net.nets in
      let kept = refs_both v ants (_) (Refs-held u v ants gu gv keeps given)
      (refs_both v cons all (Refs-held u v cons gu gv keeps (bind_refs u edge.con wanted asks)) (Refs-held u v all gu gv keeps (net_refs u sets net.nets nets))) in
      last (with_edge_work net edge x sets f h e) (IsWithEdge net edge x sets f h e) s u v result gu gv so
      (Built-wider (with_edge_work net edge x sets f h e) found_with_work (IsWithEdge net edge x sets f h e) u v result (rest_in net edge x sets f h e)
      (Built-good found_with_work AreFoundWith (IsWithEdge net edge x sets f h e) u v result (λ (q : Findings) m. record { found = m; kept = kept }) d))
