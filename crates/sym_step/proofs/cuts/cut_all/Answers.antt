use Rattle.std.proofs.Common.{◌≡◌, ◌<◌, List, length, ◌+◌, ℕ, subst, sym, arith, take, Ok, Err}
use Rattle.dd_nodes.specs.Stores.{Store, IsRef, function}
use Rattle.dd_nodes.proofs.Walks.{IsFrom-grows}
use Rattle.net_core.specs.Work.{SymbolicCut, SymbolicSet, after_cuts, cuts_work}
use Rattle.sym_step.specs.private.Demands.{IsNearest, no_cut, node_at}
use Rattle.gate_sets.specs.NetSets.{AreFlagged, HasFlagged}
use Rattle.dual_rail.proofs.Works.{So-start, Built-made, set_where, first, pass}
use Rattle.dd_nodes.proofs.Stores.{Keeps-refl, Keeps-trans}
use Rattle.sym_step.specs.declared.cut.Cut.{Cut}
use Rattle.std.proofs.lemmas.List.{take_all}
use Rattle.sym_step.proofs.Cutting.{cut_turn, own_demand, own_flagged, flagged_refs, demands_long, skipped}
use Rattle.sym_step.proofs.cuts.cut_all.Goals as goal

pub loop-at-init : goal.loop-at-init
loop-at-init g c =
    let s : Store = g.N.Nodes.store c.args.nodes.now in
    let near = c.first-at.ensures in
    record {
      within = near.within;
      here = near.here;
      keeps = Keeps-refl s;
      refs = c.requires.rails;
      so = λ ds sets zip h.
          (So-start (cuts_work ds sets) s, subst (λ (w : SymbolicSet). AreFlagged s w c.args.r) (sym (skipped s ds c.args.demands.now.cuts sets c.args.id 0 c.first-at.result zip near)) h);
    }

pub loop-at-preserved : goal.loop-at-preserved
loop-at-preserved g c =
    let s : Store = g.N.Nodes.store c.args.nodes.now in
    let t : Store = g.N.Nodes.store c.loop-at.nodes in
    let u : Store = g.N.Nodes.store c.cut_once.new.nodes in
    let cuts : List Cut = c.args.demands.now.cuts in
    let id : ℕ = c.args.id in
    let k : ℕ = c.loop-at.at in
    let m : ℕ = c.next-at.result in
    let cut : Cut = c.at.result in
    let count = c.len.ensures in
    let lt : k < length cuts = omega (arith, c.loop-at-test.true, count) in
    let own : node_at cuts k ≡ id = c.loop-at.invariant.here lt in
    let near : IsNearest cuts id (k + 1) m = subst (λ (n : ℕ). IsNearest cuts n (k + 1) m) own c.next-at.ensures in
    let kst = c.loop-at.invariant.keeps in
    let hg : IsRef t cut.guard = IsFrom-grows s.held t.held 0 cut.guard kst.grows (subst (λ (x : Cut). IsRef s x.guard) (sym (c.at.ensures no_cut)) (c.requires.guards k no_cut lt)) in
    let hv : IsRef t cut.value = IsFrom-grows s.held t.held 0 cut.value kst.grows (subst (λ (x : Cut). IsRef s x.value) (sym (c.at.ensures no_cut)) (c.requires.values k no_cut lt)) in
    let mine = c.in_ok-left.ensures (record { node = cut.node.0; guard = function t cut.guard; value = function t cut.value }) (λ id. set_where t c.loop-at.left.rails) (own_demand t cut hg hv) (own_flagged t c.loop-at.left c.loop-at.invariant.refs) in
    record {
      within = near.within;
      here = near.here;
      keeps = Keeps-trans s t u kst mine.spends.keeps;
      refs = flagged_refs u _ c.in_ok-left.left mine.ok;
      so = λ ds sets zip h.
          let p = c.loop-at.invariant.so ds sets zip h in
          let b = cut_turn ds sets cuts s t u k cut id c.loop-at.left (Ok c.in_ok-left.left) (g.met.N.Nodes.diagram c.args.nodes.now) (g.met.N.Nodes.diagram c.loop-at.nodes) (g.met.N.Nodes.diagram c.cut_once.new.nodes) lt
          (sym (c.at.ensures cut)) zip p.0 p.1 c.in_ok-left.ensures in
          (first _ _ s u (Ok c.in_ok-left.left) b, subst (λ (w : SymbolicSet). AreFlagged u w c.in_ok-left.left) (sym (skipped s ds cuts sets id (k + 1) m zip near)) b.ok);
    }

pub returns-in_err-left : goal.returns-in_err-left
returns-in_err-left g c = λ ds sets zip h.
    let s : Store = g.N.Nodes.store c.args.nodes.now in
    let u : Store = g.N.Nodes.store c.cut_once.new.nodes in
    let cuts : List Cut = c.args.demands.now.cuts in
    let k : ℕ = c.loop-at.at in
    let cut : Cut = c.at.result in
    let count = c.len.ensures in
    let lt : k < length cuts = omega (arith, c.loop-at-test.true, count) in
    let gs = g.met.N.Nodes.diagram c.args.nodes.now in
    let gu = g.met.N.Nodes.diagram c.cut_once.new.nodes in
    let p = c.loop-at.invariant.so ds sets zip h in
    let fault = c.in_err-left.field-0.0 in
    pass (cuts_work ds sets) (HasFlagged (after_cuts (take (k + 1) ds) sets c.args.id)) (HasFlagged (after_cuts ds sets c.args.id)) s s u fault c.from_residual.result gs gu (So-start (cuts_work ds sets) s)
    (cut_turn ds sets cuts s (g.N.Nodes.store c.loop-at.nodes) u k cut c.args.id c.loop-at.left (Err fault) gs (g.met.N.Nodes.diagram c.loop-at.nodes) gu lt (sym (c.at.ensures cut)) zip p.0 p.1 c.in_err-left.ensures) c.from_residual.ensures.1

pub returns : goal.returns
returns g c = λ ds sets zip h.
    let s : Store = g.N.Nodes.store c.args.nodes.now in
    let t : Store = g.N.Nodes.store c.loop-at.nodes in
    let k : ℕ = c.loop-at.at in
    let n = demands_long s ds c.args.demands.now.cuts zip in
    let p = c.loop-at.invariant.so ds sets zip h in
    let count = c.len.ensures in
    let end : take k ds ≡ ds = take_all k ds (omega (arith, n, c.loop-at-test.false, count)) in
    Built-made (cuts_work ds sets) (HasFlagged (after_cuts ds sets c.args.id)) s t c.loop-at.left p.0 (subst (λ (xs : List SymbolicCut). AreFlagged t (after_cuts xs sets c.args.id) c.loop-at.left) end p.1)
