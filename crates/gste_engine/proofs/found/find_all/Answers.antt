use Rattle.std.proofs.Common.{◌≡◌, ◌<◌, List, length, ◌+◌, subst, arith, take, get_or, Ok, Err}
use Rattle.std.proofs.lemmas.List.{get_or_default, take_all}
use Rattle.ste_base.specs.Functions.{Function}
use Rattle.dd_nodes.specs.Stores.{Store, IsRef, function}
use Rattle.dd_nodes.proofs.Walks.{IsFrom-grows}
use Rattle.dd_nodes.proofs.Stores.{Keeps-trans}
use Rattle.dd_nodes.proofs.Spending.{own}
use Rattle.net_core.specs.Work.{SymbolicCut}
use Rattle.dual_rail.specs.declared.rails.Rails.{Rails}
use Rattle.dual_rail.specs.Rail.{AreRefs}
use Rattle.dual_rail.proofs.Works.{So-start, Built-made, own_set, set_where, first, pass}
use Rattle.dual_rail.proofs.Turns.{Refs-keep}
use Rattle.sym_step.specs.declared.cut.Cut.{Cut}
use Rattle.sym_step.proofs.Cutting.{demands_long}
use Rattle.gste_engine.specs.private.EdgeFinds.{AreFindings, gated_finds_work, more_gated_strong, more_gated_weak}
use Rattle.gste_engine.proofs.GatedFinds.{gated_turn, own_findings}
use Rattle.gste_engine.proofs.found.find_all.Goals as goal

abbrev no_cut : Cut
no_cut = record { node = record { 0 = 0 }; guard = record { 0 = 0 }; value = record { 0 = 0 } }

abbrev no_rails : Rails
no_rails = record { can0 = record { 0 = 0 }; can1 = record { 0 = 0 } }

pub loop-k-preserved : goal.loop-k-preserved
loop-k-preserved g c =
    let s : Store = g.N.Nodes.store c.args.nodes.now in
    let t : Store = g.N.Nodes.store c.loop-k.nodes in
    let u : Store = g.N.Nodes.store c.find.new.nodes in
    let gs = g.met.N.Nodes.diagram c.args.nodes.now in
    let gt = g.met.N.Nodes.diagram c.loop-k.nodes in
    let gu = g.met.N.Nodes.diagram c.find.new.nodes in
    let cuts : List Cut = c.args.cuts.now in
    let seen : List Rails = c.args.seen.now in
    let k = c.loop-k.k in
    let cut : Cut = get_or cuts k no_cut in
    let lt : k < length cuts = omega (arith, c.loop-k-test.true) in
    let inside : k < length seen = (let n = c.requires.long in omega (arith, n, lt)) in
    let r : Rails = get_or seen k no_rails in
    let kst = c.loop-k.invariant.keeps in
    let gate = c.args.gate in
    let found = c.loop-k.all in
    let hg : IsRef t cut.guard = IsFrom-grows s.held t.held 0 cut.guard kst.grows (c.requires.guards k no_cut lt) in
    let hv : IsRef t cut.value = IsFrom-grows s.held t.held 0 cut.value kst.grows (c.requires.values k no_cut lt) in
    let hz : IsRef t gate = IsFrom-grows s.held t.held 0 gate kst.grows c.requires.gate in
    let hr : AreRefs t r = Refs-keep s t r kst (c.requires.seen k no_rails inside) in
    let mine = c.in_ok-all.ensures (function t found.strong) (function t found.weak) (function t found.feasible) (set_where t r) (function t cut.guard) (function t cut.value) (function t gate)
    (own_findings t found c.loop-k.invariant.refs) (own_set t r hr) (own t cut.guard hg) (own t cut.value hv) (own t gate hz) in
    record {
      keeps = Keeps-trans s t u kst mine.spends.keeps;
      refs = record { strong = mine.ok.strong.ref; weak = mine.ok.weak.ref; feasible = mine.ok.feasible.ref };
      so = λ sets ds z f h e have zip mz sums.
          let p = c.loop-k.invariant.so sets ds z f h e have zip mz sums in
          let b = gated_turn sets ds z f h e seen cuts s t u k cut r gate found (Ok c.in_ok-all.all) gs gt gu lt (get_or_default cuts k cut no_cut lt) (get_or_default seen k r no_rails inside) have zip mz p.0 p.1 c.in_ok-all.ensures in
          (first (gated_finds_work sets ds z f h) (AreFindings (more_gated_strong sets (take (k + 1) ds) z f) (more_gated_weak sets (take (k + 1) ds) z h) e) s u (Ok c.in_ok-all.all) b, b.ok);
    }

pub returns-in_err-all-clause-keeps : goal.returns-in_err-all-clause-keeps
returns-in_err-all-clause-keeps g c =
    let s : Store = g.N.Nodes.store c.args.nodes.now in
    let t : Store = g.N.Nodes.store c.loop-k.nodes in
    let u : Store = g.N.Nodes.store c.find.new.nodes in
    let gs = g.met.N.Nodes.diagram c.args.nodes.now in
    let gt = g.met.N.Nodes.diagram c.loop-k.nodes in
    let gu = g.met.N.Nodes.diagram c.find.new.nodes in
    let cuts : List Cut = c.args.cuts.now in
    let seen : List Rails = c.args.seen.now in
    let k = c.loop-k.k in
    let cut : Cut = get_or cuts k no_cut in
    let lt : k < length cuts = omega (arith, c.loop-k-test.true) in
    let inside : k < length seen = (let n = c.requires.long in omega (arith, n, lt)) in
    let r : Rails = get_or seen k no_rails in
    let kst = c.loop-k.invariant.keeps in
    let gate = c.args.gate in
    let found = c.loop-k.all in
    let hg : IsRef t cut.guard = IsFrom-grows s.held t.held 0 cut.guard kst.grows (c.requires.guards k no_cut lt) in
    let hv : IsRef t cut.value = IsFrom-grows s.held t.held 0 cut.value kst.grows (c.requires.values k no_cut lt) in
    let hz : IsRef t gate = IsFrom-grows s.held t.held 0 gate kst.grows c.requires.gate in
    let hr : AreRefs t r = Refs-keep s t r kst (c.requires.seen k no_rails inside) in
    let mine = c.in_err-all.ensures (function t found.strong) (function t found.weak) (function t found.feasible) (set_where t r) (function t cut.guard) (function t cut.value) (function t gate)
    (own_findings t found c.loop-k.invariant.refs) (own_set t r hr) (own t cut.guard hg) (own t cut.value hv) (own t gate hz) in
    Keeps-trans s t u kst mine.spends.keeps

pub returns-in_err-all-clause-found : goal.returns-in_err-all-clause-found
returns-in_err-all-clause-found g c = λ sets ds z f h e have zip mz sums.
    let s : Store = g.N.Nodes.store c.args.nodes.now in
    let t : Store = g.N.Nodes.store c.loop-k.nodes in
    let u : Store = g.N.Nodes.store c.find.new.nodes in
    let gs = g.met.N.Nodes.diagram c.args.nodes.now in
    let gt = g.met.N.Nodes.diagram c.loop-k.nodes in
    let gu = g.met.N.Nodes.diagram c.find.new.nodes in
    let cuts : List Cut = c.args.cuts.now in
    let seen : List Rails = c.args.seen.now in
    let k = c.loop-k.k in
    let cut : Cut = get_or cuts k no_cut in
    let lt : k < length cuts = omega (arith, c.loop-k-test.true) in
    let inside : k < length seen = (let n = c.requires.long in omega (arith, n, lt)) in
    let r : Rails = get_or seen k no_rails in
    let p = c.loop-k.invariant.so sets ds z f h e have zip mz sums in
    let fault = c.in_err-all.field-0.0 in
    let work : List Function = gated_finds_work sets ds z f h in
    pass work (AreFindings (more_gated_strong sets (take (k + 1) ds) z f) (more_gated_weak sets (take (k + 1) ds) z h) e) (AreFindings (more_gated_strong sets ds z f) (more_gated_weak sets ds z h) e) s s u fault c.from_residual.result gs gu (So-start work s)
    (gated_turn sets ds z f h e seen cuts s t u k cut r c.args.gate c.loop-k.all (Err fault) gs gt gu lt (get_or_default cuts k cut no_cut lt) (get_or_default seen k r no_rails inside) have zip mz p.0 p.1 c.in_err-all.ensures) c.from_residual.ensures.1

pub returns-clause-found : goal.returns-clause-found
returns-clause-found g c = λ sets ds z f h e have zip mz sums.
    let s : Store = g.N.Nodes.store c.args.nodes.now in
    let t : Store = g.N.Nodes.store c.loop-k.nodes in
    let k = c.loop-k.k in
    let n = demands_long s ds c.args.cuts.now zip in
    let p = c.loop-k.invariant.so sets ds z f h e have zip mz sums in
    let end : take k ds ≡ ds = take_all k ds (omega (arith, n, c.loop-k-test.false)) in
    Built-made (gated_finds_work sets ds z f h) (AreFindings (more_gated_strong sets ds z f) (more_gated_weak sets ds z h) e) s t c.loop-k.all p.0
    (subst (λ (xs : List SymbolicCut). AreFindings (more_gated_strong sets xs z f) (more_gated_weak sets xs z h) e t c.loop-k.all) end p.1)
