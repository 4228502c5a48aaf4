use Rattle.std.proofs.Common.{◌≡◌, ◌<◌, List, length, ◌+◌, subst, sym, arith, take, get_or, Ok, Err}
use Rattle.std.proofs.lemmas.List.{get_or_default, take_all}
use Rattle.ste_base.specs.Functions.{Function}
use Rattle.dd_nodes.specs.Stores.{Store, IsRef, function}
use Rattle.dd_nodes.proofs.Walks.{IsFrom-grows}
use Rattle.dd_nodes.proofs.Stores.{Keeps-trans}
use Rattle.dd_nodes.proofs.Spending.{own}
use Rattle.net_core.specs.Work.{SymbolicCut}
use Rattle.dual_rail.specs.declared.rails.Rails.{Rails}
use Rattle.dual_rail.specs.Rail.{AreRefs}
use Rattle.dual_rail.proofs.Works.{So-start, Built-made, own_set, set_where, first, pass}
use Rattle.dual_rail.proofs.Turns.{Refs-keep}
use Rattle.sym_step.specs.declared.cut.Cut.{Cut}
use Rattle.sym_step.proofs.Cutting.{demands_long}
use Rattle.sym_step.specs.Frame.{nets_of}
use Rattle.ste_engine.specs.private.Finds.{AreFound, found_work, more_strong, more_weak}
use Rattle.ste_engine.proofs.Found.{find_turn}
use Rattle.ste_engine.proofs.find.find_all.Goals as goal

abbrev no_cut : Cut
no_cut = record { node = record { 0 = 0 }; guard = record { 0 = 0 }; value = record { 0 = 0 } }

abbrev free_rails : Rails
free_rails = record { can0 = record { 0 = 1 }; can1 = record { 0 = 1 } }

pub loop-c-preserved : goal.loop-c-preserved
loop-c-preserved g c =
    let s : Store = g.N.Nodes.store c.args.nodes.now in
    let t : Store = g.N.Nodes.store c.loop-c.nodes in
    let u : Store = g.N.Nodes.store c.find.new.nodes in
    let gs = g.met.N.Nodes.diagram c.args.nodes.now in
    let gt = g.met.N.Nodes.diagram c.loop-c.nodes in
    let gu = g.met.N.Nodes.diagram c.find.new.nodes in
    let cuts : List Cut = c.args.cuts.now in
    let nets : List Rails = nets_of c.args.frame.now in
    let k = c.loop-c.c-index in
    let cut : Cut = get_or cuts k no_cut in
    let lt : k < length cuts = omega (arith, c.loop-c-test.true) in
    let inside : cut.node.0 < length nets = c.requires.inside k no_cut lt in
    let r : Rails = c.rails.result in
    let kst = c.loop-c.invariant.keeps in
    let hg : IsRef t cut.guard = IsFrom-grows s.held t.held 0 cut.guard kst.grows (c.requires.guards k no_cut lt) in
    let hv : IsRef t cut.value = IsFrom-grows s.held t.held 0 cut.value kst.grows (c.requires.values k no_cut lt) in
    let hr : AreRefs t r = Refs-keep s t r kst (subst (AreRefs s) (sym c.rails.ensures) (c.requires.nets cut.node.0 free_rails inside)) in
    let mine = c.in_ok-all.ensures (function t c.loop-c.all.strong) (function t c.loop-c.all.weak) (set_where t r) (function t cut.guard) (function t cut.value)
    (record { strong = own t c.loop-c.all.strong c.loop-c.invariant.refs.strong; weak = own t c.loop-c.all.weak c.loop-c.invariant.refs.weak }) (own_set t r hr) (own t cut.guard hg) (own t cut.value hv) in
    record {
      keeps = Keeps-trans s t u kst mine.spends.keeps;
      refs = record { strong = mine.ok.strong.ref; weak = mine.ok.weak.ref };
      so = λ sets ds f h have zip sums.
          let p = c.loop-c.invariant.so sets ds f h have zip sums in
          let b = find_turn sets ds f h nets cuts s t u k cut r c.loop-c.all (Ok c.in_ok-all.all) gs gt gu lt (get_or_default cuts k cut no_cut lt) inside c.rails.ensures have zip p.0 p.1 c.in_ok-all.ensures in
          (first (found_work sets ds f h) (AreFound (more_strong sets (take (k + 1) ds) f) (more_weak sets (take (k + 1) ds) h)) s u (Ok c.in_ok-all.all) b, b.ok);
    }

pub returns-in_err-all : goal.returns-in_err-all
returns-in_err-all g c = λ sets ds f h have zip sums.
    let s : Store = g.N.Nodes.store c.args.nodes.now in
    let t : Store = g.N.Nodes.store c.loop-c.nodes in
    let u : Store = g.N.Nodes.store c.find.new.nodes in
    let gs = g.met.N.Nodes.diagram c.args.nodes.now in
    let gt = g.met.N.Nodes.diagram c.loop-c.nodes in
    let gu = g.met.N.Nodes.diagram c.find.new.nodes in
    let cuts : List Cut = c.args.cuts.now in
    let nets : List Rails = nets_of c.args.frame.now in
    let k = c.loop-c.c-index in
    let cut : Cut = get_or cuts k no_cut in
    let lt : k < length cuts = omega (arith, c.loop-c-test.true) in
    let inside : cut.node.0 < length nets = c.requires.inside k no_cut lt in
    let r : Rails = c.rails.result in
    let p = c.loop-c.invariant.so sets ds f h have zip sums in
    let fault = c.in_err-all.field-0.0 in
    let work : List Function = found_work sets ds f h in
    pass work (AreFound (more_strong sets (take (k + 1) ds) f) (more_weak sets (take (k + 1) ds) h)) (AreFound (more_strong sets ds f) (more_weak sets ds h)) s s u fault c.from_residual.result gs gu (So-start work s)
    (find_turn sets ds f h nets cuts s t u k cut r c.loop-c.all (Err fault) gs gt gu lt (get_or_default cuts k cut no_cut lt) inside c.rails.ensures have zip p.0 p.1 c.in_err-all.ensures) c.from_residual.ensures.1

pub returns : goal.returns
returns g c = λ sets ds f h have zip sums.
    let s : Store = g.N.Nodes.store c.args.nodes.now in
    let t : Store = g.N.Nodes.store c.loop-c.nodes in
    let k = c.loop-c.c-index in
    let n = demands_long s ds c.args.cuts.now zip in
    let p = c.loop-c.invariant.so sets ds f h have zip sums in
    let end : take k ds ≡ ds = take_all k ds (omega (arith, n, c.loop-c-test.false)) in
    Built-made (found_work sets ds f h) (AreFound (more_strong sets ds f) (more_weak sets ds h)) s t c.loop-c.all p.0
    (subst (λ (xs : List SymbolicCut). AreFound (more_strong sets xs f) (more_weak sets xs h) t c.loop-c.all) end p.1)
