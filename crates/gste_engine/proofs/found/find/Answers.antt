use Rattle.std.proofs.Common.{List, Ok, Err}
use Rattle.std.proofs.lemmas.List.Elements.{Contains-append_left, Contains-append_right}
use Rattle.ste_base.specs.Functions.{Function}
use Rattle.dd_nodes.specs.Stores.{Store}
use Rattle.dd_nodes.proofs.Stores.{Means-keeps}
use Rattle.dd_nodes.proofs.Walks.{IsFrom-grows}
use Rattle.net_core.specs.Work.{conjunction, disjunction}
use Rattle.dual_rail.specs.Rail.{HasFunction}
use Rattle.dual_rail.proofs.Turns.{Refs-keep}
use Rattle.dual_rail.proofs.Works.{Built-made, Built-wider, Rails-keep, So-start, first, more, pass}
use Rattle.ste_model.specs.Work.{found_strong, found_weak}
use Rattle.gste_engine.specs.private.EdgeFinds.{AreFindings, gated_find_work, gated_strong_work, gated_weak_work}
use Rattle.gste_engine.proofs.GatedFinds.{gated_left}
use Rattle.gste_engine.proofs.found.find.Goals as goal

pub returns-in_err-strong : goal.returns-in_err-strong
returns-in_err-strong g c = λ f k e w h x z mf mw mh mx mz.
    let s : Store = g.N.Nodes.store c.args.nodes.now in
    let t : Store = g.N.Nodes.store c.add_strong.new.nodes in
    let work : List Function = gated_find_work f k w h x z in
    let sum : Function = disjunction f (conjunction (found_strong w h x) z) in
    let other : Function = disjunction k (conjunction (found_weak w h x) z) in
    let fault = c.in_err-strong.field-0.0 in
    pass work (HasFunction sum) (AreFindings sum other e) s s t fault c.from_residual.result (g.met.N.Nodes.diagram c.args.nodes.now) (g.met.N.Nodes.diagram c.add_strong.new.nodes) (So-start work s)
    (Built-wider work (gated_strong_work f w h x z) (HasFunction sum) s t (Err fault) (λ y has. Contains-append_left (gated_strong_work f w h x z) (gated_weak_work k w h z) y has) (c.in_err-strong.ensures f w h x z mf.strong mw mh mx mz)) c.from_residual.ensures.1

pub returns-in_err-weak : goal.returns-in_err-weak
returns-in_err-weak g c = λ f k e w h x z mf mw mh mx mz.
    let s : Store = g.N.Nodes.store c.args.nodes.now in
    let t : Store = g.N.Nodes.store c.add_strong.new.nodes in
    let u : Store = g.N.Nodes.store c.add_weak.new.nodes in
    let gs = g.met.N.Nodes.diagram c.args.nodes.now in
    let gt = g.met.N.Nodes.diagram c.add_strong.new.nodes in
    let work : List Function = gated_find_work f k w h x z in
    let sum : Function = disjunction f (conjunction (found_strong w h x) z) in
    let other : Function = disjunction k (conjunction (found_weak w h x) z) in
    let r = c.in_ok-strong.strong in
    let a = Built-wider work (gated_strong_work f w h x z) (HasFunction sum) s t (Ok r) (λ y has. Contains-append_left (gated_strong_work f w h x z) (gated_weak_work k w h z) y has) (c.in_ok-strong.ensures f w h x z mf.strong mw mh mx mz) in
    let keeps = a.spends.keeps in
    let fault = c.in_err-weak.field-0.0 in
    pass work (HasFunction other) (AreFindings sum other e) s t u fault c.from_residual-in_err-weak.result gt (g.met.N.Nodes.diagram c.add_weak.new.nodes) (first work (HasFunction sum) s t (Ok r) a)
    (Built-wider work (gated_weak_work k w h z) (HasFunction other) t u (Err fault) (λ y has. Contains-append_right (gated_strong_work f w h x z) (gated_weak_work k w h z) y has)
    (c.in_err-weak.ensures k w h x z (Means-keeps s t k c.args.found.weak gs gt keeps mf.weak) (Rails-keep s t w c.args.r gs gt keeps mw) (Means-keeps s t h c.args.cut.guard gs gt keeps mh) (Means-keeps s t z c.args.gate gs gt keeps mz))) c.from_residual-in_err-weak.ensures.1

pub returns : goal.returns
returns g c = λ f k e w h x z mf mw mh mx mz.
    let s : Store = g.N.Nodes.store c.args.nodes.now in
    let t : Store = g.N.Nodes.store c.add_strong.new.nodes in
    let u : Store = g.N.Nodes.store c.add_weak.new.nodes in
    let gs = g.met.N.Nodes.diagram c.args.nodes.now in
    let gt = g.met.N.Nodes.diagram c.add_strong.new.nodes in
    let gu = g.met.N.Nodes.diagram c.add_weak.new.nodes in
    let work : List Function = gated_find_work f k w h x z in
    let sum : Function = disjunction f (conjunction (found_strong w h x) z) in
    let other : Function = disjunction k (conjunction (found_weak w h x) z) in
    let r = c.in_ok-strong.strong in
    let q = c.in_ok-weak.weak in
    let a = Built-wider work (gated_strong_work f w h x z) (HasFunction sum) s t (Ok r) (λ y has. Contains-append_left (gated_strong_work f w h x z) (gated_weak_work k w h z) y has) (c.in_ok-strong.ensures f w h x z mf.strong mw mh mx mz) in
    let keeps = a.spends.keeps in
    let b = Built-wider work (gated_weak_work k w h z) (HasFunction other) t u (Ok q) (λ y has. Contains-append_right (gated_strong_work f w h x z) (gated_weak_work k w h z) y has)
    (c.in_ok-weak.ensures k w h x z (Means-keeps s t k c.args.found.weak gs gt keeps mf.weak) (Rails-keep s t w c.args.r gs gt keeps mw) (Means-keeps s t h c.args.cut.guard gs gt keeps mh) (Means-keeps s t z c.args.gate gs gt keeps mz)) in
    let so = more work (HasFunction other) s t u (Ok q) gt gu (first work (HasFunction sum) s t (Ok r) a) b in
    Built-made work (AreFindings sum other e) s u (record { strong = r; weak = q; feasible = c.args.found.feasible }) so
    (record { strong = Means-keeps t u sum r gt gu b.spends.keeps a.ok; weak = b.ok; feasible = Means-keeps s u e c.args.found.feasible gs gu so.keeps mf.feasible })

pub add_weak-requires-clause-sum : goal.add_weak-requires-clause-sum
add_weak-requires-clause-sum g c =
    let s : Store = g.N.Nodes.store c.args.nodes.now in
    let t : Store = g.N.Nodes.store c.add_strong.new.nodes in
    let k = gated_left s t c.args.found.strong c.args.r c.args.cut c.args.gate (Ok c.in_ok-strong.strong) c.requires.found.strong c.requires.rails c.requires.guard c.requires.value c.requires.gate c.in_ok-strong.ensures in
    IsFrom-grows s.held t.held 0 c.args.found.weak k.grows c.requires.found.weak

pub add_weak-requires-clause-rails : goal.add_weak-requires-clause-rails
add_weak-requires-clause-rails g c =
    let s : Store = g.N.Nodes.store c.args.nodes.now in
    let t : Store = g.N.Nodes.store c.add_strong.new.nodes in
    let k = gated_left s t c.args.found.strong c.args.r c.args.cut c.args.gate (Ok c.in_ok-strong.strong) c.requires.found.strong c.requires.rails c.requires.guard c.requires.value c.requires.gate c.in_ok-strong.ensures in
    Refs-keep s t c.args.r k c.requires.rails

pub add_weak-requires-clause-guard : goal.add_weak-requires-clause-guard
add_weak-requires-clause-guard g c =
    let s : Store = g.N.Nodes.store c.args.nodes.now in
    let t : Store = g.N.Nodes.store c.add_strong.new.nodes in
    let k = gated_left s t c.args.found.strong c.args.r c.args.cut c.args.gate (Ok c.in_ok-strong.strong) c.requires.found.strong c.requires.rails c.requires.guard c.requires.value c.requires.gate c.in_ok-strong.ensures in
    IsFrom-grows s.held t.held 0 c.args.cut.guard k.grows c.requires.guard

pub add_weak-requires-clause-gate : goal.add_weak-requires-clause-gate
add_weak-requires-clause-gate g c =
    let s : Store = g.N.Nodes.store c.args.nodes.now in
    let t : Store = g.N.Nodes.store c.add_strong.new.nodes in
    let k = gated_left s t c.args.found.strong c.args.r c.args.cut c.args.gate (Ok c.in_ok-strong.strong) c.requires.found.strong c.requires.rails c.requires.guard c.requires.value c.requires.gate c.in_ok-strong.ensures in
    IsFrom-grows s.held t.held 0 c.args.gate k.grows c.requires.gate
