use Rattle.std.proofs.Common.{List, Ok, Err}
use Rattle.std.proofs.lemmas.List.Elements.{Contains-append_left, Contains-append_right}
use Rattle.ste_base.specs.Functions.{Function}
use Rattle.dd_nodes.specs.Stores.{Store}
use Rattle.dd_nodes.proofs.Stores.{Means-keeps}
use Rattle.dd_nodes.proofs.Walks.{IsFrom-grows}
use Rattle.net_core.specs.Work.{disjunction}
use Rattle.dual_rail.specs.Rail.{HasFunction}
use Rattle.dual_rail.proofs.Turns.{Refs-keep}
use Rattle.dual_rail.proofs.Works.{Built-made, Built-wider, Rails-keep, So-start, first, more, pass}
use Rattle.ste_model.specs.Work.{found_strong, found_weak}
use Rattle.ste_engine.specs.private.Finds.{AreFound, find_work, strong_work, weak_work}
use Rattle.ste_engine.proofs.Found.{strong_left}
use Rattle.ste_engine.proofs.find.find.Goals as goal

pub returns-in_err-strong : goal.returns-in_err-strong
returns-in_err-strong g c = λ f k w h x mf mw mh mx.
    let s : Store = g.N.Nodes.store c.args.nodes.now in
    let t : Store = g.N.Nodes.store c.add_strong.new.nodes in
    let work : List Function = find_work f k w h x in
    let sum : Function = disjunction f (found_strong w h x) in
    let fault = c.in_err-strong.field-0.0 in
    pass work (HasFunction sum) (AreFound sum (disjunction k (found_weak w h x))) s s t fault c.from_residual.result (g.met.N.Nodes.diagram c.args.nodes.now) (g.met.N.Nodes.diagram c.add_strong.new.nodes) (So-start work s)
    (Built-wider work (strong_work f w h x) (HasFunction sum) s t (Err fault) (λ y has. Contains-append_left (strong_work f w h x) (weak_work k w h) y has) (c.in_err-strong.ensures f w h x mf.strong mw mh mx)) c.from_residual.ensures.1

pub returns-in_err-weak : goal.returns-in_err-weak
returns-in_err-weak g c = λ f k w h x mf mw mh mx.
    let s : Store = g.N.Nodes.store c.args.nodes.now in
    let t : Store = g.N.Nodes.store c.add_strong.new.nodes in
    let u : Store = g.N.Nodes.store c.add_weak.new.nodes in
    let gs = g.met.N.Nodes.diagram c.args.nodes.now in
    let gt = g.met.N.Nodes.diagram c.add_strong.new.nodes in
    let work : List Function = find_work f k w h x in
    let sum : Function = disjunction f (found_strong w h x) in
    let other : Function = disjunction k (found_weak w h x) in
    let r = c.in_ok-strong.strong in
    let a = Built-wider work (strong_work f w h x) (HasFunction sum) s t (Ok r) (λ y has. Contains-append_left (strong_work f w h x) (weak_work k w h) y has) (c.in_ok-strong.ensures f w h x mf.strong mw mh mx) in
    let keeps = a.spends.keeps in
    let fault = c.in_err-weak.field-0.0 in
    pass work (HasFunction other) (AreFound sum other) s t u fault c.from_residual-in_err-weak.result gt (g.met.N.Nodes.diagram c.add_weak.new.nodes) (first work (HasFunction sum) s t (Ok r) a)
    (Built-wider work (weak_work k w h) (HasFunction other) t u (Err fault) (λ y has. Contains-append_right (strong_work f w h x) (weak_work k w h) y has)
    (c.in_err-weak.ensures k w h x (Means-keeps s t k c.args.found.weak gs gt keeps mf.weak) (Rails-keep s t w c.args.r gs gt keeps mw) (Means-keeps s t h c.args.c.guard gs gt keeps mh))) c.from_residual-in_err-weak.ensures.1

pub returns : goal.returns
returns g c = λ f k w h x mf mw mh mx.
    let s : Store = g.N.Nodes.store c.args.nodes.now in
    let t : Store = g.N.Nodes.store c.add_strong.new.nodes in
    let u : Store = g.N.Nodes.store c.add_weak.new.nodes in
    let gs = g.met.N.Nodes.diagram c.args.nodes.now in
    let gt = g.met.N.Nodes.diagram c.add_strong.new.nodes in
    let gu = g.met.N.Nodes.diagram c.add_weak.new.nodes in
    let work : List Function = find_work f k w h x in
    let sum : Function = disjunction f (found_strong w h x) in
    let other : Function = disjunction k (found_weak w h x) in
    let r = c.in_ok-strong.strong in
    let q = c.in_ok-weak.weak in
    let a = Built-wider work (strong_work f w h x) (HasFunction sum) s t (Ok r) (λ y has. Contains-append_left (strong_work f w h x) (weak_work k w h) y has) (c.in_ok-strong.ensures f w h x mf.strong mw mh mx) in
    let keeps = a.spends.keeps in
    let b = Built-wider work (weak_work k w h) (HasFunction other) t u (Ok q) (λ y has. Contains-append_right (strong_work f w h x) (weak_work k w h) y has)
    (c.in_ok-weak.ensures k w h x (Means-keeps s t k c.args.found.weak gs gt keeps mf.weak) (Rails-keep s t w c.args.r gs gt keeps mw) (Means-keeps s t h c.args.c.guard gs gt keeps mh)) in
    Built-made work (AreFound sum other) s u (record { strong = r; weak = q }) (more work (HasFunction other) s t u (Ok q) gt gu (first work (HasFunction sum) s t (Ok r) a) b)
    (record { strong = Means-keeps t u sum r gt gu b.spends.keeps a.ok; weak = b.ok })

pub add_weak-requires-clause-sum : goal.add_weak-requires-clause-sum
add_weak-requires-clause-sum g c =
    let s : Store = g.N.Nodes.store c.args.nodes.now in
    let t : Store = g.N.Nodes.store c.add_strong.new.nodes in
    let k = strong_left s t c.args.found.strong c.args.r c.args.c (Ok c.in_ok-strong.strong) c.requires.found.strong c.requires.rails c.requires.guard c.requires.value c.in_ok-strong.ensures in
    IsFrom-grows s.held t.held 0 c.args.found.weak k.grows c.requires.found.weak

pub add_weak-requires-clause-rails : goal.add_weak-requires-clause-rails
add_weak-requires-clause-rails g c =
    let s : Store = g.N.Nodes.store c.args.nodes.now in
    let t : Store = g.N.Nodes.store c.add_strong.new.nodes in
    let k = strong_left s t c.args.found.strong c.args.r c.args.c (Ok c.in_ok-strong.strong) c.requires.found.strong c.requires.rails c.requires.guard c.requires.value c.in_ok-strong.ensures in
    Refs-keep s t c.args.r k c.requires.rails

pub add_weak-requires-clause-guard : goal.add_weak-requires-clause-guard
add_weak-requires-clause-guard g c =
    let s : Store = g.N.Nodes.store c.args.nodes.now in
    let t : Store = g.N.Nodes.store c.add_strong.new.nodes in
    let k = strong_left s t c.args.found.strong c.args.r c.args.c (Ok c.in_ok-strong.strong) c.requires.found.strong c.requires.rails c.requires.guard c.requires.value c.in_ok-strong.ensures in
    IsFrom-grows s.held t.held 0 c.args.c.guard k.grows c.requires.guard
