use Rattle.std.proofs.Common.{List, Ok, Err, refl, arith}
use Rattle.ste_base.specs.Functions.{Function}
use Rattle.dd_nodes.specs.Stores.{Store}
use Rattle.dd_nodes.proofs.Stores.{Means-keeps}
use Rattle.dd_nodes.proofs.Walks.{IsFrom-grows}
use Rattle.net_core.specs.Work.{disjunction}
use Rattle.ste_model.specs.Expressions.{exclusive_disjunction}
use Rattle.dual_rail.specs.Rail.{HasFunction}
use Rattle.dual_rail.proofs.Works.{So-start, and_built, first, last, more, or_built, pass}
use Rattle.exact_engine.specs.private.TimedCuts.{broken, broken_work}
use Rattle.exact_engine.proofs.Added.{xor_built}
use Rattle.exact_engine.proofs.adding.add_broken.Goals as goal

pub returns-in_err-differs : goal.returns-in_err-differs
returns-in_err-differs g c = λ f b gd x mf mb mg mx.
    let s : Store = g.N.Nodes.store c.args.nodes.now in
    let t : Store = g.N.Nodes.store c.xor.new.nodes in
    let work : List Function = broken_work f b gd x in
    let fault = c.in_err-differs.field-0.0 in
    pass work (HasFunction (exclusive_disjunction b x)) (HasFunction (disjunction f (broken b gd x))) s s t fault c.from_residual.result (g.met.N.Nodes.diagram c.args.nodes.now) (g.met.N.Nodes.diagram c.xor.new.nodes) (So-start work s)
    (xor_built work b x s t c.args.bit c.args.value (Err fault) (0, omega arith, refl) mb mx c.in_err-differs.ensures) c.from_residual.ensures.1

pub returns-in_err-broken : goal.returns-in_err-broken
returns-in_err-broken g c = λ f b gd x mf mb mg mx.
    let s : Store = g.N.Nodes.store c.args.nodes.now in
    let t : Store = g.N.Nodes.store c.xor.new.nodes in
    let u : Store = g.N.Nodes.store c.both.new.nodes in
    let ds = g.met.N.Nodes.diagram c.args.nodes.now in
    let dt = g.met.N.Nodes.diagram c.xor.new.nodes in
    let du = g.met.N.Nodes.diagram c.both.new.nodes in
    let work : List Function = broken_work f b gd x in
    let r = c.in_ok-differs.differs in
    let a = xor_built work b x s t c.args.bit c.args.value (Ok r) (0, omega arith, refl) mb mx c.in_ok-differs.ensures in
    let fault = c.in_err-broken.field-0.0 in
    pass work (HasFunction (broken b gd x)) (HasFunction (disjunction f (broken b gd x))) s t u fault c.from_residual-in_err-broken.result dt du (first work (HasFunction (exclusive_disjunction b x)) s t (Ok r) a)
    (and_built work gd (exclusive_disjunction b x) t u c.args.guard r (Err fault) (1, omega arith, refl) (Means-keeps s t gd c.args.guard ds dt a.spends.keeps mg) a.ok c.in_err-broken.ensures) c.from_residual-in_err-broken.ensures.1

pub returns : goal.returns
returns g c = λ f b gd x mf mb mg mx.
    let s : Store = g.N.Nodes.store c.args.nodes.now in
    let t : Store = g.N.Nodes.store c.xor.new.nodes in
    let u : Store = g.N.Nodes.store c.both.new.nodes in
    let v : Store = g.N.Nodes.store c.either.new.nodes in
    let ds = g.met.N.Nodes.diagram c.args.nodes.now in
    let dt = g.met.N.Nodes.diagram c.xor.new.nodes in
    let du = g.met.N.Nodes.diagram c.both.new.nodes in
    let dv = g.met.N.Nodes.diagram c.either.new.nodes in
    let work : List Function = broken_work f b gd x in
    let r = c.in_ok-differs.differs in
    let q = c.in_ok-broken.broken in
    let a = xor_built work b x s t c.args.bit c.args.value (Ok r) (0, omega arith, refl) mb mx c.in_ok-differs.ensures in
    let e = and_built work gd (exclusive_disjunction b x) t u c.args.guard r (Ok q) (1, omega arith, refl) (Means-keeps s t gd c.args.guard ds dt a.spends.keeps mg) a.ok c.in_ok-broken.ensures in
    let so = first work (HasFunction (exclusive_disjunction b x)) s t (Ok r) a in
    let on = more work (HasFunction (broken b gd x)) s t u (Ok q) dt du so e in
    last work (HasFunction (disjunction f (broken b gd x))) s u v c.either.result du dv on
    (or_built work f (broken b gd x) u v c.args.sum q c.either.result (2, omega arith, refl) (Means-keeps s u f c.args.sum ds du on.keeps mf) e.ok c.either.ensures)

pub both-requires-clause-left : goal.both-requires-clause-left
both-requires-clause-left g c =
    let s : Store = g.N.Nodes.store c.args.nodes.now in
    let a = c.in_ok-differs.ensures in
    IsFrom-grows s.held (g.N.Nodes.store c.xor.new.nodes).held 0 c.args.guard a.keeps.grows c.requires.guard

pub either-requires-clause-left : goal.either-requires-clause-left
either-requires-clause-left g c =
    let s : Store = g.N.Nodes.store c.args.nodes.now in
    let t : Store = g.N.Nodes.store c.xor.new.nodes in
    let u : Store = g.N.Nodes.store c.both.new.nodes in
    IsFrom-grows t.held u.held 0 c.args.sum c.in_ok-broken.ensures.keeps.grows (IsFrom-grows s.held t.held 0 c.args.sum c.in_ok-differs.ensures.keeps.grows c.requires.sum)
