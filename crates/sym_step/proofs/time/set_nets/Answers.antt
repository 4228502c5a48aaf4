use Rattle.std.proofs.Common.{◌≤◌, List, length, sym, ◌∙◌, subst, Err, Ok}
use Rattle.ste_base.specs.Functions.{Function}
use Rattle.dd_nodes.specs.Stores.{Store}
use Rattle.net_core.specs.Work.{ArePossibleEach, SymbolicAsked, time_work}
use Rattle.dual_rail.specs.Rail.{Built, Whatever}
use Rattle.dual_rail.proofs.Works.{So-start, first, last, pass}
use Rattle.sym_step.proofs.Cutting.{Demands-keep}
use Rattle.ste_base.specs.declared.id.NodeId.{NodeId}
use Rattle.sym_step.specs.private.Demands.{nodes_of}
use Rattle.sym_step.proofs.Framing.{spared_follows, spared_keeps}
use Rattle.sym_step.proofs.Reading.{follows_then, order_then}
use Rattle.sym_step.proofs.Opened.{ok_then}
use Rattle.sym_step.proofs.Sourced.{to_gates, all_placed}
use Rattle.sym_step.specs.private.Parts.{asks}
use Rattle.sym_step.proofs.Listed.{as_asked, of_asked}
use Rattle.sym_step.proofs.time.set_nets.Goals as goal

pub returns-in_err-sources-clause-built : goal.returns-in_err-sources-clause-built
returns-in_err-sources-clause-built g c = λ ls asked sets given zipc weak possible.
    let s : Store = g.N.Nodes.store c.args.nodes.now in
    let t : Store = g.N.Nodes.store c.sources.new.nodes in
    let work : List Function = time_work c.args.net.now.raw ls asked sets in
    let family = as_asked (λ (a : SymbolicAsked). ArePossibleEach s.vars c.args.net.now.raw ls a sets) asked c.args.demands.now.weak weak possible in
    pass work Whatever Whatever s s t c.in_err-sources.field-0.0 c.from_residual.result (g.met.N.Nodes.diagram c.args.nodes.now) (g.met.N.Nodes.diagram c.sources.new.nodes) (So-start work s)
    (of_asked (λ (a : SymbolicAsked). Built {A = Unit {0}} (time_work c.args.net.now.raw ls a sets) Whatever s t (Err c.in_err-sources.field-0.0)) asked c.args.demands.now.weak weak (c.in_err-sources.ensures.built ls asked.cuts sets given family zipc)) c.from_residual.ensures.1

pub place_gates-requires-clause-spared : goal.place_gates-requires-clause-spared
place_gates-requires-clause-spared g c =
    let s : Store = g.N.Nodes.store c.args.nodes.now in
    let t : Store = g.N.Nodes.store c.sources.new.nodes in
    let net = c.args.net.now in
    let p = c.in_ok-sources.ensures in
    let asked : List NodeId = nodes_of c.args.demands.now.weak c.args.demands.now.cuts in
    spared_follows t net.raw asked c.args.board.now c.sources.new.board c.requires.due p.follows
    (spared_keeps s t net.raw asked c.args.board.now net.in_range c.requires.nets (g.met.N.Nodes.diagram c.args.nodes.now) (g.met.N.Nodes.diagram c.sources.new.nodes) p.keeps c.requires.refs c.requires.spared)

pub place_gates-requires-clause-long : goal.place_gates-requires-clause-long
place_gates-requires-clause-long g c = c.in_ok-sources.ensures.follows.long ∙ c.requires.nets

pub place_gates-requires-clause-due : goal.place_gates-requires-clause-due
place_gates-requires-clause-due g c = subst (λ n. length c.args.net.now.raw.gates ≤ n) (sym c.in_ok-sources.ensures.follows.marks) c.requires.due

pub place_gates-requires-clause-order : goal.place_gates-requires-clause-order
place_gates-requires-clause-order g c = order_then c.args.board.now c.sources.new.board c.args.net.now.raw c.in_ok-sources.ensures.follows c.requires.order

pub returns-clause-follows : goal.returns-clause-follows
returns-clause-follows g c = ok_then c.place_gates.result (λ k. follows_then c.args.board.now c.sources.new.board c.place_gates.new.board c.in_ok-sources.ensures.follows k) c.place_gates.ensures.follows

pub returns-clause-built : goal.returns-clause-built
returns-clause-built g c = λ ls asked sets given zipc weak possible.
    let s : Store = g.N.Nodes.store c.args.nodes.now in
    let t : Store = g.N.Nodes.store c.sources.new.nodes in
    let u : Store = g.N.Nodes.store c.place_gates.new.nodes in
    let gs = g.met.N.Nodes.diagram c.args.nodes.now in
    let gt = g.met.N.Nodes.diagram c.sources.new.nodes in
    let gu = g.met.N.Nodes.diagram c.place_gates.new.nodes in
    let net = c.args.net.now in
    let p = c.in_ok-sources.ensures in
    let work : List Function = time_work net.raw ls (asks c.args.demands.now.weak asked.cuts) sets in
    let long = given.long in
    let now : SymbolicAsked = asks c.args.demands.now.weak asked.cuts in
    let family = as_asked (λ (a : SymbolicAsked). ArePossibleEach s.vars net.raw ls a sets) asked c.args.demands.now.weak weak possible in
    let family' : ArePossibleEach t.vars net.raw ls now sets = subst (λ v. ArePossibleEach v net.raw ls now sets) (sym p.keeps.vars) family in
    let zipc' = Demands-keep s t asked.cuts c.args.demands.now.cuts gs gt p.keeps zipc in
    let have0 = to_gates net.raw c.sources.new.board.due.order.items sets t c.sources.new.board.nets.items net.one_driver (order_then c.args.board.now c.sources.new.board net.raw p.follows c.requires.order) (p.have ls asked.cuts sets given family zipc) in
    of_asked (λ (a : SymbolicAsked). Built (time_work net.raw ls a sets) Whatever s u c.place_gates.result) asked c.args.demands.now.weak weak
    (last work Whatever s t u c.place_gates.result gt gu (first work Whatever s t (Ok c.in_ok-sources.field-0) (p.built ls asked.cuts sets given family zipc))
    (c.place_gates.ensures.built ls asked.cuts sets long family' zipc' have0))

pub returns-clause-have : goal.returns-clause-have
returns-clause-have g c =
    let s : Store = g.N.Nodes.store c.args.nodes.now in
    let t : Store = g.N.Nodes.store c.sources.new.nodes in
    let u : Store = g.N.Nodes.store c.place_gates.new.nodes in
    let gs = g.met.N.Nodes.diagram c.args.nodes.now in
    let gt = g.met.N.Nodes.diagram c.sources.new.nodes in
    let gu = g.met.N.Nodes.diagram c.place_gates.new.nodes in
    let net = c.args.net.now in
    let p = c.in_ok-sources.ensures in
    ok_then c.place_gates.result (λ q ls asked sets given zipc weak possible.
    let long = given.long in
    let now : SymbolicAsked = asks c.args.demands.now.weak asked.cuts in
    let family = as_asked (λ (a : SymbolicAsked). ArePossibleEach s.vars net.raw ls a sets) asked c.args.demands.now.weak weak possible in
    let family' : ArePossibleEach t.vars net.raw ls now sets = subst (λ v. ArePossibleEach v net.raw ls now sets) (sym p.keeps.vars) family in
    let zipc' = Demands-keep s t asked.cuts c.args.demands.now.cuts gs gt p.keeps zipc in
    let have0 = to_gates net.raw c.sources.new.board.due.order.items sets t c.sources.new.board.nets.items net.one_driver (order_then c.args.board.now c.sources.new.board net.raw p.follows c.requires.order) (p.have ls asked.cuts sets given family zipc) in
    all_placed net.raw c.sources.new.board.due.order.items sets u c.place_gates.new.board.nets.items (q ls asked.cuts sets long family' zipc' have0)) c.place_gates.ensures.have
