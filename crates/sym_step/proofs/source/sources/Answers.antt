use Rattle.std.proofs.Common.{◌≡◌, ◌<◌, ℕ, false, List, length, All, sym, ◌∙◌, subst, Ok}
use Rattle.ste_base.specs.Functions.{Function}
use Rattle.dd_nodes.specs.Stores.{Store}
use Rattle.dd_nodes.proofs.Stores.{Keeps-trans}
use Rattle.net_core.specs.Work.{ArePossibleEach, time_work}
use Rattle.dual_rail.specs.Rail.{Whatever}
use Rattle.dual_rail.proofs.Works.{So-start, first, last, more, pass}
use Rattle.ste_base.specs.declared.id.NodeId.{NodeId}
use Rattle.sym_step.specs.declared.cut.Cut.{Cut}
use Rattle.sym_step.specs.Frame.{is_listed}
use Rattle.sym_step.specs.private.Frames.{HaveOpen}
use Rattle.sym_step.specs.private.Parts.{asks}
use Rattle.sym_step.proofs.Cutting.{Demands-keep}
use Rattle.sym_step.proofs.Reading.{follows_then}
use Rattle.sym_step.proofs.Opened.{all_sources, ok_then}
use Rattle.sym_step.proofs.source.sources.Goals as goal

pub open_sources-requires-2-clause-ids : goal.open_sources-requires-2-clause-ids
open_sources-requires-2-clause-ids g c = subst (λ (n : ℕ). All (λ (node : NodeId). node.0 < n) c.nodes-asked.result.now) c.requires.over c.nodes-asked.ensures.inside

pub returns-in_err-latch_sources-clause-built : goal.returns-in_err-latch_sources-clause-built
returns-in_err-latch_sources-clause-built g c = λ ls ds sets given family asked.
    let s : Store = g.N.Nodes.store c.args.nodes.now in
    let t : Store = g.N.Nodes.store c.latch_sources.new.nodes in
    let work : List Function = time_work c.args.net.now.raw ls (asks c.args.demands.now.weak ds) sets in
    pass work Whatever Whatever s s t c.in_err-latch_sources.field-0.0 c.from_residual.result (g.met.N.Nodes.diagram c.args.nodes.now) (g.met.N.Nodes.diagram c.latch_sources.new.nodes) (So-start work s)
    (c.in_err-latch_sources.ensures.built ls ds sets given family asked) c.from_residual.ensures.1

pub returns-in_err-open_sources-clause-built : goal.returns-in_err-open_sources-clause-built
returns-in_err-open_sources-clause-built g c = λ ls ds sets given family asked.
    let s : Store = g.N.Nodes.store c.args.nodes.now in
    let t : Store = g.N.Nodes.store c.latch_sources.new.nodes in
    let u : Store = g.N.Nodes.store c.open_sources.new.nodes in
    let gs = g.met.N.Nodes.diagram c.args.nodes.now in
    let gt = g.met.N.Nodes.diagram c.latch_sources.new.nodes in
    let gu = g.met.N.Nodes.diagram c.open_sources.new.nodes in
    let net = c.args.net.now in
    let work : List Function = time_work net.raw ls (asks c.args.demands.now.weak ds) sets in
    let long = given.long in
    let p = c.in_ok-latch_sources.ensures in
    let so1 = first work Whatever s t (Ok c.in_ok-latch_sources.field-0) (p.built ls ds sets given family asked) in
    pass work Whatever Whatever s t u c.in_err-open_sources.field-0.0 c.from_residual-in_err-open_sources.result gt gu so1
    (c.in_err-open_sources.ensures.built ls ds sets long (subst (λ v. ArePossibleEach v net.raw ls (asks c.args.demands.now.weak ds) sets) (sym p.keeps.vars) family) (Demands-keep s t ds c.args.demands.now.cuts gs gt p.keeps asked)) c.from_residual-in_err-open_sources.ensures.1

pub returns-clause-built : goal.returns-clause-built
returns-clause-built g c = λ ls ds sets given family asked.
    let s : Store = g.N.Nodes.store c.args.nodes.now in
    let t : Store = g.N.Nodes.store c.latch_sources.new.nodes in
    let u : Store = g.N.Nodes.store c.open_sources.new.nodes in
    let v : Store = g.N.Nodes.store c.open_sources-2.new.nodes in
    let gs = g.met.N.Nodes.diagram c.args.nodes.now in
    let gt = g.met.N.Nodes.diagram c.latch_sources.new.nodes in
    let gu = g.met.N.Nodes.diagram c.open_sources.new.nodes in
    let gv = g.met.N.Nodes.diagram c.open_sources-2.new.nodes in
    let net = c.args.net.now in
    let work : List Function = time_work net.raw ls (asks c.args.demands.now.weak ds) sets in
    let long = given.long in
    let p = c.in_ok-latch_sources.ensures in
    let q = c.in_ok-open_sources.ensures in
    let ksu = Keeps-trans s t u p.keeps q.keeps in
    let so1 = first work Whatever s t (Ok c.in_ok-latch_sources.field-0) (p.built ls ds sets given family asked) in
    let so2 = more work Whatever s t u (Ok c.in_ok-open_sources.field-0) gt gu so1 (q.built ls ds sets long (subst (λ n. ArePossibleEach n net.raw ls (asks c.args.demands.now.weak ds) sets) (sym p.keeps.vars) family) (Demands-keep s t ds c.args.demands.now.cuts gs gt p.keeps asked)) in
    last work Whatever s u v c.open_sources-2.result gu gv so2
    (c.open_sources-2.ensures.built ls ds sets long (subst (λ n. ArePossibleEach n net.raw ls (asks c.args.demands.now.weak ds) sets) (sym ksu.vars) family) (Demands-keep s u ds c.args.demands.now.cuts gs gu ksu asked))

pub returns-clause-keeps : goal.returns-clause-keeps
returns-clause-keeps g c =
    let s : Store = g.N.Nodes.store c.args.nodes.now in
    let t : Store = g.N.Nodes.store c.latch_sources.new.nodes in
    let u : Store = g.N.Nodes.store c.open_sources.new.nodes in
    let v : Store = g.N.Nodes.store c.open_sources-2.new.nodes in
    ok_then c.open_sources-2.result (λ k. Keeps-trans s u v (Keeps-trans s t u c.in_ok-latch_sources.ensures.keeps c.in_ok-open_sources.ensures.keeps) k) c.open_sources-2.ensures.keeps

pub returns-clause-follows : goal.returns-clause-follows
returns-clause-follows g c =
    let a = c.latch_sources.new.board in
    let b = c.open_sources.new.board in
    let d = c.open_sources-2.new.board in
    ok_then c.open_sources-2.result (λ k. follows_then c.args.board.now b d (follows_then c.args.board.now a b c.in_ok-latch_sources.ensures.follows c.in_ok-open_sources.ensures.follows) k) c.open_sources-2.ensures.follows

pub open_sources-requires-clause-nets : goal.open_sources-requires-clause-nets
open_sources-requires-clause-nets g c = c.in_ok-latch_sources.ensures.follows.long ∙ c.requires.nets

pub open_sources-requires-2-clause-nets : goal.open_sources-requires-2-clause-nets
open_sources-requires-2-clause-nets g c = c.in_ok-open_sources.ensures.follows.long ∙ c.in_ok-latch_sources.ensures.follows.long ∙ c.requires.nets

pub returns-clause-have : goal.returns-clause-have
returns-clause-have g c =
    let s : Store = g.N.Nodes.store c.args.nodes.now in
    let t : Store = g.N.Nodes.store c.latch_sources.new.nodes in
    let u : Store = g.N.Nodes.store c.open_sources.new.nodes in
    let v : Store = g.N.Nodes.store c.open_sources-2.new.nodes in
    let gs = g.met.N.Nodes.diagram c.args.nodes.now in
    let gt = g.met.N.Nodes.diagram c.latch_sources.new.nodes in
    let gu = g.met.N.Nodes.diagram c.open_sources.new.nodes in
    let gv = g.met.N.Nodes.diagram c.open_sources-2.new.nodes in
    let net = c.args.net.now in
    let cuts : List Cut = c.args.demands.now.cuts in
    let p = c.in_ok-latch_sources.ensures in
    let q = c.in_ok-open_sources.ensures in
    let ksu = Keeps-trans s t u p.keeps q.keeps in
    ok_then c.open_sources-2.result (λ k ls ds sets given family asked.
    let long = given.long in
    let h1 = p.have ls ds sets given family asked in
    let h2 = q.have ls ds sets long (subst (λ n. ArePossibleEach n net.raw ls (asks c.args.demands.now.weak ds) sets) (sym p.keeps.vars) family) (Demands-keep s t ds cuts gs gt p.keeps asked) in
    let h3 = k ls ds sets long (subst (λ n. ArePossibleEach n net.raw ls (asks c.args.demands.now.weak ds) sets) (sym ksu.vars) family) (Demands-keep s u ds cuts gs gu ksu asked) in
    all_sources net.raw net.in_range net.one_driver ls c.args.demands.now.weak ds sets long s t u v cuts c.args.before.now c.left_open-left.result.now c.args.board.now.nets.items c.latch_sources.new.board.nets.items c.open_sources.new.board.nets.items c.open_sources-2.new.board.nets.items
    gs gv p.keeps family asked c.requires.undriven (subst (λ (ids : List NodeId). (id : ℕ) → is_listed ids id ≡ false → is_listed c.left_open-left.result.now id ≡ is_listed c.args.before.now id) c.nodes-asked.ensures.nodes c.left_open-left.ensures.left) h1.0 h1.1 h2.0 h2.1
    (subst (λ (ids : List NodeId). HaveOpen net.raw sets v ids (length ids) c.open_sources-2.new.board.nets.items) c.nodes-asked.ensures.nodes h3.0) h3.1) c.open_sources-2.ensures.have
