use Rattle.std.proofs.Common.{List, Ok, Err}
use Rattle.std.proofs.lemmas.List.Elements.{Contains-append_left, Contains-append_right}
use Rattle.dd_nodes.specs.declared.node.Ref.{Ref}
use Rattle.ste_base.specs.Functions.{Function}
use Rattle.dd_nodes.specs.Stores.{Store}
use Rattle.dd_nodes.proofs.Stores.{Keeps-trans, Means-keeps}
use Rattle.dd_nodes.proofs.Walks.{IsFrom-grows}
use Rattle.net_core.specs.Work.{disjunction, whole}
use Rattle.ste_model.specs.Work.{symbolic_cuts_at}
use Rattle.dual_rail.specs.Rail.{HasFunction}
use Rattle.dual_rail.proofs.Works.{So-start, Built-made, Built-wider, first, more, pass}
use Rattle.exact_engine.specs.private.TimedCuts.{AreBothAdded, both_added, broken_at, cuts_added}
use Rattle.exact_engine.specs.private.Bits.{net_ref}
use Rattle.exact_engine.proofs.Added.{ask_refs_keep, timed_cuts_keep}
use Rattle.exact_engine.proofs.adding.add_both.Goals as goal

pub add_time-requires-2-clause-timed_cuts : goal.add_time-requires-2-clause-timed_cuts
add_time-requires-2-clause-timed_cuts g c = ask_refs_keep (g.N.Nodes.store c.args.nodes.now) (g.N.Nodes.store c.add_time.new.nodes) _ c.args.con.now c.in_ok-first.ensures.keeps c.requires.con

pub returns-in_err-first-clause-built : goal.returns-in_err-first-clause-built
returns-in_err-first-clause-built g c = λ f h bit one two mf mh bits fa fc.
    let s : Store = g.N.Nodes.store c.args.nodes.now in
    let t : Store = g.N.Nodes.store c.add_time.new.nodes in
    let time = c.args.time in
    let a = symbolic_cuts_at one time in
    let b = symbolic_cuts_at two time in
    let work : List Function = both_added f h bit a b in
    let fault = c.in_err-first.field-0.0 in
    pass work (HasFunction (whole disjunction f (broken_at bit a))) (AreBothAdded f h bit a b) s s t fault c.from_residual.result (g.met.N.Nodes.diagram c.args.nodes.now) (g.met.N.Nodes.diagram c.add_time.new.nodes) (So-start work s)
    (Built-wider work (cuts_added f bit a) (HasFunction (whole disjunction f (broken_at bit a))) s t (Err fault) (λ k y. Contains-append_left (cuts_added f bit a) (cuts_added h bit b) k y) (c.in_err-first.ensures.built f bit one mf bits fa)) c.from_residual.ensures.1

pub returns-in_err-second-clause-built : goal.returns-in_err-second-clause-built
returns-in_err-second-clause-built g c = λ f h bit one two mf mh bits fa fc.
    let s : Store = g.N.Nodes.store c.args.nodes.now in
    let t : Store = g.N.Nodes.store c.add_time.new.nodes in
    let u : Store = g.N.Nodes.store c.add_time-2.new.nodes in
    let ds = g.met.N.Nodes.diagram c.args.nodes.now in
    let dt = g.met.N.Nodes.diagram c.add_time.new.nodes in
    let du = g.met.N.Nodes.diagram c.add_time-2.new.nodes in
    let keeps = c.in_ok-first.ensures.keeps in
    let refs : List Ref = c.args.bits.now in
    let time = c.args.time in
    let a = symbolic_cuts_at one time in
    let b = symbolic_cuts_at two time in
    let work : List Function = both_added f h bit a b in
    let x = Built-wider work (cuts_added f bit a) (HasFunction (whole disjunction f (broken_at bit a))) s t (Ok c.in_ok-first.first) (λ k y. Contains-append_left (cuts_added f bit a) (cuts_added h bit b) k y) (c.in_ok-first.ensures.built f bit one mf bits fa) in
    let fault = c.in_err-second.field-0.0 in
    pass work (HasFunction (whole disjunction h (broken_at bit b))) (AreBothAdded f h bit a b) s t u fault c.from_residual-in_err-second.result dt du (first work (HasFunction (whole disjunction f (broken_at bit a))) s t (Ok c.in_ok-first.first) x)
    (Built-wider work (cuts_added h bit b) (HasFunction (whole disjunction h (broken_at bit b))) t u (Err fault) (λ k y. Contains-append_right (cuts_added f bit a) (cuts_added h bit b) k y)
    (c.in_err-second.ensures.built h bit two (Means-keeps s t h c.args.sums.con ds dt keeps mh) (λ id l. Means-keeps s t (bit id) (net_ref refs id) ds dt keeps (bits id l)) (timed_cuts_keep s t two c.args.con.now ds dt keeps fc)))
    c.from_residual-in_err-second.ensures.1

pub returns-in_err-second-clause-keeps : goal.returns-in_err-second-clause-keeps
returns-in_err-second-clause-keeps g c = Keeps-trans (g.N.Nodes.store c.args.nodes.now) (g.N.Nodes.store c.add_time.new.nodes) (g.N.Nodes.store c.add_time-2.new.nodes) c.in_ok-first.ensures.keeps c.in_err-second.ensures.keeps

pub returns-clause-built : goal.returns-clause-built
returns-clause-built g c = λ f h bit one two mf mh bits fa fc.
    let s : Store = g.N.Nodes.store c.args.nodes.now in
    let t : Store = g.N.Nodes.store c.add_time.new.nodes in
    let u : Store = g.N.Nodes.store c.add_time-2.new.nodes in
    let ds = g.met.N.Nodes.diagram c.args.nodes.now in
    let dt = g.met.N.Nodes.diagram c.add_time.new.nodes in
    let du = g.met.N.Nodes.diagram c.add_time-2.new.nodes in
    let keeps = c.in_ok-first.ensures.keeps in
    let refs : List Ref = c.args.bits.now in
    let time = c.args.time in
    let a = symbolic_cuts_at one time in
    let b = symbolic_cuts_at two time in
    let work : List Function = both_added f h bit a b in
    let one_f : Function = whole disjunction f (broken_at bit a) in
    let two_f : Function = whole disjunction h (broken_at bit b) in
    let x = Built-wider work (cuts_added f bit a) (HasFunction one_f) s t (Ok c.in_ok-first.first) (λ k y. Contains-append_left (cuts_added f bit a) (cuts_added h bit b) k y) (c.in_ok-first.ensures.built f bit one mf bits fa) in
    let z = Built-wider work (cuts_added h bit b) (HasFunction two_f) t u (Ok c.in_ok-second.second) (λ k y. Contains-append_right (cuts_added f bit a) (cuts_added h bit b) k y)
    (c.in_ok-second.ensures.built h bit two (Means-keeps s t h c.args.sums.con ds dt keeps mh) (λ id l. Means-keeps s t (bit id) (net_ref refs id) ds dt keeps (bits id l)) (timed_cuts_keep s t two c.args.con.now ds dt keeps fc)) in
    Built-made work (AreBothAdded f h bit a b) s u (record { ant = c.in_ok-first.first; con = c.in_ok-second.second })
    (more work (HasFunction two_f) s t u (Ok c.in_ok-second.second) dt du (first work (HasFunction one_f) s t (Ok c.in_ok-first.first) x) z)
    (record { ant = Means-keeps t u one_f c.in_ok-first.first dt du z.spends.keeps x.ok; con = z.ok })

pub returns-clause-keeps : goal.returns-clause-keeps
returns-clause-keeps g c = Keeps-trans (g.N.Nodes.store c.args.nodes.now) (g.N.Nodes.store c.add_time.new.nodes) (g.N.Nodes.store c.add_time-2.new.nodes) c.in_ok-first.ensures.keeps c.in_ok-second.ensures.keeps

pub returns-clause-ant_held : goal.returns-clause-ant_held
returns-clause-ant_held g c =
    let t : Store = g.N.Nodes.store c.add_time.new.nodes in
    IsFrom-grows t.held (g.N.Nodes.store c.add_time-2.new.nodes).held 0 c.in_ok-first.first c.in_ok-second.ensures.keeps.grows c.in_ok-first.ensures.held
