use Rattle.std.proofs.Common.{refl, subst, sym}
use Rattle.ste_model.specs.declared.task.Task.TheVariants.{Ste}
use Rattle.work_pool.specs.declared.mode.Mode.{Mode}
use Rattle.work_pool.specs.declared.mode.Mode.TheVariants.{Sets}
use Rattle.work_pool.specs.private.Jobs.{IsDone}
use Rattle.work_pool.specs.private.Ready.{HasRoom}
use Rattle.work_pool.proofs.Done.{assertion_done, exact_done}
use Rattle.work_pool.proofs.Frames.{last_keeps}
use Rattle.work_pool.proofs.batch.check_assertion.Goals as goal

pub returns-in-Sets-clause-done : goal.returns-in-Sets-clause-done
returns-in-Sets-clause-done g c =
    let s = g.N.Nodes.store c.args.nodes.now in
    let b = c.args.batch.now in
    let t = g.N.Nodes.store c.check_ste_from.new.nodes in
    let e = c.check_ste_from.ensures in
    let width : HasRoom Sets b.net.now.raw b.vars s.vars (Ste c.args.assertion.now) = subst (λ (m : Mode). HasRoom m b.net.now.raw b.vars s.vars (Ste c.args.assertion.now)) c.in-Sets.is c.requires.ready.1 in
    subst (λ (m : Mode). IsDone m b.net.now.raw b.vars s.limit b.cubes (Ste c.args.assertion.now) s t c.check_ste_from.result) (sym c.in-Sets.is)
    (assertion_done b.net.now.raw b.vars s.limit b.cubes c.args.assertion.now s t c.check_ste_from.result c.requires.made refl e.keeps e.limit width e.report e.budget e.kept)

pub returns-in-Exact-clause-done : goal.returns-in-Exact-clause-done
returns-in-Exact-clause-done g c =
    let s = g.N.Nodes.store c.args.nodes.now in
    let b = c.args.batch.now in
    let t = g.N.Nodes.store c.check_exact.new.nodes in
    let e = c.check_exact.ensures in
    subst (λ (m : Mode). IsDone m b.net.now.raw b.vars s.limit b.cubes (Ste c.args.assertion.now) s t c.check_exact.result) (sym c.in-Exact.is)
    (exact_done b.net.now.raw b.vars s.limit b.cubes c.args.assertion.now s t c.check_exact.result c.requires.made refl e.keeps e.limit e.report e.budget e.kept)

pub returns-in-Exact-clause-last : goal.returns-in-Exact-clause-last
returns-in-Exact-clause-last g c =
    let s = g.N.Nodes.store c.args.nodes.now in
    let t = g.N.Nodes.store c.check_exact.new.nodes in
    let net = c.args.batch.now.net.now in
    last_keeps s t net.raw c.args.last.now net.in_range (g.met.N.Nodes.diagram c.args.nodes.now) (g.met.N.Nodes.diagram c.check_exact.new.nodes) c.check_exact.ensures.keeps c.requires.last
