use Rattle.std.proofs.Common.{◌∙◌, sym, ap, subst, arith}
use Rattle.dd_nodes.specs.Stores.{Keeps}
use Rattle.work_pool.specs.private.Jobs.{IsLike}
use Rattle.work_pool.proofs.Portions.{HandsOn-parts, over_parts}
use Rattle.work_pool.proofs.pool.share_memo.Goals as goal

pub returns-clause-hands : goal.returns-clause-hands
returns-clause-hands g c =
    let parts = c.split_at_mut-front in
    let at_x = c.index-front-i.is in
    let at_y = c.index-back-0.is in
    let learnt = c.learn.ensures in
    let some = parts.ensures.back_len in
    let within = c.requires.within in
    HandsOn-parts (λ j. g.N.Nodes.store j.nodes) (λ j. j.place) (λ j. j.outcome) c.args.i c.args.jobs.now parts.result.0.now parts.result.1.now _ _ c.index-front-i.result c.index-back-0.result
    parts.ensures.value parts.ensures.front_len (omega (arith, some, within)) at_x at_y
    (ap (λ j. j.place) (sym at_x)) (ap (λ j. j.outcome) (sym at_x)) (learnt.other ∙ ap (λ j. g.N.Nodes.store j.nodes) (sym at_x))
    (ap (λ j. j.place) (sym at_y)) (ap (λ j. j.outcome) (sym at_y))
    (subst (λ j. IsLike (g.N.Nodes.store j.nodes) (g.N.Nodes.store c.learn.new.self)) (sym at_y) (record { made = learnt.made; limit = learnt.limit; vars = learnt.keeps.vars; table = learnt.keeps.table }))

pub returns-clause-all : goal.returns-clause-all
returns-clause-all g c = λ told job.
    let parts = c.split_at_mut-front in
    let at_x = c.index-front-i.is in
    let at_y = c.index-back-0.is in
    let some = parts.ensures.back_len in
    let within = c.requires.within in
    over_parts (λ j. g.N.Nodes.store j.nodes) (λ j. j.place) (λ j. j.outcome) c.args.i c.args.jobs.now parts.result.0.now parts.result.1.now _ _ c.index-front-i.result c.index-back-0.result
    parts.ensures.value parts.ensures.front_len (omega (arith, some, within)) at_x at_y
    (λ a b. Keeps (g.N.Nodes.store a.nodes) (g.N.Nodes.store b.nodes)) (subst (λ j. Keeps (g.N.Nodes.store j.nodes) (g.N.Nodes.store c.learn.new.self)) (sym at_x) (c.learn.ensures.all told)) job
