use Rattle.std.proofs.Common.{◌∙◌, length, sym, subst}
use Rattle.work_pool.specs.private.Jobs.{AreJobs, tasks_at}
use Rattle.work_pool.proofs.Gathering.{all_done, all_jobs, written}
use Rattle.work_pool.proofs.pool.pooled_tasks.Goals as goal

pub work_all-requires-clause-jobs : goal.work_all-requires-clause-jobs
work_all-requires-clause-jobs g c κs known =
    let dealt = c.in_ok-jobs.ensures in
    subst (AreJobs (λ j. g.N.Nodes.store j.nodes) (λ j. j.place) (length c.args.numbers.now) c.args.batch.now.width) (sym c.as_mut_slice.ensures.value)
    (all_jobs (λ j. g.N.Nodes.store j.nodes) (λ j. j.outcome) c.args.batch.now.mode c.args.batch.now.net.now.raw c.args.batch.now.vars c.args.steps c.args.batch.now.cubes (g.N.Nodes.store c.deal.new.nodes) (λ j. j.place) (g.N.Nodes.store c.args.nodes) c.args.batch.now.tasks.now c.args.numbers.now c.requires.numbers _ _ dealt.ready dealt.long dealt.places c.put_in_turn.ensures c.args.batch.now.width c.requires.width)

pub gather-requires-clause-table : goal.gather-requires-clause-table
gather-requires-clause-table g c =
    let start = g.N.Nodes.store c.deal.new.nodes in
    let dealt = c.in_ok-jobs.ensures in
    let back = written c.put_in_turn.new.jobs.len c.work_all.new.jobs _ (sym c.as_mut_slice.ensures.len ∙ sym c.work_all.ensures.long) in
    (all_done (λ j. g.N.Nodes.store j.nodes) (λ j. j.outcome) c.args.batch.now.mode c.args.batch.now.net.now.raw c.args.batch.now.vars c.args.steps c.args.batch.now.cubes start (λ j. j.place) (g.N.Nodes.store c.args.nodes) c.args.batch.now.tasks.now c.args.numbers.now c.requires.numbers _ _ dealt.ready dealt.long dealt.places c.put_in_turn.ensures
    _ c.as_mut_slice.result.now c.work_all.new.jobs _ _ dealt.left c.as_mut_slice.ensures.value c.work_all.ensures.long back c.work_all.ensures.same c.work_all.ensures.done c.put_in_order.ensures.moved c.put_in_order.ensures.ordered).1

pub returns-clause-pooled : goal.returns-clause-pooled
returns-clause-pooled g c = λ task.
    let start = g.N.Nodes.store c.deal.new.nodes in
    let dealt = c.in_ok-jobs.ensures in
    let back = written c.put_in_turn.new.jobs.len c.work_all.new.jobs _ (sym c.as_mut_slice.ensures.len ∙ sym c.work_all.ensures.long) in
    c.gather.ensures.pooled c.args.batch.now.mode c.args.batch.now.net.now.raw c.args.batch.now.vars c.args.steps c.args.batch.now.cubes (tasks_at c.args.batch.now.tasks.now c.args.numbers.now task)
    ((all_done (λ j. g.N.Nodes.store j.nodes) (λ j. j.outcome) c.args.batch.now.mode c.args.batch.now.net.now.raw c.args.batch.now.vars c.args.steps c.args.batch.now.cubes start (λ j. j.place) (g.N.Nodes.store c.args.nodes) c.args.batch.now.tasks.now c.args.numbers.now c.requires.numbers _ _ dealt.ready dealt.long dealt.places c.put_in_turn.ensures
    _ c.as_mut_slice.result.now c.work_all.new.jobs _ _ dealt.left c.as_mut_slice.ensures.value c.work_all.ensures.long back c.work_all.ensures.same c.work_all.ensures.done c.put_in_order.ensures.moved c.put_in_order.ensures.ordered).0 task)
