use Rattle.std.proofs.Common.{length, get_or, ap, sym, subst}
use Rattle.work_pool.specs.Pool.{IsTaskOver}
use Rattle.work_pool_tests.proofs.tests.reports_tasks_in_order.Goals as goal

pub run_tasks-requires-clause-over : goal.run_tasks-requires-clause-over
run_tasks-requires-clause-over g c κs within = λ k d lt.
    subst (λ n. IsTaskOver c.args.ready.now.net.raw n (get_or c.args.tasks.now.tasks k d)) (sym (ap length c.requires.vars)) (c.requires.over c.args.ready.now.net.raw c.args.ready.now.one k d lt)
