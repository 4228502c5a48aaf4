use Rattle.std.proofs.Common.{length, get_or, ap, sym, subst}
use Rattle.work_pool.specs.Pool.{IsTaskOver}
use Rattle.work_pool_tests.proofs.exact.reports_exactly.Goals as goal

pub run_tasks-requires-clause-over : goal.run_tasks-requires-clause-over
run_tasks-requires-clause-over g c κs within = λ k d lt.
    subst (λ n. IsTaskOver c.args.ready.now.net.raw n (get_or c.args.tasks.now.tasks k d)) (sym (ap length c.requires.vars)) (c.requires.over c.args.ready.now.net.raw c.args.ready.now.three k d lt)

pub run_exact-requires-clause-over : goal.run_exact-requires-clause-over
run_exact-requires-clause-over g c κs within = λ k d lt.
    subst (λ n. IsTaskOver c.args.ready.now.net.raw n (get_or c.args.tasks.now.tasks k d)) (sym (ap length c.requires.vars)) (c.requires.over c.args.ready.now.net.raw c.args.ready.now.three k d lt)

pub run_alone-requires-clause-over : goal.run_alone-requires-clause-over
run_alone-requires-clause-over g c = λ k d lt.
    subst (λ n. IsTaskOver c.args.ready.now.net.raw n (get_or c.args.tasks.now.tasks k d)) (sym (ap length c.requires.vars)) (c.requires.over c.args.ready.now.net.raw c.args.ready.now.three k d lt)

pub run_alone-requires-2-clause-over : goal.run_alone-requires-2-clause-over
run_alone-requires-2-clause-over g c = λ k d lt.
    subst (λ n. IsTaskOver c.args.ready.now.net.raw n (get_or c.args.tasks.now.tasks k d)) (sym (ap length c.requires.vars)) (c.requires.over c.args.ready.now.net.raw c.args.ready.now.three k d lt)
