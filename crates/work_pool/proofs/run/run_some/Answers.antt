use Rattle.std.proofs.Common.{List, length, subst}
use Rattle.dd_table.specs.Sessions.{store_of}
use Rattle.ste_model.specs.declared.task.Task.{Task}
use Rattle.work_pool.specs.Pool.{IsPooled}
use Rattle.work_pool.proofs.Numbers.{at_numbers, first_task, some_told}
use Rattle.work_pool.proofs.run.run_some.Goals as goal

pub returns-clause-answer : goal.returns-clause-answer
returns-clause-answer g c = λ some are.
    let answer = c.in_ok-answer.answer in
    let task : Task = first_task c.args.tasks.now.tasks c.args.numbers.now c.requires.some c.requires.numbers in
    subst (λ (ts : List Task). IsPooled c.args.mode c.args.net.now.raw (length c.args.tasks.now.vars) c.args.steps c.args.cubes ts answer.reports.items (store_of answer.session))
    (at_numbers c.args.tasks.now.tasks c.args.numbers.now some task are) (c.in_ok-answer.ensures.answer task)

pub returns-clause-told : goal.returns-clause-told
returns-clause-told g c =
    some_told c.args.mode c.args.net.now.raw (length c.args.tasks.now.vars) c.args.steps c.args.cubes c.args.tasks.now.tasks c.args.numbers.now c.in_ok-answer.answer.reports.items c.requires.some c.requires.numbers (λ task. (c.in_ok-answer.ensures.answer task).told)
