use Rattle.std.proofs.Common.{ℕ, length, ap, subst, arith}
use Rattle.std.specs.Prelude.{IfOk}
use Rattle.std.specs.List.{AllZip}
use Rattle.command_line.specs.Command.{Command}
use Rattle.work_pool.specs.declared.mode.Mode.TheVariants.{Sets}
use Rattle.work_pool.specs.Told.{IsToldOf}
use Rattle.ste_program.proofs.TaskLists.{over_all}
use Rattle.ste_program.proofs.Replaced.{few_tasks}
use Rattle.ste_program.proofs.judging.reports_of.Goals as goal

pub run_alone-requires-clause-few : goal.run_alone-requires-clause-few
run_alone-requires-clause-few g c =
    let few = few_tasks (length c.args.tasks.now.tasks) c.args.steps c.requires.steps.0 c.requires.steps.1 in omega (arith, few)

pub run_alone-requires-clause-over : goal.run_alone-requires-clause-over
run_alone-requires-clause-over g c = over_all c.args.net.now.raw (length c.args.tasks.now.vars) c.args.tasks.now.tasks c.requires.checkable

pub returns-clause-told : goal.returns-clause-told
returns-clause-told g c =
    let cubes = ap (λ (asked : Command). asked.cubes) c.asked.view_is in
    subst (λ (n : ℕ). AllZip (IsToldOf Sets c.args.net.now.raw (length c.args.tasks.now.vars) c.args.steps n) c.args.tasks.now.tasks c.in_ok-answer.answer.reports.items) cubes c.in_ok-answer.ensures.told

pub returns-then-asked-clause-told : goal.returns-then-asked-clause-told
returns-then-asked-clause-told g c =
    let cubes = ap (λ (asked : Command). asked.cubes) c.asked.view_is in
    subst (λ (n : ℕ). IfOk c.check_with_growing_steps.result (λ told. AllZip (IsToldOf Sets c.args.net.now.raw (length c.args.tasks.now.vars) c.args.steps n) c.args.tasks.now.tasks told.reports.items)) cubes c.check_with_growing_steps.ensures.told
