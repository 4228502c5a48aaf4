use Rattle.std.proofs.Common.{◌∙◌, ap, sym}
use Rattle.ste_program.specs.Check.{are_too_many}
use Rattle.ste_program.proofs.Handed.{handed_on}
use Rattle.ste_program.proofs.TextStages.{steps_fail, unbound_fails}
use Rattle.ste_program.proofs.check.tasks_on.Goals as goal

pub returns-in_err-tasks : goal.returns-in_err-tasks
returns-in_err-tasks c = λ net_text task_text models spelled read n.
    handed_on _ _ _ c.from_residual.ensures.1
    (unbound_fails c.args.steps net_text task_text models spelled c.args.raw.now read c.args.flat.now.net.raw c.args.flat.now.names n c.in_err-tasks.field-0.0 (c.in_err-tasks.ensures models n))

pub returns-then-are_too_many : goal.returns-then-are_too_many
returns-then-are_too_many c = λ net_text task_text models spelled read n.
    steps_fail c.args.steps net_text task_text models spelled c.args.raw.now read c.args.flat.now.net.raw c.args.flat.now.names n c.in_ok-tasks.tasks (c.in_ok-tasks.ensures models n)
    (sym (ap (are_too_many c.args.steps) c.len.ensures) ∙ (sym c.are_too_many.ensures ∙ c.if-are_too_many.true))

pub returns : goal.returns
returns c = λ net_text task_text models spelled read n.
    (c.in_ok-tasks.ensures models n, sym (ap (are_too_many c.args.steps) c.len.ensures) ∙ (sym c.are_too_many.ensures ∙ c.if-are_too_many.false))
