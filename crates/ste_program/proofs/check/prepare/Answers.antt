use Rattle.ste_program.proofs.Handed.{handed_on}
use Rattle.ste_program.proofs.TextStages.{netlist_text_fails, tasks_fail}
use Rattle.ste_program.proofs.check.prepare.Goals as goal

pub returns-in_err-models : goal.returns-in_err-models
returns-in_err-models c =
    handed_on _ _ _ c.from_residual.ensures.1 (netlist_text_fails c.args.steps c.args.net_text.items c.args.task_text.items c.in_err-models.field-0.0 c.in_err-models.ensures)

pub returns-in_err-raw : goal.returns-in_err-raw
returns-in_err-raw c =
    handed_on _ _ _ c.from_residual-in_err-raw.ensures.1
    (tasks_fail c.args.steps c.args.net_text.items c.args.task_text.items c.in_ok-models.models.models c.in_ok-models.ensures.0 c.in_err-raw.field-0.0 c.in_err-raw.ensures)

pub prepared_of-requires-clause-read : goal.prepared_of-requires-clause-read
prepared_of-requires-clause-read c = (c.args.net_text.items, c.args.task_text.items, (c.in_ok-models.ensures.0, c.in_ok-raw.ensures))

pub returns : goal.returns
returns c = c.prepared_of.ensures c.args.net_text.items c.args.task_text.items c.in_ok-models.ensures.0 c.in_ok-raw.ensures
