use Rattle.std.proofs.Common.{◌∙◌, ◌++◌, ap}
use Rattle.report_text.specs.Text.{path_line}
use Rattle.report_text.proofs.TaskText.{task_put}
use Rattle.report_text.proofs.rendering.put_task.Goals as goal

pub returns : goal.returns
returns c =
    task_put c.args.names.now.own c.args.vars.now c.args.wave c.args.task.now c.args.report.now c.args.text.now.items c.put_head.new.text.items c.put_guards.new.text.items c.put_least.new.text.items c.put_path.new.text.items c.put_fails.new.text.items c.put_run.new.text.items
    c.in_ok-put_head.ensures c.in_ok-put_guards.ensures c.in_ok-put_least.ensures (c.in_ok-put_path.ensures ∙ ap (λ edges. c.put_least.new.text.items ++ path_line edges) c.as_slice.ensures) c.in_ok-put_fails.ensures c.in_ok-put_run.ensures
