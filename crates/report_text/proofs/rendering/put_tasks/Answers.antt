use Rattle.std.proofs.Common.{drop, refl}
use Rattle.std.specs.Prelude.{flat_map, zip}
use Rattle.report_text.specs.Text.{task_text}
use Rattle.report_text.proofs.Rest.{at_end, nothing_left}
use Rattle.report_text.proofs.rendering.put_tasks.Goals as goal

pub returns : goal.returns
returns c =
    let tasks = c.args.tasks.now.tasks in
    at_end (flat_map (task_text c.args.names.now.own c.args.tasks.now.vars c.args.wave)) c.loop-place.text.items c.args.text.now.items (zip (drop c.loop-place.place tasks) (drop c.loop-place.place c.args.reports.now))
    (zip tasks c.args.reports.now) refl (nothing_left tasks c.args.reports.now c.loop-place.place c.loop-place-test.false) c.loop-place.invariant
