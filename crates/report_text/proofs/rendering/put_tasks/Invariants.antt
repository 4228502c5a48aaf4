use Rattle.std.proofs.Common.{◌≡◌, ◌++◌, drop}
use Rattle.std.specs.Prelude.{flat_map, zip}
use Rattle.report_text.specs.Text.{task_text}
use Rattle.report_text.proofs.rendering.put_tasks.Given as goal

-- with the tasks that are left the text is whole
abbrev pub invariant-loop-place : goal.invariant-loop-place
invariant-loop-place l = l.text.items ++ flat_map (task_text l.names.own l.tasks.vars l.wave) (zip (drop l.place l.tasks.tasks) (drop l.place l.reports)) ≡ l.fn.text.items ++ flat_map (task_text l.names.own l.tasks.vars l.wave) (zip l.tasks.tasks l.reports)
