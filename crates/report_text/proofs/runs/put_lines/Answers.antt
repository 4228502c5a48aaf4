use Rattle.std.proofs.Common.{◌∙◌, ◌++◌, ap}
use Rattle.std.specs.Prelude.{codes, flat_map, zip}
use Rattle.std.specs.List.{enumerate_from}
use Rattle.report_text.specs.private.Marks.{marked_line}
use Rattle.report_text.proofs.Shown.{run_put}
use Rattle.report_text.proofs.runs.put_lines.Goals as goal

pub returns : goal.returns
returns c =
    let names = c.args.names.now.own in
    let rows = c.as_slice-rows.result.now in
    let headed = c.extend_from_slice.new.self.items in
    run_put c.in_ok-marks.marks.items c.args.wave c.args.task.now names rows c.args.run.now.rows c.args.text.now.items headed c.put_rows.new.text.items (codes "  run:\n")
    c.as_slice-rows.ensures c.in_ok-marks.ensures c.in_ok-extend_from_slice.ensures.items
    (c.in_ok-put_rows.ensures ∙ ap (λ marks. headed ++ flat_map (marked_line marks) (enumerate_from 0 (zip names rows))) c.deref.ensures.value)
