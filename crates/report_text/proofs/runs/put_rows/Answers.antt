use Rattle.std.proofs.Common.{ap, drop, refl}
use Rattle.std.specs.Prelude.{flat_map, zip}
use Rattle.std.specs.List.{enumerate_from}
use Rattle.report_text.specs.private.Marks.{marked_line}
use Rattle.report_text.proofs.Rest.{at_end, nothing_left}
use Rattle.report_text.proofs.runs.put_rows.Goals as goal

pub returns : goal.returns
returns c =
    let rest = zip (drop c.loop-place.place c.args.names.now.own) (drop c.loop-place.place c.args.rows.now) in
    at_end (flat_map (marked_line c.args.marks.now)) c.loop-place.text.items c.args.text.now.items (enumerate_from c.loop-place.place rest) (enumerate_from 0 (zip c.args.names.now.own c.args.rows.now)) refl
    (ap (enumerate_from c.loop-place.place) (nothing_left c.args.names.now.own c.args.rows.now c.loop-place.place c.loop-place-test.false)) c.loop-place.invariant
