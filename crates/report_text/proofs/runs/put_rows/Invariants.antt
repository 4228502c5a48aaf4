use Rattle.std.proofs.Common.{◌≡◌, ◌++◌, drop}
use Rattle.std.specs.Prelude.{flat_map, zip}
use Rattle.std.specs.List.{enumerate_from}
use Rattle.report_text.specs.private.Marks.{marked_line}
use Rattle.report_text.proofs.runs.put_rows.Given as goal

-- with the rows that are left the text is whole
abbrev pub invariant-loop-place : goal.invariant-loop-place
invariant-loop-place l = l.text.items ++ flat_map (marked_line l.marks) (enumerate_from l.place (zip (drop l.place l.names.own) (drop l.place l.rows))) ≡ l.fn.text.items ++ flat_map (marked_line l.marks) (enumerate_from 0 (zip l.names.own l.rows))
