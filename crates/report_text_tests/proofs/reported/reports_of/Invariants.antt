use Rattle.std.proofs.Common.{◌≤◌, ◌<◌, All, IfSome, length}
use Rattle.report_text_tests.proofs.reported.reports_of.Given as goal

-- the reports so far name nets
abbrev pub invariant-loop-one : goal.invariant-loop-one
invariant-loop-one l = record {
  fails : All (λ report. IfSome report.fails (λ place. place.0.0 < l.nets)) l.reports;
  rows : All (λ report. IfSome report.run (λ run. length run.rows ≤ l.nets)) l.reports;
}
