use Rattle.std.proofs.Common.{◌≡◌, ◌+◌, length, drop}
use Rattle.std.specs.Vec.Iter.{into_iter_items, into_iter_len}
use Rattle.ste_program.specs.private.Tries.{with_replaced}
use Rattle.ste_program.proofs.judging.with_replaced.Given as goal

abbrev pub invariant-loop-report : goal.invariant-loop-report
invariant-loop-report l = record {
  can_next : goal.iterator-loop-report.can_next l.report-iterator;
  is_finite : goal.iterator-loop-report.is_finite l.report-iterator;
  long : into_iter_len l.report-iterator ≡ length (into_iter_items l.report-iterator);
  left : l.place + length (into_iter_items l.report-iterator) ≡ length l.numbers;
  inside : length l.reports.items ≡ length l.fn.reports.items;
  rest : with_replaced l.reports.items (drop l.place l.numbers) (into_iter_items l.report-iterator) ≡ with_replaced l.fn.reports.items l.numbers l.fn.again.items;
}
