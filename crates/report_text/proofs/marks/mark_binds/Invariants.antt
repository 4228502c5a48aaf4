use Rattle.std.proofs.Common.{take}
use Rattle.report_text.specs.private.Marks.{AddsMarks, in_binds}
use Rattle.report_text.proofs.marks.mark_binds.Given as goal

-- the nets so far are marked
abbrev pub invariant-loop-bind : goal.invariant-loop-bind
invariant-loop-bind l = AddsMarks l.fn.marks l.marks (in_binds (take l.bind-index l.binds))
