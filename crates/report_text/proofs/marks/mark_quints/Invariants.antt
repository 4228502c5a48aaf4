use Rattle.std.proofs.Common.{take}
use Rattle.report_text.specs.private.Marks.{AddsMarks, in_quints}
use Rattle.report_text.proofs.marks.mark_quints.Given as goal

-- the nets so far are marked
abbrev pub invariant-loop-quint : goal.invariant-loop-quint
invariant-loop-quint l = AddsMarks l.fn.marks l.marks (in_quints (take l.quint-index l.quints))
