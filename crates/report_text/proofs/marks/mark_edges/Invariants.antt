use Rattle.std.proofs.Common.{take}
use Rattle.report_text.specs.private.Marks.{AddsMarks, in_edges}
use Rattle.report_text.proofs.marks.mark_edges.Given as goal

-- the nets so far are marked
abbrev pub invariant-loop-edge : goal.invariant-loop-edge
invariant-loop-edge l = AddsMarks l.fn.marks l.marks (in_edges (take l.edge-index l.edges))
