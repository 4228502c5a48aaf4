use Rattle.std.proofs.Common.{drop}
use Rattle.assert_syntax.specs.private.Drafts.{context_held}
use Rattle.assert_syntax.proofs.Turn.{Holds}
use Rattle.assert_syntax.proofs.read.tasks_from.Given as goal

abbrev pub invariant-loop-line : goal.invariant-loop-line
invariant-loop-line l = Holds (context_held l.known) l.draft (drop l.line-index l.lines) l.lines
