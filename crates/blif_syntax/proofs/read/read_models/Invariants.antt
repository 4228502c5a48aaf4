use Rattle.std.proofs.Common.{drop}
use Rattle.blif_syntax.proofs.Turn.{Decide}
use Rattle.blif_syntax.proofs.read.read_models.Given as goal

abbrev pub invariant-loop-line : goal.invariant-loop-line
invariant-loop-line l = Decide l.draft (drop l.line-index l.lines) l.lines
