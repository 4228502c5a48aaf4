use Rattle.std.proofs.Common.{◌*◌, ◌+◌, not, length}
use Rattle.std.specs.Prelude.{count_by}
use Rattle.hierarchy.proofs.Reached.{Found}
use Rattle.hierarchy.proofs.reach.reached_marks.Given as goal

abbrev pub invariant-loop-model : goal.invariant-loop-model
invariant-loop-model l = Found l.graph l.start l.marks.items l.work.items

abbrev pub decreases-loop-model : goal.decreases-loop-model
decreases-loop-model l = 2 * count_by not l.marks.items + length l.work.items
