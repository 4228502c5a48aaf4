use Rattle.std.proofs.Common.{take}
use Rattle.hierarchy.specs.private.Search.{Marks}
use Rattle.hierarchy.proofs.reach.mark.Given as goal

abbrev pub invariant-loop-k : goal.invariant-loop-k
invariant-loop-k l = Marks l.initial.marks.items l.initial.work.items (take l.k-index l.numbers) l.marks.items l.work.items
