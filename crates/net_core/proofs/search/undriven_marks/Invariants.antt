use Rattle.net_core.proofs.Undriven.{AreUndrivenBelow}
use Rattle.net_core.proofs.search.undriven_marks.Given as goal

abbrev pub invariant-loop-gate : goal.invariant-loop-gate
invariant-loop-gate l = AreUndrivenBelow l.raw l.marks.items l.gate-index
