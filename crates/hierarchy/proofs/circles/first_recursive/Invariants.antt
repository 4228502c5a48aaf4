use Rattle.std.proofs.Common.{drop}
use Rattle.hierarchy.specs.declared.fault.NetFault.{NetFault}
use Rattle.hierarchy.specs.Faults.{IsRecursive}
use Rattle.hierarchy.specs.private.Checks.{FirstIn, NoneIn}
use Rattle.hierarchy.proofs.circles.first_recursive.Given as goal

abbrev pub invariant-loop-at : goal.invariant-loop-at
invariant-loop-at l = record {
  none : NoneIn (λ at its. IsRecursive l.models at.number at.item its) (drop l.at-index l.lines) → NoneIn (λ at its. IsRecursive l.models at.number at.item its) l.lines;
  first : (fault : NetFault) → FirstIn (λ at its. IsRecursive l.models at.number at.item its) (drop l.at-index l.lines) fault → FirstIn (λ at its. IsRecursive l.models at.number at.item its) l.lines fault;
}
