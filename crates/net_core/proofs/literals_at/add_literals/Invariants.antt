use Rattle.std.proofs.Common.{◌≡◌, ◌++◌, drop}
use Rattle.net_core.specs.private.Literals.{literals_from}
use Rattle.net_core.proofs.literals_at.add_literals.Given as goal

abbrev pub invariant-loop-position : goal.invariant-loop-position
invariant-loop-position l = l.literals.items ++ literals_from l.position (drop l.position l.row) ≡ l.fn.literals.items ++ literals_from 0 l.row
