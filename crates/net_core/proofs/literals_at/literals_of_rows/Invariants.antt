use Rattle.std.proofs.Common.{◌≡◌, ◌++◌, drop}
use Rattle.net_core.specs.private.Literals.{literals_in}
use Rattle.net_core.proofs.literals_at.literals_of_rows.Given as goal

abbrev pub invariant-loop-row : goal.invariant-loop-row
invariant-loop-row l = l.literals.items ++ literals_in (drop l.row-index l.rows) ≡ literals_in l.rows
