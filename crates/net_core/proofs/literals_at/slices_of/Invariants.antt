use Rattle.std.proofs.Common.{◌≡◌, ◌++◌, drop, map}
use Rattle.net_core.specs.private.Literals.{literals_from, literals_in}
use Rattle.net_core.proofs.literals_at.slices_of.Given as goal

abbrev pub invariant-loop-row : goal.invariant-loop-row
invariant-loop-row l = record {
  rest : l.rest ≡ literals_in (drop l.row-index l.rows);
  slices : map (λ row. row.now) l.slices.items ++ map (literals_from 0) (drop l.row-index l.rows) ≡ map (literals_from 0) l.rows;
}
