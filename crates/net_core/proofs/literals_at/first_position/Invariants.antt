use Rattle.std.proofs.Common.{◌≡◌, ◌≤◌, drop, map}
use Rattle.net_core.specs.private.Literals.{first_position_from}
use Rattle.net_core.proofs.literals_at.first_position.Given as goal

-- the rows that are left decide
abbrev pub invariant-loop-row : goal.invariant-loop-row
invariant-loop-row l = record {
  least : first_position_from l.least (map (λ row. row.now) (drop l.row-index l.rows)) ≡ first_position_from l.fn.inputs (map (λ row. row.now) l.rows);
  within : l.least ≤ l.fn.inputs;
}
