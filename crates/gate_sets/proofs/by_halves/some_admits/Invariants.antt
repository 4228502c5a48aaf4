use Rattle.std.proofs.Common.{◌≡◌, drop, map}
use Rattle.std.specs.List.{list_any}
use Rattle.net_core.specs.Cases.{begins_with}
use Rattle.gate_sets.proofs.by_halves.some_admits.Given as goal

abbrev pub invariant-loop-row : goal.invariant-loop-row
invariant-loop-row l = list_any (begins_with l.bit) (map (λ row. row.now) (drop l.row-index l.rows)) ≡ list_any (begins_with l.bit) (map (λ row. row.now) l.rows)
