use Rattle.std.proofs.Common.{◌≡◌, drop}
use Rattle.gate_sets.specs.private.Refused.{is_rising}
use Rattle.gate_sets.proofs.one_row.rises.Given as goal

-- the literals that are left decide
abbrev pub invariant-loop-k : goal.invariant-loop-k
invariant-loop-k l = is_rising (drop l.k l.row) ≡ is_rising l.row
