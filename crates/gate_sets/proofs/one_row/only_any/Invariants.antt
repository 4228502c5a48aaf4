use Rattle.std.proofs.Common.{◌≡◌, drop}
use Rattle.net_core.specs.Cases.{has_only_any}
use Rattle.gate_sets.proofs.one_row.only_any.Given as goal

-- the literals that are left decide
abbrev pub invariant-loop-k : goal.invariant-loop-k
invariant-loop-k l = has_only_any (drop l.k l.row) ≡ has_only_any (drop l.fn.from l.row)
