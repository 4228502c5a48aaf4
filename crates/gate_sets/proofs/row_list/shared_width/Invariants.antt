use Rattle.std.proofs.Common.{◌≡◌, take}
use Rattle.gate_sets.proofs.row_list.shared_width.Given as goal

-- the first literals are shared
abbrev pub invariant-loop-k : goal.invariant-loop-k
invariant-loop-k l = take l.k l.a ≡ take l.k l.b
