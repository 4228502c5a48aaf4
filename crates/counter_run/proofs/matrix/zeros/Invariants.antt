use Rattle.std.proofs.Common.{◌≡◌, false, replicate}
use Rattle.counter_run.proofs.matrix.zeros.Given as goal

abbrev pub invariant-loop : goal.invariant-loop
invariant-loop l = l.rows.items ≡ replicate l.counter (replicate l.times false)
