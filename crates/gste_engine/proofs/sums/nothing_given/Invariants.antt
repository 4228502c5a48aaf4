use Rattle.std.proofs.Common.{◌≡◌}
use Rattle.std.specs.Prelude.{replicate}
use Rattle.gste_engine.specs.declared.state.State.{State}
use Rattle.gste_engine.specs.private.Sums.{unreached}
use Rattle.gste_engine.proofs.sums.nothing_given.Given as goal

-- so many edges give nothing
abbrev pub invariant-loop : goal.invariant-loop
invariant-loop l = l.givens.items ≡ replicate {A = State} l.counter (unreached l.net.raw)
