use Rattle.std.proofs.Common.{◌≡◌, ◌++◌, drop, map}
use Rattle.gste_engine.specs.private.Taken.{fixed_bind}
use Rattle.gste_engine.proofs.taken.fixed_binds.Given as goal

-- with the rest it is all
abbrev pub invariant-loop-bind : goal.invariant-loop-bind
invariant-loop-bind l = l.cuts.items ++ map (fixed_bind l.bits) (drop l.bind-index l.binds) ≡ map (fixed_bind l.bits) l.binds
