use Rattle.std.proofs.Common.{◌≡◌, take, map}
use Rattle.sym_step.specs.Frame.{nets_of}
use Rattle.gste_engine.specs.private.Seen.{rails_of}
use Rattle.gste_engine.proofs.seen.seen_by.Given as goal

-- the sets of the nets that the first bindings name
abbrev pub invariant-loop-bind : goal.invariant-loop-bind
invariant-loop-bind l = l.seen.items ≡ map (rails_of (nets_of l.frame)) (take l.bind-index l.binds)
