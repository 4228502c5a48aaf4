use Rattle.std.proofs.Common.{◌≡◌, take, map}
use Rattle.sym_step.proofs.time.rails_of.Given as goal

-- the rails of the first nets
abbrev pub invariant-loop-r : goal.invariant-loop-r
invariant-loop-r l = l.rails.items ≡ map (λ r. record { can0 = r.can0; can1 = r.can1 }) (take l.r-index l.nets)
