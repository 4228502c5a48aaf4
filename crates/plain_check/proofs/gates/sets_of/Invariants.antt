use Rattle.std.proofs.Common.{◌≡◌, map, take}
use Rattle.plain_check.specs.private.Sets.{set_at}
use Rattle.plain_check.proofs.gates.sets_of.Given as goal

abbrev pub invariant-loop-net : goal.invariant-loop-net
invariant-loop-net l = l.found.items ≡ map (λ net. set_at l.sets net.0) (take l.net-index l.nets)
