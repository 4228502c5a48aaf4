use Rattle.std.proofs.Common.{◌≡◌}
use Rattle.counter_run.specs.Undriven.{undriven_below}
use Rattle.counter_run.proofs.undriven.undriven_nets.Given as goal

abbrev pub invariant-loop-id : goal.invariant-loop-id
invariant-loop-id l = l.nodes.items ≡ undriven_below l.net.raw l.id
