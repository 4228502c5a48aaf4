use Rattle.std.proofs.Common.{◌≡◌, ◌++◌, drop}
use Rattle.std.specs.Prelude.{flat_map}
use Rattle.flat_net.specs.private.Passes.{latches_in}
use Rattle.flat_net.proofs.gates.all_latches.Given as goal

abbrev pub invariant-loop-instance : goal.invariant-loop-instance
invariant-loop-instance l = l.latches ++ flat_map latches_in (drop l.instance-index l.instances) ≡ flat_map latches_in l.instances
