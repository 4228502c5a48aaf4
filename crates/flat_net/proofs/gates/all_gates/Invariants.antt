use Rattle.std.proofs.Common.{◌≡◌, ◌++◌, drop}
use Rattle.std.specs.Prelude.{flat_map}
use Rattle.flat_net.specs.private.Passes.{gates_in}
use Rattle.flat_net.proofs.gates.all_gates.Given as goal

abbrev pub invariant-loop-instance : goal.invariant-loop-instance
invariant-loop-instance l = l.gates ++ flat_map gates_in (drop l.instance-index l.instances) ≡ flat_map gates_in l.instances
