use Rattle.std.proofs.Common.{◌≡◌, drop, false, length, replicate}
use Rattle.std.specs.Prelude.{flat_map}
use Rattle.flat_net.specs.private.Drivers.{drivers_in, marks_with, first_driven_twice}
use Rattle.flat_net.proofs.drivers.refuse_driven_twice.Given as goal

abbrev pub invariant-loop-instance : goal.invariant-loop-instance
invariant-loop-instance l = first_driven_twice l.marks.items (flat_map drivers_in (drop l.instance-index l.instances)) ≡ first_driven_twice (marks_with (replicate (length l.names) false) l.inputs) (flat_map drivers_in l.instances)
