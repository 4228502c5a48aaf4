use Rattle.std.proofs.Common.{◌≡◌, ◌++◌, List, drop, map}
use Rattle.std.specs.Prelude.{filter_map}
use Rattle.hierarchy.specs.Lines.{driver_of}
use Rattle.flat_net.specs.private.Drivers.{Driver, driver_at, drivers_in, first_driven_twice}
use Rattle.flat_net.proofs.drivers.refuse_in.Given as goal

abbrev pub invariant-loop-item : goal.invariant-loop-item
invariant-loop-item l = (rest : List Driver) → first_driven_twice l.marks.items (map (driver_at l.instance) (filter_map driver_of (drop l.item-index l.item-items)) ++ rest) ≡ first_driven_twice l.fn.marks.items (drivers_in l.instance ++ rest)
