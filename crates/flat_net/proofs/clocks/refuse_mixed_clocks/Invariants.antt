use Rattle.std.proofs.Common.{◌≡◌, drop}
use Rattle.std.specs.Prelude.{flat_map}
use Rattle.flat_net.specs.private.Drivers.{clocks_in, first_mixed, no_clocks}
use Rattle.flat_net.proofs.clocks.refuse_mixed_clocks.Given as goal

abbrev pub invariant-loop-instance : goal.invariant-loop-instance
invariant-loop-instance l = first_mixed l.clocks (flat_map clocks_in (drop l.instance-index l.instances)) ≡ first_mixed no_clocks (flat_map clocks_in l.instances)
