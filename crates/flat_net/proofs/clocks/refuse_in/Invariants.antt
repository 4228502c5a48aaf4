use Rattle.std.proofs.Common.{◌≡◌, ◌++◌, List, drop, map}
use Rattle.std.specs.Prelude.{filter_map, option_map}
use Rattle.hierarchy.specs.Lines.{latch_of}
use Rattle.flat_net.specs.declared.clocks.Clock.{Clock}
use Rattle.flat_net.specs.private.Drivers.{clock_at, clocks_in, first_mixed}
use Rattle.flat_net.proofs.clocks.refuse_in.Given as goal

abbrev pub invariant-loop-item : goal.invariant-loop-item
invariant-loop-item l = (rest : List Clock) → first_mixed l.clocks (map (clock_at l.instance) (filter_map (λ item. option_map (λ latch. (item.line, latch)) (latch_of item.what)) (drop l.item-index l.item-items)) ++ rest) ≡ first_mixed l.fn.clocks (clocks_in l.instance ++ rest)
