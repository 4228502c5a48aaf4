use Rattle.std.proofs.Common.{◌≡◌, ◌++◌, drop, map}
use Rattle.std.specs.Prelude.{filter_map}
use Rattle.hierarchy.specs.Lines.{latch_of}
use Rattle.flat_net.specs.private.Passes.{latch_in, latches_in}
use Rattle.flat_net.proofs.gates.add_latches.Given as goal

abbrev pub invariant-loop-item : goal.invariant-loop-item
invariant-loop-item l = l.latches ++ map (latch_in l.instance) (filter_map (λ item. latch_of item.what) (drop l.item-index l.item-items)) ≡ l.fn.latches ++ latches_in l.instance
