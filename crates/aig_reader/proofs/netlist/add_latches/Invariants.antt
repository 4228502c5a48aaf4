use Rattle.std.proofs.Common.{◌≡◌, ◌++◌, map, take}
use Rattle.aig_model.specs.Netlist.{latch_item}
use Rattle.aig_reader.proofs.netlist.add_latches.Given as goal

-- the items so far
abbrev pub invariant-loop-latch : goal.invariant-loop-latch
invariant-loop-latch l = l.items ≡ l.fn.items ++ map (latch_item l.naming) (take l.latch-index
    l.latches)
