use Rattle.std.proofs.Common.{◌≡◌, ◌++◌, map, take}
use Rattle.aig_model.specs.Netlist.{and_item}
use Rattle.aig_reader.proofs.netlist.add_ands.Given as goal

-- the items so far
abbrev pub invariant-loop-gate : goal.invariant-loop-gate
invariant-loop-gate l = l.items ≡ l.fn.items ++ map (and_item l.naming) (take l.gate-index l.ands)
