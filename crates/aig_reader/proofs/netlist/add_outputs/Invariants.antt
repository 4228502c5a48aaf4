use Rattle.std.proofs.Common.{◌≡◌, ◌++◌, map, take}
use Rattle.std.specs.List.{zip}
use Rattle.aig_model.specs.Netlist.{output_item}
use Rattle.aig_reader.proofs.netlist.add_outputs.Given as goal

-- the items so far
abbrev pub invariant-loop-at : goal.invariant-loop-at
invariant-loop-at l = l.items ≡ l.fn.items ++ map
    (λ at. output_item l.naming at.0 at.1) (take l.at (zip l.outputs l.names))
