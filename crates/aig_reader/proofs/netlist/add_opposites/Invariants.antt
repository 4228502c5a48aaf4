use Rattle.std.proofs.Common.{◌≡◌, ◌++◌, map, take}
use Rattle.aig_model.specs.Netlist.{opposite_item}
use Rattle.aig_reader.proofs.netlist.add_opposites.Given as goal

-- the items so far
abbrev pub invariant-loop-var : goal.invariant-loop-var
invariant-loop-var l = l.items ≡ l.fn.items ++ map (opposite_item l.naming) (take l.var-index
    l.vars)
