use Rattle.std.proofs.Common.{◌≡◌, map, take}
use Rattle.aig_model.specs.Names.{variable_name}
use Rattle.aig_reader.proofs.netlist.variable_names.Given as goal

-- the names so far
abbrev pub invariant-loop-var : goal.invariant-loop-var
invariant-loop-var l = l.names ≡ map (variable_name l.naming) (take l.var-index l.vars)
