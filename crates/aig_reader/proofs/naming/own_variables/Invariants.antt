use Rattle.std.proofs.Common.{◌≡◌, map, take}
use Rattle.aig_model.specs.Names.{own_variable}
use Rattle.aig_reader.proofs.naming.own_variables.Given as goal

-- the names so far
abbrev pub invariant-loop-var : goal.invariant-loop-var
invariant-loop-var l = l.owns ≡ map own_variable (take l.var-index l.vars)
