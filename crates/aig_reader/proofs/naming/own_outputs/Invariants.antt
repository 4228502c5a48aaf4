use Rattle.std.proofs.Common.{◌≡◌, ◌++◌, drop}
use Rattle.aig_model.specs.Names.{own_outputs}
use Rattle.aig_reader.proofs.naming.own_outputs.Given as goal

-- the outputs that are left have the other names
abbrev pub invariant-loop-number : goal.invariant-loop-number
invariant-loop-number l = l.owns ++ own_outputs l.number (drop l.number l.outputs) ≡ own_outputs 0
    l.outputs
