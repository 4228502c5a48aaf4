use Rattle.std.proofs.Common.{◌≡◌, ◌++◌, drop, map}
use Rattle.gate_sets.specs.NetSets.{net_at}
use Rattle.gate_sets.specs.private.TruthTables.{rails_of}
use Rattle.gate_sets.proofs.by_table.put_operands.Given as goal

-- the inputs that are left decide
abbrev pub invariant-loop-input : goal.invariant-loop-input
invariant-loop-input l = l.stack.items ++ map (λ input. rails_of (net_at l.nets input.0)) (drop l.input-index l.inputs) ≡ map (λ input. rails_of (net_at l.nets input.0)) l.inputs
