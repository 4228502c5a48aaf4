use Rattle.std.proofs.Common.{◌≡◌, All, take, true}
use Rattle.gate_sets.specs.declared.filling.Filling.TheVariants.{TwoValued}
use Rattle.gate_sets.specs.NetSets.{net_at}
use Rattle.gate_sets.proofs.filling.filling_of.Given as goal

-- the first of them are so
abbrev pub invariant-loop-input : goal.invariant-loop-input
invariant-loop-input l = record {
  full : All (λ input. (net_at l.nets input.0).some ≡ record { 0 = 1 }) (take l.input-index l.inputs);
  known : l.filling ≡ TwoValued → All (λ input. (net_at l.nets input.0).known ≡ true) (take l.input-index l.inputs);
}
