use Rattle.std.proofs.Common.{◌≡◌, ◌++◌, [], drop}
use Rattle.hierarchy.specs.Faults.{double_model}
use Rattle.hierarchy.specs.Instances.{model_names}
use Rattle.hierarchy.proofs.uses.names_of.Given as goal

abbrev pub invariant-loop-model : goal.invariant-loop-model
invariant-loop-model l = record {
  keys : l.names.keys ++ model_names (drop l.model-index l.models) ≡ model_names l.models;
  rest : double_model l.names.keys (drop l.model-index l.models) ≡ double_model [] l.models;
}
