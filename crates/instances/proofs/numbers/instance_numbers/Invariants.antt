use Rattle.std.proofs.Common.{◌≡◌, length, take, map}
use Rattle.std.specs.Prelude.{flat_map}
use Rattle.hierarchy.specs.Instances.{instances}
use Rattle.hierarchy.specs.Names.{own_name}
use Rattle.hierarchy.specs.Nets.{own_nets}
use Rattle.instances.specs.Numbers.{numbers_in}
use Rattle.instances.proofs.numbers.instance_numbers.Given as goal

abbrev pub invariant-loop-place : goal.invariant-loop-place
invariant-loop-place l = record {
  numbers : l.numbers.items ≡ map (λ path. numbers_in l.models path) (take l.place (instances l.models));
  names : l.own ≡ map own_name (flat_map (λ path. own_nets l.models path) (take l.place (instances l.models)));
  next : l.next ≡ length (flat_map (λ path. own_nets l.models path) (take l.place (instances l.models)));
}
