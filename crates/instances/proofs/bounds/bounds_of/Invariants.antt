use Rattle.std.proofs.Common.{◌≡◌, ◌≤◌, drop, length, map}
use Rattle.instances.specs.Numbers.{bound_number, number_of}
use Rattle.instances.proofs.bounds.bounds_of.Given as goal

abbrev pub decreases-loop-left : goal.decreases-loop-left
decreases-loop-left l = l.left

abbrev pub invariant-loop-left : goal.invariant-loop-left
invariant-loop-left l = record {
  low : l.left ≤ length l.bindings;
  value : l.bounds.items ≡ map (bound_number (number_of l.above.keys l.numbers) (drop l.left l.bindings)) l.names.keys;
}
