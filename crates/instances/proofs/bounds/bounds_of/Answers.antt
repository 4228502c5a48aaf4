use Rattle.std.proofs.Common.{drop, ◌∙◌, arith}
use Rattle.instances.specs.Numbers.{bound_number, number_of}
use Rattle.instances.proofs.Bound.{bound_next, empty_bounds}
use Rattle.instances.proofs.bounds.bounds_of.Goals as goal

pub loop-left-init : goal.loop-left-init
loop-left-init c = record {
  low = omega arith;
  value = c.in_ok-bounds.ensures ∙ empty_bounds (number_of c.args.above.now.keys c.args.numbers.now) c.args.bindings.now c.args.names.now.keys;
}

pub loop-left-preserved : goal.loop-left-preserved
loop-left-preserved c = record {
  low = omega arith;
  value = c.bind.ensures (bound_number (number_of c.args.above.now.keys c.args.numbers.now) (drop c.loop-left.left c.args.bindings.now)) c.loop-left.invariant.value
      ∙ bound_next (number_of c.args.above.now.keys c.args.numbers.now) c.args.bindings.now c.args.names.now.keys c.loop-left.left c.index-bindings-left.result c.number_of-number.result c.loop-left-test.true c.loop-left.invariant.low c.index-bindings-left.is c.number_of-number.ensures;
}
