use Rattle.std.proofs.Common.{arith, length, ◌+◌, ◌/◌}
use Rattle.sym_step.proofs.Asleep.{all_awake, all_resting}
use Rattle.sym_step.proofs.marks.Marks.all.Goals as goal

pub invariant_of-result-clause-asleep : goal.invariant_of-result-clause-asleep
invariant_of-result-clause-asleep c =
    let long = c.in_ok-to_vec.ensures.len in
    all_awake c.in_ok-vec.field-0.items c.in_ok-to_vec.field-0.items c.in_ok-vec-2.field-0.items (length c.args.order.now / 64 + 1) (c.in_ok-vec-2.ensures.items_if_clones_equal (λ y e. e)) (omega (arith, long))

pub invariant_of-result-clause-resting : goal.invariant_of-result-clause-resting
invariant_of-result-clause-resting c =
    let long = c.in_ok-vec.ensures.len in
    all_resting c.in_ok-vec.field-0.items (length c.in_ok-to_vec.field-0.items) c.in_ok-vec-3.field-0.items (c.args.count / 64 + 1) (c.in_ok-vec-3.ensures.items_if_clones_equal (λ y e. e)) (omega (arith, long))
