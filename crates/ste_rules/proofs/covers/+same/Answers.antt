use Rattle.ste_rules.proofs.Exprs.{all_tree, odd_tree, any_tree, same_end, two_trees}
use Rattle.ste_rules.proofs.covers.+same.Goals as goal

pub are_same_parts-returns : goal.are_same_parts-returns
are_same_parts-returns t c = same_end c.args.ones.now c.loop-one.left.now c.loop-one.one-index c.is_empty.result _ c.loop-one-test.false c.is_empty.ensures c.loop-one.invariant

pub is_same_expr-returns-in-All-All : goal.is_same_expr-returns-in-All-All
is_same_expr-returns-in-All-All t c = two_trees _ _ _ _ c.are_same_parts.result c.are_same_parts.ensures (all_tree c.args.one.now c.in-All-All.a c.as_slice.result.now c.in-All-All.is-0 c.as_slice.ensures.value) (all_tree c.args.other.now c.in-All-All.b c.as_slice-in-All-All.result.now c.in-All-All.is-1 c.as_slice-in-All-All.ensures.value)

pub is_same_expr-returns-in-Odd-Odd : goal.is_same_expr-returns-in-Odd-Odd
is_same_expr-returns-in-Odd-Odd t c = two_trees _ _ _ _ c.are_same_parts-in-Odd-Odd.result c.are_same_parts-in-Odd-Odd.ensures (odd_tree c.args.one.now c.in-Odd-Odd.a c.as_slice-in-Odd-Odd.result.now c.in-Odd-Odd.is-0 c.as_slice-in-Odd-Odd.ensures.value) (odd_tree c.args.other.now c.in-Odd-Odd.b c.as_slice-in-Odd-Odd-2.result.now c.in-Odd-Odd.is-1 c.as_slice-in-Odd-Odd-2.ensures.value)

pub is_same_expr-returns-in-Any-Any : goal.is_same_expr-returns-in-Any-Any
is_same_expr-returns-in-Any-Any t c = two_trees _ _ _ _ c.are_same_parts-in-Any-Any.result c.are_same_parts-in-Any-Any.ensures (any_tree c.args.one.now c.in-Any-Any.a c.as_slice-in-Any-Any.result.now c.in-Any-Any.is-0 c.as_slice-in-Any-Any.ensures.value) (any_tree c.args.other.now c.in-Any-Any.b c.as_slice-in-Any-Any-2.result.now c.in-Any-Any.is-1 c.as_slice-in-Any-Any-2.ensures.value)
