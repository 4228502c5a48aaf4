use Rattle.std.proofs.Common.{◌∙◌, ap, sym, map, refl}
use Rattle.bool_expr.specs.declared.token.Sign.TheVariants.{Or, Xor, And}
use Rattle.bool_expr.specs.Tree.{tree_of, under}
use Rattle.rule_model.specs.Rules.{substitute}
use Rattle.ste_rules.proofs.Exprs.{all_tree, odd_tree, any_tree, substituted_end}
use Rattle.ste_rules.proofs.special.+special.Goals as goal

pub special_parts-returns : goal.special_parts-returns
special_parts-returns t c = substituted_end c.args.x (tree_of c.args.by.now) c.args.parts.now (map tree_of c.loop-part.made.items) c.loop-part.part-index c.loop-part-test.false c.loop-part.invariant

pub special_expr-returns-in_ok-special_parts-in-All : goal.special_expr-returns-in_ok-special_parts-in-All
special_expr-returns-in_ok-special_parts-in-All t c = all_tree _ c.in_ok-special_parts-in-All.field-0 _ refl refl ∙ ap (under And) c.in_ok-special_parts-in-All.ensures ∙ sym (ap (substitute c.args.x (tree_of c.args.by.now)) (all_tree c.args.expr.now c.in-All.parts c.as_slice.result.now c.in-All.is c.as_slice.ensures.value))

pub special_expr-returns-in_ok-special_parts-in-Odd : goal.special_expr-returns-in_ok-special_parts-in-Odd
special_expr-returns-in_ok-special_parts-in-Odd t c = odd_tree _ c.in_ok-special_parts-in-Odd.field-0 _ refl refl ∙ ap (under Xor) c.in_ok-special_parts-in-Odd.ensures ∙ sym (ap (substitute c.args.x (tree_of c.args.by.now)) (odd_tree c.args.expr.now c.in-Odd.parts c.as_slice-in-Odd.result.now c.in-Odd.is c.as_slice-in-Odd.ensures.value))

pub special_expr-returns-in_ok-special_parts-in-Any : goal.special_expr-returns-in_ok-special_parts-in-Any
special_expr-returns-in_ok-special_parts-in-Any t c = any_tree _ c.in_ok-special_parts-in-Any.field-0 _ refl refl ∙ ap (under Or) c.in_ok-special_parts-in-Any.ensures ∙ sym (ap (substitute c.args.x (tree_of c.args.by.now)) (any_tree c.args.expr.now c.in-Any.parts c.as_slice-in-Any.result.now c.in-Any.is c.as_slice-in-Any.ensures.value))
