use Rattle.std.proofs.Common.{◌∙◌, ap, sym, map, nat_le}
use Rattle.bool_expr.specs.Tree.{tree_of, all_of}
use Rattle.rule_model.specs.Rules.{substitute, substitute_all}
use Rattle.ste_rules.specs.Sizes.{tree_levels, most_levels}
use Rattle.ste_rules.proofs.Exprs.{all_tree, odd_tree, any_tree, one_more}
use Rattle.ste_rules.proofs.special.+levels.Goals as goal

pub levels_fit_with-returns-in-All : goal.levels_fit_with-returns-in-All
levels_fit_with-returns-in-All t c = c.parts_fit_with.ensures ∙ one_more (most_levels (substitute_all c.args.x (tree_of c.args.by.now) (all_of (map tree_of c.as_slice.result.now)))) c.args.most c.if-most-eq0.false ∙ ap (λ e. nat_le (tree_levels (substitute c.args.x (tree_of c.args.by.now) e)) c.args.most) (sym (all_tree c.args.expr.now c.in-All.parts c.as_slice.result.now c.in-All.is c.as_slice.ensures.value))

pub levels_fit_with-returns-in-Odd : goal.levels_fit_with-returns-in-Odd
levels_fit_with-returns-in-Odd t c = c.parts_fit_with-in-Odd.ensures ∙ one_more (most_levels (substitute_all c.args.x (tree_of c.args.by.now) (all_of (map tree_of c.as_slice-in-Odd.result.now)))) c.args.most c.if-most-eq0.false ∙ ap (λ e. nat_le (tree_levels (substitute c.args.x (tree_of c.args.by.now) e)) c.args.most) (sym (odd_tree c.args.expr.now c.in-Odd.parts c.as_slice-in-Odd.result.now c.in-Odd.is c.as_slice-in-Odd.ensures.value))

pub levels_fit_with-returns-in-Any : goal.levels_fit_with-returns-in-Any
levels_fit_with-returns-in-Any t c = c.parts_fit_with-in-Any.ensures ∙ one_more (most_levels (substitute_all c.args.x (tree_of c.args.by.now) (all_of (map tree_of c.as_slice-in-Any.result.now)))) c.args.most c.if-most-eq0.false ∙ ap (λ e. nat_le (tree_levels (substitute c.args.x (tree_of c.args.by.now) e)) c.args.most) (sym (any_tree c.args.expr.now c.in-Any.parts c.as_slice-in-Any.result.now c.in-Any.is c.as_slice-in-Any.ensures.value))
