use Rattle.std.proofs.Common.{◌≡◌, drop, map, nat_le}
use Rattle.bool_expr.specs.Tree.{tree_of, all_of}
use Rattle.rule_model.specs.Rules.{substitute_all}
use Rattle.ste_rules.specs.Sizes.{most_levels}
use Rattle.ste_rules.proofs.special.+levels.Given as goal

-- the parts that are left decide
abbrev pub invariant-parts_fit_with-loop-part : goal.invariant-parts_fit_with-loop-part
invariant-parts_fit_with-loop-part l =
    nat_le (most_levels (substitute_all l.x (tree_of l.by) (all_of (map tree_of (drop l.part-index l.parts))))) l.most ≡ nat_le (most_levels (substitute_all l.x (tree_of l.by) (all_of (map tree_of l.parts)))) l.most
