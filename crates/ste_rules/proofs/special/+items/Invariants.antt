use Rattle.std.proofs.Common.{◌≡◌, ◌-◌, drop, map}
use Rattle.bool_expr.specs.Tree.{tree_of, all_of}
use Rattle.rule_model.specs.Rules.{substitute_all}
use Rattle.ste_rules.specs.Sizes.{list_items, signed_items}
use Rattle.ste_rules.proofs.special.+items.Given as goal

-- the parts that are left decide
abbrev pub invariant-parts_left_with-loop-part : goal.invariant-parts_left_with-loop-part
invariant-parts_left_with-loop-part l =
    l.left - signed_items (substitute_all l.x (tree_of l.by) (all_of (map tree_of (drop l.part-index l.rest)))) ≡ l.fn.left - list_items (substitute_all l.x (tree_of l.by) (all_of (map tree_of l.fn.parts)))
