use Rattle.std.proofs.Common.{◌≡◌, ◌-◌, drop, map}
use Rattle.bool_expr.specs.Tree.{tree_of}
use Rattle.ste_model.specs.Trees.{quint_tree}
use Rattle.rule_model.specs.Rules.{substitute_in}
use Rattle.ste_rules.specs.Sizes.{quints_items}
use Rattle.ste_rules.proofs.special.quints_left_with.Given as goal

-- the quintuples that are left decide
abbrev pub invariant-loop-quint : goal.invariant-loop-quint
invariant-loop-quint l =
    l.left - quints_items (map (substitute_in l.x (tree_of l.by)) (map quint_tree (drop l.quint-index l.quints))) ≡ l.fn.left - quints_items (map (substitute_in l.x (tree_of l.by)) (map quint_tree l.quints))
