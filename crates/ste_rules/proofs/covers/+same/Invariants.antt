use Rattle.std.proofs.Common.{◌≡◌, drop, map}
use Rattle.bool_expr.specs.Tree.{tree_of, all_of}
use Rattle.ste_rules.specs.Covers.{are_same_trees}
use Rattle.ste_rules.proofs.covers.+same.Given as goal

-- the parts that are left decide
abbrev pub invariant-are_same_parts-loop-one : goal.invariant-are_same_parts-loop-one
invariant-are_same_parts-loop-one l =
    are_same_trees (all_of (map tree_of (drop l.one-index l.ones))) (all_of (map tree_of l.left)) ≡ are_same_trees (all_of (map tree_of l.ones)) (all_of (map tree_of l.others))
