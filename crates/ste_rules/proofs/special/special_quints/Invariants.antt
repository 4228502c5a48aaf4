use Rattle.std.proofs.Common.{◌≡◌, ◌++◌, drop, map}
use Rattle.bool_expr.specs.Tree.{tree_of}
use Rattle.ste_model.specs.Trees.{quint_tree}
use Rattle.rule_model.specs.Rules.{substitute_in}
use Rattle.ste_rules.proofs.special.special_quints.Given as goal

-- the quintuples so far, and those that are left
abbrev pub invariant-loop-quint : goal.invariant-loop-quint
invariant-loop-quint l =
    map quint_tree l.made ++ map (substitute_in l.x (tree_of l.by)) (map quint_tree (drop l.quint-index l.quints)) ≡ map (substitute_in l.x (tree_of l.by)) (map quint_tree l.quints)
