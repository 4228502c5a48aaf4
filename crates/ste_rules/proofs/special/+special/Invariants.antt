use Rattle.std.proofs.Common.{◌≡◌, ◌++◌, drop, map}
use Rattle.bool_expr.specs.Tree.{tree_of}
use Rattle.rule_model.specs.Rules.{substitute}
use Rattle.ste_rules.proofs.special.+special.Given as goal

-- the expressions so far, and those of the parts that are left
abbrev pub invariant-special_parts-loop-part : goal.invariant-special_parts-loop-part
invariant-special_parts-loop-part l =
    map tree_of l.made.items ++ map (λ part. substitute l.x (tree_of l.by) (tree_of part)) (drop l.part-index l.parts) ≡ map (λ part. substitute l.x (tree_of l.by) (tree_of part)) l.parts
