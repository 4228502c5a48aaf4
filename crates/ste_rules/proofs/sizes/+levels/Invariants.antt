use Rattle.std.proofs.Common.{◌≡◌, drop, map, nat_le}
use Rattle.bool_expr.specs.Tree.{tree_of, all_of}
use Rattle.ste_rules.specs.Sizes.{most_levels}
use Rattle.ste_rules.proofs.sizes.+levels.Given as goal

-- the parts that are left decide
abbrev pub invariant-parts_fit-loop-part : goal.invariant-parts_fit-loop-part
invariant-parts_fit-loop-part l =
    nat_le (most_levels (all_of (map tree_of (drop l.part-index l.parts)))) l.most ≡ nat_le (most_levels (all_of (map tree_of l.parts))) l.most
