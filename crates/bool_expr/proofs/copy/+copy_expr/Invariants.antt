use Rattle.std.proofs.Common.{◌≡◌, take, map}
use Rattle.bool_expr.specs.Tree.{tree_of}
use Rattle.bool_expr.proofs.copy.+copy_expr.Given as goal

-- the copies have the trees of the parts so far
abbrev pub invariant-loop-part : goal.invariant-loop-part
invariant-loop-part l = map tree_of l.copies.items ≡ map tree_of (take l.part-index l.part-items)

-- the same under the other signs
abbrev pub invariant-loop-part-2 : goal.invariant-loop-part-2
invariant-loop-part-2 l = map tree_of l.copies.items ≡ map tree_of (take l.part-index l.part-items)

abbrev pub invariant-loop-part-3 : goal.invariant-loop-part-3
invariant-loop-part-3 l = map tree_of l.copies.items ≡ map tree_of (take l.part-index l.part-items)
