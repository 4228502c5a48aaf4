use Rattle.std.proofs.Common.{◌≡◌, ◌-◌, drop, map}
use Rattle.ste_model.specs.Trees.{quint_tree}
use Rattle.ste_rules.specs.Sizes.{quints_items}
use Rattle.ste_rules.proofs.sizes.quints_left.Given as goal

-- the quintuples that are left decide
abbrev pub invariant-loop-quint : goal.invariant-loop-quint
invariant-loop-quint l =
    l.left - quints_items (map quint_tree (drop l.quint-index l.quints)) ≡ l.fn.left - quints_items (map quint_tree l.quints)
