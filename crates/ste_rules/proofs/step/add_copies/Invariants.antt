use Rattle.std.proofs.Common.{◌≡◌, ◌++◌, drop, map}
use Rattle.ste_model.specs.Trees.{quint_tree}
use Rattle.ste_rules.proofs.step.add_copies.Given as goal

-- the quintuples so far, and those that are left
abbrev pub invariant-loop-quint : goal.invariant-loop-quint
invariant-loop-quint l =
    map quint_tree l.quints ++ map quint_tree (drop l.quint-index l.more) ≡ map quint_tree l.fn.quints ++ map quint_tree l.more
