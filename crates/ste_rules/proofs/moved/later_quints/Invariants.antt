use Rattle.std.proofs.Common.{◌≡◌, ◌++◌, ℕ, drop, map}
use Rattle.ste_model.specs.Trees.{quint_tree}
use Rattle.rule_model.specs.Rules.{later_by}
use Rattle.ste_rules.specs.private.Turns.{IsAmount}
use Rattle.ste_rules.proofs.moved.later_quints.Given as goal

-- the quintuples so far, and those that are left
abbrev pub invariant-loop-quint : goal.invariant-loop-quint
invariant-loop-quint l = (number : ℕ) → IsAmount number l.amount →
    map quint_tree l.made ++ map (later_by number) (map quint_tree (drop l.quint-index l.quints)) ≡ map (later_by number) (map quint_tree l.quints)
