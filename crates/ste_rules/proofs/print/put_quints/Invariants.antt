use Rattle.std.proofs.Common.{◌≡◌, ◌++◌, drop, map}
use Rattle.std.specs.List.{flat_map}
use Rattle.ste_model.specs.Trees.{quint_tree}
use Rattle.ste_rules.specs.Text.{quint_line}
use Rattle.ste_rules.proofs.print.put_quints.Given as goal

-- the text so far, and that of the quintuples that are left
abbrev pub invariant-loop-quint : goal.invariant-loop-quint
invariant-loop-quint l =
    l.text.items ++ flat_map (quint_line l.title l.names.own l.vars) (map quint_tree (drop l.quint-index l.quints)) ≡ l.fn.text.items ++ flat_map (quint_line l.title l.names.own l.vars) (map quint_tree l.quints)
