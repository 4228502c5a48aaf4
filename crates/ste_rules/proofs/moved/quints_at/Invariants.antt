use Rattle.std.proofs.Common.{◌≡◌, ◌++◌, drop, map, length, nat_lt}
use Rattle.std.specs.List.{list_all}
use Rattle.ste_base.specs.Number.{number_of}
use Rattle.ste_model.specs.Trees.{quint_tree}
use Rattle.ste_rules.specs.Steps.{picked}
use Rattle.ste_rules.proofs.moved.quints_at.Given as goal

-- the words that are left decide
abbrev pub invariant-loop-word : goal.invariant-loop-word
invariant-loop-word l =
    (map quint_tree l.made ++ picked (map quint_tree l.quints) (map number_of (drop l.word-index l.words)) ≡ picked (map quint_tree l.quints) (map number_of l.words))
    × (list_all (λ n. nat_lt n (length (map quint_tree l.quints))) (map number_of (drop l.word-index l.words)) ≡ list_all (λ n. nat_lt n (length (map quint_tree l.quints))) (map number_of l.words))
