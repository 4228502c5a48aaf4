use Rattle.std.proofs.Common.{◌≡◌, ◌++◌, drop, map}
use Rattle.std.specs.List.{flat_map}
use Rattle.bool_expr.specs.Tree.{tree_of}
use Rattle.ste_rules.specs.Text.{expr_text}
use Rattle.ste_rules.proofs.print.+put.Given as goal

-- the text so far, and that of the parts that are left
abbrev pub invariant-put_list-loop-part : goal.invariant-put_list-loop-part
invariant-put_list-loop-part l =
    l.text.items ++ flat_map (λ other. l.sign ++ other) (map (λ part. expr_text l.vars (tree_of part)) (drop l.part-index l.rest)) ≡ l.initial.text.items ++ flat_map (λ other. l.sign ++ other) (map (λ part. expr_text l.vars (tree_of part)) l.rest)
