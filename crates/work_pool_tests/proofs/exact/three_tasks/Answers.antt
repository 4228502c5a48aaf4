use Rattle.std.proofs.Common.{◌∙◌, [], ◌∷◌, All, sym, subst}
use Rattle.std.proofs.lemmas.List.Elements.{All-cons, All-nil}
use Rattle.work_pool.specs.Pool.{IsTaskOver}
use Rattle.work_pool_tests.proofs.exact.three_tasks.Goals as goal

pub returns-clause-over : goal.returns-clause-over
returns-clause-over c = λ net one.
    let first = c.in_ok-first.first in
    let second = c.in_ok-second.second in
    let third = c.in_ok-third.third in
    subst (All (IsTaskOver net 0)) (sym (c.from.ensures ∙ c.in_ok-from_array.ensures.items)) (All-cons (IsTaskOver net 0) first (second ∷ third ∷ []) (c.in_ok-first.ensures net one)
    (All-cons (IsTaskOver net 0) second (third ∷ []) (c.in_ok-second.ensures net one) (All-cons (IsTaskOver net 0) third [] (c.in_ok-third.ensures net one) (All-nil (IsTaskOver net 0)))))
