use Rattle.std.proofs.Common.{◌<◌, ◌+◌, ℕ, arith, sym, subst}
use Rattle.std.proofs.lemmas.Result.{IfOk-weaker}
use Rattle.plain_check.specs.declared.found.Failure.{Failure}
use Rattle.plain_check.specs.private.Hops.{AreBest, IsSearched}
use Rattle.plain_check.proofs.Levels.{goes_searched, nothing_there}
use Rattle.plain_check.proofs.paths.search_on.Goals as goal

pub returns-clause-searched : goal.returns-clause-searched
returns-clause-searched c =
    let hops = c.args.hops.now in
    let best = c.args.best.items in
    let none = nothing_there best c.index.result.now c.requires.some c.index.ensures (let l = c.len.ensures in let m = c.if-len-gt0.false in omega (arith, l, m)) in
    IfOk-weaker c.all_one_more.result (λ more. (how : Failure) (n : ℕ) → 0 < n → AreBest how hops n c.deref.result.now → AreBest how hops (n + 1) more.items)
    (λ more. (how : Failure) (n : ℕ) → IsSearched how hops n best → IsSearched how hops (n + 1) more.items)
    (λ more step how n is. goes_searched how hops n best more.items c.requires.some none is (λ m some are. step how m some (subst (AreBest how hops m) (sym c.deref.ensures.value) are)))
    c.all_one_more.ensures.best
