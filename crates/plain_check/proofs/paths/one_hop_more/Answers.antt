use Rattle.std.proofs.Common.{◌≡◌, ◌<◌, ◌+◌, ◌∷◌, List, ℕ, sym, ap, subst, ◌∙◌}
use Rattle.std.proofs.lemmas.Result.{IfOk-weaker}
use Rattle.plain_check.specs.declared.found.Failure.{Failure}
use Rattle.plain_check.specs.private.Hops.{AreBest, IsBest}
use Rattle.plain_check.proofs.Levels.{more_first, more_none}
use Rattle.plain_check.proofs.paths.one_hop_more.Goals as goal

pub returns-in-Some : goal.returns-in-Some
returns-in-Some c =
    let hops = c.args.hops.now in
    let best = c.args.best.now in
    let first = sym c.first_leading.ensures ∙ c.in-Some.is in
    IfOk-weaker c.with_first.result (λ (list : List ℕ). list ≡ c.in-Some.number ∷ c.route_at.result.now)
    (λ list. (how : Failure) (n : ℕ) → 0 < n → AreBest how hops n best → IsBest how hops (n + 1) c.args.vertex list)
    (λ list e how n some are. subst (IsBest how hops (n + 1) c.args.vertex) (sym (e ∙ ap (λ (rest : List ℕ). c.in-Some.number ∷ rest) c.route_at.ensures)) (more_first how hops n best some are c.requires.ends c.args.vertex c.in-Some.number first))
    c.with_first.ensures

pub returns-in-None : goal.returns-in-None
returns-in-None c = λ how n some are.
    subst (IsBest how c.args.hops.now (n + 1) c.args.vertex) (sym c.new.ensures) (more_none how c.args.hops.now n c.args.best.now some are c.requires.ends c.args.vertex (sym c.first_leading.ensures ∙ c.in-None.is))
