use Rattle.std.proofs.Common.{◌≡◌, ◌∷◌, [], List, ℕ, sym, subst, ◌∙◌}
use Rattle.std.proofs.lemmas.Result.{IfOk-weaker}
use Rattle.plain_check.specs.private.Hops.{IsBest}
use Rattle.plain_check.proofs.Levels.{last_none, last_some}
use Rattle.plain_check.proofs.paths.last_hop.Goals as goal

pub returns-in-Some : goal.returns-in-Some
returns-in-Some c =
    let best = last_some c.args.failure c.args.hops.now c.args.vertex c.in-Some.number (sym c.first_ending.ensures ∙ c.in-Some.is) in
    IfOk-weaker c.with_first.result (λ (list : List ℕ). list ≡ c.in-Some.number ∷ []) (λ list. IsBest c.args.failure c.args.hops.now 1 c.args.vertex list)
    (λ list e. subst (IsBest c.args.failure c.args.hops.now 1 c.args.vertex) (sym e) best) c.with_first.ensures

pub returns-in-None : goal.returns-in-None
returns-in-None c =
    subst (IsBest c.args.failure c.args.hops.now 1 c.args.vertex) (sym c.new.ensures) (last_none c.args.failure c.args.hops.now c.args.vertex (sym c.first_ending.ensures ∙ c.in-None.is))
