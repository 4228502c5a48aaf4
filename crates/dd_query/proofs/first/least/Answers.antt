use Rattle.std.proofs.Common.{◌≡◌, ◌∙◌, sym, arith, eqb-true}
use Rattle.std.specs.Prelude.{◌==◌, false}
use Rattle.dd_nodes.specs.Stores.{Store}
use Rattle.dd_nodes.proofs.Walks.{walk-constant}
use Rattle.dd_query.proofs.first.least.Goals as goal

pub returns-then-eq-clause-least : goal.returns-then-eq-clause-least
returns-then-eq-clause-least g c =
    let s : Store = g.N.Nodes.store c.args.nodes.now in
    let zero_is : c.args.r.0 ≡ 0 = eqb-true _ _ (sym c.eq.ensures ∙ c.if-eq.true) in
    let is_not : (c.args.r.0 == 1) ≡ false = rw zero_is in
    λ bits l. walk-constant s.held s.vars 0 c.args.r bits (g.met.N.Nodes.diagram c.args.nodes.now) (omega arith) ∙ is_not
