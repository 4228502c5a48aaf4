use Rattle.std.proofs.Common.{sym, ◌∙◌, eqb-true}
use Rattle.dual_rail.proofs.Firsts.{opposite_one, opposite_zero}
use Rattle.dual_rail.proofs.first.opposite.Goals as goal

pub returns-then-eq : goal.returns-then-eq
returns-then-eq g c = opposite_one (g.N.Nodes.store c.args.nodes.now) c.args.a c.args.a (g.met.N.Nodes.diagram c.args.nodes.now) c.requires c.requires (eqb-true _ _ (sym c.eq.ensures ∙ c.if-eq.true))

pub returns-then-eq-2 : goal.returns-then-eq-2
returns-then-eq-2 g c = opposite_zero (g.N.Nodes.store c.args.nodes.now) c.args.a c.args.a (g.met.N.Nodes.diagram c.args.nodes.now) c.requires c.requires (eqb-true _ _ (sym c.eq-2.ensures ∙ c.if-eq-2.true))
