use Rattle.std.proofs.Common.{sym, ◌∙◌, refl, eqb-true}
use Rattle.dual_rail.proofs.Firsts.{and_least, and_left_one, and_right_one, and_left_zero, and_right_zero}
use Rattle.dual_rail.proofs.first.both.Goals as goal

pub returns-then-are_constant : goal.returns-then-are_constant
returns-then-are_constant g c =
    let low = c.if-are_constant.ensures.0 refl in
    and_least (g.N.Nodes.store c.args.nodes.now) c.args.a c.args.b (g.met.N.Nodes.diagram c.args.nodes.now) c.requires.left c.requires.right c.min.result low.0 low.1 c.min.ensures

pub returns-then-eq : goal.returns-then-eq
returns-then-eq g c = and_left_one (g.N.Nodes.store c.args.nodes.now) c.args.a c.args.b (g.met.N.Nodes.diagram c.args.nodes.now) c.requires.left c.requires.right (eqb-true _ _ (sym c.eq.ensures ∙ c.if-eq.true))

pub returns-then-eq-2 : goal.returns-then-eq-2
returns-then-eq-2 g c = and_right_one (g.N.Nodes.store c.args.nodes.now) c.args.a c.args.b (g.met.N.Nodes.diagram c.args.nodes.now) c.requires.left c.requires.right (eqb-true _ _ (sym c.eq-2.ensures ∙ c.if-eq-2.true))

pub returns-then-eq-3 : goal.returns-then-eq-3
returns-then-eq-3 g c = and_left_zero (g.N.Nodes.store c.args.nodes.now) c.args.a c.args.b (g.met.N.Nodes.diagram c.args.nodes.now) c.requires.left c.requires.right (eqb-true _ _ (sym c.eq-3.ensures ∙ c.if-eq-3.true))

pub returns-then-eq-4 : goal.returns-then-eq-4
returns-then-eq-4 g c = and_right_zero (g.N.Nodes.store c.args.nodes.now) c.args.a c.args.b (g.met.N.Nodes.diagram c.args.nodes.now) c.requires.left c.requires.right (eqb-true _ _ (sym c.eq-4.ensures ∙ c.if-eq-4.true))
