use Rattle.std.proofs.Common.{[], ◌∷◌, sym, subst}
use Rattle.dd_nodes.specs.Stores.{Store}
use Rattle.net_core.specs.declared.cover.Lit.{Lit}
use Rattle.net_core.specs.Work.{disjunction}
use Rattle.dual_rail.specs.Rail.{Built, HasFunction}
use Rattle.dual_rail.proofs.Works.{here, or_built}
use Rattle.gate_sets.specs.private.Refused.{refused_sums, refused_total}
use Rattle.gate_sets.proofs.one_row.add_refused.Goals as goal

pub returns-in-Zero-clause-built : goal.returns-in-Zero-clause-built
returns-in-Zero-clause-built g c = λ f w m mr.
    let s : Store = g.N.Nodes.store c.args.nodes.now in
    let t : Store = g.N.Nodes.store c.either.new.nodes in
    subst (λ (lit : Lit). Built (refused_sums f (lit ∷ []) (w ∷ [])) (HasFunction (refused_total f (lit ∷ []) (w ∷ []))) s t c.either.result) (sym c.in-Zero.is)
    (or_built (disjunction f w.one ∷ []) f w.one s t c.args.sum c.args.r.can1 c.either.result (here (disjunction f w.one) []) m mr.one c.either.ensures)

pub returns-in-One-clause-built : goal.returns-in-One-clause-built
returns-in-One-clause-built g c = λ f w m mr.
    let s : Store = g.N.Nodes.store c.args.nodes.now in
    let t : Store = g.N.Nodes.store c.either-in-One.new.nodes in
    subst (λ (lit : Lit). Built (refused_sums f (lit ∷ []) (w ∷ [])) (HasFunction (refused_total f (lit ∷ []) (w ∷ []))) s t c.either-in-One.result) (sym c.in-One.is)
    (or_built (disjunction f w.zero ∷ []) f w.zero s t c.args.sum c.args.r.can0 c.either-in-One.result (here (disjunction f w.zero) []) m mr.zero c.either-in-One.ensures)
