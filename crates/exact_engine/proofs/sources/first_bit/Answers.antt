use Rattle.std.proofs.Common.{[], ◌∷◌, sym, ◌∙◌}
use Rattle.dual_rail.proofs.Works.{here}
use Rattle.exact_engine.proofs.Starts.{start_one, start_zero, variable_built}
use Rattle.exact_engine.proofs.sources.first_bit.Goals as goal

pub returns-then-starts_free-clause-built : goal.returns-then-starts_free-clause-built
returns-then-starts_free-clause-built g c = λ f free start.
    variable_built (f ∷ []) f (g.N.Nodes.store c.args.nodes.now) (g.N.Nodes.store c.var.new.nodes) c.args.choice c.var.result (here f []) (free (sym c.starts_free.ensures ∙ c.if-starts_free.true)) c.var.ensures

pub returns-in-One-clause-built : goal.returns-in-One-clause-built
returns-in-One-clause-built g c = λ f free start.
    start_one (g.N.Nodes.store c.args.nodes.now) c.args.reset c.args.latch f (g.met.N.Nodes.diagram c.args.nodes.now) (sym c.starts_free.ensures ∙ c.if-starts_free.false) c.in-One.is start

pub returns-in-Zero-clause-built : goal.returns-in-Zero-clause-built
returns-in-Zero-clause-built g c = λ f free start.
    start_zero (g.N.Nodes.store c.args.nodes.now) c.args.reset c.args.latch f (g.met.N.Nodes.diagram c.args.nodes.now) (sym c.starts_free.ensures ∙ c.if-starts_free.false) c.in-Zero.is start
