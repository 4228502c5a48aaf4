use Rattle.dd_nodes.proofs.Stores.{Keeps-trans}
use Rattle.exact_engine.proofs.OneTimes.{settled_from, sources_failed}
use Rattle.exact_engine.proofs.times.next_bits.Goals as goal

pub returns-in_err-sources-clause-built : goal.returns-in_err-sources-clause-built
returns-in_err-sources-clause-built g c = λ before bit at given follow.
    sources_failed c.args.net.now.raw bit (g.N.Nodes.store c.args.nodes.now) (g.N.Nodes.store c.next_sources.new.nodes) c.in_err-sources.field-0.0 c.from_residual.result (g.met.N.Nodes.diagram c.args.nodes.now) (g.met.N.Nodes.diagram c.next_sources.new.nodes)
    (c.in_err-sources.ensures.built before bit at given) c.from_residual.ensures.1

pub returns-clause-built : goal.returns-clause-built
returns-clause-built g c = λ before bit at given follow.
    settled_from c.args.net.now.raw bit (g.N.Nodes.store c.args.nodes.now) (g.N.Nodes.store c.next_sources.new.nodes) (g.N.Nodes.store c.settle.new.nodes) c.in_ok-sources.sources c.settle.result
    (g.met.N.Nodes.diagram c.next_sources.new.nodes) (g.met.N.Nodes.diagram c.settle.new.nodes) follow (c.in_ok-sources.ensures.built before bit at given) (c.settle.ensures.built bit)

pub returns-clause-keeps : goal.returns-clause-keeps
returns-clause-keeps g c = Keeps-trans (g.N.Nodes.store c.args.nodes.now) (g.N.Nodes.store c.next_sources.new.nodes) (g.N.Nodes.store c.settle.new.nodes) c.in_ok-sources.ensures.keeps c.settle.ensures.keeps
