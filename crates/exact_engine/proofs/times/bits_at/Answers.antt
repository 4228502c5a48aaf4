use Rattle.exact_engine.proofs.AllTimes.{before_of, first_given, next_given}
use Rattle.exact_engine.proofs.times.bits_at.Goals as goal

pub returns-then-time-eq0-clause-built : goal.returns-then-time-eq0-clause-built
returns-then-time-eq0-clause-built g c = λ bit given l last.
    c.first_bits.ensures.built (bit c.args.time) (first_given (g.N.Nodes.store c.args.nodes.now).vars c.args.net.now.raw c.args.vars c.args.task.now bit c.args.time c.args.choice c.if-time-eq0.true c.requires.at given l) (given.gates c.args.time l)

pub returns-clause-built : goal.returns-clause-built
returns-clause-built g c = λ bit given l last.
    let k = before_of c.args.time c.if-time-eq0.false in
    c.next_bits.ensures.built (bit k.0) (bit c.args.time) (last k.0 k.1)
    (next_given (g.N.Nodes.store c.args.nodes.now).vars c.args.net.now.raw c.args.vars c.args.task.now bit k.0 c.args.time c.args.choice k.1 c.requires.at given l) (given.gates c.args.time l)
