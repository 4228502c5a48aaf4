use Rattle.std.proofs.Common.{Bool, ap}
use Rattle.gste_engine.specs.private.Taken.{table_at}
use Rattle.gste_engine.proofs.EdgeHops.{hop_is}
use Rattle.gste_engine.proofs.hops.hop_of.Goals as goal

pub returns-clause-hop : goal.returns-clause-hop
returns-clause-hop g c = λ states is.
    let edge = c.args.edge.now in
    let told = c.in_ok-told.told in
    hop_is c.args.failure c.args.net.now.raw c.args.bits.now (table_at c.args.bits.now states) edge told _ (c.in_ok-told.ensures.taken states is)
    (ap (λ (fails : Bool). record { from = edge.from; to = edge.to; feasible = told.feasible; fails = fails }) c.is_some.ensures)
