use Rattle.net_core.specs.Run.{Cut}
use Rattle.plain_check.proofs.Allowed.{allows_cut, allows_skipped}
use Rattle.plain_check.proofs.sources.cut.Goals as goal

pub returns-then-on-clause-allows : goal.returns-then-on-clause-allows
returns-then-on-clause-allows c = λ cuts before.
    let asked : Cut = record { node = c.args.node.0; on = c.args.on; value = c.args.value } in
    allows_cut cuts asked c.args.allowed.now.items c.index.result.now c.only.result c.meet-left.result c.requires c.if-on.true
    c.index.ensures c.only.ensures c.meet-left.ensures before

pub returns-else-on-clause-allows : goal.returns-else-on-clause-allows
returns-else-on-clause-allows c = λ cuts before.
    let asked : Cut = record { node = c.args.node.0; on = c.args.on; value = c.args.value } in
    allows_skipped cuts asked c.args.allowed.now.items c.if-on.false before
