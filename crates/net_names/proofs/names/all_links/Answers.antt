use Rattle.net_names.proofs.Links.{more_links}
use Rattle.net_names.proofs.names.all_links.Goals as goal

pub loop-row-preserved : goal.loop-row-preserved
loop-row-preserved c models table = more_links models c.args.rows.now table c.loop-row.links.keys c.insert.new.self.keys c.loop-row.row-index _ c.loop-row-test.true (c.loop-row.invariant models table) c.in_ok-insert.ensures.keys
