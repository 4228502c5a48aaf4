use Rattle.std.proofs.Common.{[], refl}
use Rattle.instances.proofs.Tabled.{from_top}
use Rattle.instances.proofs.table.rows_on.Goals as goal

pub returns : goal.returns
returns c = c.in_ok-add_below.ensures [] [] (from_top c.args.graph.now c.new-rows.result.items c.new-rows.ensures.items) (record { model = refl; link = refl })
