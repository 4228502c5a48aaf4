use Rattle.std.proofs.Common.{◌<◌, [], false, get_or, length, arith}
use Rattle.counter_run.proofs.Cells.{column_turn, row_long, set_cell}
use Rattle.counter_run.proofs.matrix.put_column.Goals as goal

pub set-requires : goal.set-requires
set-requires c =
    let tall = c.loop-id.invariant.shape.tall in
    row_long c.args.rows.now c.loop-id.rows c.loop-id.id c.args.t c.index-rows-id.result c.loop-id.invariant.shape (omega arith) (c.requires.wide c.loop-id.id [] (omega arith))

pub loop-id-preserved : goal.loop-id-preserved
loop-id-preserved c =
    let tall = c.loop-id.invariant.shape.tall in
    let long : c.args.t < length (get_or c.loop-id.rows c.loop-id.id c.index-rows-id.result) =
    row_long c.args.rows.now c.loop-id.rows c.loop-id.id c.args.t c.index-rows-id.result c.loop-id.invariant.shape (omega arith) (c.requires.wide c.loop-id.id [] (omega arith)) in
    let is = set_cell c.loop-id.rows c.index-rows-id.result c.set.new.self c.args.t c.loop-id.id (get_or c.args.bits.now c.loop-id.id false) (omega arith) long c.set.ensures in
    let turn = column_turn c.args.rows.now c.loop-id.rows _ c.args.bits.now c.args.t c.loop-id.id is c.loop-id.invariant.shape c.loop-id.invariant.placed c.loop-id.invariant.others in
    record { shape = turn.0; placed = turn.1; others = turn.2 }
