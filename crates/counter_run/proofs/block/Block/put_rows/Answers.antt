use Rattle.std.proofs.Common.{arith}
use Rattle.counter_run.proofs.Blocks.{rows_turn}
use Rattle.counter_run.proofs.block.Block.put_rows.Goals as goal

pub loop-id-preserved : goal.loop-id-preserved
loop-id-preserved c =
    let before = c.loop-id.invariant in
    let tall = before.shape.tall in
    let nets = c.requires.block.nets in
    let put = c.put_row.ensures in
    let turn = rows_turn c.args.rows.now c.loop-id.rows c.index-rows-id.result c.put_row.new.row c.args.self.now c.loop-id.id (omega (arith, tall, nets, c.loop-id-test.true)) put.long put.inside put.outside before.shape before.placed before.others in
    record { shape = turn.0; placed = turn.1; others = turn.2 }
