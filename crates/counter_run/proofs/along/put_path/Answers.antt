use Rattle.counter_run.proofs.Cells.{shape_then}
use Rattle.counter_run.proofs.PrintedAlong.{edge_turn}
use Rattle.counter_run.proofs.along.put_path.Goals as goal

pub loop-i-preserved : goal.loop-i-preserved
loop-i-preserved c =
    let before = c.loop-i.invariant in
    let put = c.put_binds.ensures in
    let turn = edge_turn c.args.edges.now c.args.bits.now c.args.path.now c.args.rows.now c.loop-i.rows c.put_binds.new.rows c.loop-i.i c.index-edges-number.result c.as_slice.result.now
    c.index-edges-number.is c.as_slice.ensures put.here put.others before.each before.later in
    record {
      shape = shape_then c.args.rows.now c.loop-i.rows c.put_binds.new.rows before.shape put.shape;
      each = turn.0;
      later = turn.1;
    }
