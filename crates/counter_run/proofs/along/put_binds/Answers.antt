use Rattle.std.proofs.Common.{◌∙◌, arith}
use Rattle.ste_model.specs.Edges.{bind_at}
use Rattle.counter_run.specs.private.Matrix.{cell}
use Rattle.counter_run.proofs.Askings.{asked_all, asked_turn}
use Rattle.counter_run.proofs.Cells.{shape_then}
use Rattle.counter_run.proofs.along.put_binds.Goals as goal

pub loop-bind-preserved : goal.loop-bind-preserved
loop-bind-preserved c = record {
  shape = shape_then c.args.rows.now c.loop-bind.rows c.put_bind.new.rows c.loop-bind.invariant.shape c.put_bind.ensures.shape;
  here = λ id. asked_turn (bind_at c.args.bits.now) c.args.binds.now c.loop-bind.bind-index id c.bind-item.result (cell c.args.rows.now c.args.t id) (cell c.loop-bind.rows c.args.t id) (cell c.put_bind.new.rows c.args.t id) c.loop-bind-test.true c.bind-item.is (c.put_bind.ensures.here id) (c.loop-bind.invariant.here id);
  others = λ s id other. c.put_bind.ensures.others s id other ∙ c.loop-bind.invariant.others s id other;
}

pub returns-clause-here : goal.returns-clause-here
returns-clause-here c = λ id. asked_all (bind_at c.args.bits.now) c.args.binds.now c.loop-bind.bind-index id (cell c.args.rows.now c.args.t id) (cell c.loop-bind.rows c.args.t id) (omega arith) (c.loop-bind.invariant.here id)
