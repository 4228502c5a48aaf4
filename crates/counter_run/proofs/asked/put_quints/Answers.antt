use Rattle.std.proofs.Common.{arith}
use Rattle.ste_model.specs.Asked.{quint_at}
use Rattle.counter_run.specs.private.Matrix.{cell}
use Rattle.counter_run.proofs.Askings.{asked_all, asked_turn}
use Rattle.counter_run.proofs.Cells.{shape_then}
use Rattle.counter_run.proofs.asked.put_quints.Goals as goal

pub loop-quint-preserved : goal.loop-quint-preserved
loop-quint-preserved c = record {
  shape = shape_then c.args.rows.now c.loop-quint.rows c.put_quint.new.rows c.loop-quint.invariant.shape c.put_quint.ensures.shape;
  each = λ t id. asked_turn (quint_at c.args.bits.now t) c.args.quints.now c.loop-quint.quint-index id c.quint-item.result (cell c.args.rows.now t id) (cell c.loop-quint.rows t id) (cell c.put_quint.new.rows t id) c.loop-quint-test.true c.quint-item.is (c.put_quint.ensures.each t id) (c.loop-quint.invariant.each t id);
}

pub returns-clause-each : goal.returns-clause-each
returns-clause-each c = λ t id. asked_all (quint_at c.args.bits.now t) c.args.quints.now c.loop-quint.quint-index id (cell c.args.rows.now t id) (cell c.loop-quint.rows t id) (omega arith) (c.loop-quint.invariant.each t id)
