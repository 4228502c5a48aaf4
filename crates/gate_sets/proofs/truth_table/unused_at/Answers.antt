use Rattle.gate_sets.proofs.TruthTables.{takes_any}
use Rattle.gate_sets.proofs.truth_table.unused_at.Goals as goal

pub returns : goal.returns
returns c = λ r. record {
  zero = takes_any c.args.tables.can0 c.with_zero-can0.result c.with_one.result c.args.place r c.if-can0-with_one.false c.with_zero-can0.ensures c.with_one.ensures;
  one = takes_any c.args.tables.can1 c.with_zero-can1.result c.with_one-2.result c.args.place r c.if-can1-with_one.false c.with_zero-can1.ensures c.with_one-2.ensures;
}
