use Rattle.std.proofs.Common.{sym}
use Rattle.std.proofs.lemmas.Bool.{eqb-true}
use Rattle.gate_sets.proofs.TruthTables.{takes_either, takes_one, takes_zero}
use Rattle.gate_sets.proofs.truth_table.constant_at.Goals as goal

pub returns-then-eq : goal.returns-then-eq
returns-then-eq c = record {
  zero = takes_one c.args.tables.can0 c.with_one.result c.args.place c.args.r (eqb-true _ _ (sym c.if-eq.ensures)) c.with_one.ensures;
  one = takes_one c.args.tables.can1 c.with_one-then-eq.result c.args.place c.args.r (eqb-true _ _ (sym c.if-eq.ensures)) c.with_one-then-eq.ensures;
}

pub returns-then-eq-2 : goal.returns-then-eq-2
returns-then-eq-2 c = record {
  zero = takes_zero c.args.tables.can0 c.with_zero.result c.args.place c.args.r (eqb-true _ _ (sym c.if-eq-2.ensures)) c.with_zero.ensures;
  one = takes_zero c.args.tables.can1 c.with_zero-then-eq-2.result c.args.place c.args.r (eqb-true _ _ (sym c.if-eq-2.ensures)) c.with_zero-then-eq-2.ensures;
}

pub returns-then-eq-4 : goal.returns-then-eq-4
returns-then-eq-4 c = record {
  zero = takes_either c.args.tables.can0 c.with_zero-then-eq-4.result c.with_one-then-eq-4.result c.args.place c.args.r (eqb-true _ _ (sym c.if-eq-3.ensures)) (eqb-true _ _ (sym c.if-eq-4.ensures))
      c.with_zero-then-eq-4.ensures c.with_one-then-eq-4.ensures;
  one = takes_either c.args.tables.can1 c.with_zero-then-eq-4-2.result c.with_one-then-eq-4-2.result c.args.place c.args.r (eqb-true _ _ (sym c.if-eq-3.ensures)) (eqb-true _ _ (sym c.if-eq-4.ensures))
      c.with_zero-then-eq-4-2.ensures c.with_one-then-eq-4-2.ensures;
}
