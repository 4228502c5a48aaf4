use Rattle.std.proofs.Common.{subst, sym}
use Rattle.gate_sets.specs.private.TruthTables.{IsDecided}
use Rattle.gate_sets.proofs.TruthTables.{all_told, none_told, one_told, zero_told}
use Rattle.gate_sets.proofs.truth_table.decided_rail.Goals as goal

pub returns-then-table-eq0 : goal.returns-then-table-eq0
returns-then-table-eq0 c = subst (λ table. IsDecided table c.args.operands.now (record { 0 = 0 })) (sym c.if-table-eq0.true) (none_told c.args.operands.now)

pub returns-then-table-eq18446744073709551615 : goal.returns-then-table-eq18446744073709551615
returns-then-table-eq18446744073709551615 c = subst (λ table. IsDecided table c.args.operands.now (record { 0 = 1 })) (sym c.if-table-eq18446744073709551615.true) (all_told c.args.operands.now c.requires)

pub returns-then-table-ones : goal.returns-then-table-ones
returns-then-table-ones c = one_told c.args.table c.ones.result c.loop-place.place c.args.operands.now _ c.requires c.loop-place-test.true c.if-table-ones.true c.ones.ensures.choices

pub returns-then-table-zeros : goal.returns-then-table-zeros
returns-then-table-zeros c = zero_told c.args.table c.zeros.result c.loop-place.place c.args.operands.now _ c.requires c.loop-place-test.true c.if-table-zeros.true c.zeros.ensures.choices
