use Rattle.gate_sets.proofs.TruthTables.{few_shifts, shift_is, zero_fixed}
use Rattle.gate_sets.proofs.truth_table.with_zero.Goals as goal

pub overflow_shl-result-2 : goal.overflow_shl-result-2
overflow_shl-result-2 c = few_shifts c.args.place c.requires

pub returns : goal.returns
returns c = zero_fixed c.args.table c.zeros.result c.args.place _ c.zeros.ensures.bits (shift_is c.args.place c.requires)
