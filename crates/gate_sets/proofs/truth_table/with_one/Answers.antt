use Rattle.gate_sets.proofs.TruthTables.{few_shifts, one_fixed, shift_is}
use Rattle.gate_sets.proofs.truth_table.with_one.Goals as goal

pub overflow_shr-result : goal.overflow_shr-result
overflow_shr-result c = few_shifts c.args.place c.requires

pub returns : goal.returns
returns c = one_fixed c.args.table c.ones.result c.args.place _ c.ones.ensures.bits c.ranges.table.fits (shift_is c.args.place c.requires)
