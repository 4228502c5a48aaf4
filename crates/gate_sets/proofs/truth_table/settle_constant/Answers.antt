use Rattle.gate_sets.proofs.TruthTables.{alike_freed}
use Rattle.gate_sets.proofs.truth_table.settle_constant.Goals as goal

pub returns : goal.returns
returns c = alike_freed c.args.tables c.in-Some.after c.args.operands.now c.args.place _ c.requires.few c.requires.place c.in-Some.ensures
