use Rattle.gate_sets.specs.private.TruthTables.{free_rails}
use Rattle.gate_sets.proofs.TruthTables.{alike_freed}
use Rattle.gate_sets.proofs.truth_table.settle_unused.Goals as goal

pub returns : goal.returns
returns c = alike_freed c.args.tables c.in-Some.after c.args.operands.now c.args.place free_rails c.requires.few c.requires.place (c.in-Some.ensures _)
