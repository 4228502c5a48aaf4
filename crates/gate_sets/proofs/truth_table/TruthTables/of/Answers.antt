use Rattle.gate_sets.proofs.TruthTables.{table_of_rows}
use Rattle.gate_sets.proofs.truth_table.TruthTables.of.Goals as goal

pub returns : goal.returns
returns c = λ few. record {
  zero = table_of_rows c.args.off.now c.args.width c.rows_word.result c.requires.off few c.rows_word.ensures;
  one = table_of_rows c.args.on.now c.args.width c.rows_word-2.result c.requires.on few c.rows_word-2.ensures;
}
