use Rattle.dd_table.proofs.Layouts.{node_in_made_word}
use Rattle.dd_table.proofs.word.word_of_node.Goals as goal

pub returns-clause-node : goal.returns-clause-node
returns-clause-node c = node_in_made_word c.args.node.var c.args.node.lo.0 c.args.node.hi.0 c.requires.lo c.requires.hi
