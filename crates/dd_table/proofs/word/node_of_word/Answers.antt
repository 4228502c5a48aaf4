use Rattle.std.proofs.Common.{refl}
use Rattle.dd_table.specs.Layout.{node_in_word}
use Rattle.dd_table.proofs.word.node_of_word.Goals as goal

pub returns : goal.returns
unfolding node_in_word
returns c = refl
