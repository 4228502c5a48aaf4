use Rattle.std.proofs.Common.{rules}
use Rattle.blif_lines.proofs.Words.{words_turn}
use Rattle.blif_lines.proofs.lines.add_words.Goals as goal

pub loop-rest-preserved : goal.loop-rest-preserved
loop-rest-preserved c = words_turn c.loop-rest.words c.add_word.new.words _ c.loop-rest.rest.now c.cut.result.0.now c.cut.result.1.now c.blank.result (search rules) c.blank.ensures c.cut.ensures.front c.cut.ensures.back c.in_ok-add_word.ensures c.loop-rest.invariant
