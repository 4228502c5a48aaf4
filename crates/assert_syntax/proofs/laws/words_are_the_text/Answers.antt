use Rattle.assert_syntax.proofs.Tokens.{words_are_the_text}
use Rattle.assert_syntax.proofs.laws.words_are_the_text.Goals as goal

pub returns : goal.returns
returns c = words_are_the_text
