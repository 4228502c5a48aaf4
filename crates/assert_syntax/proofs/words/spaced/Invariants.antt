use Rattle.std.proofs.Common.{◌≡◌, ◌++◌, drop}
use Rattle.blif_lines.specs.Laws.{text_of_words}
use Rattle.assert_syntax.proofs.Texts.{behind_word}
use Rattle.assert_syntax.proofs.words.spaced.Given as goal

-- the words that are left decide
abbrev pub invariant-loop-word : goal.invariant-loop-word
invariant-loop-word l = l.text.items ++ behind_word (drop l.word-index l.rest) ≡ text_of_words l.words
