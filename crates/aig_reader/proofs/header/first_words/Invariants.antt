use Rattle.std.proofs.Common.{◌≡◌, ◌++◌, length}
use Rattle.blif_lines.specs.Lines.{words_of}
use Rattle.aig_reader.proofs.header.first_words.Given as goal

-- the words so far, and those of the rest, are all
abbrev pub invariant-loop-count : goal.invariant-loop-count
invariant-loop-count l = (l.words ++ words_of l.rest ≡ words_of l.line) × (length l.words ≡ l.count)
