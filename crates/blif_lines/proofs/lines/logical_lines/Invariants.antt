use Rattle.std.proofs.Common.{◌≡◌, ◌+◌, ◌≤◌, ◌++◌, length, filter}
use Rattle.blif_lines.specs.Lines.{word_lines, pieces, is_line_feed, has_words, lines_of}
use Rattle.blif_lines.proofs.lines.logical_lines.Given as goal

-- the lines so far, and those of the rest, are all
abbrev pub invariant-loop-rest : goal.invariant-loop-rest
invariant-loop-rest l = (l.lines ++ filter has_words (word_lines l.number (pieces is_line_feed l.rest)) ≡ lines_of l.bytes) × (l.number + length l.rest ≤ 67108865)

abbrev pub decreases-loop-rest : goal.decreases-loop-rest
decreases-loop-rest l = length l.rest
