-- The lines of a text have no more words than may be read.
use Rattle.std.proofs.Common.{ℕ, ◌<◌, ◌≡◌, ◌^◌, sym, subst, List, length, All, arith}
use Rattle.blif_lines.specs.declared.lines.Line.{Line}
use Rattle.blif_lines.specs.Lines.{lines_of}
use Rattle.blif_lines.proofs.Sizes.{lines_fit}

-- what `read_models` asks of the lines of a text
pub words_fit : (text : List ℕ) (lines : List Line) → lines ≡ lines_of text → length text < 2 ^ 32 → All (λ line. length line.words < 2 ^ 32) lines
words_fit text lines e h =
    subst (λ ls. All (λ line. length line.words < 2 ^ 32) ls) (sym e)
    (λ k d below. let f = (lines_fit text).0 k d below in omega (arith, f.1, h))
