-- Laws: what holds of the lines of any text.
use Rattle.std.specs.Prelude.{ℕ, true, ◌+◌, filter, sum_by, nat_eq, ◌<◌, ◌≤◌, ◌≡◌, List, [], ◌∷◌, ◌++◌, length, All, Bool, false, if◌then◌else◌, not}
use Rattle.blif_lines.specs.declared.lines.Line.{Line}
use Rattle.ste_base.specs.Bytes.{backslash, is_blank, line_feed, space}
use Rattle.blif_lines.specs.Lines.{pieces, before, is_line_feed, is_hash, has_words, lines_of}

-- these lines, each with a line feed behind it
abbrev pub text_of_lines : List (List ℕ) → List ℕ
text_of_lines [] = []
text_of_lines (line ∷ lines) = line ++ line_feed ∷ text_of_lines lines

-- the text has a last byte, which is no line feed
abbrev pub lacks_end : List ℕ → Bool
lacks_end [] = false
lacks_end (byte ∷ []) = not (is_line_feed byte)
lacks_end (byte ∷ next ∷ text) = lacks_end (next ∷ text)

-- the physical lines have no line feed; with one behind each they are the text, whose last line is
-- ended where it was not
abbrev pub PhysicalLinesAreTheText : Type 0
PhysicalLinesAreTheText =
    (text : List ℕ) →
    All (λ line. All (λ byte. is_line_feed byte ≡ false) line) (pieces is_line_feed text)
    × (text_of_lines (pieces is_line_feed text) ≡ (if lacks_end text then text ++ line_feed ∷ []
    else text))

-- each logical line has a word, and all lines together have no more words than the text has bytes
abbrev pub LinesFitTheText : Type 0
LinesFitTheText =
    (text : List ℕ) → All (λ line. (0 < length line.words)
    × (length line.words ≤ length text)) (lines_of text)
    × (sum_by (λ line. length line.words) (lines_of text) ≤ length text)

-- a byte that is no blank, line feed, `#` or backslash
abbrev pub IsPlain : ℕ → Type 0
IsPlain byte = (is_blank byte ≡ false) × (is_line_feed byte ≡ false) × (is_hash byte ≡ false)
    × (nat_eq byte backslash ≡ false)

-- words of plain bytes alone, with at least one byte each
abbrev pub ArePlain : List (List ℕ) → Type 0
ArePlain words = All (λ word. (0 < length word) × All IsPlain word) words

-- no line feed, and blanks alone before the first `#`
abbrev pub IsBehind : List ℕ → Type 0
IsBehind text = All (λ byte. is_line_feed byte ≡ false) text
    × All (λ byte. is_blank byte ≡ true) (before is_hash text)

-- what one physical line brings to a logical line: words, and what stands behind them
pub record Part : Type 0 where
  pub words : List (List ℕ)
  pub behind : List ℕ

-- plain words, with blanks or a comment behind them
abbrev pub IsPart : Part → Type 0
IsPart part = ArePlain part.words × IsBehind part.behind

-- these words with a space between
abbrev pub text_of_words : List (List ℕ) → List ℕ
text_of_words [] = []
text_of_words (word ∷ []) = word
text_of_words (word ∷ next ∷ words) = word ++ space ∷ text_of_words (next ∷ words)

-- the physical lines of a logical line: all but the last have a backslash right after their words
abbrev pub written_line : List Part → List (List ℕ)
written_line [] = []
written_line (part ∷ []) = (text_of_words part.words ++ part.behind) ∷ []
written_line (part ∷ next ∷ parts) = (text_of_words part.words ++ backslash ∷ [] ++ part.behind)
    ∷ written_line (next ∷ parts)

-- the physical lines of several logical lines
abbrev pub written_lines : List (List Part) → List (List ℕ)
written_lines [] = []
written_lines (parts ∷ lines) = written_line parts ++ written_lines lines

-- the words of all parts
abbrev pub all_words : List Part → List (List ℕ)
all_words [] = []
all_words (part ∷ parts) = part.words ++ all_words parts

-- these logical lines, with the numbers of their first physical lines, which are counted from n on
abbrev pub numbered_lines : ℕ → List (List Part) → List Line
numbered_lines n [] = []
numbered_lines n (parts ∷ lines) =
    record { number = n; words = all_words parts } ∷ numbered_lines (n + length parts) lines

-- logical lines of plain words, each written on one or more physical lines with blanks and
-- comments, are read back
abbrev pub WrittenLinesAreReadBack : Type 0
WrittenLinesAreReadBack =
    (lines : List (List Part)) → All (λ parts. All IsPart parts) lines →
    lines_of (text_of_lines (written_lines lines)) ≡ filter has_words (numbered_lines 1 lines)
