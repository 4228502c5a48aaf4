-- Meaning. The logical lines of a text, as netlists, task files and input files are read by. The
-- rules are this project's own choice, after the Berkeley description of BLIF.
use Rattle.std.specs.Prelude.{ℕ, suc, ◌-◌, List, [], ◌∷◌, ◌++◌, length, map, filter, take, get_or, Bool, true, false, if◌then◌else◌, nat_eq, not}
use Rattle.ste_base.specs.Bytes.{backslash, hash_sign, is_blank, line_feed, space}
use Rattle.blif_lines.specs.declared.lines.Line.{Line}

-- the byte that ends a physical line
abbrev pub is_line_feed : ℕ → Bool
is_line_feed byte = nat_eq byte line_feed

-- the byte from which on a physical line is a comment
abbrev pub is_hash : ℕ → Bool
is_hash byte = nat_eq byte hash_sign

-- these pieces, with one more byte at the head of the first
abbrev pub onto_first : ℕ → List (List ℕ) → List (List ℕ)
onto_first byte [] = (byte ∷ []) ∷ []
onto_first byte (piece ∷ pieces) = (byte ∷ piece) ∷ pieces

-- the text cut at each byte that passes, which is in no piece; an empty last piece does not count
abbrev pub pieces : (ℕ → Bool) → List ℕ → List (List ℕ)
pieces cuts [] = []
pieces cuts (byte ∷ text) =
    if cuts byte then [] ∷ pieces cuts text else onto_first byte (pieces cuts text)

-- what stands before the first byte that passes, or the whole text
abbrev pub before : (ℕ → Bool) → List ℕ → List ℕ
before cuts [] = []
before cuts (byte ∷ text) = if cuts byte then [] else byte ∷ before cuts text

-- the byte before this text, but nothing where a blank would be all there is
abbrev pub unless_last : ℕ → List ℕ → List ℕ
unless_last byte [] = if is_blank byte then [] else byte ∷ []
unless_last byte (next ∷ text) = byte ∷ next ∷ text

-- the text without the blanks at its end
abbrev pub trimmed_text : List ℕ → List ℕ
trimmed_text [] = []
trimmed_text (byte ∷ text) = unless_last byte (trimmed_text text)

-- a physical line: first its comment is cut away, then the blanks at the end of what is left
abbrev pub treated_line : List ℕ → List ℕ
treated_line line = trimmed_text (before is_hash line)

-- the text ends with a backslash, and so the next line is joined to it
abbrev pub is_continued : List ℕ → Bool
is_continued text = nat_eq (get_or text (length text - 1) 0) backslash

-- the text without its last byte
abbrev pub without_last : List ℕ → List ℕ
without_last text = take (length text - 1) text

-- a text, and the number of the physical line where it begins
pub record Numbered : Type 0 where
  pub number : ℕ
  pub text : List ℕ

-- these lines, with a text from line n at the head of the first; where there is none, that text
-- alone
abbrev pub onto_next : ℕ → List ℕ → List Numbered → List Numbered
onto_next n text [] = record { number = n; text = text } ∷ []
onto_next n text (next ∷ lines) = record { number = n; text = text ++ next.text } ∷ lines

-- the treated physical lines from number n on; the backslash at the end of one becomes a space, and
-- the next is joined
abbrev pub joined_lines : ℕ → List (List ℕ) → List Numbered
joined_lines n [] = []
joined_lines n (line ∷ lines) = if is_continued line
    then onto_next n (without_last line ++ space ∷ []) (joined_lines (suc n) lines)
    else record { number = n; text = line } ∷ joined_lines (suc n) lines

-- there is a byte in the text
abbrev pub is_filled : List ℕ → Bool
is_filled [] = false
is_filled (byte ∷ text) = true

-- the words of a text, parted by runs of blanks
abbrev pub words_of : List ℕ → List (List ℕ)
words_of text = filter is_filled (pieces is_blank text)

-- a numbered text, as its number and its words
abbrev pub line_of : Numbered → Line
line_of line = record { number = line.number; words = words_of line.text }

-- there is a word in the line
abbrev pub has_words : Line → Bool
has_words line = not (nat_eq (length line.words) 0)

-- the logical lines of these physical lines, which are numbered from n on, those without words too
abbrev pub word_lines : ℕ → List (List ℕ) → List Line
word_lines n lines = map line_of (joined_lines n (map treated_line lines))

-- the logical lines of a text: its physical lines are numbered from 1, and lines without words are
-- passed over
abbrev pub lines_of : List ℕ → List Line
lines_of text = filter has_words (word_lines 1 (pieces is_line_feed text))
