-- How written lines of plain words are read back.
use Rattle.std.proofs.Common.{◌+◌, take, append-nil, length-append, ℕ, zero, suc, ◌-◌, ◌<◌, ◌≡◌, refl, ap, ◌∙◌, List, [], ◌∷◌, ◌++◌, length, filter, map, get_or, arith, Bool, true, false, if◌then◌else◌, nat_eq, All}
use Rattle.std.proofs.lemmas.List.Elements.{All-cons, All-nil, All-head, All-tail, All-append, All-weaker}
use Rattle.ste_base.specs.Bytes.{is_blank}
use Rattle.blif_lines.specs.Lines.{pieces, before, is_line_feed, is_hash, trimmed_text, unless_last, without_last, joined_lines, treated_line, words_of, is_filled, is_continued, has_words, word_lines}
use Rattle.blif_lines.specs.Laws.{text_of_lines, IsPlain, IsBehind, Part, IsPart, text_of_words, written_line, written_lines, all_words, numbered_lines, WrittenLinesAreReadBack}
use Rattle.blif_lines.proofs.Physical.{IsFree}
use Rattle.blif_lines.proofs.Words.{with_front, front_words}

free_head : (cuts : ℕ → Bool) (b : ℕ) (text : List ℕ) → IsFree cuts (b ∷ text) → cuts b ≡ false
free_head cuts b text h = All-head (λ x. cuts x ≡ false) b text h

free_tail : (cuts : ℕ → Bool) (b : ℕ) (text : List ℕ) → IsFree cuts (b ∷ text) → IsFree cuts text
free_tail cuts b text h = All-tail (λ x. cuts x ≡ false) b text h

-- a piece up to the byte that ends it
first_of : (cuts : ℕ → Bool) (c : ℕ) (piece rest : List ℕ) → cuts c ≡ true → IsFree cuts piece → pieces cuts (piece ++ c ∷ rest) ≡ piece ∷ pieces cuts rest
first_of cuts c [] rest e h = rw e refl
first_of cuts c (b ∷ piece) rest e h = rw (free_head cuts b piece h) (rw (first_of cuts c piece rest e (free_tail cuts b piece h)) refl)

-- a piece up to the end of the text
only_of : (cuts : ℕ → Bool) (b : ℕ) (piece : List ℕ) → IsFree cuts (b ∷ piece) → pieces cuts (b ∷ piece) ≡ (b ∷ piece) ∷ []
only_of cuts b [] h = rw (free_head cuts b [] h) refl
only_of cuts b (x ∷ piece) h = rw (free_head cuts b (x ∷ piece) h) (rw (only_of cuts x piece (free_tail cuts b (x ∷ piece) h)) refl)

before_all : (cuts : ℕ → Bool) (text : List ℕ) → IsFree cuts text → before cuts text ≡ text
before_all cuts [] h = refl
before_all cuts (b ∷ text) h = rw (free_head cuts b text h) (ap (λ t. b ∷ t) (before_all cuts text (free_tail cuts b text h)))

-- a text whose bytes are no backslashes does not end with one
get_free : (text : List ℕ) (i : ℕ) → IsFree (λ b. nat_eq b 92) text → nat_eq (get_or text i 0) 92 ≡ false
get_free [] i h = refl
get_free (b ∷ text) zero h = free_head (λ x. nat_eq x 92) b text h
get_free (b ∷ text) (suc i) h = get_free text i (free_tail (λ x. nat_eq x 92) b text h)

-- a word without blanks has none at its end
trimmed_word : (b : ℕ) (word : List ℕ) → IsFree is_blank (b ∷ word) → trimmed_text (b ∷ word) ≡ b ∷ word
trimmed_word b [] h = rw (free_head is_blank b [] h) refl
trimmed_word b (x ∷ word) h = ap (unless_last b) (trimmed_word x word (free_tail is_blank b (x ∷ word) h))

trimmed_after : (front : List ℕ) (b : ℕ) (text : List ℕ) → trimmed_text (b ∷ text) ≡ b ∷ text → trimmed_text (front ++ b ∷ text) ≡ front ++ b ∷ text
trimmed_after [] b text e = e
trimmed_after (x ∷ []) b text e = ap (unless_last x) e
trimmed_after (x ∷ y ∷ front) b text e = ap (unless_last x) (trimmed_after (y ∷ front) b text e)

unless_more : (b : ℕ) (text : List ℕ) → 0 < length text → unless_last b text ≡ b ∷ text
unless_more b [] h = absurd (omega (arith, h))
unless_more b (x ∷ text) h = refl

-- a word of at least one byte, and plain bytes alone
abbrev IsPlainWord : List ℕ → Type 0
IsPlainWord word = (0 < length word) × All IsPlain word

free_word : (cuts : ℕ → Bool) → ((b : ℕ) → IsPlain b → cuts b ≡ false) → (word : List ℕ) → All IsPlain word → IsFree cuts word
free_word cuts pick word h = All-weaker IsPlain (λ x. cuts x ≡ false) pick word h

-- what holds of plain bytes and the space holds of plain words with spaces between
free_spaced : (cuts : ℕ → Bool) → ((b : ℕ) → IsPlain b → cuts b ≡ false) → cuts 32 ≡ false → (words : List (List ℕ)) → All IsPlainWord words → IsFree cuts (text_of_words words)
free_spaced cuts pick e [] h = All-nil (λ x. cuts x ≡ false)
free_spaced cuts pick e (word ∷ []) h = free_word cuts pick word (All-head IsPlainWord word [] h).1
free_spaced cuts pick e (word ∷ next ∷ words) h = All-append (λ x. cuts x ≡ false) word (32 ∷ text_of_words (next ∷ words)) (free_word cuts pick word (All-head IsPlainWord word (next ∷ words) h).1) (All-cons (λ x. cuts x ≡ false) 32 (text_of_words (next ∷ words)) e (free_spaced cuts pick e (next ∷ words) (All-tail IsPlainWord word (next ∷ words) h)))

spaced_some : (word : List ℕ) (words : List (List ℕ)) → 0 < length word → 0 < length (text_of_words (word ∷ words))
spaced_some [] words h = absurd (omega (arith, h))
spaced_some (b ∷ word) [] h = h
spaced_some (b ∷ word) (next ∷ words) h = omega arith

trimmed_spaced : (words : List (List ℕ)) → All IsPlainWord words → trimmed_text (text_of_words words) ≡ text_of_words words
trimmed_spaced [] h = refl
trimmed_spaced ([] ∷ words) h = absurd (omega (arith, (All-head IsPlainWord [] words h).0))
trimmed_spaced ((b ∷ word) ∷ []) h = trimmed_word b word (free_word is_blank (λ x p. p.0) (b ∷ word) (All-head IsPlainWord (b ∷ word) [] h).1)
trimmed_spaced ((b ∷ word) ∷ next ∷ words) h =
    let rest = All-tail IsPlainWord (b ∷ word) (next ∷ words) h in
    trimmed_after (b ∷ word) 32 (text_of_words (next ∷ words)) (ap (unless_last 32) (trimmed_spaced (next ∷ words) rest) ∙ unless_more 32 (text_of_words (next ∷ words)) (spaced_some next words (All-head IsPlainWord next words rest).0))

words_spaced : (words : List (List ℕ)) → All IsPlainWord words → words_of (text_of_words words) ≡ words
words_spaced [] h = refl
words_spaced ([] ∷ words) h = absurd (omega (arith, (All-head IsPlainWord [] words h).0))
words_spaced ((b ∷ word) ∷ []) h = ap (filter is_filled) (only_of is_blank b word (free_word is_blank (λ x p. p.0) (b ∷ word) (All-head IsPlainWord (b ∷ word) [] h).1))
words_spaced ((b ∷ word) ∷ next ∷ words) h = ap (filter is_filled) (first_of is_blank 32 (b ∷ word) (text_of_words (next ∷ words)) refl (free_word is_blank (λ x p. p.0) (b ∷ word) (All-head IsPlainWord (b ∷ word) (next ∷ words) h).1)) ∙ ap (λ l. (b ∷ word) ∷ l) (words_spaced (next ∷ words) (All-tail IsPlainWord (b ∷ word) (next ∷ words) h))

before_after : (cuts : ℕ → Bool) (text behind : List ℕ) → IsFree cuts text → before cuts (text ++ behind) ≡ text ++ before cuts behind
before_after cuts [] behind h = refl
before_after cuts (b ∷ text) behind h = rw (free_head cuts b text h) (ap (λ t. b ∷ t) (before_after cuts text behind (free_tail cuts b text h)))

trimmed_blanks : (blanks : List ℕ) → All (λ b. is_blank b ≡ true) blanks → trimmed_text blanks ≡ []
trimmed_blanks [] h = refl
trimmed_blanks (b ∷ blanks) h = rw (trimmed_blanks blanks (All-tail (λ x. is_blank x ≡ true) b blanks h)) (rw (All-head (λ x. is_blank x ≡ true) b blanks h) refl)

trimmed_more : (text blanks : List ℕ) → All (λ b. is_blank b ≡ true) blanks → trimmed_text (text ++ blanks) ≡ trimmed_text text
trimmed_more [] blanks h = trimmed_blanks blanks h
trimmed_more (b ∷ text) blanks h = ap (unless_last b) (trimmed_more text blanks h)

-- blanks and a comment are cut away
treated_behind : (text behind : List ℕ) → IsFree is_hash text → trimmed_text text ≡ text → IsBehind behind → treated_line (text ++ behind) ≡ text
treated_behind text behind h t e = rw (before_after is_hash text behind h) (trimmed_more text (before is_hash behind) e.1 ∙ t)

-- a physical line of plain words that is not continued
line_alone : (n : ℕ) (text line : List ℕ) (lines : List (List ℕ)) → treated_line text ≡ line → is_continued line ≡ false → word_lines n (text ∷ lines) ≡ record { number = n; words = words_of line } ∷ word_lines (suc n) lines
line_alone n text line lines t e = rw t (rw e refl)

-- a physical line that is continued
line_open : (n : ℕ) (text line front : List ℕ) (lines : List (List ℕ)) → treated_line text ≡ line → is_continued line ≡ true → without_last line ≡ front → word_lines n (text ∷ lines) ≡ with_front n (words_of front) (word_lines (suc n) lines)
line_open n text line front lines t e f = rw t (rw e (rw f (front_words n front (joined_lines (suc n) (map treated_line lines)))))

-- the bytes at the end of a continued line
last_at : (front : List ℕ) (i : ℕ) → i ≡ length front → get_or (front ++ 92 ∷ []) i 0 ≡ 92
last_at [] i e = rw e refl
last_at (b ∷ front) zero e = absurd (omega (arith, e))
last_at (b ∷ front) (suc i) e = last_at front i (omega (arith, e))

front_at : (front : List ℕ) (i : ℕ) → i ≡ length front → take i (front ++ 92 ∷ []) ≡ front
front_at [] i e = rw e refl
front_at (b ∷ front) zero e = absurd (omega (arith, e))
front_at (b ∷ front) (suc i) e = ap (λ t. b ∷ t) (front_at front i (omega (arith, e)))

end_at : (front : List ℕ) → length (front ++ 92 ∷ []) - 1 ≡ length front
end_at front = rw (length-append front (92 ∷ [])) (omega arith)

free_open : (words : List (List ℕ)) → All IsPlainWord words → IsFree is_hash (text_of_words words ++ 92 ∷ [])
free_open words h = All-append (λ x. is_hash x ≡ false) (text_of_words words) (92 ∷ []) (free_spaced is_hash (λ x p. p.2) refl words h) (All-cons (λ x. is_hash x ≡ false) 92 [] refl (All-nil (λ x. is_hash x ≡ false)))

-- the physical lines of one logical line are read as that line
parts_read : (n : ℕ) (part : Part) (parts : List Part) (rest : List (List ℕ)) → All IsPart (part ∷ parts) → word_lines n (written_line (part ∷ parts) ++ rest) ≡ record { number = n; words = all_words (part ∷ parts) } ∷ word_lines (n + length (part ∷ parts)) rest
parts_read n part [] rest h =
    let p = All-head IsPart part [] h in
    let next : n + 1 ≡ suc n = omega arith in
    rw next (rw (append-nil part.words) (line_alone n (text_of_words part.words ++ part.behind) (text_of_words part.words) rest (treated_behind (text_of_words part.words) part.behind (free_spaced is_hash (λ x q. q.2) refl part.words p.0) (trimmed_spaced part.words p.0) p.1) (get_free (text_of_words part.words) (length (text_of_words part.words) - 1) (free_spaced (λ b. nat_eq b 92) (λ x q. q.3) refl part.words p.0)) ∙ ap (λ w. record { number = n; words = w } ∷ word_lines (suc n) rest) (words_spaced part.words p.0)))
parts_read n part (other ∷ parts) rest h =
    let p = All-head IsPart part (other ∷ parts) h in
    let line = text_of_words part.words ++ 92 ∷ [] in
    let next : n + suc (suc (length parts)) ≡ suc n + suc (length parts) = omega arith in
    rw next (line_open n (line ++ part.behind) line (text_of_words part.words) (written_line (other ∷ parts) ++ rest) (treated_behind line part.behind (free_open part.words p.0) (trimmed_after (text_of_words part.words) 92 [] refl) p.1) (ap (λ b. nat_eq b 92) (last_at (text_of_words part.words) (length line - 1) (end_at (text_of_words part.words)))) (front_at (text_of_words part.words) (length line - 1) (end_at (text_of_words part.words))) ∙ ap (λ w. with_front n w (word_lines (suc n) (written_line (other ∷ parts) ++ rest))) (words_spaced part.words p.0) ∙ ap (with_front n part.words) (parts_read (suc n) other parts rest (All-tail IsPart part (other ∷ parts) h)))

lines_read : (n : ℕ) (lines : List (List Part)) → All (λ parts. All IsPart parts) lines → filter has_words (word_lines n (written_lines lines)) ≡ filter has_words (numbered_lines n lines)
lines_read n [] h = refl
lines_read n ([] ∷ lines) h =
    let same : n + 0 ≡ n = omega arith in
    rw same (lines_read n lines (All-tail (λ parts. All IsPart parts) [] lines h))
lines_read n ((part ∷ parts) ∷ lines) h = rw (parts_read n part parts (written_lines lines) (All-head (λ ps. All IsPart ps) (part ∷ parts) lines h)) (ap (λ l. if has_words (record { number = n; words = all_words (part ∷ parts) }) then record { number = n; words = all_words (part ∷ parts) } ∷ l else l) (lines_read (n + length (part ∷ parts)) lines (All-tail (λ ps. All IsPart ps) (part ∷ parts) lines h)))

-- lines without line feeds, each with one behind it, are the physical lines of what they make
ended_pieces : (lines : List (List ℕ)) → All (IsFree is_line_feed) lines → pieces is_line_feed (text_of_lines lines) ≡ lines
ended_pieces [] h = refl
ended_pieces (line ∷ lines) h = first_of is_line_feed 10 line (text_of_lines lines) refl (All-head (IsFree is_line_feed) line lines h) ∙ ap (λ l. line ∷ l) (ended_pieces lines (All-tail (IsFree is_line_feed) line lines h))

fed_spaced : (words : List (List ℕ)) → All IsPlainWord words → IsFree is_line_feed (text_of_words words)
fed_spaced words h = free_spaced is_line_feed (λ x p. p.1) refl words h

fed_open : (words : List (List ℕ)) → All IsPlainWord words → IsFree is_line_feed (text_of_words words ++ 92 ∷ [])
fed_open words h = All-append (λ x. is_line_feed x ≡ false) (text_of_words words) (92 ∷ []) (fed_spaced words h) (All-cons (λ x. is_line_feed x ≡ false) 92 [] refl (All-nil (λ x. is_line_feed x ≡ false)))

written_free : (parts : List Part) → All IsPart parts → All (IsFree is_line_feed) (written_line parts)
written_free [] h = All-nil (IsFree is_line_feed)
written_free (part ∷ []) h =
    let p = All-head IsPart part [] h in
    All-cons (IsFree is_line_feed) (text_of_words part.words ++ part.behind) [] (All-append (λ x. is_line_feed x ≡ false) (text_of_words part.words) part.behind (fed_spaced part.words p.0) p.1.0) (All-nil (IsFree is_line_feed))
written_free (part ∷ other ∷ parts) h =
    let p = All-head IsPart part (other ∷ parts) h in
    All-cons (IsFree is_line_feed) (text_of_words part.words ++ 92 ∷ [] ++ part.behind) (written_line (other ∷ parts)) (All-append (λ x. is_line_feed x ≡ false) (text_of_words part.words ++ 92 ∷ []) part.behind (fed_open part.words p.0) p.1.0) (written_free (other ∷ parts) (All-tail IsPart part (other ∷ parts) h))

all_free : (lines : List (List Part)) → All (λ parts. All IsPart parts) lines → All (IsFree is_line_feed) (written_lines lines)
all_free [] h = All-nil (IsFree is_line_feed)
all_free (parts ∷ lines) h = All-append (IsFree is_line_feed) (written_line parts) (written_lines lines) (written_free parts (All-head (λ ps. All IsPart ps) parts lines h)) (all_free lines (All-tail (λ ps. All IsPart ps) parts lines h))

pub read_back : WrittenLinesAreReadBack
read_back lines h = rw (ended_pieces (written_lines lines) (all_free lines h)) (lines_read 1 lines h)
