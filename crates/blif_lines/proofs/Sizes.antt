-- How long the parts of a text are.
use Rattle.std.proofs.Common.{ℕ, sum_by, suc, ◌+◌, ◌-◌, ◌<◌, ◌≤◌, ◌≡◌, refl, List, [], ◌∷◌, ◌++◌, length, filter, map, arith, Bool, true, false, if◌then◌else◌, length-append, length-take, All, nat_eq, not}
use Rattle.std.proofs.lemmas.List.Elements.{All-cons, All-nil}
use Rattle.std.proofs.lemmas.List.Sums.{sum_by-cons, length-filter, count_by-le-length}
use Rattle.blif_lines.specs.declared.lines.Line.{Line}
use Rattle.ste_base.specs.Bytes.{is_blank}
use Rattle.blif_lines.specs.Lines.{before, pieces, onto_first, is_hash, is_line_feed, trimmed_text, unless_last, treated_line, words_of, is_filled, Numbered, onto_next, joined_lines, is_continued, without_last, line_of, has_words}
use Rattle.blif_lines.specs.Laws.{LinesFitTheText}
use Rattle.blif_lines.proofs.Scanning.{before_short}

-- the number of bytes in all of these lines
abbrev size : List (List ℕ) → ℕ
size [] = 0
size (line ∷ lines) = length line + size lines

-- the number of bytes in all of these numbered texts
abbrev total : List Numbered → ℕ
total [] = 0
total (line ∷ lines) = length line.text + total lines

onto_size : (b : ℕ) (lines : List (List ℕ)) → size (onto_first b lines) ≡ suc (size lines)
onto_size b [] = refl
onto_size b (line ∷ lines) = omega arith

onto_count : (b n : ℕ) (lines : List (List ℕ)) → length lines ≤ n → length (onto_first b lines) ≤ suc n
onto_count b n [] h = omega arith
onto_count b n (line ∷ lines) h = omega (arith, h)

piece_size : (c : Bool) (b n : ℕ) (lines : List (List ℕ)) → size lines ≤ n → size (if c then [] ∷ lines else onto_first b lines) ≤ suc n
piece_size true b n lines h = omega (arith, h)
piece_size false b n lines h = rw (onto_size b lines) (omega (arith, h))

pieces_size : (cuts : ℕ → Bool) (text : List ℕ) → size (pieces cuts text) ≤ length text
pieces_size cuts [] = omega arith
pieces_size cuts (b ∷ text) = piece_size (cuts b) b (length text) (pieces cuts text) (pieces_size cuts text)

piece_count : (c : Bool) (b n : ℕ) (lines : List (List ℕ)) → length lines ≤ n → length (if c then [] ∷ lines else onto_first b lines) ≤ suc n
piece_count true b n lines h = omega (arith, h)
piece_count false b n lines h = onto_count b n lines h

pieces_count : (cuts : ℕ → Bool) (text : List ℕ) → length (pieces cuts text) ≤ length text
pieces_count cuts [] = omega arith
pieces_count cuts (b ∷ text) = piece_count (cuts b) b (length text) (pieces cuts text) (pieces_count cuts text)

words_count : (text : List ℕ) → length (words_of text) ≤ length text
words_count text = rw (length-filter is_filled (pieces is_blank text)) (omega (arith, count_by-le-length is_filled (pieces is_blank text), pieces_count is_blank text))

last_short : (c : Bool) (b : ℕ) → length (if c then [] else b ∷ []) ≤ 1
last_short true b = omega arith
last_short false b = omega arith

unless_short : (b n : ℕ) (text : List ℕ) → length text ≤ n → length (unless_last b text) ≤ suc n
unless_short b n [] h = omega (arith, last_short (is_blank b) b)
unless_short b n (next ∷ text) h = omega (arith, h)

trimmed_short : (text : List ℕ) → length (trimmed_text text) ≤ length text
trimmed_short [] = omega arith
trimmed_short (b ∷ text) = unless_short b (length text) (trimmed_text text) (trimmed_short text)

treated_size : (lines : List (List ℕ)) → size (map treated_line lines) ≤ size lines
treated_size [] = omega arith
treated_size (line ∷ lines) = omega (arith, trimmed_short (before is_hash line), before_short is_hash line, treated_size lines)

onto_total : (n : ℕ) (text : List ℕ) (lines : List Numbered) → total (onto_next n text lines) ≡ length text + total lines
onto_total n text [] = refl
onto_total n text (line ∷ lines) = rw (length-append text line.text) (omega arith)

space_for_last : (b : ℕ) (line : List ℕ) → length (without_last (b ∷ line) ++ 32 ∷ []) ≡ suc (length line)
space_for_last b line = rw (length-append (without_last (b ∷ line)) (32 ∷ [])) (rw (length-take (length (b ∷ line) - 1) (b ∷ line)) (omega arith))

join_total : (c : Bool) (b n m : ℕ) (line : List ℕ) (lines : List Numbered) → total lines ≤ m → total (if c then onto_next n (without_last (b ∷ line) ++ 32 ∷ []) lines else record { number = n; text = b ∷ line } ∷ lines) ≤ suc (length line) + m
join_total true b n m line lines h = rw (onto_total n (without_last (b ∷ line) ++ 32 ∷ []) lines) (omega (arith, space_for_last b line, h))
join_total false b n m line lines h = omega (arith, h)

joined_total : (n : ℕ) (lines : List (List ℕ)) → total (joined_lines n lines) ≤ size lines
joined_total n [] = omega arith
joined_total n ([] ∷ lines) = omega (arith, joined_total (suc n) lines)
joined_total n ((b ∷ line) ∷ lines) = join_total (is_continued (b ∷ line)) b n (size lines) line (joined_lines (suc n) lines) (joined_total (suc n) lines)

-- it has a word, and at most m of them
abbrev IsWithin : ℕ → Line → Type 0
IsWithin m line = (0 < length line.words) × (length line.words ≤ m)

keep_one : (m : ℕ) (n : ℕ) (words : List (List ℕ)) (lines : List Line) → length words ≤ m → All (IsWithin m) lines → All (IsWithin m) (if not (nat_eq (length words) 0) then record { number = n; words = words } ∷ lines else lines)
keep_one m n [] lines h rest = rest
keep_one m n (word ∷ words) lines h rest =
    let e : nat_eq (suc (length words)) 0 ≡ false = grind arith in
    rw e (All-cons (IsWithin m) (record { number = n; words = word ∷ words }) lines (omega arith, h) rest)

kept : (m : ℕ) (lines : List Numbered) → total lines ≤ m → All (IsWithin m) (filter has_words (map line_of lines))
kept m [] h = All-nil (IsWithin m)
kept m (line ∷ lines) h = keep_one m line.number (words_of line.text) (filter has_words (map line_of lines)) (omega (arith, h, words_count line.text)) (kept m lines (omega (arith, h)))

keep_sum : (n a b : ℕ) (words : List (List ℕ)) (lines : List Line) → length words ≤ a → sum_by (λ line. length line.words) lines ≤ b → sum_by (λ line. length line.words) (if not (nat_eq (length words) 0) then record { number = n; words = words } ∷ lines else lines) ≤ a + b
keep_sum n a b [] lines h s = omega (arith, s)
keep_sum n a b (word ∷ words) lines h s =
    let e : nat_eq (suc (length words)) 0 ≡ false = grind arith in
    rw e (rw (sum_by-cons (λ line. length line.words) (record { number = n; words = word ∷ words }) lines) (omega (arith, h, s)))

kept_sum : (lines : List Numbered) → sum_by (λ line. length line.words) (filter has_words (map line_of lines)) ≤ total lines
kept_sum [] = omega arith
kept_sum (line ∷ lines) = keep_sum line.number (length line.text) (total lines) (words_of line.text) (filter has_words (map line_of lines)) (words_count line.text) (kept_sum lines)

-- the joined lines of a text have no more bytes than the text
joined_fit : (text : List ℕ) → total (joined_lines 1 (map treated_line (pieces is_line_feed text))) ≤ length text
joined_fit text = omega (arith, joined_total 1 (map treated_line (pieces is_line_feed text)), treated_size (pieces is_line_feed text), pieces_size is_line_feed text)

pub lines_fit : LinesFitTheText
lines_fit text =
    let lines = joined_lines 1 (map treated_line (pieces is_line_feed text)) in
    (kept (length text) lines (joined_fit text), omega (arith, kept_sum lines, joined_fit text))
