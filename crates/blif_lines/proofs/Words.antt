-- How a logical line grows.
use Rattle.std.proofs.Common.{ℕ, suc, ◌+◌, ◌<◌, ◌≤◌, ◌≡◌, refl, ap, sym, ◌∙◌, List, [], ◌∷◌, ◌++◌, length, filter, map, take, drop, arith, Bool, true, false, if◌then◌else◌, append_assoc, append-nil, length-drop, ◌⊎◌, inl, inr, Option, unwrap_or}
use Rattle.std.specs.List.{position}
use Rattle.std.proofs.lemmas.List.Elements.{filter-append}
use Rattle.blif_lines.specs.declared.lines.Line.{Line}
use Rattle.ste_base.specs.Bytes.{is_blank}
use Rattle.blif_lines.specs.Lines.{pieces, before, onto_first, is_filled, words_of, Numbered, onto_next, joined_lines, is_continued, without_last, is_line_feed, treated_line, line_of, word_lines}
use Rattle.blif_lines.proofs.Scanning.{first_piece, place, front}

-- the words before the first of these lines, which takes its number
abbrev pub with_front : ℕ → List (List ℕ) → List Line → List Line
with_front n words [] = record { number = n; words = words } ∷ []
with_front n words (line ∷ lines) = record { number = n; words = words ++ line.words } ∷ lines

-- one more byte in front
goes_more : (c : Bool) (x : ℕ) (whole part back more : List (List ℕ)) (front : List ℕ) → part ≡ front ∷ more → whole ≡ part ++ back → (if c then [] ∷ whole else onto_first x whole) ≡ (if c then [] ∷ part else onto_first x part) ++ back
goes_more true x whole part back more front p e = ap (λ l. [] ∷ l) e
goes_more false x whole part back more front p e = rw e (rw p refl)

-- what the pieces are of two texts with a blank between them
abbrev Goes : List ℕ → List ℕ → Type 0
Goes a b = (pieces is_blank (a ++ 32 ∷ b) ≡ pieces is_blank a ++ pieces is_blank b) ⊎ (pieces is_blank (a ++ 32 ∷ b) ≡ pieces is_blank a ++ [] ∷ pieces is_blank b)

goes_one : (c : Bool) (x : ℕ) (all : List (List ℕ)) → ((if c then [] ∷ [] ∷ all else (x ∷ []) ∷ all) ≡ (if c then [] ∷ [] else (x ∷ []) ∷ []) ++ all) ⊎ ((if c then [] ∷ [] ∷ all else (x ∷ []) ∷ all) ≡ (if c then [] ∷ [] else (x ∷ []) ∷ []) ++ [] ∷ all)
goes_one true x all = inr refl
goes_one false x all = inl refl

goes_either : (x y : ℕ) (a b : List ℕ) → Goes (y ∷ a) b → Goes (x ∷ y ∷ a) b
goes_either x y a b (inl e) = inl (goes_more (is_blank x) x (pieces is_blank ((y ∷ a) ++ 32 ∷ b)) (pieces is_blank (y ∷ a)) (pieces is_blank b) _ _ (first_piece is_blank (y ∷ a) (omega arith)) e)
goes_either x y a b (inr e) = inr (goes_more (is_blank x) x (pieces is_blank ((y ∷ a) ++ 32 ∷ b)) (pieces is_blank (y ∷ a)) ([] ∷ pieces is_blank b) _ _ (first_piece is_blank (y ∷ a) (omega arith)) e)

goes : (a b : List ℕ) → Goes a b
goes [] b = inr refl
goes (x ∷ []) b = goes_one (is_blank x) x (pieces is_blank b)
goes (x ∷ y ∷ a) b = goes_either x y a b (goes (y ∷ a) b)

words_either : (a b : List ℕ) → Goes a b → words_of (a ++ 32 ∷ b) ≡ words_of a ++ words_of b
words_either a b (inl e) = ap (filter is_filled) e ∙ filter-append is_filled (pieces is_blank a) (pieces is_blank b)
words_either a b (inr e) = ap (filter is_filled) e ∙ filter-append is_filled (pieces is_blank a) ([] ∷ pieces is_blank b)

-- the words of two texts with a blank between them
pub words_both : (a b : List ℕ) → words_of (a ++ 32 ∷ b) ≡ words_of a ++ words_of b
words_both a b = words_either a b (goes a b)

-- the words up to the end of the first piece, and those after it
next_word : (done : List (List ℕ)) (text word : List ℕ) → 0 < length text → word ≡ before is_blank text → (done ++ filter is_filled (word ∷ [])) ++ words_of (drop (suc (length (before is_blank text))) text) ≡ done ++ words_of text
next_word done text word h w = rw w (append_assoc done (filter is_filled (before is_blank text ∷ [])) (words_of (drop (suc (length (before is_blank text))) text)) ∙ ap (λ l. done ++ l) (sym (filter-append is_filled (before is_blank text ∷ []) (pieces is_blank (drop (suc (length (before is_blank text))) text))) ∙ sym (ap (filter is_filled) (first_piece is_blank text h))))

-- a line that is being read: open, or at its end
abbrev pub so_far : Bool → ℕ → List (List ℕ) → List Line → List Line
so_far true n words lines = with_front n words lines
so_far false n words lines = record { number = n; words = words } ∷ lines

pub front_words : (n : ℕ) (text : List ℕ) (lines : List Numbered) → map line_of (onto_next n (text ++ 32 ∷ []) lines) ≡ with_front n (words_of text) (map line_of lines)
front_words n text [] = ap (λ w. record { number = n; words = w } ∷ []) (words_both text [] ∙ append-nil (words_of text))
front_words n text (line ∷ lines) = ap (λ w. record { number = n; words = w } ∷ map line_of lines) (ap words_of (append_assoc text (32 ∷ []) line.text) ∙ words_both text line.text)

front_twice : (first n : ℕ) (words more : List (List ℕ)) (lines : List Line) → with_front first words (with_front n more lines) ≡ with_front first (words ++ more) lines
front_twice first n words more [] = refl
front_twice first n words more (line ∷ lines) = ap (λ w. record { number = first; words = w } ∷ lines) (sym (append_assoc words more line.words))

step_one : (c : Bool) (first n : ℕ) (words : List (List ℕ)) (line : List ℕ) (lines : List Numbered) → with_front first words (map line_of (if c then onto_next n (without_last line ++ 32 ∷ []) lines else record { number = n; text = line } ∷ lines)) ≡ so_far c first (words ++ words_of (if c then without_last line else line)) (map line_of lines)
step_one true first n words line lines = ap (with_front first words) (front_words n (without_last line) lines) ∙ front_twice first n words (words_of (without_last line)) (map line_of lines)
step_one false first n words line lines = refl

begin_one : (c : Bool) (n : ℕ) (line : List ℕ) (lines : List Numbered) → with_front n [] (map line_of (if c then onto_next n (without_last line ++ 32 ∷ []) lines else record { number = n; text = line } ∷ lines)) ≡ map line_of (if c then onto_next n (without_last line ++ 32 ∷ []) lines else record { number = n; text = line } ∷ lines)
begin_one true n line [] = refl
begin_one true n line (next ∷ lines) = refl
begin_one false n line lines = refl

-- a line of which nothing is read is the next line
pub begin : (n : ℕ) (text : List ℕ) → 0 < length text → with_front n [] (word_lines n (pieces is_line_feed text)) ≡ word_lines n (pieces is_line_feed text)
begin n text h = rw (first_piece is_line_feed text h) (begin_one (is_continued (treated_line (before is_line_feed text))) n (treated_line (before is_line_feed text)) (joined_lines (suc n) (map treated_line (pieces is_line_feed (drop (suc (length (before is_line_feed text))) text)))))

-- a line after one more physical line
step : (first n : ℕ) (words : List (List ℕ)) (text line : List ℕ) → 0 < length text → line ≡ treated_line (before is_line_feed text) → so_far (is_continued line) first (words ++ words_of (if is_continued line then without_last line else line)) (word_lines (suc n) (pieces is_line_feed (drop (suc (length (before is_line_feed text))) text))) ≡ with_front first words (word_lines n (pieces is_line_feed text))
step first n words text line h e = rw e (rw (first_piece is_line_feed text h) (sym (step_one (is_continued (treated_line (before is_line_feed text))) first n words (treated_line (before is_line_feed text)) (joined_lines (suc n) (map treated_line (pieces is_line_feed (drop (suc (length (before is_line_feed text))) text)))))))

-- at the end of the text nothing is joined
pub finish : (joins : Bool) (first : ℕ) (words : List (List ℕ)) → so_far joins first words [] ≡ record { number = first; words = words } ∷ []
finish true first words = refl
finish false first words = refl

-- one turn of the loop over words
pub words_turn : (done new all : List (List ℕ)) (text word back : List ℕ) (at : Option ℕ) → 0 < length text → at ≡ position is_blank text → word ≡ take (unwrap_or at (length text)) text → back ≡ drop (suc (unwrap_or at (length text))) text → new ≡ done ++ filter is_filled (word ∷ []) → done ++ words_of text ≡ all → new ++ words_of back ≡ all
words_turn done new all text word back at some p w d n inv =
    let f : word ≡ before is_blank text = w ∙ ap (λ k. take (unwrap_or k (length text)) text) p ∙ front is_blank text in
    rw n (rw d (rw p (rw (place is_blank text) (next_word done text word some f ∙ inv))))

so_far_open : (joins : Bool) (first : ℕ) (words : List (List ℕ)) (lines all : List Line) → joins ≡ true → so_far joins first words lines ≡ all → with_front first words lines ≡ all
so_far_open true first words lines all j e = e
so_far_open false first words lines all j e = absurd (cc j)

-- one turn of the loop over the physical lines of a logical line
pub line_turn : (joins turns : Bool) (first n next : ℕ) (words new : List (List ℕ)) (all : List Line) (text line back bare body : List ℕ) (at : Option ℕ) → joins ≡ true → next ≡ suc n → 0 < length text → at ≡ position is_line_feed text → line ≡ take (unwrap_or at (length text)) text → back ≡ drop (suc (unwrap_or at (length text))) text → bare ≡ treated_line line → body ≡ (if is_continued bare then without_last bare else bare) → turns ≡ is_continued bare → new ≡ words ++ words_of body → so_far joins first words (word_lines n (pieces is_line_feed text)) ≡ all → so_far turns first new (word_lines next (pieces is_line_feed back)) ≡ all
line_turn joins turns first n next words new all text line back bare body at j s some p l d t b o w inv =
    let f : bare ≡ treated_line (before is_line_feed text) = t ∙ ap treated_line (l ∙ ap (λ k. take (unwrap_or k (length text)) text) p ∙ front is_line_feed text) in
    rw o (rw w (rw b (rw d (rw p (rw (place is_line_feed text) (rw s (step first n words text bare some f ∙ so_far_open joins first words (word_lines n (pieces is_line_feed text)) all j inv)))))))

pub shorter_turn : (n len number : ℕ) (turns : Bool) (back rest text : List ℕ) → 0 < length rest → back ≡ drop (suc len) rest → n + length rest ≤ number + length text → length rest ≤ length text → (n + 1 + length back ≤ number + length text) × (length back ≤ length text) × (turns ≡ false → length back < length text)
shorter_turn n len number turns back rest text some d p q =
    let s : length back < length rest = rw d (rw (length-drop (suc len) rest) (omega (arith, some))) in
    (omega (arith, s, p), omega (arith, s, q), λ e. omega (arith, s, q))
