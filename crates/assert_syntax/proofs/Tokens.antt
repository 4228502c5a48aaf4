-- The tokens of words, and of texts with any blanks between their words.
use Rattle.std.proofs.Common.{ℕ, ◌≡◌, refl, sym, ap, subst, ◌∙◌, ◌⊎◌, inl, inr, List, [], ◌∷◌, ◌++◌, filter, Bool, true, false, if◌then◌else◌, ◌&&◌, ◌||◌, nat_eq, append-nil}
use Rattle.std.proofs.lemmas.Bool.{eqb-true}
use Rattle.std.proofs.lemmas.List.Sums.{take_while-cons}
use Rattle.std.specs.Prelude.{cond}
use Rattle.std.specs.List.{flat_map, take_while}
use Rattle.std.proofs.lemmas.Grind.{flat_map-append}
use Rattle.ste_base.specs.Bytes.{is_blank, is_letter}
use Rattle.blif_lines.specs.Laws.{Part, all_words, text_of_words}
use Rattle.blif_lines.specs.Lines.{is_filled, onto_first, pieces, words_of}
use Rattle.bool_expr.specs.Tokens.{Token, is_name_byte, tokens_behind, tokens_of, word_token}
use Rattle.assert_syntax.specs.Texts.{WordsAreTheText}

word_on : (c : Bool) (byte : ℕ) (one other : List ℕ) → one ≡ other → cond c (byte ∷ one) [] ≡ cond c (byte ∷ other) []
word_on true byte one other e = ap (λ word. byte ∷ word) e
word_on false byte one other e = refl

-- words with the same first byte are the same where their rests are
word_more : (byte : ℕ) (one other : List ℕ) → take_while is_name_byte one ≡ take_while is_name_byte other → take_while is_name_byte (byte ∷ one) ≡ take_while is_name_byte (byte ∷ other)
word_more byte one other e = take_while-cons is_name_byte byte one ∙ word_on (is_name_byte byte) byte _ _ e ∙ sym (take_while-cons is_name_byte byte other)

-- a blank behind a text changes no word of it
same_word : (text more : List ℕ) → take_while is_name_byte (text ++ 32 ∷ more) ≡ take_while is_name_byte text
same_word [] more = refl
same_word (byte ∷ text) more = word_more byte (text ++ 32 ∷ more) text (same_word text more)

-- by what the next byte is: one more byte of a word, a blank, a letter, or a sign
turn_on : (p q r : Bool) (t u v : Token) (x x2 y y2 z : List Token) → x ≡ x2 ++ z → y ≡ y2 ++ z → t ≡ v → (if p then x else if q then y else if r then t ∷ x else u ∷ y) ≡ (if p then x2 else if q then y2 else if r then v ∷ x2 else u ∷ y2) ++ z
turn_on true q r t u v x x2 y y2 z a b c = a
turn_on false true r t u v x x2 y y2 z a b c = b
turn_on false false true t u v x x2 y y2 z a b c = ap (λ k. k ∷ x) c ∙ ap (λ k. v ∷ k) a
turn_on false false false t u v x x2 y y2 z a b c = ap (λ k. u ∷ k) b

-- a blank parts tokens
parted : (w : Bool) (text more : List ℕ) → tokens_behind w (text ++ 32 ∷ more) ≡ tokens_behind w text ++ tokens_of more
parted true [] more = refl
parted false [] more = refl
parted w (byte ∷ text) more =
    turn_on (w && is_name_byte byte) (is_blank byte) (is_letter byte) _ _ _ _ _ _ _ (tokens_of more) (parted true text more) (parted false text more)
    (ap (λ word. word_token (byte ∷ word)) (same_word text more))

joined_words : (words : List (List ℕ)) → tokens_of (text_of_words words) ≡ flat_map tokens_of words
joined_words [] = refl
joined_words (word ∷ []) = sym (append-nil (tokens_of word))
joined_words (word ∷ next ∷ words) = parted false word (text_of_words (next ∷ words)) ∙ ap (λ k. tokens_of word ++ k) (joined_words (next ∷ words))

-- words that stand in several lines
broken : (parts : List Part) → flat_map tokens_of (all_words parts) ≡ flat_map (λ part. tokens_of (text_of_words part.words)) parts
broken [] = refl
broken (part ∷ parts) = flat_map-append tokens_of part.words (all_words parts) ∙ ap (λ k. flat_map tokens_of part.words ++ k) (broken parts) ∙ ap (λ k. k ++ flat_map (λ part. tokens_of (text_of_words part.words)) parts) (sym (joined_words part.words))

-- the tokens of pieces, the first of which goes on with a word or not
abbrev in_pieces : Bool → List (List ℕ) → List Token
in_pieces w [] = []
in_pieces w (piece ∷ pieces) = tokens_behind w piece ++ flat_map tokens_of pieces

-- the first piece
abbrev first_of : List (List ℕ) → List ℕ
first_of [] = []
first_of (piece ∷ pieces) = piece

one_of_three : (a b c : Bool) → (a || b || c) ≡ true → (a ≡ true) ⊎ ((b ≡ true) ⊎ (c ≡ true))
one_of_three true b c e = inl refl
one_of_three false true c e = inr (inl refl)
one_of_three false false true e = inr (inr refl)
one_of_three false false false e = absurd (cc e)

-- no word goes on with a blank
blank_ends : (byte : ℕ) → is_blank byte ≡ true → is_name_byte byte ≡ false
blank_ends byte e = elim (one_of_three (nat_eq byte 32) (nat_eq byte 9) (nat_eq byte 13) e) [
  | inl a ↦ subst (λ b. is_name_byte b ≡ false) (sym (eqb-true byte 32 a)) refl
  | inr (inl a) ↦ subst (λ b. is_name_byte b ≡ false) (sym (eqb-true byte 9 a)) refl
  | inr (inr a) ↦ subst (λ b. is_name_byte b ≡ false) (sym (eqb-true byte 13 a)) refl
]

onto_is : (byte : ℕ) (ps : List (List ℕ)) → first_of (onto_first byte ps) ≡ byte ∷ first_of ps
onto_is byte [] = refl
onto_is byte (piece ∷ ps) = refl

-- a word goes no further than the first piece
word_first_by : (b : Bool) (byte : ℕ) (text : List ℕ) (ps : List (List ℕ)) → is_blank byte ≡ b → take_while is_name_byte (first_of ps) ≡ take_while is_name_byte text → take_while is_name_byte (first_of (if b then [] ∷ ps else onto_first byte ps)) ≡ take_while is_name_byte (byte ∷ text)
word_first_by true byte text ps e h =
    let no = blank_ends byte e in
    sym (take_while-cons is_name_byte byte text ∙ ap (λ c. cond c (byte ∷ take_while is_name_byte text) []) no)
word_first_by false byte text ps e h = ap (take_while is_name_byte) (onto_is byte ps) ∙ word_more byte (first_of ps) text h

word_first : (text : List ℕ) → take_while is_name_byte (first_of (pieces is_blank text)) ≡ take_while is_name_byte text
word_first [] = refl
word_first (byte ∷ text) = word_first_by (is_blank byte) byte text (pieces is_blank text) refl (word_first text)

and_false : (w : Bool) → (w && false) ≡ false
and_false true = refl
and_false false = refl

from_start : (ps : List (List ℕ)) → flat_map tokens_of ps ≡ in_pieces false ps
from_start [] = refl
from_start (piece ∷ ps) = refl

-- a byte in front of the first piece
onto_tokens : (w : Bool) (byte : ℕ) (text : List ℕ) (ps : List (List ℕ)) → take_while is_name_byte (first_of ps) ≡ take_while is_name_byte text → in_pieces true ps ≡ tokens_behind true text → in_pieces false ps ≡ tokens_behind false text → in_pieces w (onto_first byte ps) ≡ tokens_behind w (byte ∷ text)
onto_tokens w byte text [] h t f =
    sym (turn_on (w && is_name_byte byte) (is_blank byte) (is_letter byte) _ _ _ _ _ _ _ [] (sym t) (sym f) (ap (λ word. word_token (byte ∷ word)) (sym h)))
onto_tokens w byte text (piece ∷ ps) h t f =
    sym (turn_on (w && is_name_byte byte) (is_blank byte) (is_letter byte) _ _ _ _ _ _ _ (flat_map tokens_of ps) (sym t) (sym f) (ap (λ word. word_token (byte ∷ word)) (sym h)))

blank_tokens : (w : Bool) (byte : ℕ) (text : List ℕ) → is_blank byte ≡ true → tokens_behind false text ≡ tokens_behind w (byte ∷ text)
blank_tokens w byte text e = rw (blank_ends byte e) (rw (and_false w) (rw e refl))

in_text_by : (b : Bool) (w : Bool) (byte : ℕ) (text : List ℕ) (ps : List (List ℕ)) → is_blank byte ≡ b → take_while is_name_byte (first_of ps) ≡ take_while is_name_byte text → in_pieces true ps ≡ tokens_behind true text → in_pieces false ps ≡ tokens_behind false text → in_pieces w (if b then [] ∷ ps else onto_first byte ps) ≡ tokens_behind w (byte ∷ text)
in_text_by true true byte text ps e h t f = from_start ps ∙ f ∙ blank_tokens true byte text e
in_text_by true false byte text ps e h t f = from_start ps ∙ f ∙ blank_tokens false byte text e
in_text_by false w byte text ps e h t f = onto_tokens w byte text ps h t f

in_text : (w : Bool) (text : List ℕ) → in_pieces w (pieces is_blank text) ≡ tokens_behind w text
in_text w [] = refl
in_text w (byte ∷ text) = in_text_by (is_blank byte) w byte text (pieces is_blank text) refl (word_first text) (in_text true text) (in_text false text)

-- empty pieces have no tokens
filled : (ps : List (List ℕ)) → flat_map tokens_of (filter is_filled ps) ≡ flat_map tokens_of ps
filled [] = refl
filled ([] ∷ ps) = filled ps
filled ((byte ∷ piece) ∷ ps) = ap (λ k. tokens_of (byte ∷ piece) ++ k) (filled ps)

same_tokens : (text : List ℕ) → tokens_of (text_of_words (words_of text)) ≡ tokens_of text
same_tokens text = joined_words (words_of text) ∙ filled (pieces is_blank text) ∙ from_start (pieces is_blank text) ∙ in_text false text

pub words_are_the_text : WordsAreTheText
words_are_the_text = record {
  joined = joined_words;
  blanks = λ text d. (λ s. s ∙ same_tokens text, λ s. s ∙ sym (same_tokens text));
  breaks = λ parts. joined_words (all_words parts) ∙ broken parts;
}
