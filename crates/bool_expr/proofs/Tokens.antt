-- The tokens of a text, one after the other.
use Rattle.std.proofs.Common.{ℕ, suc, ◌+◌, ◌≡◌, length, ◌-◌, add-one, refl, sym, ap, ◌∙◌, List, [], ◌∷◌, take, drop, arith, Bool, true, false}
use Rattle.std.specs.List.{prefix_len}
use Rattle.std.proofs.lemmas.List.{take_rest}
use Rattle.ste_base.specs.Bytes.{is_blank, is_letter}
use Rattle.bool_expr.specs.Tokens.{Token, is_name_byte, byte_token, word_token, tokens_of, tokens_behind}

-- a blank is in no token
pub blank_first : (byte : ℕ) (text : List ℕ) → is_blank byte ≡ true → tokens_of (byte ∷ text) ≡ tokens_of text
blank_first byte text e = rw e refl

pub byte_first : (byte : ℕ) (text : List ℕ) → is_blank byte ≡ false → is_letter byte ≡ false → tokens_of (byte ∷ text) ≡ byte_token byte ∷ tokens_of text
byte_first byte text e f = rw (e, f) refl

rest_one : (c : Bool) (byte : ℕ) (text : List ℕ) → is_name_byte byte ≡ c → tokens_behind true text ≡ tokens_of (drop (prefix_len is_name_byte text) text) → tokens_behind true (byte ∷ text) ≡ tokens_of (drop (prefix_len is_name_byte (byte ∷ text)) (byte ∷ text))
rest_one true byte text e more = rw e (let s : 1 + prefix_len is_name_byte text ≡ suc (prefix_len is_name_byte text) = omega arith in rw s more)
rest_one false byte text e more = rw e refl

-- behind a word
word_rest : (text : List ℕ) → tokens_behind true text ≡ tokens_of (drop (prefix_len is_name_byte text) text)
word_rest [] = refl
word_rest (byte ∷ text) = rest_one (is_name_byte byte) byte text refl (word_rest text)

pub word_first : (byte : ℕ) (text : List ℕ) → is_blank byte ≡ false → is_letter byte ≡ true → tokens_of (byte ∷ text) ≡ word_token (byte ∷ take (prefix_len is_name_byte text) text) ∷ tokens_of (drop (prefix_len is_name_byte text) text)
word_first byte text e f = rw (e, f) (rw (word_rest text) refl)

-- the token at the front of a text that begins with no blank
pub next_byte : (whole text rest : List ℕ) (byte : ℕ) (letter : Bool) (token : Token) → tokens_of text ≡ tokens_of whole → ((b : ℕ) (r : List ℕ) → text ≡ b ∷ r → is_blank b ≡ false) → text ≡ byte ∷ rest → letter ≡ is_letter byte → letter ≡ false → token ≡ byte_token byte → tokens_of whole ≡ token ∷ tokens_of rest
next_byte whole text rest byte letter token same front e l f t =
    sym same ∙ ap tokens_of e ∙ byte_first byte rest (front byte rest e) (sym l ∙ f) ∙ ap (λ x. x ∷ tokens_of rest) (sym t)

pub next_word : (whole text rest : List ℕ) (byte n : ℕ) (letter : Bool) (token : Token) → tokens_of text ≡ tokens_of whole → ((b : ℕ) (r : List ℕ) → text ≡ b ∷ r → is_blank b ≡ false) → text ≡ byte ∷ rest → letter ≡ is_letter byte → letter ≡ true → n ≡ prefix_len is_name_byte rest → token ≡ word_token (take (n + 1) text) → tokens_of whole ≡ token ∷ tokens_of (take (length rest - n) (drop n rest))
next_word whole text rest byte n letter token same front e l f p t =
    let r : token ≡ word_token (byte ∷ take (prefix_len is_name_byte rest) rest) = t ∙ ap (λ m. word_token (take m text)) (add-one n) ∙ ap word_token (ap (take (suc n)) e ∙ ap (λ m. byte ∷ take m rest) p) in
    let s : take (length rest - n) (drop n rest) ≡ drop (prefix_len is_name_byte rest) rest = take_rest rest n ∙ ap (λ m. drop m rest) p in
    rw (r, s) (sym same ∙ ap tokens_of e ∙ word_first byte rest (front byte rest e) (sym l ∙ f))
