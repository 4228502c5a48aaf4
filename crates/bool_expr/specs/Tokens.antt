-- Meaning. The tokens of the text of an expression. The rules are this project's own choice.
use Rattle.std.specs.Prelude.{ℕ, List, [], ◌∷◌, codes, Bool, true, false, ◌&&◌, ◌||◌, if◌then◌else◌, nat_eq, bytes_eq}
use Rattle.std.specs.List.{take_while}
use Rattle.ste_base.specs.Bytes.{digit_one, digit_zero, is_blank, is_digit, is_letter}
use Rattle.bool_expr.specs.declared.token.Sign.{Sign}
use Rattle.bool_expr.specs.declared.token.Sign.TheVariants.{Or, Xor, And}

-- a token: a sign between two parts, `!`, a bracket, `0` or `1`, a variable, or what is none of
-- these
pub data Token : Type 0 where
  sign : Sign → Token
  negation : Token
  opening : Token
  closing : Token
  constant : Bool → Token
  variable : List ℕ → Token
  wrong : Token

-- a letter, `_` or a digit: a variable begins with a letter or `_`, and goes on with these
abbrev pub is_name_byte : ℕ → Bool
is_name_byte byte = is_letter byte || is_digit byte

-- the word is one that task files keep for themselves
abbrev pub is_kept : List ℕ → Bool
is_kept word = bytes_eq word (codes "when") || bytes_eq word (codes "from")
    || bytes_eq word (codes "to")

-- the token that a word is
abbrev pub word_token : List ℕ → Token
word_token word = if is_kept word then wrong else variable word

-- the token that a byte is which is neither a letter nor a blank
abbrev pub byte_token : ℕ → Token
byte_token byte =
    if nat_eq byte 124 then sign Or
    else if nat_eq byte 94 then sign Xor
    else if nat_eq byte 38 then sign And
    else if nat_eq byte 33 then negation
    else if nat_eq byte 40 then opening
    else if nat_eq byte 41 then closing
    else if nat_eq byte digit_zero then constant false
    else if nat_eq byte digit_one then constant true
    else wrong

-- The tokens that begin in a text, where it is known whether a word stands before it. A word goes
-- on as long as it can, and blanks are in no token.
abbrev pub tokens_behind : Bool → List ℕ → List Token
tokens_behind word [] = []
tokens_behind word (byte ∷ text) =
    if word && is_name_byte byte then tokens_behind true text
    else if is_blank byte then tokens_behind false text
    else if is_letter byte then word_token (byte ∷ take_while is_name_byte text)
    ∷ tokens_behind true text
    else byte_token byte ∷ tokens_behind false text

-- the tokens of a text
abbrev pub tokens_of : List ℕ → List Token
tokens_of text = tokens_behind false text
