-- Meaning. Single bytes by name, and kinds of bytes in texts; which bytes are blanks is this
-- project's own choice.
use Rattle.std.specs.Prelude.{ℕ, Bool, ◌&&◌, ◌||◌, nat_eq, nat_le}

-- single bytes: a space, the end of a physical line, and then \ # . = - 0 1
abbrev pub space : ℕ
space = 32

abbrev pub line_feed : ℕ
line_feed = 10

abbrev pub backslash : ℕ
backslash = 92

abbrev pub hash_sign : ℕ
hash_sign = 35

abbrev pub dot : ℕ
dot = 46

abbrev pub equals_sign : ℕ
equals_sign = 61

abbrev pub dash : ℕ
dash = 45

abbrev pub digit_zero : ℕ
digit_zero = 48

abbrev pub digit_one : ℕ
digit_one = 49

-- a blank, which parts words: a space, a tab or a carriage return
abbrev pub is_blank : ℕ → Bool
is_blank byte = nat_eq byte space || nat_eq byte 9 || nat_eq byte 13

-- a letter or `_`
abbrev pub is_letter : ℕ → Bool
is_letter byte = (nat_le 97 byte && nat_le byte 122) || (nat_le 65 byte && nat_le byte 90)
    || nat_eq byte 95

-- a decimal digit
abbrev pub is_digit : ℕ → Bool
is_digit byte = nat_le digit_zero byte && nat_le byte 57
