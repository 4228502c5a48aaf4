-- Meaning. Single words of task lines. The rules are this project's own choice.
use Rattle.std.specs.Prelude.{ℕ, ◌∷◌, [], List, Bool, false, not, ◌&&◌, ◌||◌, if◌then◌else◌, nat_le, bytes_eq, codes}
use Rattle.std.specs.List.{list_all}
use Rattle.ste_base.specs.Limits.{most_time}
use Rattle.ste_base.specs.Bytes.{is_digit, is_letter}
use Rattle.ste_base.specs.Number.{number_of}
use Rattle.blif_lines.specs.Lines.{is_filled}
use Rattle.bool_expr.specs.Tokens.{is_kept, is_name_byte}
use Rattle.assert_syntax.specs.declared.form.Moment.{Moment}
use Rattle.assert_syntax.specs.declared.form.Moment.TheVariants.{At, Late, Never}

-- a variable: a letter or `_`, and then letters, `_` and digits; but none of the words that task
-- files keep
abbrev pub is_variable : List ℕ → Bool
is_variable [] = false
is_variable (byte ∷ bytes) = is_letter byte && list_all is_name_byte bytes
    && not (is_kept (byte ∷ bytes))

-- an expression ends before this word
abbrev pub ends_expression : List ℕ → Bool
ends_expression word = bytes_eq word (codes "when") || bytes_eq word (codes "from")

-- one or more decimal digits
abbrev pub is_number : List ℕ → Bool
is_number word = is_filled word && list_all is_digit word

-- what a word says as a time; leading zeros change nothing
abbrev pub moment_of : List ℕ → Moment
moment_of word =
    if is_number word then (if nat_le (number_of word) most_time then At (number_of word) else Late)
    else Never
