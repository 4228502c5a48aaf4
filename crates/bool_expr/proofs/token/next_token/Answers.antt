use Rattle.std.proofs.Common.{rules, ◌≡◌, ◌∷◌}
use Rattle.bool_expr.proofs.Tokens.{next_byte, next_word}
use Rattle.bool_expr.proofs.token.next_token.Goals as goal

pub returns-then-is_letter-clause-some : goal.returns-then-is_letter-clause-some
returns-then-is_letter-clause-some c =
    let e : c.without_blanks-text.result.now ≡ c.in_ok-byte.byte.now ∷ c.in_ok-byte.rest.now = search rules in
    next_word c.args.text.now c.without_blanks-text.result.now c.in_ok-byte.rest.now c.in_ok-byte.byte.now c.word_length-end.result c.is_letter.result _ c.without_blanks-text.ensures.same c.without_blanks-text.ensures.front e c.is_letter.ensures c.if-is_letter.true c.word_length-end.ensures.length c.word_token.ensures

pub returns-clause-some : goal.returns-clause-some
returns-clause-some c =
    let e : c.without_blanks-text.result.now ≡ c.in_ok-byte.byte.now ∷ c.in_ok-byte.rest.now = search rules in
    next_byte c.args.text.now c.without_blanks-text.result.now c.in_ok-byte.rest.now c.in_ok-byte.byte.now c.is_letter.result _ c.without_blanks-text.ensures.same c.without_blanks-text.ensures.front e c.is_letter.ensures c.if-is_letter.false c.byte_token.ensures
