-- There is an expression for each text that spells one, all at once.
use Rattle.std.proofs.Common.{ℕ, ◌≡◌, refl, List, Option, Some, None}
use Rattle.bool_expr.specs.Grammar.{Expression}
use Rattle.bool_expr.specs.Tokens.{tokens_of}
use Rattle.bool_expr.specs.Scan.{scan_from, scan_start}
use Rattle.bool_expr.proofs.Answered.{none_spelled, some_spelled}
use Rattle.assert_syntax.specs.Parses.{Parse, IsParse, IsSpelled}

decided : (text : List ℕ) (found : Option ℕ) → found ≡ scan_from 101 scan_start (tokens_of text) → (o : Option Expression) × IsSpelled text o
decided text None e = (None, none_spelled text None e refl)
decided text (Some n) e = let s = some_spelled text (Some n) n e refl in (Some s.0, s.1)

pub a_parse : (parse : Parse) × IsParse parse
a_parse = (λ text. (decided text (scan_from 101 scan_start (tokens_of text)) refl).0, λ text. (decided text (scan_from 101 scan_start (tokens_of text)) refl).1)
