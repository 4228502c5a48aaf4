-- What a text names by the parts of the names, one level at a time.
use Rattle.std.proofs.Common.{◌≡◌, ℕ, zero, suc, ◌+◌, ◌-◌, ◌<◌, List, length, take, drop, Option, None, Some, arith, sym, ap, ◌∙◌}
use Rattle.std.specs.Prelude.{option_and_then, position}
use Rattle.std.specs.Option.{option_or}
use Rattle.std.proofs.lemmas.List.{take_rest}
use Rattle.hierarchy.specs.Names.{is_slash}
use Rattle.net_names.specs.declared.names.NetNames.{NetNames}
use Rattle.net_names.specs.Names.{named_from, number_named, row_below}

module _ (names : NetNames) (place : ℕ) (text : List ℕ) where
  -- what a text with a slash there names, by the row below
  abbrev in_row : ℕ → ℕ → Option ℕ → Option ℕ
  in_row depth slash row = option_and_then (λ below. named_from names depth below (drop (suc slash) text)) row

  -- what a text names that is no signal, by its first slash
  abbrev behind : ℕ → Option ℕ → Option ℕ
  behind depth at = option_and_then (λ slash. in_row depth slash (row_below names place (take slash text))) at

  -- a text that is a signal
  pub at_signal : (depth number : ℕ) → 0 < depth → number_named names place text ≡ Some number → Some number ≡ named_from names depth place text
  at_signal zero number some e = absurd (omega (arith, some))
  at_signal (suc depth) number some e = ap (λ o. option_or o (behind depth (position is_slash text))) (sym e)

  -- one that is none and has no slash
  pub at_no_slash : (depth : ℕ) → 0 < depth → number_named names place text ≡ None → position is_slash text ≡ None → None ≡ named_from names depth place text
  at_no_slash zero some none slash = absurd (omega (arith, some))
  at_no_slash (suc depth) some none slash =
      sym (ap (λ o. option_or o (behind depth (position is_slash text))) none ∙ ap (λ o. behind depth o) slash)

  -- one that has a slash, with no row below
  pub at_no_row : (depth slash : ℕ) → 0 < depth → number_named names place text ≡ None → position is_slash text ≡ Some slash → row_below names place (take slash text) ≡ None → None ≡ named_from names depth place text
  at_no_row zero slash some none is row = absurd (omega (arith, some))
  at_no_row (suc depth) slash some none is row =
      sym (ap (λ o. option_or o (behind depth (position is_slash text))) none ∙ ap (λ o. behind depth o) is ∙ ap (λ o. in_row depth slash o) row)

  -- and with one
  pub at_row : (depth slash below : ℕ) → 0 < depth → number_named names place text ≡ None → position is_slash text ≡ Some slash → row_below names place (take slash text) ≡ Some below → named_from names (depth - 1) below (take (length text - (slash + 1)) (drop (slash + 1) text)) ≡ named_from names depth place text
  at_row zero slash below some none is row = absurd (omega (arith, some))
  at_row (suc depth) slash below some none is row =
      ap (λ n. named_from names n below (take (length text - (slash + 1)) (drop (slash + 1) text))) left
      ∙ ap (λ l. named_from names depth below l) (take_rest text (slash + 1))
      ∙ ap (λ n. named_from names depth below (drop n text)) next
      ∙ sym (ap (λ o. option_or o (behind depth (position is_slash text))) none ∙ ap (λ o. behind depth o) is ∙ ap (λ o. in_row depth slash o) row)
    where
      next : slash + 1 ≡ suc slash
      next = omega arith

      left : suc depth - 1 ≡ depth
      left = omega arith
