-- Laws: which text of an expression is read, where its words stand in a line. Blanks and line
-- breaks make no difference.
use Rattle.std.specs.Prelude.{◌≡◌, ℕ, List, ◌↔◌}
use Rattle.std.specs.List.{flat_map}
use Rattle.blif_lines.specs.Laws.{Part, all_words, text_of_words}
use Rattle.blif_lines.specs.Lines.{words_of}
use Rattle.bool_expr.specs.Grammar.{Expression}
use Rattle.bool_expr.specs.Read.{Spells}
use Rattle.bool_expr.specs.Tokens.{tokens_of}

-- Law: the words of an expression, joined by one blank, spell what its text spells.
pub record WordsAreTheText : Type 0 where
  -- words joined by one blank have the tokens of the words, one word after the other
  pub joined : (words : List (List ℕ)) → tokens_of (text_of_words words) ≡ flat_map tokens_of words
  -- so has a text, whatever blanks stand between its words: it spells what its words joined by one
  -- blank spell
  pub blanks : (text : List ℕ) (d : Expression) →
      Spells d (text_of_words (words_of text)) ↔ Spells d text
  -- words that stand on several physical lines have the tokens of the lines, one line after the
  -- other
  pub breaks : (parts : List Part) → tokens_of (text_of_words (all_words parts))
      ≡ flat_map (λ part. tokens_of (text_of_words part.words)) parts
