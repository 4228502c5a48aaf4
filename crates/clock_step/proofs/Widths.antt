-- Rows have a bit for each name.
use Rattle.std.proofs.Common.{◌≡◌, ℕ, List, [], ◌∷◌, length, map, Bool, true, false, Some, None, refl, sym, ap, ◌∙◌, eqb-true}
use Rattle.std.specs.Prelude.{All, if◌then◌else◌, nat_eq, ◌&&◌, bytes_eq, codes}
use Rattle.std.specs.List.{list_all}
use Rattle.std.proofs.lemmas.List.{length-map}
use Rattle.std.proofs.lemmas.List.Elements.{All-cons, All-nil}
use Rattle.blif_lines.specs.declared.lines.Line.{Line}
use Rattle.clock_step.specs.Forms.{word_bits, is_zero_or_one, is_one, row_of}

bits_wide : (width : ℕ) (word : List ℕ) (bits : List Bool) → word_bits width word ≡ Some bits → length bits ≡ width
bits_wide width word bits e = by (nat_eq width 0) (bytes_eq word (codes "-")) (nat_eq (length word) width) (list_all is_zero_or_one word) refl refl e
  where
    by : (none dash long all : Bool) → nat_eq width 0 ≡ none → nat_eq (length word) width ≡ long → (if none then (if dash then Some [] else None) else if long && all then Some (map is_one word) else None) ≡ Some bits → length bits ≡ width
    by true true long all z l e = let same : [] ≡ bits = (cc e) in ap length (sym same) ∙ sym (eqb-true width 0 z)
    by true false long all z l e = absurd (cc e)
    by false dash true true z l e = let same : map is_one word ≡ bits = (cc e) in ap length (sym same) ∙ length-map word is_one ∙ eqb-true (length word) width l
    by false dash true false z l e = absurd (cc e)
    by false dash false all z l e = absurd (cc e)

row_wide : (width : ℕ) (words : List (List ℕ)) (row : List Bool) → row_of width words ≡ Some row → length row ≡ width
row_wide width [] row e = absurd (cc e)
row_wide width (word ∷ []) row e = bits_wide width word row e
row_wide width (word ∷ other ∷ words) row e = absurd (cc e)

pub rows_wide : (width : ℕ) (rows : List (List Bool)) (lines : List Line) → map Some rows ≡ map (λ line. row_of width line.words) lines → All (λ row. length row ≡ width) rows
rows_wide width [] lines e = All-nil (λ row. length row ≡ width)
rows_wide width (row ∷ rows) [] e = absurd (cc e)
rows_wide width (row ∷ rows) (line ∷ lines) e =
    let here : Some row ≡ row_of width line.words = (cc e) in
    let rest : map Some rows ≡ map (λ line. row_of width line.words) lines = (cc e) in
    All-cons (λ row. length row ≡ width) row rows (row_wide width line.words row (sym here)) (rows_wide width rows lines rest)
