-- The physical lines of a text, put together again.
use Rattle.std.proofs.Common.{ℕ, ◌≡◌, refl, ap, sym, ◌∙◌, List, [], ◌∷◌, ◌++◌, arith, Bool, true, false, if◌then◌else◌, not, All}
use Rattle.std.proofs.lemmas.List.Elements.{All-cons, All-nil, All-head, All-tail}
use Rattle.blif_lines.specs.Lines.{pieces, onto_first, is_line_feed}
use Rattle.blif_lines.specs.Laws.{text_of_lines, lacks_end, PhysicalLinesAreTheText}
use Rattle.blif_lines.proofs.Scanning.{first_piece}

-- no byte of the text passes
abbrev pub IsFree : (ℕ → Bool) → List ℕ → Type 0
IsFree cuts text = All (λ b. cuts b ≡ false) text

onto_free : (cuts : ℕ → Bool) (b : ℕ) (lines : List (List ℕ)) → cuts b ≡ false → All (IsFree cuts) lines → All (IsFree cuts) (onto_first b lines)
onto_free cuts b [] e h = All-cons (IsFree cuts) (b ∷ []) [] (All-cons (λ x. cuts x ≡ false) b [] e (All-nil (λ x. cuts x ≡ false))) (All-nil (IsFree cuts))
onto_free cuts b (line ∷ lines) e h = All-cons (IsFree cuts) (b ∷ line) lines (All-cons (λ x. cuts x ≡ false) b line e (All-head (IsFree cuts) line lines h)) (All-tail (IsFree cuts) line lines h)

free_more : (cuts : ℕ → Bool) (c : Bool) (b : ℕ) (lines : List (List ℕ)) → cuts b ≡ c → All (IsFree cuts) lines → All (IsFree cuts) (if c then [] ∷ lines else onto_first b lines)
free_more cuts true b lines e h = All-cons (IsFree cuts) [] lines (All-nil (λ x. cuts x ≡ false)) h
free_more cuts false b lines e h = onto_free cuts b lines e h

free_of : (cuts : ℕ → Bool) (text : List ℕ) → All (IsFree cuts) (pieces cuts text)
free_of cuts [] = All-nil (IsFree cuts)
free_of cuts (b ∷ text) = free_more cuts (cuts b) b (pieces cuts text) refl (free_of cuts text)

is_ten : (b : ℕ) → is_line_feed b ≡ true → b ≡ 10
is_ten b e = grind (arith, e)

-- one more byte in front
put_more : (c : Bool) (b : ℕ) (lines more : List (List ℕ)) (front text : List ℕ) → (c ≡ true → b ≡ 10) → lines ≡ front ∷ more → text_of_lines lines ≡ text → text_of_lines (if c then [] ∷ lines else onto_first b lines) ≡ b ∷ text
put_more true b lines more front text n p e = rw (n refl) (ap (λ t. 10 ∷ t) e)
put_more false b lines more front text n p e = rw p (ap (λ t. b ∷ t) (sym (ap text_of_lines p) ∙ e))

put_last : (c : Bool) (b : ℕ) → (c ≡ true → b ≡ 10) → text_of_lines (if c then [] ∷ [] else (b ∷ []) ∷ []) ≡ (if not c then b ∷ 10 ∷ [] else b ∷ [])
put_last true b n = rw (n refl) refl
put_last false b n = refl

end_after : (c : Bool) (b : ℕ) (text : List ℕ) → b ∷ (if c then text ++ 10 ∷ [] else text) ≡ (if c then b ∷ text ++ 10 ∷ [] else b ∷ text)
end_after true b text = refl
end_after false b text = refl

put : (text : List ℕ) → text_of_lines (pieces is_line_feed text) ≡ (if lacks_end text then text ++ 10 ∷ [] else text)
put [] = refl
put (b ∷ []) = put_last (is_line_feed b) b (is_ten b)
put (b ∷ x ∷ text) = put_more (is_line_feed b) b (pieces is_line_feed (x ∷ text)) _ _ _ (is_ten b) (first_piece is_line_feed (x ∷ text) (omega arith)) (put (x ∷ text)) ∙ end_after (lacks_end (x ∷ text)) b (x ∷ text)

pub physical_lines : PhysicalLinesAreTheText
physical_lines text = (free_of is_line_feed text, put text)
