-- The first word of a text, and where a symbol's number ends.
use Rattle.std.proofs.Common.{ℕ, zero, suc, ◌+◌, ◌<◌, ◌≤◌, ◌≡◌, refl, ap, sym, ◌∙◌, List, [], ◌∷◌, ◌++◌, length, take, drop, arith, Bool, true, false, not, Option, None, Some, unwrap_or, filter, subst}
use Rattle.std.specs.Prelude.{if◌then◌else◌, IfOk, Result}
use Rattle.std.specs.List.{position}
use Rattle.ste_base.specs.Bytes.{is_blank}
use Rattle.blif_lines.specs.Lines.{before, is_filled, pieces, words_of}
use Rattle.blif_lines.proofs.Scanning.{first_piece, front, place}
use Rattle.aig_model.specs.declared.aig.Kind.{Kind}
use Rattle.aig_model.specs.declared.line.Said.{Said}
use Rattle.aig_model.specs.Lines.{is_space, symbol_of, symbol_with}
use Rattle.aig_model.specs.Words.{aig_number_below}

-- a byte that is no blank
abbrev pub is_other : ℕ → Bool
is_other byte = not (is_blank byte)

-- the blanks at the head of a text part no words
skipped : (text : List ℕ) → words_of (drop (length (before is_other text)) text) ≡ words_of text
skipped [] = refl
skipped (b ∷ text) = step (is_blank b) refl (skipped text)
  where
    step : (c : Bool) → is_blank b ≡ c → words_of (drop (length (before is_other text)) text) ≡
        words_of text → words_of (drop (length (if not c then [] else b ∷ before is_other text)) (b
        ∷ text)) ≡ words_of (b ∷ text)
    step true e later = later ∙ sym (rw e refl)
    step false e later = refl

-- behind them a word begins
begun : (text : List ℕ) → 0 < length (drop (length (before is_other text)) text) →
    is_filled (before is_blank (drop (length (before is_other text)) text)) ≡ true
begun [] h = absurd (omega arith)
begun (b ∷ text) h = step (is_blank b) refl (begun text) h
  where
    step : (c : Bool) → is_blank b ≡ c → (0 < length (drop (length (before is_other text)) text) →
        is_filled (before is_blank (drop (length (before is_other text)) text)) ≡ true) →
        0 < length (drop (length (if not c then [] else b ∷ before is_other text)) (b ∷ text)) →
        is_filled (before is_blank (drop (length (if not c then [] else b ∷ before is_other text))
        (b ∷ text))) ≡ true
    step true e later h = later h
    step false e later h = rw e refl

filled_word : (text : List ℕ) → 0 < length text → is_filled (before is_blank text) ≡ true →
    words_of text ≡ before is_blank text ∷ words_of (drop (suc (length (before is_blank text)))
    text)
filled_word text h e = ap (filter is_filled) (first_piece is_blank text h) ∙ rw e refl

-- the first word, by the calls that find it
pub word_found : (text rest first behind : List ℕ) (start end : Option ℕ) →
    start ≡ position is_other text → rest ≡ drop (unwrap_or start (length text)) text →
    0 < length rest → end ≡ position is_blank rest →
    first ≡ take (unwrap_or end (length rest)) rest →
    behind ≡ drop (suc (unwrap_or end (length rest))) rest → words_of text ≡ first ∷ words_of behind
word_found text rest first behind start end s r some e f b =
    let at : unwrap_or start (length text) ≡ length (before is_other text) = ap
    (λ o. unwrap_or o (length text)) s ∙ place is_other text in
    let here : rest ≡ drop (length (before is_other text)) text = r ∙ ap (λ n. drop n text) at in
    let filled : is_filled (before is_blank rest) ≡ true = rw here (begun text (rw here at some)) in
    let to : unwrap_or end (length rest) ≡ length (before is_blank rest) = ap
    (λ o. unwrap_or o (length rest)) e ∙ place is_blank rest in
    let one : first ≡ before is_blank rest = f ∙ ap (λ o. take (unwrap_or o (length rest)) rest) e
    ∙ front is_blank rest in
    let more : behind ≡ drop (suc (length (before is_blank rest))) rest = b ∙ ap
    (λ n. drop (suc n) rest) to in
    sym (ap words_of here ∙ skipped text) ∙ filled_word rest some filled ∙
    (λ i. sym one i ∷ words_of (sym more i))

-- there is no word where blanks are all there is
pub none_found : (text rest : List ℕ) (start : Option ℕ) → start ≡ position is_other text →
    rest ≡ drop (unwrap_or start (length text)) text → length rest ≡ 0 → words_of text ≡ []
none_found text rest start s r none =
    let at : unwrap_or start (length text) ≡ length (before is_other text) = ap
    (λ o. unwrap_or o (length text)) s ∙ place is_other text in
    let here : rest ≡ drop (length (before is_other text)) text = r ∙ ap (λ n. drop n text) at in
    sym (ap words_of here ∙ skipped text) ∙ ap words_of (empty rest none)
  where
    empty : (xs : List ℕ) → length xs ≡ 0 → xs ≡ []
    empty [] e = refl
    empty (x ∷ xs) e = absurd (omega (arith, e))

-- a symbol, by the calls that read it
pub symbol_cut : {E : Type 0} (kind : Kind) (count : ℕ) (text digits name : List ℕ) (at number :
    Option ℕ) (result : Result Said E) → at ≡ position is_space text →
    digits ≡ take (unwrap_or at (length text)) text →
    name ≡ drop (suc (unwrap_or at (length text))) text → number ≡ aig_number_below count digits →
    IfOk result (λ said. said ≡ symbol_with kind number name) →
    IfOk result (λ said. said ≡ symbol_of kind count text)
symbol_cut kind count text digits name at number result a d n m h =
    let to : unwrap_or at (length text) ≡ length (before is_space text) = ap
    (λ o. unwrap_or o (length text)) a ∙ place is_space text in
    let one : digits ≡ before is_space text = d ∙ ap (λ o. take (unwrap_or o (length text)) text) a
    ∙ front is_space text in
    let more : name ≡ drop (suc (length (before is_space text))) text = n ∙ ap
    (λ k. drop (suc k) text) to in
    let same : symbol_with kind number name ≡ symbol_of kind count text = (λ i. symbol_with kind ((m
    ∙ ap (aig_number_below count) one) i) (more i)) in
    subst (λ x. IfOk result (λ said. said ≡ x)) same h
