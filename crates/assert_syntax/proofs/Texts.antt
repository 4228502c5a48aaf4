-- The text of some words, word by word; and names that are added one by one.
use Rattle.std.proofs.Common.{ℕ, ◌+◌, ◌<◌, ◌≡◌, refl, ap, sym, ◌∙◌, List, [], ◌∷◌, ◌++◌, length, get_or, drop, Bool, true, false, not, Option, Some, append_assoc, append-nil, bytes_eq}
use Rattle.std.specs.List.{list_any}
use Rattle.std.proofs.lemmas.List.{drop_more}
use Rattle.blif_lines.specs.Laws.{text_of_words}
use Rattle.assert_syntax.specs.Places.{first_double}

-- words that stand behind another, each with a blank before it
abbrev pub behind_word : List (List ℕ) → List ℕ
behind_word [] = []
behind_word (word ∷ words) = 32 ∷ (word ++ behind_word words)

spaced_is : (word : List ℕ) (words : List (List ℕ)) → word ++ behind_word words ≡ text_of_words (word ∷ words)
spaced_is word [] = append-nil word
spaced_is word (next ∷ words) = ap (λ text. word ++ 32 ∷ text) (spaced_is next words)

pub words_begin : (words rest : List (List ℕ)) (word bytes : List ℕ) → words ≡ word ∷ rest → bytes ≡ word → bytes ++ behind_word rest ≡ text_of_words words
words_begin words rest word bytes e b = rw e (rw b (spaced_is word rest))

all_gone : (xs : List (List ℕ)) → drop (length xs) xs ≡ []
all_gone [] = refl
all_gone (x ∷ xs) = all_gone xs

none_left : (xs : List (List ℕ)) (k : ℕ) → k ≡ length xs → drop k xs ≡ []
none_left xs k same = rw same (all_gone xs)

pub words_end : (text all : List ℕ) (rest : List (List ℕ)) (i : ℕ) → i ≡ length rest → text ++ behind_word (drop i rest) ≡ all → text ≡ all
words_end text all rest i e inv = sym (append-nil text) ∙ ap (λ more. text ++ more) (sym (ap behind_word (none_left rest i e))) ∙ inv

-- the list from a word on
from_word : (words : List (List ℕ)) (i : ℕ) (word : List ℕ) → i < length words → word ≡ get_or words i word → drop i words ≡ word ∷ drop (i + 1) words
from_word words i word h g = drop_more words i word h ∙ ap (λ w. w ∷ drop (i + 1) words) (sym g)

-- one turn of the loop over the words
pub word_turn : (rest : List (List ℕ)) (i : ℕ) (word bytes : List ℕ) (text new all : List ℕ) → i < length rest → word ≡ get_or rest i word → bytes ≡ word → new ≡ text ++ 32 ∷ bytes → text ++ behind_word (drop i rest) ≡ all → new ++ behind_word (drop (i + 1) rest) ≡ all
word_turn rest i word bytes text new all h g b n inv =
    ap (λ t. t ++ behind_word (drop (i + 1) rest)) (n ∙ ap (λ w. text ++ 32 ∷ w) b)
    ∙ append_assoc text (32 ∷ word) (behind_word (drop (i + 1) rest))
    ∙ sym (ap (λ ws. text ++ behind_word ws) (from_word rest i word h g)) ∙ inv

turned : (a b : Bool) → a ≡ not b → a ≡ true → b ≡ false
turned a true e t = absurd (cc (e, t))
turned a false e t = refl

turned_back : (a b : Bool) → a ≡ not b → a ≡ false → b ≡ true
turned_back a true e t = refl
turned_back a false e t = absurd (cc (e, t))

-- one turn of the loop over names, where this one is new
pub name_turn : (names : List (List ℕ)) (i : ℕ) (name : List ℕ) (fresh : Bool) (old new : List (List ℕ)) (double : Option (List ℕ)) (all : List (List ℕ)) → i < length names → name ≡ get_or names i name → fresh ≡ not (list_any (bytes_eq name) old) → fresh ≡ true → (fresh ≡ true → new ≡ old ++ name ∷ []) → (first_double old (drop i names) ≡ double) × (old ++ drop i names ≡ all) → (first_double new (drop (i + 1) names) ≡ double) × (new ++ drop (i + 1) names ≡ all)
name_turn names i name fresh old new double all h g f t n inv =
    let at = from_word names i name h g in
    let absent = turned fresh (list_any (bytes_eq name) old) f t in
    let here : first_double old (name ∷ drop (i + 1) names) ≡ first_double (old ++ name ∷ []) (drop (i + 1) names) = rw absent refl in (
      ap (λ ks. first_double ks (drop (i + 1) names)) (n t) ∙ sym here ∙ sym (ap (first_double old) at) ∙ inv.0,
      ap (λ ks. ks ++ drop (i + 1) names) (n t) ∙ append_assoc old (name ∷ []) (drop (i + 1) names) ∙ sym (ap (λ ws. old ++ ws) at) ∙ inv.1,
    )

-- a name that is there already decides
pub name_double : (names : List (List ℕ)) (i : ℕ) (name copy : List ℕ) (fresh : Bool) (old : List (List ℕ)) (double : Option (List ℕ)) (all : List (List ℕ)) → i < length names → name ≡ get_or names i name → fresh ≡ not (list_any (bytes_eq name) old) → fresh ≡ false → copy ≡ name → (first_double old (drop i names) ≡ double) × (old ++ drop i names ≡ all) → Some copy ≡ double
name_double names i name copy fresh old double all h g f t c inv =
    let at = from_word names i name h g in
    let there = turned_back fresh (list_any (bytes_eq name) old) f t in
    let here : first_double old (name ∷ drop (i + 1) names) ≡ Some name = rw there refl in
    ap Some c ∙ sym here ∙ sym (ap (first_double old) at) ∙ inv.0
