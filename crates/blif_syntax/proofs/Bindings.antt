-- Words as bindings, from the left.
use Rattle.std.proofs.Common.{ℕ, suc, ◌+◌, ◌<◌, ◌≡◌, refl, ap, sym, ◌∙◌, List, [], ◌∷◌, ◌++◌, length, get_or, take, drop, Option, Some, None, unwrap_or, append_assoc}
use Rattle.std.proofs.lemmas.List.{drop_more}
use Rattle.std.specs.List.{position}
use Rattle.blif_lines.proofs.Scanning.{front, place}
use Rattle.blif_syntax.specs.Forms.{is_equals, binding_with, binding_of, with_binding, bindings_of}

-- a word cut at its first `=`
pub cut_word : (word : List ℕ) → binding_with (take (unwrap_or (position is_equals word) (length word)) word) (drop (suc (unwrap_or (position is_equals word) (length word))) word) ≡ binding_of word
cut_word word = rw (front is_equals word) (rw (place is_equals word) refl)

-- these bindings before all others, where there are such
abbrev pub joined : List (List ℕ × List ℕ) → Option (List (List ℕ × List ℕ)) → Option (List (List ℕ × List ℕ))
joined bindings None = None
joined bindings (Some later) = Some (bindings ++ later)

joined_one : (bindings : List (List ℕ × List ℕ)) (binding : List ℕ × List ℕ) (later : Option (List (List ℕ × List ℕ))) → joined (bindings ++ binding ∷ []) later ≡ joined bindings (with_binding (Some binding) later)
joined_one bindings binding None = refl
joined_one bindings binding (Some later) = ap Some (append_assoc bindings (binding ∷ []) later)

-- the bindings of the words from a word on
from_word : (words : List (List ℕ)) (i : ℕ) (word bytes : List ℕ) (read : Option (List ℕ × List ℕ)) → i < length words → word ≡ get_or words i word → bytes ≡ word → read ≡ binding_of bytes → bindings_of (drop i words) ≡ with_binding read (bindings_of (drop (i + 1) words))
from_word words i word bytes read h g b r =
    let later = bindings_of (drop (i + 1) words) in
    ap bindings_of (drop_more words i word h) ∙ ap (λ w. with_binding (binding_of w) later) (sym g ∙ sym b) ∙ ap (λ o. with_binding o later) (sym r)

-- one turn of the loop over the words
pub binding_turn : (words : List (List ℕ)) (i : ℕ) (word bytes : List ℕ) (read : Option (List ℕ × List ℕ)) (binding : List ℕ × List ℕ) (bindings new : List (List ℕ × List ℕ)) (all : Option (List (List ℕ × List ℕ))) → i < length words → word ≡ get_or words i word → bytes ≡ word → read ≡ binding_of bytes → read ≡ Some binding → new ≡ bindings ++ binding ∷ [] → joined bindings (bindings_of (drop i words)) ≡ all → joined new (bindings_of (drop (i + 1) words)) ≡ all
binding_turn words i word bytes read binding bindings new all h g b r some n inv =
    let later = bindings_of (drop (i + 1) words) in
    let e : bindings_of (drop i words) ≡ with_binding (Some binding) later =
    from_word words i word bytes read h g b r ∙ ap (λ o. with_binding o later) some in
    rw n (joined_one bindings binding later ∙ sym (ap (joined bindings) e) ∙ inv)

-- a word that is no binding decides
pub no_binding : (words : List (List ℕ)) (i : ℕ) (word bytes : List ℕ) (read : Option (List ℕ × List ℕ)) (bindings : List (List ℕ × List ℕ)) (all : Option (List (List ℕ × List ℕ))) → i < length words → word ≡ get_or words i word → bytes ≡ word → read ≡ binding_of bytes → read ≡ None → joined bindings (bindings_of (drop i words)) ≡ all → None ≡ all
no_binding words i word bytes read bindings all h g b r none inv =
    let later = bindings_of (drop (i + 1) words) in
    let e : bindings_of (drop i words) ≡ None = from_word words i word bytes read h g b r ∙ ap (λ o. with_binding o later) none in
    sym (ap (joined bindings) e) ∙ inv
