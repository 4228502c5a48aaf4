-- The tree that is put together from the tokens of a phrase is the phrase's tree.
use Rattle.std.proofs.Common.{ℕ, suc, ◌≡◌, refl, sym, ap, ◌∙◌, List, [], ◌∷◌, ◌++◌, append_assoc, append-nil}
use Rattle.bool_expr.specs.declared.token.Sign.{Sign}
use Rattle.bool_expr.specs.declared.token.Sign.TheVariants.{Or, Xor, And}
use Rattle.bool_expr.specs.Tokens.{Token, sign, closing}
use Rattle.bool_expr.specs.Tree.{Tree, bit, place, tree_of_chain}
use Rattle.bool_expr.specs.Grammar.{Level, factor, chained, Phrase, Expression, literal, named, negated, bracketed, single, joined, spelling, tree, parts}
use Rattle.bool_expr.specs.private.Build.{OpenBracket, nothing, with_factor, odd_parts, any_parts, with_sign, tree_in_bracket, build_from, build_start}

-- what stands in the bracket behind a phrase
abbrev behind : {level : Level} → (List ℕ → ℕ) → Phrase level → OpenBracket → OpenBracket
behind number (literal b) o = with_factor (bit b) o
behind number (named word) o = with_factor (place (number word)) o
behind number (negated d) o = behind number d (record { signs = suc o.signs; any = o.any; odd = o.odd; all = o.all })
behind number (bracketed d) o = with_factor (tree_in_bracket (behind number d nothing)) o
behind number (single s d) o = behind number d o
behind number (joined s d more) o = behind number more (with_sign s (behind number d o))

builds : {level : Level} (number : List ℕ → ℕ) (d : Phrase level) (o : OpenBracket) (outer : List OpenBracket) (rest : List Token) → build_from number (record { inner = o; outer = outer }) (spelling d ++ rest) ≡ build_from number (record { inner = behind number d o; outer = outer }) rest
builds number (literal b) o outer rest = refl
builds number (named word) o outer rest = refl
builds number (negated d) o outer rest = builds number d (record { signs = suc o.signs; any = o.any; odd = o.odd; all = o.all }) outer rest
builds number (bracketed d) o outer rest =
    ap (build_from number (record { inner = nothing; outer = o ∷ outer })) (append_assoc (spelling d) (closing ∷ []) rest)
    ∙ builds number d nothing (o ∷ outer) (closing ∷ rest)
builds number (single s d) o outer rest = builds number d o outer rest
builds number (joined s d more) o outer rest =
    ap (build_from number (record { inner = o; outer = outer })) (append_assoc (spelling d) (sign s ∷ spelling more) rest)
    ∙ builds number d o outer (sign s ∷ spelling more ++ rest)
    ∙ builds number more (with_sign s (behind number d o)) outer rest

-- the tree of a chain is that of its parts
whole : (s : Sign) (number : List ℕ → ℕ) (d : Phrase (chained s)) → tree_of_chain s (parts number d) ≡ tree number d
whole s number (single s' d) = refl
whole s number (joined s' d more) = refl

-- what stands behind a phrase, by what it is
abbrev IsBehind : (level : Level) → (List ℕ → ℕ) → Phrase level → Type 0
IsBehind factor number d = (o : OpenBracket) → behind number d o ≡ with_factor (tree number d) o
IsBehind (chained And) number d = (any odd all : List Tree) → behind number d (record { signs = 0; any = any; odd = odd; all = all }) ≡ record { signs = 0; any = any; odd = odd; all = all ++ parts number d }
IsBehind (chained Xor) number d = (any odd : List Tree) → let o = behind number d (record { signs = 0; any = any; odd = odd; all = [] }) in (o.any ≡ any) × (odd_parts o ≡ odd ++ parts number d)
IsBehind (chained Or) number d = (any : List Tree) → any_parts (behind number d (record { signs = 0; any = any; odd = []; all = [] })) ≡ any ++ parts number d

abbrev inner_of : List Tree → List Tree → List Tree → OpenBracket
inner_of any odd all = record { signs = 0; any = any; odd = odd; all = all }

is_behind : {level : Level} (number : List ℕ → ℕ) (d : Phrase level) → IsBehind level number d
is_behind number (literal b) = λ o. refl
is_behind number (named word) = λ o. refl
is_behind number (negated d) = λ o. is_behind number d (record { signs = suc o.signs; any = o.any; odd = o.odd; all = o.all })
is_behind number (bracketed d) = λ o. ap (λ t. with_factor t o) (ap (tree_of_chain Or) (is_behind number d []) ∙ whole Or number d)
is_behind number (single And d) = λ any odd all. is_behind number d (inner_of any odd all)
is_behind number (joined And d more) = λ any odd all.
    ap (λ o. behind number more (with_sign And o)) (is_behind number d (inner_of any odd all))
    ∙ is_behind number more any odd (all ++ tree number d ∷ [])
    ∙ ap (inner_of any odd) (append_assoc all (tree number d ∷ []) (parts number more))
is_behind number (single Xor d) = λ any odd.
    let e = is_behind number d any odd [] in
    (ap (λ o. o.any) e, ap odd_parts e ∙ ap (λ t. odd ++ t ∷ []) (whole And number d))
is_behind number (joined Xor d more) = λ any odd.
    let e = ap (with_sign Xor) (is_behind number d any odd []) ∙ ap (λ t. inner_of any (odd ++ t ∷ []) []) (whole And number d) in
    let m = is_behind number more any (odd ++ tree number d ∷ []) in
    (ap (λ o. (behind number more o).any) e ∙ m.0, ap (λ o. odd_parts (behind number more o)) e ∙ m.1 ∙ append_assoc odd (tree number d ∷ []) (parts number more))
is_behind number (single Or d) = λ any.
    let h = is_behind number d any [] in
    ap (λ l. l ++ tree_of_chain Xor (odd_parts (behind number d (inner_of any [] []))) ∷ []) h.0
    ∙ ap (λ l. any ++ tree_of_chain Xor l ∷ []) h.1
    ∙ ap (λ t. any ++ t ∷ []) (whole Xor number d)
is_behind number (joined Or d more) = λ any.
    let h = is_behind number d any [] in
    let e = ap (λ l. l ++ tree_of_chain Xor (odd_parts (behind number d (inner_of any [] []))) ∷ []) h.0 ∙ ap (λ l. any ++ tree_of_chain Xor l ∷ []) h.1 ∙ ap (λ t. any ++ t ∷ []) (whole Xor number d) in
    ap (λ l. any_parts (behind number more (inner_of l [] []))) e
    ∙ is_behind number more (any ++ tree number d ∷ [])
    ∙ append_assoc any (tree number d ∷ []) (parts number more)

pub expression_tree : (number : List ℕ → ℕ) (d : Expression) → build_from number build_start (spelling d) ≡ tree number d
expression_tree number d =
    ap (build_from number build_start) (sym (append-nil (spelling d))) ∙ builds number d nothing [] [] ∙ ap (tree_of_chain Or) (is_behind number d []) ∙ whole Or number d
