-- Tokens that the pass goes through are those of an expression.
use Rattle.std.proofs.Common.{ℕ, ◌≡◌, refl, sym, ap, subst, ◌∙◌, List, [], ◌∷◌, ◌++◌, Bool, true, false, Some, append_assoc, append-nil, ◌⊎◌, inl, inr}
use Rattle.bool_expr.specs.declared.token.Sign.{Sign}
use Rattle.bool_expr.specs.declared.token.Sign.TheVariants.{Or, Xor, And}
use Rattle.bool_expr.specs.Tokens.{Token, sign, negation, opening, closing, constant, variable, wrong}
use Rattle.bool_expr.specs.Grammar.{Level, factor, chained, Phrase, Expression, literal, named, negated, bracketed, single, joined, spelling}
use Rattle.bool_expr.specs.Scan.{scan_from, scan_start}

-- what may stand behind a factor, up to the end of its bracket
abbrev pub IsTail : List Token → Type 0
IsTail tokens = (tokens ≡ []) ⊎ ((s : Sign) × (d : Expression) × (sign s ∷ spelling d ≡ tokens))

-- the same up to the end of the text, with so many brackets open
abbrev pub GoesOn : List ℕ → List Token → Type 0
GoesOn [] tokens = IsTail tokens
GoesOn (base ∷ outer) tokens = (tail : List Token) × (rest : List Token) × IsTail tail × (tail ++ closing ∷ rest ≡ tokens) × GoesOn outer rest

-- an expression stands here, and behind it the rest of the text
abbrev pub Begins : List ℕ → List Token → Type 0
Begins [] tokens = (d : Expression) × (spelling d ≡ tokens)
Begins (base ∷ outer) tokens = (d : Expression) × (rest : List Token) × (spelling d ++ closing ∷ rest ≡ tokens) × GoesOn outer rest

abbrev pub Rests : Bool → List ℕ → List Token → Type 0
Rests true outer tokens = Begins outer tokens
Rests false outer tokens = GoesOn outer tokens

-- a `!` before a phrase
opposed : {level : Level} (d : Phrase level) → (e : Phrase level) × (spelling e ≡ negation ∷ spelling d)
opposed (literal b) = (negated (literal b), refl)
opposed (named word) = (negated (named word), refl)
opposed (negated d) = (negated (negated d), refl)
opposed (bracketed d) = (negated (bracketed d), refl)
opposed (single s d) = let e = opposed d in (single s e.0, e.1)
opposed (joined s d more) = let e = opposed d in (joined s e.0 more, ap (λ l. l ++ sign s ∷ spelling more) e.1)

-- a factor and a sign before an expression
put_or : (f : Phrase factor) (d : Expression) → (e : Expression) × (spelling e ≡ spelling f ++ sign Or ∷ spelling d)
put_or f d = (joined Or (single Xor (single And f)) d, refl)

put_xor : (f : Phrase factor) (d : Expression) → (e : Expression) × (spelling e ≡ spelling f ++ sign Xor ∷ spelling d)
put_xor f (single Or d) = (single Or (joined Xor (single And f) d), refl)
put_xor f (joined Or d more) = (joined Or (joined Xor (single And f) d) more, append_assoc (spelling f) (sign Xor ∷ spelling d) (sign Or ∷ spelling more))

front_and : (f : Phrase factor) (d : Phrase (chained Xor)) → (e : Phrase (chained Xor)) × (spelling e ≡ spelling f ++ sign And ∷ spelling d)
front_and f (single Xor d) = (single Xor (joined And f d), refl)
front_and f (joined Xor d more) = (joined Xor (joined And f d) more, append_assoc (spelling f) (sign And ∷ spelling d) (sign Xor ∷ spelling more))

put_and : (f : Phrase factor) (d : Expression) → (e : Expression) × (spelling e ≡ spelling f ++ sign And ∷ spelling d)
put_and f (single Or d) = let e = front_and f d in (single Or e.0, e.1)
put_and f (joined Or d more) = let e = front_and f d in (joined Or e.0 more, ap (λ l. l ++ sign Or ∷ spelling more) e.1 ∙ append_assoc (spelling f) (sign And ∷ spelling d) (sign Or ∷ spelling more))

put : (s : Sign) (f : Phrase factor) (d : Expression) → (e : Expression) × (spelling e ≡ spelling f ++ sign s ∷ spelling d)
put Or f d = put_or f d
put Xor f d = put_xor f d
put And f d = put_and f d

with_tail : (f : Phrase factor) (tail : List Token) → IsTail tail → (e : Expression) × (spelling e ≡ spelling f ++ tail)
with_tail f tail (inl e) = (single Or (single Xor (single And f)), sym (append-nil (spelling f)) ∙ ap (λ l. spelling f ++ l) (sym e))
with_tail f tail (inr t) = let e = put t.0 f t.1 in (e.0, e.1 ∙ ap (λ l. spelling f ++ l) t.2)

-- a factor before what may stand behind it
begun : (f : Phrase factor) (outer : List ℕ) (tokens : List Token) → GoesOn outer tokens → Begins outer (spelling f ++ tokens)
begun f [] tokens t = with_tail f tokens t
begun f (base ∷ outer) tokens t =
    let e = with_tail f t.0 t.2 in
    (e.0, t.1, ap (λ l. l ++ closing ∷ t.1) e.1 ∙ append_assoc (spelling f) t.0 (closing ∷ t.1) ∙ ap (λ l. spelling f ++ l) t.3, t.4)

opposed_begins : (outer : List ℕ) (tokens : List Token) → Begins outer tokens → Begins outer (negation ∷ tokens)
opposed_begins [] tokens d = let e = opposed d.0 in (e.0, e.1 ∙ ap (λ l. negation ∷ l) d.1)
opposed_begins (base ∷ outer) tokens d =
    let e = opposed d.0 in
    (e.0, d.1, ap (λ l. l ++ closing ∷ d.1) e.1 ∙ ap (λ l. negation ∷ l) d.2, d.3)

bracket_begins : (base : ℕ) (outer : List ℕ) (tokens : List Token) → Begins (base ∷ outer) tokens → Begins outer (opening ∷ tokens)
bracket_begins base outer tokens d =
    subst (Begins outer) (ap (λ l. opening ∷ l) (append_assoc (spelling d.0) (closing ∷ []) d.1 ∙ d.2)) (begun (bracketed d.0) outer d.1 d.3)

sign_goes : (s : Sign) (outer : List ℕ) (tokens : List Token) → Begins outer tokens → GoesOn outer (sign s ∷ tokens)
sign_goes s [] tokens d = inr (s, d.0, ap (λ l. sign s ∷ l) d.1)
sign_goes s (base ∷ outer) tokens d = (sign s ∷ spelling d.0, d.1, inr (s, d.0, refl), ap (λ l. sign s ∷ l) d.2, d.3)

pub found : (limit : ℕ) (tokens : List Token) (wants : Bool) (depth base deepest : ℕ) (outer : List ℕ) (n : ℕ) → scan_from limit (record { wants = wants; depth = depth; base = base; deepest = deepest; outer = outer }) tokens ≡ Some n → Rests wants outer tokens
found limit [] true depth base deepest outer n e = absurd (cc)
found limit [] false depth base deepest [] n e = inl refl
found limit [] false depth base deepest (b ∷ outer) n e = absurd (cc)
found limit (sign s ∷ tokens) true depth base deepest outer n e = absurd (cc)
found limit (sign s ∷ tokens) false depth base deepest outer n e = sign_goes s outer tokens (found limit tokens true _ _ _ outer n e)
found limit (negation ∷ tokens) true depth base deepest outer n e = opposed_begins outer tokens (found limit tokens true _ _ _ outer n e)
found limit (negation ∷ tokens) false depth base deepest outer n e = absurd (cc)
found limit (opening ∷ tokens) true depth base deepest outer n e = bracket_begins base outer tokens (found limit tokens true _ _ _ (base ∷ outer) n e)
found limit (opening ∷ tokens) false depth base deepest outer n e = absurd (cc)
found limit (closing ∷ tokens) true depth base deepest outer n e = absurd (cc)
found limit (closing ∷ tokens) false depth base deepest [] n e = absurd (cc)
found limit (closing ∷ tokens) false depth base deepest (b ∷ outer) n e = ([], tokens, inl refl, refl, found limit tokens false _ _ _ outer n e)
found limit (constant v ∷ tokens) true depth base deepest outer n e = begun (literal v) outer tokens (found limit tokens false _ _ _ outer n e)
found limit (constant v ∷ tokens) false depth base deepest outer n e = absurd (cc)
found limit (variable word ∷ tokens) true depth base deepest outer n e = begun (named word) outer tokens (found limit tokens false _ _ _ outer n e)
found limit (variable word ∷ tokens) false depth base deepest outer n e = absurd (cc)
found limit (wrong ∷ tokens) wants depth base deepest outer n e = absurd (cc)

-- tokens that are gone through are those of an expression
pub expression_found : (limit : ℕ) (tokens : List Token) (n : ℕ) → scan_from limit scan_start tokens ≡ Some n → (d : Expression) × (spelling d ≡ tokens)
expression_found limit tokens n e = found limit tokens true 0 0 0 [] n e
