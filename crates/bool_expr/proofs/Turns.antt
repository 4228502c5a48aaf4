-- One more token of an expression that is put together.
use Rattle.std.proofs.Common.{ℕ, suc, ◌≤◌, ◌≡◌, refl, sym, ap, ◌∙◌, List, [], ◌∷◌, arith, Bool, true, false, Option, None, Some}
use Rattle.bool_expr.specs.declared.token.Sign.TheVariants.{Or, Xor, And}
use Rattle.bool_expr.specs.declared.fault.ExprFault.{ExprFault}
use Rattle.bool_expr.specs.declared.fault.ExprFault.TheVariants.{BadExpr, TooDeep, UnknownVar, OutOfMemory}
use Rattle.std.specs.Prelude.{is_some, if◌then◌else◌}
use Rattle.bool_expr.specs.Tokens.{Token, sign, negation, opening, closing, constant, variable, wrong}
use Rattle.bool_expr.specs.Read.{first_unknown}
use Rattle.bool_expr.specs.private.Held.{IsCause}
use Rattle.bool_expr.specs.private.Build.{OpenBrackets, OpenBracket, turn, behind_closing}

shut_signs : (b : OpenBrackets) (outer : List OpenBracket) → (behind_closing b outer).inner.signs ≤ suc b.inner.signs
shut_signs b [] = omega arith
shut_signs b (o ∷ outer) = omega arith

-- a token is at most one more `!`
pub turn_signs : (number : List ℕ → ℕ) (b : OpenBrackets) (token : Token) → (turn number b token).inner.signs ≤ suc b.inner.signs
turn_signs number b (sign Or) = omega arith
turn_signs number b (sign Xor) = omega arith
turn_signs number b (sign And) = omega arith
turn_signs number b negation = omega arith
turn_signs number b opening = omega arith
turn_signs number b closing = shut_signs b b.outer
turn_signs number b (constant v) = omega arith
turn_signs number b (variable word) = omega arith
turn_signs number b wrong = omega arith

known_one : (c : Bool) (word : List ℕ) (rest : Option (List ℕ)) → (if c then None else Some word) ≡ None → (if c then rest else Some word) ≡ rest
known_one true word rest e = refl
known_one false word rest e = absurd (cc)

-- behind a token that is known
pub first_known : (number : List ℕ → Option ℕ) (token : Token) (tokens : List Token) → first_unknown number (token ∷ []) ≡ None → first_unknown number (token ∷ tokens) ≡ first_unknown number tokens
first_known number (sign s) tokens e = refl
first_known number negation tokens e = refl
first_known number opening tokens e = refl
first_known number closing tokens e = refl
first_known number (constant v) tokens e = refl
first_known number (variable word) tokens e = known_one (is_some (number word)) word (first_unknown number tokens) e
first_known number wrong tokens e = refl

unknown_one : (c : Bool) (word name : List ℕ) (rest : Option (List ℕ)) → (if c then None else Some word) ≡ Some name → (if c then rest else Some word) ≡ Some name
unknown_one true word name rest e = absurd (cc)
unknown_one false word name rest e = e

unknown_first : (number : List ℕ → Option ℕ) (token : Token) (tokens : List Token) (name : List ℕ) → first_unknown number (token ∷ []) ≡ Some name → first_unknown number (token ∷ tokens) ≡ Some name
unknown_first number (sign s) tokens name e = absurd (cc)
unknown_first number negation tokens name e = absurd (cc)
unknown_first number opening tokens name e = absurd (cc)
unknown_first number closing tokens name e = absurd (cc)
unknown_first number (constant v) tokens name e = absurd (cc)
unknown_first number (variable word) tokens name e = unknown_one (is_some (number word)) word name (first_unknown number tokens) e
unknown_first number wrong tokens name e = absurd (cc)

cause_first : (number : List ℕ → Option ℕ) (token : Token) (tokens : List Token) (fault : ExprFault) → IsCause number (token ∷ []) fault → IsCause number (token ∷ tokens) fault
cause_first number token tokens BadExpr h = h
cause_first number token tokens TooDeep h = h
cause_first number token tokens (UnknownVar name) h = unknown_first number token tokens name h
cause_first number token tokens OutOfMemory h = h

cause_same : (number : List ℕ → Option ℕ) (one other : List Token) (fault : ExprFault) → first_unknown number one ≡ first_unknown number other → IsCause number one fault → IsCause number other fault
cause_same number one other BadExpr e h = h
cause_same number one other TooDeep e h = h
cause_same number one other (UnknownVar name) e h = sym e ∙ h
cause_same number one other OutOfMemory e h = h

-- a fault of the next token is one of the text
pub cause : (number : List ℕ → Option ℕ) (token : Token) (tokens all rest : List Token) (fault : ExprFault) → rest ≡ token ∷ tokens → first_unknown number rest ≡ first_unknown number all → IsCause number (token ∷ []) fault → IsCause number all fault
cause number token tokens all rest fault e f h = cause_same number (token ∷ tokens) all fault (ap (first_unknown number) (sym e) ∙ f) (cause_first number token tokens fault h)
