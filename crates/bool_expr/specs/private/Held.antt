-- For private functions. Tokens, numbers and faults as the code holds them.
use Rattle.std.specs.Prelude.{ℕ, ◌≡◌, List, Option, None, Some, if◌then◌else◌, bytes_eq, Bool}
use Rattle.std.specs.HashMap.{HashMap, get}
use Rattle.bool_expr.specs.declared.token.Token as held
use Rattle.bool_expr.specs.declared.token.Token.TheVariants as held_as
use Rattle.bool_expr.specs.declared.fault.ExprFault.{ExprFault}
use Rattle.bool_expr.specs.declared.fault.ExprFault.TheVariants.{UnknownVar, OutOfMemory}
use Rattle.bool_expr.specs.Tokens.{Token, sign, negation, opening, closing, constant, variable, wrong}
use Rattle.bool_expr.specs.Read.{first_unknown}

-- the same token without where its name lies in memory
abbrev pub token_of : held.Token → Token
token_of (held_as.Sign s) = sign s
token_of held_as.Not = negation
token_of held_as.Open = opening
token_of held_as.Close = closing
token_of (held_as.Const b) = constant b
token_of (held_as.Name word) = variable word.now
token_of held_as.Wrong = wrong

-- the number that a table has for a variable
abbrev pub numbers : {S : Type 0} → HashMap (List ℕ) ℕ S → List ℕ → Option ℕ
numbers places word = get bytes_eq places word

-- what a table has for a word, once the variable n is added, where the word is its name or not
abbrev pub with_place : Option ℕ → Bool → ℕ → Option ℕ
with_place (Some place) same n = Some place
with_place None same n = if same then Some n else None

-- a fault in putting an expression together has its cause
abbrev pub IsCause : (List ℕ → Option ℕ) → List Token → ExprFault → Type 0
IsCause number tokens (UnknownVar name) = first_unknown number tokens ≡ Some name
IsCause number tokens OutOfMemory = Unit {0}
IsCause number tokens _ = ⊥
