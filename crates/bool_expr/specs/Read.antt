-- Meaning. What the text of an expression is read as over the declared variables.
use Rattle.std.specs.Prelude.{ℕ, suc, ◌<◌, ◌≤◌, ◌≡◌, List, [], ◌∷◌, Option, None, Some, unwrap_or, is_some, if◌then◌else◌, bytes_eq, Result, Ok, Err}
use Rattle.bool_expr.specs.declared.expr.Expr.{Expr}
use Rattle.bool_expr.specs.declared.fault.ExprFault.{ExprFault}
use Rattle.bool_expr.specs.declared.fault.ExprFault.TheVariants.{BadExpr, TooDeep, UnknownVar, OutOfMemory}
use Rattle.bool_expr.specs.Tokens.{Token, variable, tokens_of}
use Rattle.bool_expr.specs.Grammar.{Expression, spelling, nesting, tree}
use Rattle.bool_expr.specs.Tree.{tree_of}

-- the place of a word among these names, the first of which has number n
abbrev pub place_from : ℕ → List (List ℕ) → List ℕ → Option ℕ
place_from n [] word = None
place_from n (name ∷ names) word =
    if bytes_eq name word then Some n else place_from (suc n) names word

-- the number of a declared variable: its first place from 0
abbrev pub number_in : List (List ℕ) → List ℕ → Option ℕ
number_in vars word = place_from 0 vars word

-- the number, with 0 for a variable that is not declared
abbrev pub place_by : (List ℕ → Option ℕ) → List ℕ → ℕ
place_by number word = unwrap_or (number word) 0

-- the first variable of the tokens that has no number
abbrev pub first_unknown : (List ℕ → Option ℕ) → List Token → Option (List ℕ)
first_unknown number [] = None
first_unknown number (variable word ∷ tokens) =
    if is_some (number word) then first_unknown number tokens else Some word
first_unknown number (_ ∷ tokens) = first_unknown number tokens

-- the text spells the expression
abbrev pub Spells : Expression → List ℕ → Type 0
Spells d text = spelling d ≡ tokens_of text

-- what an expression is answered with over these variables, unless memory runs out
abbrev pub IsExprAnswer : List (List ℕ) → Expression → Result Expr ExprFault → Type 0
IsExprAnswer vars d (Ok expr) =
    (nesting d ≤ 100) × (first_unknown (number_in vars) (spelling d) ≡ None)
    × (tree_of expr ≡ tree (place_by (number_in vars)) d)
IsExprAnswer vars d (Err BadExpr) = ⊥
IsExprAnswer vars d (Err TooDeep) = 100 < nesting d
IsExprAnswer vars d (Err (UnknownVar name)) = (nesting d ≤ 100)
    × (first_unknown (number_in vars) (spelling d) ≡ Some name)
IsExprAnswer vars d (Err OutOfMemory) = Unit {0}

-- an answer has its cause: a text that is no expression, or the expression that the text spells
abbrev pub HasCause : List (List ℕ) → List ℕ → Result Expr ExprFault → Type 0
HasCause vars text (Err BadExpr) = (d : Expression) → ¬ Spells d text
HasCause vars text (Err OutOfMemory) = Unit {0}
HasCause vars text answer = (d : Expression) × Spells d text × IsExprAnswer vars d answer
