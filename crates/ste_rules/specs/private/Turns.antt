-- For private functions. What parts of a line are answered with.
use Rattle.std.specs.Prelude.{◌≡◌, ◌<◌, ℕ, List, length, Option, None, Some, Result, Ok, Err}
use Rattle.bool_expr.specs.declared.expr.Expr.{Expr}
use Rattle.bool_expr.specs.Grammar.{Expression, spelling, tree}
use Rattle.bool_expr.specs.Read.{first_unknown, number_in, place_by}
use Rattle.bool_expr.specs.Tree.{tree_of}
use Rattle.ste_rules.specs.declared.fault.ProofFault.{ProofFault}
use Rattle.ste_rules.specs.declared.fault.ProofFault.TheVariants.{BadLine, TooDeep, DoubleName, UnknownName, UnknownVar, UnknownNode, HasReset, BadNumber, NotCovered, TooMany, NoStep, OutOfMemory}
use Rattle.ste_rules.specs.Steps.{StepFault, Steps, bad, deep, double, unnamed, undeclared, unresolved, with_reset, bad_number, uncovered, many, read_as}

-- the fault of a line of this number on which this is found
abbrev pub IsTold : {X : Type 0} → ℕ → Result X StepFault → ProofFault → Type 0
IsTold line found (BadLine n) = (n ≡ line) × (found ≡ Err bad)
IsTold line found (TooDeep n) = (n ≡ line) × (found ≡ Err deep)
IsTold line found (DoubleName n name) = (n ≡ line) × (found ≡ Err (double name))
IsTold line found (UnknownName n name) = (n ≡ line) × (found ≡ Err (unnamed name))
IsTold line found (UnknownVar n name) = (n ≡ line) × (found ≡ Err (undeclared name))
IsTold line found (UnknownNode n name) = (n ≡ line) × (found ≡ Err (unresolved name))
IsTold line found (HasReset n) = (n ≡ line) × (found ≡ Err with_reset)
IsTold line found (BadNumber n) = (n ≡ line) × (found ≡ Err bad_number)
IsTold line found (NotCovered n) = (n ≡ line) × (found ≡ Err uncovered)
IsTold line found (TooMany n) = (n ≡ line) × (found ≡ Err many)
IsTold line found NoStep = ⊥
IsTold line found OutOfMemory = Unit {0}

-- what a line of this number is answered with, and the steps behind it
abbrev pub IsTurn : ℕ → Result Steps StepFault → Steps → Result (Unit {0}) ProofFault → Type 0
IsTurn line found new (Ok done) = found ≡ Ok new
IsTurn line found new (Err fault) = IsTold line found fault

-- the text of a number says this much, or more than any time
abbrev pub IsAmount : ℕ → Option ℕ → Type 0
IsAmount number (Some n) = n ≡ number
IsAmount number None = 100000 < number

-- an expression, or the first variable of it that is not declared, or the fault of its text
abbrev pub IsExpressionRead : List (List ℕ) → Option Expression → ℕ →
    Result (Result Expr (List ℕ)) ProofFault → Type 0
IsExpressionRead vars found line (Ok (Ok expr)) =
    (d : Expression) × (read_as found ≡ Ok d)
    × (first_unknown (number_in vars) (spelling d) ≡ None)
    × (tree_of expr ≡ tree (place_by (number_in vars)) d)
IsExpressionRead vars found line (Ok (Err name)) =
    (d : Expression) × (read_as found ≡ Ok d)
    × (first_unknown (number_in vars) (spelling d) ≡ Some name)
IsExpressionRead vars found line (Err fault) = IsTold line (read_as found) fault

-- each claim has a name
abbrev pub AreAligned : Steps → Type 0
AreAligned steps = length steps.names ≡ length steps.claims
