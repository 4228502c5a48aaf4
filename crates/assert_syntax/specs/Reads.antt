-- Meaning. What an expression and a clause are read as, by what their texts spell.
use Rattle.std.specs.Prelude.{◌≡◌, ℕ, List, Option, Some, None, Result, Ok, Err}
use Rattle.bool_expr.specs.declared.expr.Expr.{Expr}
use Rattle.bool_expr.specs.declared.fault.ExprFault.{ExprFault}
use Rattle.bool_expr.specs.declared.fault.ExprFault.TheVariants as expr_fault
use Rattle.bool_expr.specs.Grammar.{Expression}
use Rattle.bool_expr.specs.Read.{IsExprAnswer}
use Rattle.bool_expr.specs.Tree.{tree_of}
use Rattle.assert_syntax.specs.declared.fault.TaskFault.{TaskFault}
use Rattle.assert_syntax.specs.declared.fault.TaskFault.TheVariants.{BadLine, TooDeep, DoubleName, UnknownVar, TooMany, NoTask, OutOfMemory}
use Rattle.assert_syntax.specs.declared.form.LineFault.{LineFault}
use Rattle.assert_syntax.specs.declared.form.LineFault.TheVariants.{Bad, Deep, Double, Unknown, Many}
use Rattle.assert_syntax.specs.declared.form.Span.{Span}
use Rattle.assert_syntax.specs.Parses.{tree_over}
use Rattle.assert_syntax.specs.Places.{clause_fault}

-- the fault of a line of this number in which this is found
abbrev pub IsFault : ℕ → Option LineFault → TaskFault → Type 0
IsFault line found (BadLine n) = (n ≡ line) × (found ≡ Some Bad)
IsFault line found (TooDeep n) = (n ≡ line) × (found ≡ Some Deep)
IsFault line found (DoubleName n name) = (n ≡ line) × (found ≡ Some (Double name))
IsFault line found (UnknownVar n name) = (n ≡ line) × (found ≡ Some (Unknown name))
IsFault line found (TooMany n) = (n ≡ line) × (found ≡ Some Many)
IsFault line found NoTask = ⊥
IsFault line found OutOfMemory = Unit {0}

-- what a text is read as that spells this
abbrev pub IsRead : List (List ℕ) → Option Expression → Result Expr ExprFault → Type 0
IsRead vars (Some d) answer = IsExprAnswer vars d answer
IsRead vars None (Err expr_fault.BadExpr) = Unit {0}
IsRead vars None (Err expr_fault.OutOfMemory) = Unit {0}
IsRead vars None other = ⊥

-- what the expressions of a clause are read as, by what its value and its guard spell
abbrev pub IsClauseRead : List (List ℕ) → Option Expression → Option Expression → Span → ℕ →
    Result (Expr × Expr) TaskFault → Type 0
IsClauseRead vars value guard times line (Ok both) =
    (clause_fault vars value guard times ≡ None) × (tree_of both.0 ≡ tree_over vars value)
    × (tree_of both.1 ≡ tree_over vars guard)
IsClauseRead vars value guard times line (Err fault) =
    IsFault line (clause_fault vars value guard times) fault
