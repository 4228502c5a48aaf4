-- What the expressions of a clause are read as.
use Rattle.std.proofs.Common.{ℕ, ◌≡◌, ◌≤◌, ◌<◌, refl, List, Option, Some, None, Result, Ok, Err, Bool, true, false, ◌||◌, arith}
use Rattle.bool_expr.specs.declared.expr.Expr.{Expr}
use Rattle.bool_expr.specs.declared.fault.ExprFault.{ExprFault}
use Rattle.bool_expr.specs.declared.fault.ExprFault.TheVariants.{BadExpr, TooDeep, UnknownVar, OutOfMemory}
use Rattle.bool_expr.specs.Grammar.{Expression, spelling, nesting}
use Rattle.bool_expr.specs.Read.{Spells, IsExprAnswer, HasCause, first_unknown, number_in}
use Rattle.assert_syntax.specs.declared.fault.TaskFault.{TaskFault}
use Rattle.assert_syntax.specs.declared.form.LineFault.TheVariants.{Deep}
use Rattle.assert_syntax.specs.declared.form.Span.{Span}
use Rattle.assert_syntax.specs.declared.form.Span.TheVariants as span
use Rattle.assert_syntax.specs.Parses.{Parse, IsParse, IsSpelled, is_deep}
use Rattle.assert_syntax.specs.Places.{clause_fault, unknown_fault}
use Rattle.assert_syntax.specs.private.Drafts.{both_read}
use Rattle.assert_syntax.specs.Reads.{IsRead, IsClauseRead}

-- what a text is read as, by what it spells
read_by : (vars : List (List ℕ)) (text : List ℕ) (answer : Result Expr ExprFault) (o : Option Expression) → ((d : Expression) → Spells d text → IsExprAnswer vars d answer) → HasCause vars text answer → IsSpelled text o → IsRead vars o answer
read_by vars text answer (Some d) exact cause s = exact d s
read_by vars text (Ok expr) None exact cause s = absurd (s cause.0 cause.1)
read_by vars text (Err BadExpr) None exact cause s = tt
read_by vars text (Err TooDeep) None exact cause s = absurd (s cause.0 cause.1)
read_by vars text (Err (UnknownVar name)) None exact cause s = absurd (s cause.0 cause.1)
read_by vars text (Err OutOfMemory) None exact cause s = tt

pub read_as : (vars : List (List ℕ)) (text : List ℕ) (answer : Result Expr ExprFault) → ((d : Expression) → Spells d text → IsExprAnswer vars d answer) → HasCause vars text answer → (parse : Parse) → IsParse parse → IsRead vars (parse text) answer
read_as vars text answer exact cause parse is = read_by vars text answer (parse text) exact cause (is text)

-- what a text is read as when memory runs out
no_memory_by : (vars : List (List ℕ)) (o : Option Expression) → IsRead vars o (Err OutOfMemory)
no_memory_by vars None = tt
no_memory_by vars (Some d) = tt

pub no_memory : (vars : List (List ℕ)) (text : List ℕ) (parse : Parse) → IsRead vars (parse text) (Err OutOfMemory)
no_memory vars text parse = no_memory_by vars (parse text)

deep : (d : Expression) → 100 < nesting d → is_deep d ≡ true
deep d h = grind (arith, h)

flat : (d : Expression) → nesting d ≤ 100 → is_deep d ≡ false
flat d h = grind (arith, h)

or_right : (a b : Bool) → b ≡ true → (a || b) ≡ true
or_right true b e = refl
or_right false b e = e

or_left : (a b : Bool) → a ≡ true → (a || b) ≡ true
or_left true b e = refl
or_left false b e = absurd (cc e)

when_deep : (vars : List (List ℕ)) (d e : Expression) (times : Span) → (is_deep d || is_deep e) ≡ true → clause_fault vars (Some d) (Some e) times ≡ Some Deep
when_deep vars d e times h = rw h refl

when_flat : (vars : List (List ℕ)) (d e : Expression) (times : Span) (a b : Option (List ℕ)) → nesting d ≤ 100 → nesting e ≤ 100 → first_unknown (number_in vars) (spelling d) ≡ a → first_unknown (number_in vars) (spelling e) ≡ b → clause_fault vars (Some d) (Some e) times ≡ unknown_fault a b times
when_flat vars d e times a b h k x y = rw (flat d h) (rw (flat e k) (rw x (rw y refl)))

-- what both are read as, by what both spell
by_both : (vars : List (List ℕ)) (line : ℕ) (times : Span) (v g : Option Expression) (value guard : Result Expr ExprFault) → IsRead vars v value → IsRead vars g guard → IsClauseRead vars v g times line (both_read line value guard times)
by_both vars line times v g (Err OutOfMemory) guard r s = tt
by_both vars line times v g (Ok x) (Err OutOfMemory) r s = tt
by_both vars line times v g (Err BadExpr) (Err OutOfMemory) r s = tt
by_both vars line times v g (Err TooDeep) (Err OutOfMemory) r s = tt
by_both vars line times v g (Err (UnknownVar n)) (Err OutOfMemory) r s = tt
by_both vars line times (Some d) g (Err BadExpr) (Ok y) r s = absurd r
by_both vars line times (Some d) g (Err BadExpr) (Err BadExpr) r s = absurd r
by_both vars line times (Some d) g (Err BadExpr) (Err TooDeep) r s = absurd r
by_both vars line times (Some d) g (Err BadExpr) (Err (UnknownVar m)) r s = absurd r
by_both vars line times None g (Err BadExpr) (Ok y) r s = (refl, refl)
by_both vars line times None g (Err BadExpr) (Err BadExpr) r s = (refl, refl)
by_both vars line times None g (Err BadExpr) (Err TooDeep) r s = (refl, refl)
by_both vars line times None g (Err BadExpr) (Err (UnknownVar m)) r s = (refl, refl)
by_both vars line times None g (Ok x) (Ok y) r s = absurd r
by_both vars line times None g (Ok x) (Err BadExpr) r s = absurd r
by_both vars line times None g (Ok x) (Err TooDeep) r s = absurd r
by_both vars line times None g (Ok x) (Err (UnknownVar m)) r s = absurd r
by_both vars line times None g (Err TooDeep) (Ok y) r s = absurd r
by_both vars line times None g (Err TooDeep) (Err BadExpr) r s = absurd r
by_both vars line times None g (Err TooDeep) (Err TooDeep) r s = absurd r
by_both vars line times None g (Err TooDeep) (Err (UnknownVar m)) r s = absurd r
by_both vars line times None g (Err (UnknownVar n)) (Ok y) r s = absurd r
by_both vars line times None g (Err (UnknownVar n)) (Err BadExpr) r s = absurd r
by_both vars line times None g (Err (UnknownVar n)) (Err TooDeep) r s = absurd r
by_both vars line times None g (Err (UnknownVar n)) (Err (UnknownVar m)) r s = absurd r
by_both vars line times (Some d) None (Ok x) (Err BadExpr) r s = (refl, refl)
by_both vars line times (Some d) None (Err TooDeep) (Err BadExpr) r s = (refl, refl)
by_both vars line times (Some d) None (Err (UnknownVar n)) (Err BadExpr) r s = (refl, refl)
by_both vars line times (Some d) (Some e) (Ok x) (Err BadExpr) r s = absurd s
by_both vars line times (Some d) (Some e) (Err TooDeep) (Err BadExpr) r s = absurd s
by_both vars line times (Some d) (Some e) (Err (UnknownVar n)) (Err BadExpr) r s = absurd s
by_both vars line times (Some d) None (Ok x) (Ok y) r s = absurd s
by_both vars line times (Some d) None (Ok x) (Err TooDeep) r s = absurd s
by_both vars line times (Some d) None (Ok x) (Err (UnknownVar m)) r s = absurd s
by_both vars line times (Some d) None (Err TooDeep) (Ok y) r s = absurd s
by_both vars line times (Some d) None (Err TooDeep) (Err TooDeep) r s = absurd s
by_both vars line times (Some d) None (Err TooDeep) (Err (UnknownVar m)) r s = absurd s
by_both vars line times (Some d) None (Err (UnknownVar n)) (Ok y) r s = absurd s
by_both vars line times (Some d) None (Err (UnknownVar n)) (Err TooDeep) r s = absurd s
by_both vars line times (Some d) None (Err (UnknownVar n)) (Err (UnknownVar m)) r s = absurd s
by_both vars line times (Some d) (Some e) (Err TooDeep) (Ok y) r s = (refl, when_deep vars d e times (or_left _ _ (deep d r)))
by_both vars line times (Some d) (Some e) (Err TooDeep) (Err TooDeep) r s = (refl, when_deep vars d e times (or_left _ _ (deep d r)))
by_both vars line times (Some d) (Some e) (Err TooDeep) (Err (UnknownVar m)) r s = (refl, when_deep vars d e times (or_left _ _ (deep d r)))
by_both vars line times (Some d) (Some e) (Ok x) (Err TooDeep) r s = (refl, when_deep vars d e times (or_right _ _ (deep e s)))
by_both vars line times (Some d) (Some e) (Err (UnknownVar n)) (Err TooDeep) r s = (refl, when_deep vars d e times (or_right _ _ (deep e s)))
by_both vars line times (Some d) (Some e) (Err (UnknownVar n)) (Ok y) r s = (refl, when_flat vars d e times (Some n) None r.0 s.0 r.1 s.1)
by_both vars line times (Some d) (Some e) (Err (UnknownVar n)) (Err (UnknownVar m)) r s = (refl, when_flat vars d e times (Some n) (Some m) r.0 s.0 r.1 s.1)
by_both vars line times (Some d) (Some e) (Ok x) (Err (UnknownVar m)) r s = (refl, when_flat vars d e times None (Some m) r.0 s.0 r.1 s.1)
by_both vars line span.Late (Some d) (Some e) (Ok x) (Ok y) r s = (refl, when_flat vars d e span.Late None None r.0 s.0 r.1 s.1)
by_both vars line span.Absent (Some d) (Some e) (Ok x) (Ok y) r s = (when_flat vars d e span.Absent None None r.0 s.0 r.1 s.1, r.2, s.2)
by_both vars line (span.During a b) (Some d) (Some e) (Ok x) (Ok y) r s = (when_flat vars d e (span.During a b) None None r.0 s.0 r.1 s.1, r.2, s.2)

pub clause_read : (vars : List (List ℕ)) (line : ℕ) (times : Span) (value guard : Result Expr ExprFault) (answer : Result (Expr × Expr) TaskFault) (v g : List ℕ) → ((parse : Parse) → IsParse parse → IsRead vars (parse v) value) → ((parse : Parse) → IsParse parse → IsRead vars (parse g) guard) → answer ≡ both_read line value guard times → (parse : Parse) → IsParse parse → IsClauseRead vars (parse v) (parse g) times line answer
clause_read vars line times value guard answer v g rv rg e parse is =
    rw e (by_both vars line times (parse v) (parse g) value guard (rv parse is) (rg parse is))
