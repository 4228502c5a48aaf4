-- The two passes over a text answer as the expression that it spells.
use Rattle.std.proofs.Common.{ℕ, ◌+◌, ◌≡◌, ◌≤◌, refl, sym, ap, ◌∙◌, List, [], ◌∷◌, Bool, true, Option, None, Some, min, arith, Result, Ok, Err, IfOk, IfErr}
use Rattle.std.specs.Prelude.{is_some, IsTrue}
use Rattle.bool_expr.specs.declared.token.Sign.TheVariants.{Or, Xor, And}
use Rattle.bool_expr.specs.declared.expr.Expr.{Expr}
use Rattle.bool_expr.specs.declared.fault.ExprFault.{ExprFault}
use Rattle.bool_expr.specs.declared.fault.ExprFault.TheVariants.{BadExpr, TooDeep, UnknownVar, OutOfMemory}
use Rattle.bool_expr.specs.Tokens.{variable, tokens_of}
use Rattle.bool_expr.specs.Tree.{bit, place, tree_of}
use Rattle.bool_expr.specs.Grammar.{Phrase, factor, Expression, literal, named, single, spelling, nesting}
use Rattle.bool_expr.specs.Scan.{scan_from, scan_start}
use Rattle.bool_expr.specs.private.Build.{build_from, build_start}
use Rattle.bool_expr.specs.Read.{Spells, IsExprAnswer, HasCause, first_unknown, place_by, number_in}
use Rattle.bool_expr.specs.private.Held.{IsCause}
use Rattle.bool_expr.specs.Laws.{OneTextSpellsOneTree}
use Rattle.bool_expr.proofs.Deep.{expression_depth}
use Rattle.bool_expr.proofs.Found.{expression_found}
use Rattle.bool_expr.proofs.Trees.{expression_tree}

some_depth : (n m : ℕ) → Some n ≡ Some m → n ≡ m
some_depth n m e = cc

-- the nesting of both, counted up to their sum
one_nesting : (one other : Expression) → spelling one ≡ spelling other → nesting one ≡ nesting other
one_nesting one other e =
    let limit = nesting one + nesting other in
    let same = some_depth (min (nesting one) limit) (min (nesting other) limit) (sym (expression_depth limit one) ∙ ap (scan_from limit scan_start) e ∙ expression_depth limit other) in
    omega (arith, same)

pub one_tree : OneTextSpellsOneTree
one_tree text one other e f =
    (one_nesting one other (e ∙ sym f), λ number. sym (expression_tree number one) ∙ ap (build_from number build_start) (e ∙ sym f) ∙ expression_tree number other)

depth_is : (d : Expression) (text : List ℕ) (found : Option ℕ) → Spells d text → found ≡ scan_from 101 scan_start (tokens_of text) → found ≡ Some (min (nesting d) 101)
depth_is d text found s e = e ∙ ap (scan_from 101 scan_start) (sym s) ∙ expression_depth 101 d

-- a text at which the first pass stops is no expression
pub none_spelled : (text : List ℕ) (found : Option ℕ) → found ≡ scan_from 101 scan_start (tokens_of text) → found ≡ None → (d : Expression) → ¬ Spells d text
none_spelled text found e n d s = let f = depth_is d text found s e in absurd (cc)

pub depth_of : (text : List ℕ) (found : Option ℕ) (depth : ℕ) → found ≡ scan_from 101 scan_start (tokens_of text) → found ≡ Some depth → (d : Expression) → Spells d text → depth ≡ min (nesting d) 101
depth_of text found depth e n d s = some_depth depth (min (nesting d) 101) (sym n ∙ depth_is d text found s e)

-- a text that the first pass goes through is an expression
pub some_spelled : (text : List ℕ) (found : Option ℕ) (depth : ℕ) → found ≡ scan_from 101 scan_start (tokens_of text) → found ≡ Some depth → (d : Expression) × Spells d text
some_spelled text found depth e n = expression_found 101 (tokens_of text) depth (sym e ∙ n)

-- the answer of the second pass, where the first finds a depth of at most 100
pub answered : (vars : List (List ℕ)) (text : List ℕ) (depth : ℕ) (number : List ℕ → Option ℕ) (answer : Result Expr ExprFault) → depth ≤ 100 → number ≡ number_in vars → IfOk answer (λ expr. tree_of expr ≡ build_from (place_by number) build_start (tokens_of text)) → IfOk answer (λ _. first_unknown number (tokens_of text) ≡ None) → IfErr answer (λ fault. IsCause number (tokens_of text) fault) → (d : Expression) → Spells d text → depth ≡ min (nesting d) 101 → IsExprAnswer vars d answer
answered vars text depth number (Ok expr) h same ok known err d s e =
    (omega arith, ap (λ f. first_unknown f (spelling d)) (sym same) ∙ ap (first_unknown number) s ∙ known, ok ∙ ap (λ f. build_from (place_by f) build_start (tokens_of text)) same ∙ ap (build_from (place_by (number_in vars)) build_start) (sym s) ∙ expression_tree (place_by (number_in vars)) d)
answered vars text depth number (Err BadExpr) h same ok known err d s e = err
answered vars text depth number (Err TooDeep) h same ok known err d s e = absurd err
answered vars text depth number (Err (UnknownVar name)) h same ok known err d s e =
    (omega arith, ap (λ f. first_unknown f (spelling d)) (sym same) ∙ ap (first_unknown number) s ∙ err)
answered vars text depth number (Err OutOfMemory) h same ok known err d s e = tt

-- an answer other than out of memory has its cause, where the text spells an expression
pub caused : (vars : List (List ℕ)) (text : List ℕ) (answer : Result Expr ExprFault) (d : Expression) → Spells d text → IsExprAnswer vars d answer → HasCause vars text answer
caused vars text (Ok expr) d s a = (d, s, a)
caused vars text (Err BadExpr) d s a = absurd a
caused vars text (Err TooDeep) d s a = (d, s, a)
caused vars text (Err (UnknownVar name)) d s a = (d, s, a)
caused vars text (Err OutOfMemory) d s a = tt

-- an answer for one expression that a text spells is one for each
pub answers_each : (vars : List (List ℕ)) (text : List ℕ) (answer : Result Expr ExprFault) (one : Expression) → Spells one text → IsExprAnswer vars one answer → (d : Expression) → Spells d text → IsExprAnswer vars d answer
answers_each vars text (Ok expr) one e a d s =
    let same = one_tree text one d e s in
    let nested = same.0 in
    (omega (arith, a.0, nested), ap (first_unknown (number_in vars)) (s ∙ sym e) ∙ a.1, a.2 ∙ same.1 (place_by (number_in vars)))
answers_each vars text (Err BadExpr) one e a d s = a
answers_each vars text (Err TooDeep) one e a d s = let nested = (one_tree text one d e s).0 in omega (arith, a, nested)
answers_each vars text (Err (UnknownVar name)) one e a d s =
    let nested = (one_tree text one d e s).0 in
    (omega (arith, a.0, nested), ap (first_unknown (number_in vars)) (s ∙ sym e) ∙ a.1)
answers_each vars text (Err OutOfMemory) one e a d s = tt

-- the expression that is one factor
abbrev pub alone : Phrase factor → Expression
alone f = single Or (single Xor (single And f))

pub bit_answer : (vars : List (List ℕ)) (b : Bool) (expr : Expr) → tree_of expr ≡ bit b → IsExprAnswer vars (alone (literal b)) (Ok expr)
bit_answer vars b expr same = (omega arith, refl, same)

pub word_answer : (vars : List (List ℕ)) (word : List ℕ) (answer : Result Expr ExprFault) → IfOk answer (λ expr. tree_of expr ≡ place (place_by (number_in vars) word)) → IfOk answer (λ _. IsTrue (is_some (number_in vars word))) → IfErr answer (λ fault. IsCause (number_in vars) (variable word ∷ []) fault) → IsExprAnswer vars (alone (named word)) answer
word_answer vars word (Ok expr) ok known err = let k : is_some (number_in vars word) ≡ true = known in (omega arith, rw k refl, ok)
word_answer vars word (Err BadExpr) ok known err = err
word_answer vars word (Err TooDeep) ok known err = absurd err
word_answer vars word (Err (UnknownVar name)) ok known err = (omega arith, err)
word_answer vars word (Err OutOfMemory) ok known err = tt
