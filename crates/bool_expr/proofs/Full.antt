-- Each list of a tree that is spelled has two or more parts.
use Rattle.std.proofs.Common.{ℕ, ◌≡◌, List, [], ◌∷◌, Option, Some, Result, Ok, Err, sym, subst}
use Rattle.std.specs.Prelude.{IfOk, IfSome}
use Rattle.bool_expr.specs.declared.expr.Expr.{Expr}
use Rattle.bool_expr.specs.declared.fault.ExprFault.{ExprFault}
use Rattle.bool_expr.specs.declared.token.Sign.{Sign}
use Rattle.bool_expr.specs.Grammar.{Level, Phrase, chained, literal, named, negated, bracketed, single, joined, tree, parts}
use Rattle.bool_expr.specs.Laws.{TreesAreFull}
use Rattle.bool_expr.specs.Read.{HasCause}
use Rattle.bool_expr.specs.Tree.{Tree, AreFull, IsFull, all_of, tree_of_chain, tree_of}

chain_full : (s : Sign) (part : Tree) (rest : List Tree) → IsFull part → AreFull (all_of rest) → IsFull (tree_of_chain s (part ∷ rest))
chain_full s part [] h all = h
chain_full s part (next ∷ rest) h all = (tt, (h, all))

mutual
  full : {level : Level} (number : List ℕ → ℕ) (d : Phrase level) → IsFull (tree number d)
  full number (literal b) = tt
  full number (named word) = tt
  full number (negated part) = full number part
  full number (bracketed part) = full number part
  full number (single s part) = full number part
  full number (joined s part rest) = chain_full s (tree number part) (parts number rest) (full number part) (parts_full number rest)

  parts_full : {s : Sign} (number : List ℕ → ℕ) (d : Phrase (chained s)) → AreFull (all_of (parts number d))
  parts_full number (single s part) = (full number part, tt)
  parts_full number (joined s part rest) = (full number part, parts_full number rest)

pub trees_are_full : TreesAreFull
trees_are_full number d = full number d

pub full_answer : (vars : List (List ℕ)) (text : List ℕ) (answer : Result Expr ExprFault) → HasCause vars text answer → IfOk answer (λ expr. IsFull (tree_of expr))
full_answer vars text (Ok expr) h = subst IsFull (sym h.2.2) (full _ h.0)
full_answer vars text (Err fault) h = tt

pub full_found : (vars : List (List ℕ)) (text : List ℕ) (found : Option (Result Expr ExprFault)) (answer : Result Expr ExprFault) → found ≡ Some answer → IfSome found (λ a. HasCause vars text a) → IfOk answer (λ expr. IsFull (tree_of expr))
full_found vars text found answer e h = full_answer vars text answer (subst (λ f. IfSome f (λ a. HasCause vars text a)) e h)
