-- Meaning, and a law. Expressions under all assignments at once: their functions, and the functions
-- that have to be built for them. That lists are built from the first part on is a choice of this
-- project.
use Rattle.std.specs.Prelude.{◌≡◌, ℕ, Bool, true, false, List, [], ◌∷◌, ◌++◌, map, nat_lt, slice_index_or}
use Rattle.std.specs.List.{list_all}
use Rattle.bool_expr.specs.declared.expr.Expr.{Expr}
use Rattle.bool_expr.specs.declared.expr.Expr.TheOpen.{Expr-F, Const, Var, Not, All, Odd, Any}
use Rattle.bool_expr.specs.declared.expr.Expr.TheFolds.{fold-Expr}
use Rattle.bool_expr.specs.Value.{flips, value_of}
use Rattle.ste_base.specs.Functions.{Function}
use Rattle.net_core.specs.Work.{always, chain, conjunction, disjunction, negation, never, whole}

-- f ^ g: 1 where just one of them is 1
abbrev pub exclusive_disjunction : Function → Function → Function
exclusive_disjunction f g bits = flips (f bits) (g bits)

-- the function of an expression, and the functions that have to be built for it
pub record SymbolicValue : Type 0 where
  pub value : Function
  pub work : List Function

-- the functions for all parts, in order
abbrev pub all_work : List SymbolicValue → List Function
all_work [] = []
all_work (part ∷ parts) = part.work ++ all_work parts

-- a list of parts: what its parts need, then its prefixes, the first part, the first two, and so on
-- to all, and itself
abbrev pub joined_parts : (Function → Function → Function) → Function → List SymbolicValue →
    SymbolicValue
joined_parts join start parts =
    let fs = map (λ (part : SymbolicValue). part.value) parts in
    record {
      value = whole join start fs;
      work = all_work parts
          ++ (chain join start fs ++ whole join start fs ∷ []);
    }

-- one step of an expression, with what each part needs in the part's place
abbrev pub symbolic_step : Expr-F SymbolicValue → SymbolicValue
symbolic_step (Const bit) = let f : Function = λ bits. bit in record { value = f; work = f ∷ [] }
symbolic_step (Var variable) = let f :
    Function = λ bits. slice_index_or bits variable.0 false in record { value = f; work = f ∷ [] }
symbolic_step (Not part) = let f :
    Function = negation part.value.value in record { value = f; work = part.value.work ++ f ∷ [] }
symbolic_step (All parts) = joined_parts conjunction always parts.items
symbolic_step (Odd parts) = joined_parts exclusive_disjunction never parts.items
symbolic_step (Any parts) = joined_parts disjunction never parts.items

-- The function of an expression, and the functions that have to be built for it: that of each
-- expression in its tree, and for each list those of its prefixes.
abbrev pub symbolic_value : Expr → SymbolicValue
symbolic_value expr = fold-Expr SymbolicValue symbolic_step expr

-- one step of: each variable is below this number
abbrev pub reads_step : ℕ → Expr-F Bool → Bool
reads_step vars (Const bit) = true
reads_step vars (Var variable) = nat_lt variable.0 vars
reads_step vars (Not part) = part.value
reads_step vars (All parts) = list_all (λ b. b) parts.items
reads_step vars (Odd parts) = list_all (λ b. b) parts.items
reads_step vars (Any parts) = list_all (λ b. b) parts.items

-- each variable of the expression is below this number
abbrev pub reads : ℕ → Expr → Bool
reads vars expr = fold-Expr Bool (reads_step vars) expr

-- Law: the function of an expression has its value under each assignment.
abbrev pub FunctionsAreValues : Type 0
FunctionsAreValues = (expr : Expr) (bits : List Bool) →
    (symbolic_value expr).value bits ≡ value_of expr bits
