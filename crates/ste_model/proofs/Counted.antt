-- The samples: expressions give way to their functions, and then the numbers are counted.
use Rattle.std.proofs.Common.{◌≡◌, ℕ, zero, suc, Bool, true, false, List, [], ◌∷◌, ◌++◌, refl, ◌∙◌, ap}
use Rattle.bool_expr.specs.declared.expr.Expr.{Expr}
use Rattle.bool_expr.specs.declared.expr.Expr.TheOpen.{Expr-F, Const, Var}
use Rattle.bool_expr.specs.declared.expr.Expr.TheFolds.{fold-roll-Expr}
use Rattle.bool_expr.specs.Value.{value_of, value_step}
use Rattle.dd_nodes.specs.Functions.{node_count}
use Rattle.net_core.specs.declared.raw.RawNet.{RawNet}
use Rattle.ste_base.specs.Functions.{Function}
use Rattle.net_core.specs.Work.{SymbolicCut, SymbolicSet, always, conjunction, everything, negation, some_empty, sum, sums, time_work}
use Rattle.ste_model.specs.Expressions.{SymbolicValue, symbolic_step, symbolic_value}
use Rattle.ste_model.specs.Samples.{SamplesAreCounted, and_gate, guarded_set, guarded_table, one, p, plain_table, q, variable}
use Rattle.ste_model.specs.Work.{consequents_work, strong_findings, weak_findings}

-- the work functions, from those of the quintuples, of all times, and what is found
abbrev written : List Function → List Function → List Function → List Function → List Function → List Function → List Function
written ant con times empty strong weak =
    let c : Function = sum empty in
    let s : Function = conjunction (sum strong) (negation c) in
    let u : Function = conjunction (sum weak) (negation c) in
    ant ++ (con ++ (times ++ (sums empty ++ (negation c ∷ (sums strong ++ (sums weak ++ (s ∷ negation s ∷ u ∷ conjunction u (negation s) ∷ [])))))))

-- the expressions of the samples: 1, p and q
abbrev pub expression : ℕ → Expr
expression zero = one
expression (suc zero) = variable 0
expression (suc (suc n)) = variable 1

abbrev pub layer : ℕ → Expr-F SymbolicValue
layer zero = Const true
layer (suc zero) = Var (record { 0 = 0 })
layer (suc (suc n)) = Var (record { 0 = 1 })

abbrev pub functions : ℕ → Function
functions zero = always
functions (suc zero) = p
functions (suc (suc n)) = q

works_are : (n : ℕ) → symbolic_value (expression n) ≡ symbolic_step (layer n)
works_are zero = fold-roll-Expr SymbolicValue symbolic_step (Const true)
works_are (suc zero) = fold-roll-Expr SymbolicValue symbolic_step (Var (record { 0 = 0 }))
works_are (suc (suc n)) = fold-roll-Expr SymbolicValue symbolic_step (Var (record { 0 = 1 }))

values_are : (n : ℕ) (bits : List Bool) → value_of (expression n) bits ≡ functions n bits
values_are zero bits = fold-roll-Expr Bool (value_step bits) (Const true)
values_are (suc zero) bits = fold-roll-Expr Bool (value_step bits) (Var (record { 0 = 0 }))
values_are (suc (suc n)) bits = fold-roll-Expr Bool (value_step bits) (Var (record { 0 = 1 }))

module _ (w : ℕ → SymbolicValue) (f : ℕ → Function) where
  abbrev cut : ℕ → ℕ → ℕ → SymbolicCut
  cut guard node value = record { node = node; guard = f guard; value = f value }

  abbrev plain_written : List Function
  plain_written =
      let net : RawNet = and_gate false in
      let con : List SymbolicCut = cut 2 2 1 ∷ [] in
      let sets : ℕ → SymbolicSet = plain_table 0 in
      written ((w 0).work ++ ((w 1).work ++ ((w 0).work ++ ((w 2).work ++ [])))) ((w 2).work ++ ((w 1).work ++ []))
      (time_work net [] (record { cuts = cut 0 0 1 ∷ cut 0 1 2 ∷ []; weak = [] }) sets ++ consequents_work sets con)
      (some_empty net sets ∷ []) (strong_findings sets con) (weak_findings sets con)

  abbrev guarded_written : List Function
  guarded_written =
      let net : RawNet = and_gate true in
      let con : List SymbolicCut = cut 2 2 1 ∷ [] in
      let ant : List SymbolicCut = cut 2 0 1 ∷ [] in
      let first : ℕ → SymbolicSet = guarded_table 0 in
      let second : ℕ → SymbolicSet = guarded_table 1 in
      written ((w 2).work ++ ((w 1).work ++ [])) ((w 2).work ++ ((w 1).work ++ []))
      ((time_work net (everything ∷ []) (record { cuts = ant; weak = [] }) first ++ [])
      ++ (time_work net (guarded_set ∷ []) (record { cuts = ant; weak = [] }) second ++ consequents_work second con))
      (some_empty net first ∷ some_empty net second ∷ []) (strong_findings second con) (weak_findings second con)

-- what is counted with the functions is counted with the expressions
pub by_functions : (list : (ℕ → SymbolicValue) → (ℕ → Function) → List Function) (n : ℕ)
    → node_count 2 (list (λ k. symbolic_step (layer k)) functions) ≡ n → node_count 2 (list (λ k. symbolic_value (expression k)) (λ k. value_of (expression k))) ≡ n
by_functions list n is =
    let works : (λ (k : ℕ). symbolic_value (expression k)) ≡ (λ k. symbolic_step (layer k)) = λ i k. works_are k i in
    let values : (λ (k : ℕ). value_of (expression k)) ≡ functions = λ i k bits. values_are k bits i in
    ap (λ w. node_count 2 (list w (λ k. value_of (expression k)))) works ∙ ap (λ f. node_count 2 (list (λ k. symbolic_step (layer k)) f)) values ∙ is

pub samples_are_counted : SamplesAreCounted
samples_are_counted = record {
  plain = by_functions plain_written 7 refl;
  guarded = by_functions guarded_written 8 refl;
}
