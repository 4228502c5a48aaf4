-- The pass over the tokens of a phrase leads behind it, with the phrase's nesting.
use Rattle.std.proofs.Common.{ℕ, ◌+◌, ◌≤◌, ◌≡◌, refl, sym, ap, ◌∙◌, min, max, List, [], ◌∷◌, ◌++◌, arith, true, false, Some, append_assoc, append-nil}
use Rattle.bool_expr.specs.Tokens.{Token, sign, closing}
use Rattle.bool_expr.specs.Grammar.{Level, factor, chained, Phrase, Expression, literal, named, negated, bracketed, single, joined, spelling, nesting}
use Rattle.bool_expr.specs.Scan.{ScanState, scan_from, scan_start, deeper}

abbrev at_start : ℕ → ℕ → ℕ → List ℕ → ScanState
at_start depth base deepest outer = record { wants = true; depth = depth; base = base; deepest = deepest; outer = outer }

abbrev at_end : ℕ → ℕ → List ℕ → ScanState
at_end base deepest outer = record { wants = false; depth = base; base = base; deepest = deepest; outer = outer }

-- a chain has no `!` before it
abbrev Fits : Level → ℕ → ℕ → Type 0
Fits factor depth base = Unit {0}
Fits (chained s) depth base = depth ≡ base

part_fits : (level : Level) (depth base : ℕ) → depth ≡ base → Fits level depth base
part_fits factor depth base e = tt
part_fits (chained s) depth base e = e

same_end : (limit base m n : ℕ) (outer : List ℕ) (rest : List Token) → m ≡ n → scan_from limit (at_end base m outer) rest ≡ scan_from limit (at_end base n outer) rest
same_end limit base m n outer rest e = ap (λ k. scan_from limit (at_end base k outer) rest) e

pub leads : {level : Level} (limit : ℕ) (d : Phrase level) (depth base deepest : ℕ) (outer : List ℕ) (rest : List Token) → depth ≤ limit → base ≤ limit → Fits level depth base → scan_from limit (at_start depth base deepest outer) (spelling d ++ rest) ≡ scan_from limit (at_end base (max deepest (min (depth + nesting d) limit)) outer) rest
leads limit (literal b) depth base deepest outer rest h k f = same_end limit base _ _ outer rest (omega (arith, h))
leads limit (named word) depth base deepest outer rest h k f = same_end limit base _ _ outer rest (omega (arith, h))
leads limit (negated d) depth base deepest outer rest h k f =
    leads limit d (deeper limit depth) base deepest outer rest (omega arith) k tt ∙ same_end limit base _ _ outer rest (omega arith)
leads limit (bracketed d) depth base deepest outer rest h k f =
    let inner = deeper limit depth in
    ap (scan_from limit (at_start inner inner deepest (base ∷ outer))) (append_assoc (spelling d) (closing ∷ []) rest)
    ∙ leads limit d inner inner deepest (base ∷ outer) (closing ∷ rest) (omega arith) (omega arith) refl
    ∙ same_end limit base _ _ outer rest (omega arith)
leads limit (single s d) depth base deepest outer rest h k f = leads limit d depth base deepest outer rest h k (part_fits _ depth base f)
leads limit (joined s d more) depth base deepest outer rest h k f =
    let reached = max deepest (min (depth + nesting d) limit) in
    ap (scan_from limit (at_start depth base deepest outer)) (append_assoc (spelling d) (sign s ∷ spelling more) rest)
    ∙ leads limit d depth base deepest outer (sign s ∷ spelling more ++ rest) h k (part_fits _ depth base f)
    ∙ leads limit more base base reached outer rest k k refl
    ∙ same_end limit base _ _ outer rest (omega (arith, f))

-- the nesting of an expression is found, counted up to any limit
pub expression_depth : (limit : ℕ) (d : Expression) → scan_from limit scan_start (spelling d) ≡ Some (min (nesting d) limit)
expression_depth limit d =
    ap (scan_from limit scan_start) (sym (append-nil (spelling d))) ∙ leads limit d 0 0 0 [] [] (omega arith) (omega arith) refl ∙ ap (λ n. Some n) (omega arith)
