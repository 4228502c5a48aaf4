-- For private functions. What a literal refuses of a set, and what a list of rows does.
use Rattle.std.specs.Prelude.{Bool, true, List, ◌∷◌, [], if◌then◌else◌}
use Rattle.net_core.specs.Cases.{has_only_any}
use Rattle.net_core.specs.declared.cover.Lit.{Lit}
use Rattle.net_core.specs.declared.cover.Lit.TheVariants.{Zero, One, Any}
use Rattle.ste_base.specs.Functions.{Function}
use Rattle.net_core.specs.Work.{SymbolicSet, disjunction, factor, negation, never, row_products, rows_work, sum}

-- what a literal refuses of a set: o for 0, z for 1, nothing for -
abbrev pub other_factor : Lit → SymbolicSet → Function
other_factor Zero w = w.one
other_factor One w = w.zero
other_factor Any w = never

-- where some row matches, and where none does, of sets that have one bit each; and the functions
-- for both
abbrev pub list_set : List (List Lit) → List SymbolicSet → SymbolicSet
list_set rows sets =
    record { zero = negation (sum (row_products rows sets)); one = sum (row_products rows sets) }

abbrev pub list_work : List (List Lit) → List SymbolicSet → List Function
list_work rows sets = negation (sum (row_products rows sets)) ∷ rows_work rows sets

-- 1 for 0, 0 for 1, - for -
abbrev pub flipped : Lit → Lit
flipped Zero = One
flipped One = Zero
flipped Any = Any

-- the rows that match where both literals admit their bits, or neither does
abbrev pub exclusive_rows : Lit → Lit → List (List Lit)
exclusive_rows x y = (x ∷ y ∷ []) ∷ (flipped x ∷ flipped y ∷ []) ∷ []

-- f where the test is 1, and g where it is 0
abbrev pub choice : Function → Function → Function → Function
choice test f g bits = if test bits then f bits else g bits

-- where such rows match, and where they do not, of sets that have one bit each
abbrev pub differ : Lit → Lit → SymbolicSet → SymbolicSet → Function
differ x y v w = choice (factor x v) (factor y w) (other_factor y w)

abbrev pub agree : Lit → Lit → SymbolicSet → SymbolicSet → Function
agree x y v w = choice (factor x v) (other_factor y w) (factor y w)

-- each literal but the last one that is no - is 1 or -
abbrev pub is_rising : List Lit → Bool
is_rising [] = true
is_rising (Any ∷ row) = is_rising row
is_rising (One ∷ row) = is_rising row
is_rising (Zero ∷ row) = has_only_any row

-- a sum so far, with what each literal of a row that is no - refuses of its input
abbrev pub refused_sums : Function → List Lit → List SymbolicSet → List Function
refused_sums f [] sets = []
refused_sums f (lit ∷ row) [] = []
refused_sums f (Any ∷ row) (w ∷ sets) = refused_sums f row sets
refused_sums f (Zero ∷ row) (w ∷ sets) =
    disjunction f w.one ∷ refused_sums (disjunction f w.one) row sets
refused_sums f (One ∷ row) (w ∷ sets) =
    disjunction f w.zero ∷ refused_sums (disjunction f w.zero) row sets

-- the last of these sums
abbrev pub refused_total : Function → List Lit → List SymbolicSet → Function
refused_total f [] sets = f
refused_total f (lit ∷ row) [] = f
refused_total f (Any ∷ row) (w ∷ sets) = refused_total f row sets
refused_total f (Zero ∷ row) (w ∷ sets) = refused_total (disjunction f w.one) row sets
refused_total f (One ∷ row) (w ∷ sets) = refused_total (disjunction f w.zero) row sets
