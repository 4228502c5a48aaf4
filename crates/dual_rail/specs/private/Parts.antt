-- For private functions. The parts of a cut and of a gate.
use Rattle.std.specs.Prelude.{◌∷◌, ◌++◌, map, [], List}
use Rattle.ste_base.specs.Functions.{Function}
use Rattle.net_core.specs.declared.cover.Lit.{Lit}
use Rattle.net_core.specs.Work.{SymbolicSet, conjunction, negation, some_bit, products, factors}

-- f where not both g and x are 1, and the functions for it
abbrev pub without : Function → Function → Function → Function
without f g x = conjunction f (negation (conjunction g x))

abbrev pub without_work : Function → Function → Function → List Function
without_work f g x = conjunction g x ∷ negation (conjunction g x) ∷ without f g x ∷ []

-- the functions for the product of one row
abbrev pub row_work : List Lit → List SymbolicSet → List Function
row_work row sets = map some_bit sets ++ products (factors row sets)
