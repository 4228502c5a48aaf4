-- A condition between crates: the functions for where a set is exactly the opposite of a value.
use Rattle.std.specs.Prelude.{List, [], ◌∷◌, ◌++◌}
use Rattle.ste_base.specs.Functions.{Function}
use Rattle.net_core.specs.Work.{SymbolicSet, conjunction, negation}
use Rattle.ste_model.specs.Work.{refutes}

-- f & !g, and the functions for it
abbrev pub except : Function → Function → Function
except f g = conjunction f (negation g)

abbrev pub except_work : Function → Function → List Function
except_work f g = negation g ∷ except f g ∷ []

-- x & (f & !g), and the functions for it
abbrev pub both_except_work : Function → Function → Function → List Function
both_except_work x f g = negation g ∷ except f g ∷ conjunction x (except f g) ∷ []

-- the same with !x in the place of x
abbrev pub opposite_except_work : Function → Function → Function → List Function
opposite_except_work x f g = negation x ∷ both_except_work (negation x) f g

-- the functions for where the set is exactly the opposite of the value
abbrev pub refutes_work : SymbolicSet → Function → List Function
refutes_work w x =
    both_except_work x w.zero w.one ++ (opposite_except_work x w.one w.zero ++ refutes w x ∷ [])
