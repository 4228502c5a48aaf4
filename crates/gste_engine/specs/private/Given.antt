-- For private functions. The parts of an edge's work functions.
use Rattle.std.specs.Prelude.{ℕ, List, ◌∷◌, ◌++◌, map}
use Rattle.ste_base.specs.Functions.{Function}
use Rattle.net_core.specs.declared.raw.RawNet.{RawNet}
use Rattle.net_core.specs.Work.{SymbolicSet, negation, some_empty}
use Rattle.ste_model.specs.declared.task.Bind.{Bind}
use Rattle.ste_model.specs.Expressions.{symbolic_value}
use Rattle.ste_model.specs.GraphWork.{SymbolicState, feasible_where, gated_set, given_by, sets_functions}

-- the functions for one binding
abbrev pub bind_work : Bind → List Function
bind_work bind = (symbolic_value bind.guard).work ++ (symbolic_value bind.value).work

-- the sets where f is 1, and no bit elsewhere
abbrev pub gated_sets : Function → List SymbolicSet → List SymbolicSet
gated_sets f ws = map (λ w. gated_set w f) ws

-- the functions behind those of one time: !c, f, and those of the next sets
abbrev pub given_work : RawNet → SymbolicState → (ℕ → SymbolicSet) → List Function
given_work net source sets =
    negation (some_empty net sets) ∷ feasible_where net source sets ∷
    sets_functions (given_by net source sets).latches
