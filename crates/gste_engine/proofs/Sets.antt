-- Unions of lists of sets, latch by latch, and their functions.
use Rattle.std.proofs.Common.{◌≡◌, ℕ, zero, suc, ◌<◌, List, [], ◌∷◌, length, get_or, map, refl, ap, arith, Contains, inl, inr, ⊎_elim}
use Rattle.std.specs.Prelude.{◌⊎◌}
use Rattle.ste_base.specs.Functions.{Function}
use Rattle.dd_nodes.proofs.Members.{Contains-cons_cases, Contains-none}
use Rattle.net_core.specs.declared.raw.Latch.{Latch}
use Rattle.net_core.specs.Work.{SymbolicSet, disjunction, never, union}
use Rattle.ste_model.specs.GraphWork.{sets_functions}
use Rattle.gste_engine.specs.private.Sums.{unions}

-- the set without a bit
abbrev pub no_set : SymbolicSet
no_set = record { zero = never; one = never }

pub unions_at : (vs ws : List SymbolicSet) (l : ℕ) → length vs ≡ length ws → l < length ws → get_or (unions vs ws) l no_set ≡ union (get_or vs l no_set) (get_or ws l no_set)
unions_at [] [] l e lt = absurd (omega arith)
unions_at [] (w ∷ ws) l e lt = absurd (omega arith)
unions_at (v ∷ vs) [] l e lt = absurd (omega arith)
unions_at (v ∷ vs) (w ∷ ws) zero e lt = refl
unions_at (v ∷ vs) (w ∷ ws) (suc l) e lt = unions_at vs ws l (omega arith) (omega arith)

-- a function of unions is that of one latch
abbrev pub IsOfUnion : List SymbolicSet → List SymbolicSet → Function → ℕ → Type 0
IsOfUnion vs ws f l = (disjunction (get_or vs l no_set).zero (get_or ws l no_set).zero ≡ f) ⊎ (disjunction (get_or vs l no_set).one (get_or ws l no_set).one ≡ f)

pub unions_find : (vs ws : List SymbolicSet) (f : Function) → length vs ≡ length ws → Contains (sets_functions (unions vs ws)) f → (l : ℕ) × (l < length ws) × IsOfUnion vs ws f l
unions_find [] [] f e h = absurd (Contains-none f h)
unions_find [] (w ∷ ws) f e h = absurd (omega arith)
unions_find (v ∷ vs) [] f e h = absurd (omega arith)
unions_find (v ∷ vs) (w ∷ ws) f e h =
    let z : Function = disjunction v.zero w.zero in
    let o : Function = disjunction v.one w.one in
    let rest : List Function = sets_functions (unions vs ws) in
    ⊎_elim
    (λ (is : z ≡ f). (0, omega arith, inl is))
    (λ (later : Contains (o ∷ rest) f). ⊎_elim
    (λ (is : o ≡ f). (0, omega arith, inr is))
    (λ (later : Contains rest f). let at = unions_find vs ws f (omega arith) later in (suc at.0, let lt = at.1 in omega arith, at.2))
    (Contains-cons_cases o rest f later))
    (Contains-cons_cases z (o ∷ rest) f h)

-- no bit for any latch, united with sets
pub unions_none : (F : Latch → SymbolicSet) (latches : List Latch) → unions (map (λ latch. no_set) latches) (map F latches) ≡ map F latches
unions_none F [] = refl
unions_none F (l ∷ ls) = ap (λ xs. F l ∷ xs) (unions_none F ls)

pub none_at : (latches : List Latch) (l : ℕ) → get_or (map (λ latch. no_set) latches) l no_set ≡ no_set
none_at [] l = refl
none_at (x ∷ xs) zero = refl
none_at (x ∷ xs) (suc l) = none_at xs l
