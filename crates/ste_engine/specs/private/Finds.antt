-- For private functions. What is found, step by step.
use Rattle.std.specs.Prelude.{ℕ, List, [], ◌∷◌, ◌++◌}
use Rattle.ste_base.specs.Functions.{Function}
use Rattle.dd_nodes.specs.Stores.{Store, IsRef, Means}
use Rattle.net_core.specs.Work.{SymbolicCut, SymbolicSet, chain, conjunction, disjunction, negation, whole}
use Rattle.ste_model.specs.Work.{both_bits, consequents_work, refutes, strong_findings, weak_findings}
use Rattle.engine_parts.specs.Refuting.{except, refutes_work}
use Rattle.ste_engine.specs.declared.results.Found.{Found}
use Rattle.engine_parts.specs.declared.results.Results.{Results}

-- g & y, and one more of them in a sum
abbrev pub add_work : Function → Function → Function → List Function
add_work f g y = conjunction g y ∷ disjunction f (conjunction g y) ∷ []

abbrev pub strong_work : Function → SymbolicSet → Function → Function → List Function
strong_work f w g x = refutes_work w x ++ add_work f g (refutes w x)

abbrev pub weak_work : Function → SymbolicSet → Function → List Function
weak_work f w g = both_bits w ∷ add_work f g (both_bits w)

-- the functions for one more consequent
abbrev pub find_work : Function → Function → SymbolicSet → Function → Function → List Function
find_work f h w g x = strong_work f w g x ++ weak_work h w g

-- the references have these functions
pub record AreFound (f h : Function) (t : Store) (r : Found) : Type 0 where
  pub strong : Means t f r.strong
  pub weak : Means t h r.weak

-- they are constants, or held
pub record AreFoundRefs (t : Store) (r : Found) : Type 0 where
  pub strong : IsRef t r.strong
  pub weak : IsRef t r.weak

-- the sums with what is found of all consequents of one time, and the functions for them
abbrev pub more_strong : (ℕ → SymbolicSet) → List SymbolicCut → Function → Function
more_strong sets cuts f = whole disjunction f (strong_findings sets cuts)

abbrev pub more_weak : (ℕ → SymbolicSet) → List SymbolicCut → Function → Function
more_weak sets cuts h = whole disjunction h (weak_findings sets cuts)

abbrev pub found_work : (ℕ → SymbolicSet) → List SymbolicCut → Function → Function → List Function
found_work sets cuts f h =
    consequents_work sets cuts ++ (chain disjunction f (strong_findings sets cuts) ++
    chain disjunction h (weak_findings sets cuts))

-- what the sums c, f and h over all times end with, and the functions for it
abbrev pub last_strong : Function → Function → Function
last_strong c f = except f c

abbrev pub last_weak : Function → Function → Function → Function
last_weak c f h = except (except h c) (except f c)

abbrev pub last_work : Function → Function → Function → List Function
last_work c f h =
    negation c ∷ except f c ∷ negation (except f c) ∷ except h c ∷ last_weak c f h ∷ []

pub record AreLast (c f h : Function) (t : Store) (r : Results) : Type 0 where
  pub strong : Means t (last_strong c f) r.strong
  pub weak : Means t (last_weak c f h) r.weak
  pub contradictory : Means t c r.contradictory
