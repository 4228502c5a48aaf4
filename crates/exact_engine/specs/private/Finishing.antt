-- For private functions. The results, from where the quintuples are broken.
use Rattle.std.specs.Prelude.{ℕ, List, [], ◌∷◌}
use Rattle.ste_base.specs.Functions.{Function}
use Rattle.dd_nodes.specs.Stores.{Means, Store}
use Rattle.net_core.specs.Work.{conjunction, negation}
use Rattle.exact_model.specs.ExactWork.{some_choices}
use Rattle.exact_engine.specs.declared.results.ExactResults.{ExactResults}

-- !a & b
abbrev pub counter_of : Function → Function → Function
counter_of a b = conjunction (negation a) b

-- the functions for the results
abbrev pub finish_work : ℕ → ℕ → Function → Function → List Function
finish_work v w a b =
    negation a ∷ counter_of a b ∷ some_choices v w (counter_of a b) ∷ some_choices v w (negation a)
    ∷ negation (some_choices v w (negation a)) ∷ []

-- the references have the results
pub record AreResults (v w : ℕ) (a b : Function) (s : Store) (r : ExactResults) : Type 0 where
  pub counter : Means s (counter_of a b) r.counter
  pub strong : Means s (some_choices v w (counter_of a b)) r.strong
  pub contradictory : Means s (negation (some_choices v w (negation a))) r.contradictory
