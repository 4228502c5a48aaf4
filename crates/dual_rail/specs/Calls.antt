-- A condition between crates: what the calls so far have built.
use Rattle.std.specs.Prelude.{List}
use Rattle.dd_nodes.specs.declared.node.Ref.{Ref}
use Rattle.ste_base.specs.Functions.{Function}
use Rattle.dd_nodes.specs.Stores.{Store, Means}
use Rattle.dd_nodes.specs.Spending.{Spends}

-- calls so far have built functions, and the last reference has this one
pub record Reached (work : List Function) (f : Function) (s t : Store) (r : Ref) : Type 0 where
  pub so : Spends work s t ⊥
  pub means : Means t f r
