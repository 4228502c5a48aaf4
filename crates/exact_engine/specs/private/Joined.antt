-- For private functions. How far a product or a sum is.
use Rattle.std.specs.Prelude.{◌≡◌, List, Contains}
use Rattle.dd_nodes.specs.declared.node.Ref.{Ref}
use Rattle.dd_nodes.specs.Stores.{Store, Means}
use Rattle.ste_base.specs.Functions.{Function}
use Rattle.net_core.specs.Work.{chain, whole}

-- The reference has a function that gives the target where it is joined with the rest, and what is
-- built on the way is among the work.
pub record Leads (join : Function → Function → Function) (target : Function)
    (work rest : List Function) (t : Store) (r : Ref) : Type 0 where
  pub so_far : Function
  pub means : Means t so_far r
  pub ends : whole join so_far rest ≡ target
  pub within : (f : Function) → Contains (chain join so_far rest) f → Contains work f
