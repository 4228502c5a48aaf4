-- For private functions. Diagrams of one store that are made in another.
use Rattle.std.specs.Prelude.{◌≡◌, Some}
use Rattle.std.specs.HashMap.{get}
use Rattle.dd_nodes.specs.declared.node.Ref.{Ref}
use Rattle.dd_nodes.specs.Diagram.{same_ref}
use Rattle.dd_nodes.specs.Stores.{IsRef, Means, Store, function}
use Rattle.engine_parts.specs.declared.results.Results.{Results}
use Rattle.exact_engine.specs.private.Choosing.{Met}

-- what was copied, by references: each of the one store with the one that has its function in the
-- other
abbrev pub AreCopied : Store → Store → Met → Type 0
AreCopied source s met =
    (r k : Ref) → get same_ref met r ≡ Some k → IsRef source r × Means s (function source r) k

-- the references have the functions that the sets have in another store, and none is weak
pub record AreCopies (source : Store) (r : Results) (s : Store) (copies : Results) : Type 0 where
  pub strong : Means s (function source r.strong) copies.strong
  pub weak : copies.weak.0 ≡ 0
  pub contradictory : Means s (function source r.contradictory) copies.contradictory
