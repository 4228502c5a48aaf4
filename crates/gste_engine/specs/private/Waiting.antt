-- For private functions. Vertices that wait for their turn.
use Rattle.std.specs.Prelude.{◌≡◌, ◌<◌, ℕ, false, All, Contains, IsTrue, get_or, length}
use Rattle.gste_engine.specs.declared.waiting.Waiting.{Waiting}

-- a vertex with a flag is on the list, and those of the list are vertices
pub record IsWaiting (r : Waiting) : Type 0 where
  pub listed : (vertex : ℕ) → IsTrue (get_or r.flags.items vertex false) →
      Contains r.list.items vertex
  pub inside : All (λ vertex. vertex < length r.flags.items) r.list.items

-- this vertex waits too
pub record IsWithVertex (old : Waiting) (vertex : ℕ) (new : Waiting) : Type 0 where
  pub is : IsWaiting new
  pub long : length new.flags.items ≡ length old.flags.items
  pub this : Contains new.list.items vertex
  pub others : (other : ℕ) → Contains old.list.items other → Contains new.list.items other
