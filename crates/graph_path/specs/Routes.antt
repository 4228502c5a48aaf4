-- Meaning. Routes along hops, by the numbers of the hops, and the one that a failure shows. Source:
-- this project's own choice.
use Rattle.std.specs.Prelude.{◌≡◌, ◌≢◌, ℕ, ◌<◌, ◌≤◌, List, [], ◌∷◌, length, All, IsTrue, Option, Some, None, slice_get}
use Rattle.std.specs.declared.cmp.Ordering.TheVariants.{Greater}
use Rattle.std.specs.Cmp.Lexicographic.{slice_cmp}
use Rattle.std.specs.Ordering.{nat_cmp}
use Rattle.graph_path.specs.declared.hop.Hop.{Hop}

-- a route from a vertex to a failure, by the numbers of its hops: the first one from this vertex,
-- each other from where the one before it leads; all are feasible, and the last one fails
abbrev pub IsHopRoute : List Hop → ℕ → List ℕ → Type 0
IsHopRoute hops vertex [] = ⊥
IsHopRoute hops vertex (n ∷ []) =
    (hop : Hop) × (slice_get hops n ≡ Some hop) × (hop.from ≡ vertex) × IsTrue hop.feasible
    × IsTrue hop.fails
IsHopRoute hops vertex (n ∷ m ∷ rest) =
    (hop : Hop) × (slice_get hops n ≡ Some hop) × (hop.from ≡ vertex) × IsTrue hop.feasible
    × IsHopRoute hops hop.to (m ∷ rest)

-- a route with the fewest hops, and among those with the least list of numbers
pub record IsLeastHopRoute (hops : List Hop) (vertex : ℕ) (numbers : List ℕ) : Type 0 where
  pub route : IsHopRoute hops vertex numbers
  pub least : (others : List ℕ) → IsHopRoute hops vertex others →
      (length numbers ≤ length others)
      × (length others ≡ length numbers → slice_cmp nat_cmp numbers others ≢ Greater)

-- the path along the hops: the least route from vertex 0, or none where there is no route
abbrev pub IsPathOf : List Hop → Option (List ℕ) → Type 0
IsPathOf hops None = (others : List ℕ) → ¬ IsHopRoute hops 0 others
IsPathOf hops (Some numbers) = IsLeastHopRoute hops 0 numbers

-- each hop leads to one of so many vertices
abbrev pub LeadToVertices : ℕ → List Hop → Type 0
LeadToVertices vertices hops = All (λ hop. hop.to < vertices) hops
