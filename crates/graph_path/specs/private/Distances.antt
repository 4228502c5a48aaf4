-- For private functions. How far vertices are from a failure, and hops that begin a least route.
use Rattle.std.specs.Prelude.{◌≡◌, ◌⊎◌, ℕ, suc, ◌<◌, List, [], ◌∷◌, length, IsTrue, Option, Some, None, slice_get}
use Rattle.graph_path.specs.declared.hop.Hop.{Hop}
use Rattle.graph_path.specs.Routes.{IsHopRoute}

-- the distance of a vertex: how many hops are behind the first of a route from it with the fewest
-- hops
pub record IsDistance (hops : List Hop) (vertex k : ℕ) : Type 0 where
  pub some : (route : List ℕ) × IsHopRoute hops vertex route × (length route ≡ suc k)
  pub least : (others : List ℕ) → IsHopRoute hops vertex others → k < length others

-- the distances below a level are known, and no others
pub record AreDistancesBelow (hops : List Hop) (far : List (Option ℕ)) (level : ℕ) : Type 0 where
  pub some : (v k : ℕ) → slice_get far v ≡ Some (Some k) → (k < level) × IsDistance hops v k
  pub none : (v : ℕ) → slice_get far v ≡ Some None → (others : List ℕ) → IsHopRoute hops v others →
      level < length others

-- all distances are known
pub record AreDistances (hops : List Hop) (far : List (Option ℕ)) : Type 0 where
  pub some : (v k : ℕ) → slice_get far v ≡ Some (Some k) → IsDistance hops v k
  pub none : (v : ℕ) → slice_get far v ≡ Some None → (others : List ℕ) → ¬ IsHopRoute hops v others

-- each distance is below this number
abbrev pub AreNear : ℕ → List (Option ℕ) → Type 0
AreNear bound far = (v k : ℕ) → slice_get far v ≡ Some (Some k) → k < bound

-- how many have no distance
abbrev pub count_unknown : List (Option ℕ) → ℕ
count_unknown [] = 0
count_unknown (None ∷ far) = suc (count_unknown far)
count_unknown (Some k ∷ far) = count_unknown far

-- a route with so many hops behind its first may begin with the hop, by the distances
abbrev pub MayBegin : List (Option ℕ) → ℕ → Hop → Type 0
MayBegin far level hop =
    ((level ≡ 0) × IsTrue hop.feasible × IsTrue hop.fails)
    ⊎ ((n : ℕ) × (level ≡ suc n) × IsTrue hop.feasible × (slice_get far hop.to ≡ Some (Some n)))

-- the hop of this number is from the vertex and may begin such a route
abbrev pub IsBeginning : List Hop → List (Option ℕ) → ℕ → ℕ → ℕ → Type 0
IsBeginning hops far vertex left n =
    (hop : Hop) × (slice_get hops n ≡ Some hop) × (hop.from ≡ vertex) × MayBegin far left hop

-- and it is the first one
abbrev pub IsFirstBeginning : List Hop → List (Option ℕ) → ℕ → ℕ → ℕ → Type 0
IsFirstBeginning hops far vertex left n =
    IsBeginning hops far vertex left n × ((m : ℕ) → m < n → ¬ IsBeginning hops far vertex left m)
