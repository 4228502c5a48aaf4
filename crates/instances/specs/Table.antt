-- Conditions of the contracts between crates. The instances of a hierarchy as a table, each by the
-- row of the one above it.
use Rattle.std.specs.Prelude.{◌≡◌, ◌<◌, ℕ, zero, suc, ◌∷◌, [], List, Option, None, Some, flat_map, length, slice_get, slice_index_or, take}
use Rattle.std.specs.List.{enumerate_from}
use Rattle.hierarchy.specs.Reach.{led_to}
use Rattle.instances.specs.declared.table.Row.{Row}

-- an instance and those below it, in preorder, by the numbers of models, with at most this many
-- numbers more than its path less one
abbrev pub instances_on : List (List ℕ) → ℕ → List ℕ → ℕ → List (List ℕ)
instances_on graph zero path model = []
instances_on graph (suc depth) path model =
    path ∷ flat_map (λ at. instances_on graph depth (at.0 ∷ path) at.1)
    (enumerate_from 0 (slice_index_or graph model []))

-- the path is that of the top, or that of the instance in that row with the number behind it
abbrev pub IsBelow : List (List ℕ) → Option ℕ → ℕ → List ℕ → Type 0
IsBelow paths None number path = path ≡ []
IsBelow paths (Some above) number path = (above < length paths)
    × (path ≡ number ∷ slice_index_or paths above [])

-- the row stands for the instance of that path, behind rows for these paths
pub record Fits (graph : List (List ℕ)) (paths : List (List ℕ)) (row : Row) (path : List ℕ) :
    Type 0 where
  pub model : led_to graph 0 path ≡ Some row.model
  pub link : IsBelow paths row.above row.number path

-- the rows stand for the instances of the paths, place by place
pub record IsTable (graph : List (List ℕ)) (rows : List Row) (paths : List (List ℕ)) : Type 0 where
  pub long : length rows ≡ length paths
  pub fits : (k : ℕ) (row : Row) (path : List ℕ) → slice_get rows k ≡ Some row →
      slice_get paths k ≡ Some path →
      Fits graph (take k paths) row path

-- each row stands behind the row of the instance above it
abbrev pub AreLinked : List Row → Type 0
AreLinked rows = (k : ℕ) (row : Row) (above : ℕ) → slice_get rows k ≡ Some row →
    row.above ≡ Some above → above < k

-- the rows are linked as the paths are
pub record LinksFit (rows : List Row) (paths : List (List ℕ)) : Type 0 where
  pub long : length rows ≡ length paths
  pub fits : (k : ℕ) (row : Row) (path : List ℕ) → slice_get rows k ≡ Some row →
      slice_get paths k ≡ Some path →
      IsBelow (take k paths) row.above row.number path
