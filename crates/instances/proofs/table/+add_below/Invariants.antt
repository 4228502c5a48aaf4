use Rattle.std.proofs.Common.{◌++◌, ◌∷◌, ◌-◌, [], ℕ, List, take}
use Rattle.std.specs.Prelude.{flat_map, slice_index_or}
use Rattle.std.specs.List.{enumerate_from}
use Rattle.instances.specs.Table.{IsTable, Fits, instances_on}
use Rattle.instances.proofs.table.+add_below.Given as goal

abbrev pub decreases-add_below : goal.decreases-add_below
decreases-add_below l = l.depth

abbrev pub invariant-loop-number : goal.invariant-loop-number
invariant-loop-number l = (paths : List (List ℕ)) (path : List ℕ) → IsTable l.graph l.fn.rows.items paths → Fits l.graph paths l.fn.row path → IsTable l.graph l.rows.items (paths ++ path ∷ flat_map (λ at. instances_on l.graph (l.depth - 1) (at.0 ∷ path) at.1) (enumerate_from 0 (take l.number (slice_index_or l.graph l.fn.row.model []))))
