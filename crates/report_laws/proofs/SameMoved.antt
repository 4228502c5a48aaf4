-- Cube lists and least assignments, moved to a property that is the same.
use Rattle.std.proofs.Common.{ℕ, Bool, List}
use Rattle.ste_model.specs.declared.cubes.CubeList.{CubeList}
use Rattle.ste_model.specs.Least.{IsLeast}
use Rattle.ste_model.specs.Report.{AreCubes}

pub cubes_moved : (max vars : ℕ) (P Q : List Bool → Type 0) (list : CubeList) → ((bits : List Bool) → P bits → Q bits) → ((bits : List Bool) → Q bits → P bits) → AreCubes max vars P list → AreCubes max vars Q list
cubes_moved max vars P Q list to from h = (h.0, (λ bits l. let both = h.1 bits l in ((λ one. to bits (both.0 one)), (λ q. both.1 (from bits q)))), h.2)

pub least_moved : (vars : ℕ) (P Q : List Bool → Type 0) (bits : List Bool) → ((bits : List Bool) → P bits → Q bits) → ((bits : List Bool) → Q bits → P bits) → IsLeast vars P bits → IsLeast vars Q bits
least_moved vars P Q bits to from h = record { long = h.long; has = to bits h.has; least = λ other l q. h.least other l (from other q) }
