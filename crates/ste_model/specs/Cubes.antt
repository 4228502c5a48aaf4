-- Meaning, and laws. The cubes of a set of assignments, by cases on its two cofactors at one
-- variable after another.
-- Source: the expansion of Shannon; the order of the cubes is a choice of this project.
use Rattle.std.specs.Prelude.{◌≡◌, ℕ, zero, suc, Bool, false, true, not, ◌&&◌, if◌then◌else◌, List, [], ◌∷◌, ◌++◌, length, map, take, nat_lt, count_by, slice_index_or}
use Rattle.std.specs.List.{list_all}
use Rattle.ste_base.specs.Functions.{Function}
use Rattle.ste_base.specs.declared.id.VarId.{VarId}
use Rattle.ste_model.specs.declared.cubes.CubeList.{CubeList}
use Rattle.ste_model.specs.Assignments.{EachAssignment}

-- the cofactor at the first variable: what the set is where this variable has the bit
abbrev pub first_cofactor : Bool → Function → Function
first_cofactor bit set rest = set (bit ∷ rest)

-- whether two sets have the same assignments of n variables
abbrev pub are_same_sets : ℕ → Function → Function → Bool
are_same_sets zero one other = if one [] then other [] else not (other [])
are_same_sets (suc n) one other =
    are_same_sets n (first_cofactor false one) (first_cofactor false other)
    && are_same_sets n (first_cofactor true one) (first_cofactor true other)

-- two sets have the same assignments of n variables
abbrev pub AreOneSet : ℕ → Function → Function → Type 0
AreOneSet n one other = EachAssignment n (λ bits. one bits ≡ other bits)

-- a variable and its bit, put before each cube
abbrev pub with_literal : ℕ → Bool → List (List (VarId × Bool)) → List (List (VarId × Bool))
with_literal var bit cubes = map (λ cube. (record { 0 = var }, bit) ∷ cube) cubes

-- The cubes of a set of assignments of the n variables from var on: those of one cofactor where
-- both are the same, and else those of the cofactor at 0 and then those of the cofactor at 1.
-- Without variables it is the blank cube, or nothing.
abbrev pub cubes_from : ℕ → ℕ → Function → List (List (VarId × Bool))
cubes_from var zero set = if set [] then [] ∷ [] else []
cubes_from var (suc n) set =
    if are_same_sets n (first_cofactor false set) (first_cofactor true set)
    then cubes_from (suc var) n (first_cofactor false set)
    else with_literal var false (cubes_from (suc var) n (first_cofactor false set))
    ++ with_literal var true (cubes_from (suc var) n (first_cofactor true set))

-- the cubes of a set of assignments
abbrev pub cubes_of : ℕ → Function → List (List (VarId × Bool))
cubes_of vars set = cubes_from 0 vars set

-- the first cubes of a list, at most so many, and whether it has more
abbrev pub first_cubes : ℕ → List (List (VarId × Bool)) → CubeList
first_cubes max cubes = record { cubes = take max cubes; more = nat_lt max (length cubes) }

-- the first cubes of a set, at most so many, and whether it has more
abbrev pub cube_list : ℕ → ℕ → Function → CubeList
cube_list max vars set = first_cubes max (cubes_of vars set)

-- whether an assignment has the bit of a literal
abbrev pub satisfies : List Bool → (VarId × Bool) → Bool
satisfies bits literal =
    if literal.1 then slice_index_or bits literal.0.0 false
    else not (slice_index_or bits literal.0.0 false)

-- whether a cube has an assignment
abbrev pub is_in_cube : List Bool → List (VarId × Bool) → Bool
is_in_cube bits cube = list_all (satisfies bits) cube

-- Law: the four cases of a list of cubes.
pub record CubesFollowCases : Type 0 where
  pub empty : (var n : ℕ) (set : Function) →
      EachAssignment n (λ bits. set bits ≡ false) → cubes_from var n set ≡ []
  pub full : (var n : ℕ) (set : Function) →
      EachAssignment n (λ bits. set bits ≡ true) → cubes_from var n set ≡ [] ∷ []
  pub same : (var n : ℕ) (set : Function) →
      AreOneSet n (first_cofactor false set) (first_cofactor true set) →
      cubes_from var (suc n) set ≡ cubes_from (suc var) n (first_cofactor false set)
  pub differ : (var n : ℕ) (set : Function) →
      ¬ AreOneSet n (first_cofactor false set) (first_cofactor true set) →
      cubes_from var (suc n) set
      ≡ with_literal var false (cubes_from (suc var) n (first_cofactor false set))
      ++ with_literal var true (cubes_from (suc var) n (first_cofactor true set))

-- Law: an assignment of the set is in exactly one cube, any other in none.
abbrev pub CubesAreExact : Type 0
CubesAreExact =
    (vars : ℕ) (set : Function) (bits : List Bool) → length bits ≡ vars →
    count_by (is_in_cube bits) (cubes_of vars set) ≡ (if set bits then 1 else 0)
