-- For private functions. A step of a search by a work list.
use Rattle.std.specs.Prelude.{◌≡◌, ◌≤◌, ◌⊎◌, ℕ, ◌+◌, ◌*◌, List, Bool, true, false, not, Contains, count_by, length, slice_index_or}

-- all of these numbers are marked, and what is marked anew is one of them and on the work list
pub record Marks (before : List Bool) (work numbers : List ℕ) (after : List Bool) (more : List ℕ) :
    Type 0 where
  pub long : length after ≡ length before
  pub kept : (k : ℕ) → slice_index_or before k false ≡ true → slice_index_or after k false ≡ true
  pub all : (k : ℕ) → Contains numbers k → slice_index_or after k false ≡ true
  pub new : (k : ℕ) → slice_index_or after k false ≡ true →
      (slice_index_or before k false ≡ true) ⊎ (Contains numbers k × Contains more k)
  pub work_kept : (k : ℕ) → Contains work k → Contains more k
  pub work_new : (k : ℕ) → Contains more k → Contains work k ⊎ Contains numbers k
  pub less : 2 * count_by not after + length more ≤ 2 * count_by not before + length work
