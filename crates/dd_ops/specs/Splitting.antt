-- A condition between crates: a function split by the bit of one variable.
use Rattle.std.specs.Prelude.{◌≡◌, ◌<◌, ◌+◌, ℕ, Bool, false, if◌then◌else◌, List, length, slice_index_or}
use Rattle.dd_nodes.specs.declared.node.Ref.{Ref}
use Rattle.ste_base.specs.Functions.{Function}
use Rattle.dd_nodes.specs.Diagram.{IsFrom}
use Rattle.dd_nodes.specs.Stores.{Store, function}

-- the reference at the bit of a variable
abbrev pub half : Ref → Ref → Bool → Ref
half lo hi b = if b then hi else lo

-- f is lo where variable i is 0 and hi where it is 1
pub record Splits (t : Store) (i : ℕ) (lo hi : Ref) (f : Function) : Type 0 where
  pub inside : i < t.vars
  pub low : IsFrom t.held (i + 1) lo
  pub high : IsFrom t.held (i + 1) hi
  pub halves : (bits : List Bool) → length bits ≡ t.vars →
      f bits ≡ function t (half lo hi (slice_index_or bits i false)) bits
