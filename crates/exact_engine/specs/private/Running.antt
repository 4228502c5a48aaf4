-- For private functions. The run with given choices.
use Rattle.std.specs.Prelude.{◌≡◌, ◌<◌, ◌*◌, ℕ, Bool, true, false, List, All, drop, length, map, slice_index_or, take}
use Rattle.net_core.specs.declared.raw.Init.{Init}
use Rattle.net_core.specs.declared.raw.Init.TheVariants.{Zero, One, Free}
use Rattle.net_core.specs.declared.raw.RawNet.{RawNet}
use Rattle.ste_model.specs.declared.run.Run.{Run}
use Rattle.ste_model.specs.declared.task.Assertion.{Assertion}
use Rattle.ste_model.specs.Asked.{depth}
use Rattle.ste_model.specs.Holds.{IsTaskRun}
use Rattle.ste_model.specs.Runs.{HasRows, run_of}
use Rattle.exact_model.specs.Choices.{bits_at, cells_at, choices}
use Rattle.exact_engine.specs.private.Counts.{first_test}

-- the first bit of a latch, where another one is chosen if it may start with either
abbrev pub start_bit : Bool → Init → Bool → Bool
start_bit false init bit = bit
start_bit true Zero bit = false
start_bit true One bit = true
start_bit true Free bit = bit

-- each net has the first bit that is not that of a net before it whose first value is a choice
abbrev pub AreNetChoices : RawNet → Bool → List Bool → List Bool → Type 0
AreNetChoices net reset bits firsts =
    (id : ℕ) → id < net.nets → slice_index_or firsts id false
    ≡ slice_index_or bits (length (cells_at (first_test net reset) 0 id)) false

-- so many rows with a bit for each time, whose bits at each time are the next ones
pub record AreInputRows (bits : List Bool) (each times : ℕ) (rows : List (List Bool)) :
    Type 0 where
  pub tall : length rows ≡ each
  pub wide : All (λ row. length row ≡ times) rows
  pub columns : (t : ℕ) → t < times →
      map (λ row. slice_index_or row t false) rows ≡ take each (drop (t * each) bits)

-- a run of the assertion as data, whose choices are the first of these bits
pub record IsRunWith (net : RawNet) (task : Assertion) (bits : List Bool) (run : Run) :
    Type 0 where
  pub rows : HasRows net.nets (depth task) run
  pub is_run : IsTaskRun net task.reset (depth task) (run_of run)
  pub chosen : bits_at (choices net task) (run_of run) ≡ take (length (choices net task)) bits
