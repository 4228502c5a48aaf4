-- For private functions. How many choices there are at one time.
use Rattle.std.specs.Prelude.{ℕ, Bool, length}
use Rattle.net_core.specs.declared.raw.RawNet.{RawNet}
use Rattle.net_core.specs.Source.{source_of}
use Rattle.exact_model.specs.Choices.{cells_at, is_first_choice, is_open}

-- whether a net is the output of a latch that may start with either bit
abbrev pub first_test : RawNet → Bool → ℕ → Bool
first_test net reset id = is_first_choice net reset (source_of net id)

-- whether a net is an input or free
abbrev pub open_test : RawNet → ℕ → Bool
open_test net id = is_open (source_of net id)

-- how many latches may start with either bit
abbrev pub first_count : RawNet → Bool → ℕ
first_count net reset = length (cells_at (first_test net reset) 0 net.nets)

-- how many inputs and free nets there are
abbrev pub open_count : RawNet → ℕ
open_count net = length (cells_at (open_test net) 0 net.nets)
