-- For private functions. What cuts leave in a matrix where each is put there, one after another,
-- and the first bits of latches.
use Rattle.std.specs.Prelude.{◌≡◌, ℕ, Bool, true, false, List, Any, IsTrue, ◌⊎◌, ◌&&◌, ◌==◌, if◌then◌else◌}
use Rattle.net_core.specs.declared.raw.Init.{Init}
use Rattle.net_core.specs.declared.raw.Init.TheVariants.{Zero, One, Free}
use Rattle.net_core.specs.Run.{Cut}
use Rattle.ste_model.specs.Shown.{IsOpen}

-- one of the cuts asks for the bit of the net
abbrev pub IsAskedFor : List Cut → ℕ → Bool → Type 0
IsAskedFor cuts id bit = Any (λ cut. IsTrue cut.on × (cut.node ≡ id) × (cut.value ≡ bit)) cuts

-- the bit is one that is asked for, or else the other one
abbrev pub IsAskedOr : List Cut → ℕ → Bool → Bool → Type 0
IsAskedOr cuts id other bit = IsAskedFor cuts id bit ⊎ (IsOpen cuts id × (bit ≡ other))

-- the bit that a cut leaves at a net
abbrev pub after_cut : Cut → ℕ → Bool → Bool
after_cut cut id other = if (cut.on && (cut.node == id)) then cut.value else other

-- the first bit of a latch of which nothing is asked: with reset its initial value, and else 0
abbrev pub start_bit : Bool → Init → Bool
start_bit false init = false
start_bit true Zero = false
start_bit true One = true
start_bit true Free = false
