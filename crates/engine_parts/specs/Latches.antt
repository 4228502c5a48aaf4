-- A condition between crates: the first sets of the latches by references.
use Rattle.std.specs.Prelude.{Bool, if◌then◌else◌}
use Rattle.net_core.specs.declared.raw.Init.{Init}
use Rattle.net_core.specs.declared.raw.Init.TheVariants.{Zero, One, Free}
use Rattle.net_core.specs.declared.raw.Latch.{Latch}
use Rattle.dual_rail.specs.declared.rails.Rails.{Rails}

-- the first set of a latch by references
abbrev pub init_rails : Init → Rails
init_rails Zero = record { can0 = record { 0 = 1 }; can1 = record { 0 = 0 } }
init_rails One = record { can0 = record { 0 = 0 }; can1 = record { 0 = 1 } }
init_rails Free = record { can0 = record { 0 = 1 }; can1 = record { 0 = 1 } }

abbrev pub first_rails : Bool → Latch → Rails
first_rails reset latch = if reset then init_rails latch.init else init_rails Free
