-- A condition between crates. Gates of few inputs whose sets are constants.
use Rattle.std.specs.Prelude.{◌<◌, ◌≤◌, List, All, length}
use Rattle.ste_base.specs.declared.id.NodeId.{NodeId}
use Rattle.gate_sets.specs.declared.net_rails.NetRails.{NetRails}
use Rattle.gate_sets.specs.NetSets.{net_at}

-- both rails of a set are constants
abbrev pub AreConstant : NetRails → Type 0
AreConstant r = (r.can0.0 < 2) × (r.can1.0 < 2)

-- these nets are at most three, and their sets are constants
abbrev pub HaveChoice : List NetRails → List NodeId → Type 0
HaveChoice nets inputs =
    (length inputs ≤ 3) × All (λ input. AreConstant (net_at nets input.0)) inputs
