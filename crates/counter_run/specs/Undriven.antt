-- Meaning. The inputs and free nets of a net, in order.
use Rattle.std.specs.Prelude.{ℕ, zero, suc, List, [], ◌∷◌, ◌++◌, if◌then◌else◌}
use Rattle.ste_base.specs.declared.id.NodeId.{NodeId}
use Rattle.net_core.specs.declared.raw.RawNet.{RawNet}
use Rattle.clock_step.specs.Order.{is_undriven}

-- the inputs and free nets with a number below n, in the order of their numbers
abbrev pub undriven_below : RawNet → ℕ → List NodeId
undriven_below net zero = []
undriven_below net (suc n) =
    if is_undriven net n then undriven_below net n ++ (record { 0 = n }) ∷ []
    else undriven_below net n

-- the inputs and free nets
abbrev pub undriven_nets : RawNet → List NodeId
undriven_nets net = undriven_below net net.nets
