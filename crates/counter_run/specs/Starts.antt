-- Meaning. Where a run can begin as an antecedent asks.
use Rattle.std.specs.Prelude.{◌≡◌, Bool, false, List, All, ◌⊎◌}
use Rattle.net_core.specs.declared.raw.RawNet.{RawNet}
use Rattle.net_core.specs.Possible.{is_weakened}
use Rattle.ste_model.specs.declared.task.Assertion.{Assertion}
use Rattle.ste_model.specs.Asked.{cuts_at, weakened_at}
use Rattle.ste_model.specs.Shown.{IsOpen}

-- no latch output of which the antecedent asks something at time 0 is weakened then
abbrev pub AsksNoWeakStart : RawNet → Assertion → List Bool → Type 0
AsksNoWeakStart net task bits =
    All (λ latch. (is_weakened (weakened_at task.weak 0) latch.output.0 ≡ false)
    ⊎ IsOpen (cuts_at task.ant bits 0) latch.output.0) net.latches
