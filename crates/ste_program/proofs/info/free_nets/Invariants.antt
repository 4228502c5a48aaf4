use Rattle.std.proofs.Common.{◌≡◌, ◌≤◌, ◌-◌}
use Rattle.ste_program.specs.Info.{free_below}
use Rattle.ste_program.proofs.info.free_nets.Given as goal

-- the nets so far are counted
abbrev pub invariant-loop-id : goal.invariant-loop-id
invariant-loop-id l = (l.count ≡ free_below l.net.raw l.id) × (l.id ≤ l.net.raw.nets) × (l.count ≤ l.id)

abbrev pub decreases-loop-id : goal.decreases-loop-id
decreases-loop-id l = l.net.raw.nets - l.id
