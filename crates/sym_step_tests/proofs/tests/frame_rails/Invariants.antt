use Rattle.std.proofs.Common.{All}
use Rattle.dd_nodes.specs.Stores.{Store}
use Rattle.dual_rail.specs.Rail.{AreRefs}
use Rattle.sym_step.specs.Frame.{IsFrame}
use Rattle.sym_step_tests.proofs.tests.frame_rails.Given as goal

-- the sets so far are held
abbrev pub invariant-loop-id : goal.invariant-loop-id
invariant-loop-id l = (s : Store) → IsFrame s l.net.raw l.frame → All (AreRefs s) l.rails.items
