use Rattle.std.proofs.Common.{◌≡◌, All, length}
use Rattle.dual_rail.specs.Rail.{AreRefs}
use Rattle.sym_step.specs.Step.{IsCutOf}
use Rattle.sym_step.specs.Frame.{IsFrame}
use Rattle.sym_step_tests.proofs.tests.frames_with.Given as goal

-- what the next time goes on with is sound
abbrev pub invariant-loop-time : goal.invariant-loop-time
invariant-loop-time g l = record {
  long : length l.latches ≡ length l.net.raw.latches;
  latches : All (AreRefs (g.N.Nodes.store l.nodes)) l.latches;
  cuts : All (IsCutOf (g.N.Nodes.store l.nodes) l.net.raw) l.fn.cuts;
  frame : IsFrame (g.N.Nodes.store l.nodes) l.net.raw l.frame;
}
