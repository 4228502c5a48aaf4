use Rattle.std.proofs.Common.{◌≡◌, length}
use Rattle.clock_step.specs.private.Readers.{AreReaders}
use Rattle.clock_step.proofs.Chains.{AreMet}
use Rattle.clock_step.proofs.readers.Readers.mark.Given as goal

-- the gates of the slots so far are marked
abbrev pub invariant-loop-link : goal.invariant-loop-link
invariant-loop-link l = record {
  long : length l.due ≡ length l.fn.due;
  met : (is : AreReaders l.fn.net.raw l.fn.net.settled l.self) → AreMet is.nets l.self.places.items l.fn.node.0 l.link l.fn.due l.due;
}

abbrev pub decreases-loop-link : goal.decreases-loop-link
decreases-loop-link l = l.link
