use Rattle.std.proofs.Common.{◌≡◌, ◌≢◌, All, Some, length, take}
use Rattle.sym_step.specs.private.Readers.{driver_number}
use Rattle.sym_step.specs.private.Readers.{AreMarked}
use Rattle.sym_step.proofs.readers.mark_drivers.Given as goal

-- the gates and latches that drive the first nets have marks
abbrev pub invariant-loop-node : goal.invariant-loop-node
invariant-loop-node l = record {
  long : length l.due.flags.items ≡ length l.fn.due.flags.items;
  order : l.due.order ≡ l.fn.due.order;
  marked : AreMarked (λ k. All (λ node. driver_number l.net.raw node.0 ≢ Some k) (take l.node-index l.ids)) l.fn.due.flags.items l.due.flags.items;
}
