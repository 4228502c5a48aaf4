use Rattle.std.proofs.Common.{◌≡◌, length}
use Rattle.sym_step.specs.private.Readers.{AreMarked, IsNotMet, head_of, spot}
use Rattle.sym_step.proofs.readers.Readers.mark.Given as goal

-- the current link is that behind the slots that have been met, and the gates there have marks
abbrev pub invariant-loop : goal.invariant-loop
invariant-loop l = record {
  long : length l.due.flags.items ≡ length l.fn.due.flags.items;
  order : l.due.order ≡ l.fn.due.order;
  link : l.link ≡ spot l.self.slots.items (head_of l.self l.id) l.counter;
  marked : AreMarked (IsNotMet l.self.slots.items (head_of l.self l.id) l.counter) l.fn.due.flags.items l.due.flags.items;
}
