use Rattle.std.proofs.Common.{All, take}
use Rattle.sym_step.specs.private.Readers.{AreAdded, Lists}
use Rattle.sym_step.proofs.readers.Readers.add_each.Given as goal

-- the number stands in the lists of the first nets
abbrev pub invariant-loop-node : goal.invariant-loop-node
invariant-loop-node l = record {
  added : AreAdded l.fn.self l.self;
  here : All (λ node. Lists l.self node.0 l.number) (take l.node-index l.ids);
}
