use Rattle.std.proofs.Common.{◌≡◌, length, map, take}
use Rattle.plain_check.specs.private.Sets.{AreFlags}
use Rattle.plain_check.proofs.sources.flags_of.Given as goal

-- the nets so far have a flag
abbrev pub invariant-loop-node : goal.invariant-loop-node
invariant-loop-node l = record {
  long : length l.flags.items ≡ l.nets;
  flags : AreFlags l.nets (map (λ node. node.0) (take l.node-index l.weak)) l.flags.items;
}
