use Rattle.std.proofs.Common.{◌≡◌, ◌++◌, drop, map}
use Rattle.flat_net.specs.private.Passes.{node_in}
use Rattle.flat_net.proofs.instance.nodes_in.Given as goal

abbrev pub invariant-loop-word : goal.invariant-loop-word
invariant-loop-word l = l.nodes ++ map (node_in l.instance) (drop l.word-index l.words) ≡ map (node_in l.instance) l.words
