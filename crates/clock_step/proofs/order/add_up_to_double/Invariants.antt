use Rattle.std.proofs.Common.{◌≡◌, ◌++◌, [], drop, map}
use Rattle.std.specs.List.{filter_map}
use Rattle.clock_step.specs.Order.{first_double_net}
use Rattle.clock_step.proofs.order.add_up_to_double.Given as goal

-- the names that are left decide, and bring what is missing
abbrev pub invariant-loop-word : goal.invariant-loop-word
invariant-loop-word g l = record {
  double : first_double_net (g.N.Resolve.net_of l.names) (map (λ node. node.0) l.nodes.keys) (drop l.word-index l.words) ≡ first_double_net (g.N.Resolve.net_of l.names) [] l.words;
  nets : map (λ node. node.0) l.nodes.keys ++ filter_map (g.N.Resolve.net_of l.names) (drop l.word-index l.words) ≡ filter_map (g.N.Resolve.net_of l.names) l.words;
}
