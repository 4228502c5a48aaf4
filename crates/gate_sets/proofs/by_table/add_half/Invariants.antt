use Rattle.std.proofs.Common.{◌≡◌, ◌≤◌, ◌++◌, drop, length, map, take}
use Rattle.gate_sets.specs.private.TruthTables.{half_rails}
use Rattle.gate_sets.proofs.by_table.add_half.Given as goal

-- the references that are left decide
abbrev pub invariant-loop-place : goal.invariant-loop-place
invariant-loop-place g l = record {
  begun : l.begin ≤ l.place;
  store : g.N.Nodes.store l.nodes ≡ g.N.Nodes.store l.fn.nodes;
  kept : take (length l.fn.stack.items) l.stack.items ≡ l.fn.stack.items;
  half : drop (length l.fn.stack.items) l.stack.items ++ map (half_rails (g.N.Nodes.store l.fn.nodes).held l.var l.bit) (drop l.place l.fn.stack.items) ≡ map (half_rails (g.N.Nodes.store l.fn.nodes).held l.var l.bit) (drop l.begin l.fn.stack.items);
}
