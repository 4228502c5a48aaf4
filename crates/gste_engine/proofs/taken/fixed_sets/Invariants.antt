use Rattle.std.proofs.Common.{◌≡◌, ◌++◌, drop, map}
use Rattle.gste_engine.specs.private.Taken.{fixed_rails}
use Rattle.gste_engine.proofs.taken.fixed_sets.Given as goal

-- with the rest it is all, and the store is as it was
abbrev pub invariant-loop-k : goal.invariant-loop-k
invariant-loop-k g l = record {
  store : g.N.Nodes.store l.nodes ≡ g.N.Nodes.store l.fn.nodes;
  all : l.all.items ++ map (fixed_rails (g.N.Nodes.store l.fn.nodes) l.bits) (drop l.k l.sets) ≡ map (fixed_rails (g.N.Nodes.store l.fn.nodes) l.bits) l.sets;
}
