use Rattle.std.proofs.Common.{List, take, map, ◌++◌}
use Rattle.std.specs.List.{AllZip}
use Rattle.dd_nodes.specs.Stores.{IsRef, Keeps}
use Rattle.net_core.specs.Work.{SymbolicSet, never, disjunction, no_bit, some_bit, sums, whole}
use Rattle.dual_rail.specs.Calls.{Reached}
use Rattle.gate_sets.specs.NetSets.{AreNetRails}
use Rattle.sym_step.proofs.time.some_empty.Given as goal

-- the sum over the first nets
abbrev pub invariant-loop-r : goal.invariant-loop-r
invariant-loop-r g l = record {
  keeps : Keeps (g.N.Nodes.store l.fn.nodes) (g.N.Nodes.store l.nodes);
  ref : IsRef (g.N.Nodes.store l.nodes) l.sum;
  so : (sets : List SymbolicSet) → AllZip (AreNetRails (g.N.Nodes.store l.fn.nodes)) sets l.nets → Reached (map some_bit sets ++ (map no_bit sets ++ sums (map no_bit sets))) (whole disjunction never (take l.r-index (map no_bit sets))) (g.N.Nodes.store l.fn.nodes) (g.N.Nodes.store l.nodes) l.sum;
}
