use Rattle.std.proofs.Common.{◌≡◌, ◌≤◌, ℕ, List, get_or, length, take}
use Rattle.std.specs.List.{AllZip}
use Rattle.dd_nodes.specs.Stores.{Keeps}
use Rattle.net_core.specs.Work.{SymbolicSet}
use Rattle.dual_rail.specs.declared.rails.Rails.{Rails}
use Rattle.dual_rail.specs.Rail.{AreRails}
use Rattle.gste_engine.proofs.Joins.{JoinedSoFar}
use Rattle.gste_engine.proofs.sums.join_all.Given as goal

-- the first latches' sets are united, and the others are as they were
abbrev pub invariant-loop-k : goal.invariant-loop-k
invariant-loop-k g l = record {
  keeps : Keeps (g.N.Nodes.store l.fn.nodes) (g.N.Nodes.store l.nodes);
  long : length l.all.items ≡ length l.fn.a;
  rest : (j : ℕ) (d : Rails) → l.k ≤ j → get_or l.all.items j d ≡ get_or l.fn.a j d;
  so : (vs ws : List SymbolicSet) → AllZip (AreRails (g.N.Nodes.store l.fn.nodes)) vs l.fn.a → AllZip (AreRails (g.N.Nodes.store l.fn.nodes)) ws l.b → JoinedSoFar vs ws (g.N.Nodes.store l.fn.nodes) (g.N.Nodes.store l.nodes) l.k (take l.k l.all.items);
}
