use Rattle.std.proofs.Common.{◌≡◌, ℕ, All, length}
use Rattle.ste_base.specs.Functions.{Function}
use Rattle.dd_nodes.specs.Spending.{Spends}
use Rattle.dd_nodes.specs.Stores.{IsRef, Keeps}
use Rattle.exact_engine.specs.private.Bits.{AreSettled, AreSources, FollowGates, time_work}
use Rattle.exact_engine.proofs.settling.settle.Given as goal

-- the gates so far have their bits
abbrev pub invariant-loop-n : goal.invariant-loop-n
invariant-loop-n g l = record {
  long : length l.bits.items ≡ l.net.raw.nets;
  refs : All (IsRef (g.N.Nodes.store l.nodes)) l.bits.items;
  keeps : Keeps (g.N.Nodes.store l.fn.nodes) (g.N.Nodes.store l.nodes);
  so : (bit : ℕ → Function) → FollowGates (g.N.Nodes.store l.fn.nodes).vars l.net.raw bit → AreSources (g.N.Nodes.store l.fn.nodes) l.net.raw bit l.fn.sources.items →
      Spends (time_work l.net.raw bit) (g.N.Nodes.store l.fn.nodes) (g.N.Nodes.store l.nodes) ⊥;
  settled : (bit : ℕ → Function) → FollowGates (g.N.Nodes.store l.fn.nodes).vars l.net.raw bit → AreSources (g.N.Nodes.store l.fn.nodes) l.net.raw bit l.fn.sources.items →
      AreSettled (g.N.Nodes.store l.nodes) l.net.raw l.net.settled l.n bit l.bits.items;
}
