use Rattle.std.proofs.Common.{ℕ, List, drop, length, All}
use Rattle.ste_base.specs.Functions.{Function}
use Rattle.dd_nodes.specs.Spending.{Spends}
use Rattle.dd_nodes.specs.Stores.{IsRef, Keeps, Means}
use Rattle.net_core.specs.Work.{disjunction, whole}
use Rattle.ste_model.specs.declared.task.Quint.{Quint}
use Rattle.ste_model.specs.Work.{symbolic_cuts_at}
use Rattle.exact_engine.specs.private.TimedCuts.{AreTimedCuts, IsTimedCutRef, broken_at, cuts_added}
use Rattle.exact_engine.specs.private.Bits.{AreBits}
use Rattle.exact_engine.specs.private.Joined.{Leads}
use Rattle.exact_engine.proofs.adding.add_time.Given as goal

-- the first quintuples are added
abbrev pub invariant-loop-k : goal.invariant-loop-k
invariant-loop-k g l = record {
  timed_cuts : All (IsTimedCutRef (g.N.Nodes.store l.nodes) (length l.bits)) l.timed_cuts;
  refs : All (IsRef (g.N.Nodes.store l.nodes)) l.bits;
  keeps : Keeps (g.N.Nodes.store l.fn.nodes) (g.N.Nodes.store l.nodes);
  held : IsRef (g.N.Nodes.store l.nodes) l.sum;
  so : (f : Function) (bit : ℕ → Function) (quints : List Quint) → Means (g.N.Nodes.store l.fn.nodes) f l.fn.sum → AreBits (g.N.Nodes.store l.fn.nodes) (length l.bits) bit l.bits → AreTimedCuts (g.N.Nodes.store l.fn.nodes) quints l.timed_cuts →
      Spends (cuts_added f bit (symbolic_cuts_at quints l.time)) (g.N.Nodes.store l.fn.nodes) (g.N.Nodes.store l.nodes) ⊥;
  leads : (f : Function) (bit : ℕ → Function) (quints : List Quint) → Means (g.N.Nodes.store l.fn.nodes) f l.fn.sum → AreBits (g.N.Nodes.store l.fn.nodes) (length l.bits) bit l.bits → AreTimedCuts (g.N.Nodes.store l.fn.nodes) quints l.timed_cuts →
      Leads disjunction (whole disjunction f (broken_at bit (symbolic_cuts_at quints l.time))) (cuts_added f bit (symbolic_cuts_at quints l.time))
      (broken_at bit (symbolic_cuts_at (drop l.k quints) l.time)) (g.N.Nodes.store l.nodes) l.sum;
}
