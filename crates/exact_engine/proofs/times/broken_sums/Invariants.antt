use Rattle.std.proofs.Common.{◌≡◌, ◌<◌, ℕ, suc, All, length}
use Rattle.ste_base.specs.Functions.{Function}
use Rattle.dd_nodes.specs.Spending.{Spends}
use Rattle.dd_nodes.specs.Stores.{IsRef, Keeps}
use Rattle.exact_model.specs.ExactWork.{exact_work}
use Rattle.exact_engine.specs.private.TimedCuts.{AreTimedCuts, IsTimedCutRef}
use Rattle.exact_engine.specs.private.Bits.{AreBits}
use Rattle.exact_engine.specs.private.Times.{AreSums, AreTimes, choice_at}
use Rattle.exact_engine.proofs.times.broken_sums.Given as goal

-- the bits of the time before, and the sums of the times so far
abbrev pub invariant-loop-t : goal.invariant-loop-t
invariant-loop-t g l = record {
  long : 0 < l.t → length l.bits.items ≡ l.net.raw.nets;
  refs : All (IsRef (g.N.Nodes.store l.nodes)) l.bits.items;
  keeps : Keeps (g.N.Nodes.store l.fn.nodes) (g.N.Nodes.store l.nodes);
  ant : All (IsTimedCutRef (g.N.Nodes.store l.nodes) l.net.raw.nets) l.ant;
  con : All (IsTimedCutRef (g.N.Nodes.store l.nodes) l.net.raw.nets) l.con;
  ant_held : IsRef (g.N.Nodes.store l.nodes) l.broken.ant;
  con_held : IsRef (g.N.Nodes.store l.nodes) l.broken.con;
  choice : l.choice ≡ choice_at l.net.raw l.vars l.task l.t;
  so : (bit : ℕ → ℕ → Function) → AreTimes (g.N.Nodes.store l.fn.nodes).vars l.net.raw l.vars l.task bit → AreTimedCuts (g.N.Nodes.store l.fn.nodes) l.task.ant l.ant → AreTimedCuts (g.N.Nodes.store l.fn.nodes) l.task.con l.con →
      Spends (exact_work l.net.raw l.vars l.task bit) (g.N.Nodes.store l.fn.nodes) (g.N.Nodes.store l.nodes) ⊥;
  last : (bit : ℕ → ℕ → Function) → AreTimes (g.N.Nodes.store l.fn.nodes).vars l.net.raw l.vars l.task bit → AreTimedCuts (g.N.Nodes.store l.fn.nodes) l.task.ant l.ant → AreTimedCuts (g.N.Nodes.store l.fn.nodes) l.task.con l.con →
      (k : ℕ) → suc k ≡ l.t → AreBits (g.N.Nodes.store l.nodes) l.net.raw.nets (bit k) l.bits.items;
  sums : (bit : ℕ → ℕ → Function) → AreTimes (g.N.Nodes.store l.fn.nodes).vars l.net.raw l.vars l.task bit → AreTimedCuts (g.N.Nodes.store l.fn.nodes) l.task.ant l.ant → AreTimedCuts (g.N.Nodes.store l.fn.nodes) l.task.con l.con →
      AreSums (g.N.Nodes.store l.nodes) l.task bit l.t l.broken;
}
