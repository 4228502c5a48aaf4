use Rattle.std.proofs.Common.{take}
use Rattle.dd_nodes.specs.Spending.{Spends}
use Rattle.ste_model.specs.Need.{ReadBelow}
use Rattle.ste_model.specs.Work.{quints_work}
use Rattle.ste_engine.specs.private.TimedCuts.{AreTimedCuts}
use Rattle.ste_engine.proofs.timed_cuts.timed_cuts_of.Given as goal

-- the first quintuples have their references
abbrev pub invariant-loop-k : goal.invariant-loop-k
invariant-loop-k g l = record {
  reads : ReadBelow (g.N.Nodes.store l.nodes).vars l.quints;
  so : Spends (quints_work l.quints) (g.N.Nodes.store l.fn.nodes) (g.N.Nodes.store l.nodes) ⊥;
  fit : AreTimedCuts (g.N.Nodes.store l.nodes) 0 (take l.k l.quints) l.timed_cuts.items;
}
