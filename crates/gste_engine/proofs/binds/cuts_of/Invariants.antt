use Rattle.std.proofs.Common.{take}
use Rattle.std.specs.List.{AllZip}
use Rattle.dd_nodes.specs.Spending.{Spends}
use Rattle.ste_model.specs.GraphNeed.{BindsReadBelow}
use Rattle.ste_model.specs.GraphWork.{binds_work, symbolic_binds}
use Rattle.sym_step.specs.Step.{IsCutBy}
use Rattle.gste_engine.proofs.binds.cuts_of.Given as goal

-- the first bindings have their references
abbrev pub invariant-loop-k : goal.invariant-loop-k
invariant-loop-k g l = record {
  reads : BindsReadBelow (g.N.Nodes.store l.nodes).vars l.binds;
  so : Spends (binds_work l.binds) (g.N.Nodes.store l.fn.nodes) (g.N.Nodes.store l.nodes) ⊥;
  fit : AllZip (IsCutBy (g.N.Nodes.store l.nodes)) (symbolic_binds (take l.k l.binds)) l.cuts.items;
}
