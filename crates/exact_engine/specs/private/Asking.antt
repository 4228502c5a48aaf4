-- For private functions. What builds the references of quintuples.
use Rattle.std.specs.Prelude.{List, ◌++◌}
use Rattle.std.specs.declared.vec.Vec.{Vec}
use Rattle.std.specs.declared.alloc.Global.{Global}
use Rattle.ste_base.specs.Functions.{Function}
use Rattle.dd_nodes.specs.Stores.{Store}
use Rattle.ste_model.specs.declared.task.Quint.{Quint}
use Rattle.ste_model.specs.Expressions.{symbolic_value}
use Rattle.exact_engine.specs.declared.timed_cut.TimedCut.{TimedCut}
use Rattle.exact_engine.specs.private.TimedCuts.{AreTimedCuts}

-- the functions for one quintuple
abbrev pub quint_work : Quint → List Function
quint_work quint = (symbolic_value quint.guard).work ++ (symbolic_value quint.value).work

-- the list has the references of the quintuples
abbrev pub AreTimedCutItems : List Quint → Store → Vec TimedCut Global → Type 0
AreTimedCutItems quints t timed_cuts = AreTimedCuts t quints timed_cuts.items
