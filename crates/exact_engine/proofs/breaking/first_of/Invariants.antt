use Rattle.std.proofs.Common.{take}
use Rattle.ste_model.specs.Runs.{run_of}
use Rattle.exact_engine.specs.private.Breaching.{IsFirstOf}
use Rattle.exact_engine.proofs.breaking.first_of.Given as goal

-- the first place of the quintuples so far
abbrev pub invariant-loop-quint : goal.invariant-loop-quint
invariant-loop-quint l = IsFirstOf (run_of l.run) l.bits l.depth (take l.quint-index l.quints) l.place
