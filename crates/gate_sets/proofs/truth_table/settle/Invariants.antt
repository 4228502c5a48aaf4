use Rattle.gate_sets.specs.private.TruthTables.{AreAlike}
use Rattle.gate_sets.proofs.truth_table.settle.Given as goal

-- the tables and sets so far
abbrev pub invariant-loop-place : goal.invariant-loop-place
invariant-loop-place l = AreAlike l.fn.tables l.now l.fn.operands l.operands

abbrev pub invariant-loop-place-2 : goal.invariant-loop-place-2
invariant-loop-place-2 l = AreAlike l.fn.tables l.now l.fn.operands l.operands
