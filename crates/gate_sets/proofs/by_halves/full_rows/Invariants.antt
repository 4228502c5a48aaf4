use Rattle.std.proofs.Common.{drop}
use Rattle.gate_sets.proofs.Stacked.{AreGathered}
use Rattle.gate_sets.proofs.by_halves.full_rows.Given as goal

-- the rows so far, and those of the pieces that are left
abbrev pub invariant-loop-piece : goal.invariant-loop-piece
invariant-loop-piece l = AreGathered l.fn.width l.rows.list l.full.items l.begun.items (drop l.piece-index l.piece-items)
