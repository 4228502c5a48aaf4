use Rattle.std.proofs.Common.{◌≡◌, List, length, map}
use Rattle.net_core.specs.declared.cover.Lit.{Lit}
use Rattle.net_core.specs.Work.{AreWide}
use Rattle.gate_sets.proofs.Stacked.{AreCut, lits_of}
use Rattle.gate_sets.proofs.by_halves.slices_of.Given as goal

-- the literals that are left are those of the rows that are left
abbrev pub invariant-loop-rest : goal.invariant-loop-rest
invariant-loop-rest l = (rows : List (List Lit)) → AreWide rows l.width → l.lits ≡ lits_of rows → AreCut l.width rows (map (λ row. row.now) l.slices.items) l.rest

abbrev pub decreases-loop-rest : goal.decreases-loop-rest
decreases-loop-rest l = length l.rest
