use Rattle.std.proofs.Common.{◌≡◌, length, drop}
use Rattle.gate_sets.specs.private.Sums.{IsGoing}
use Rattle.gate_sets.proofs.sums.row_by_row.Given as goal

-- the pieces that are left lead to the sum
abbrev pub invariant-loop-piece : goal.invariant-loop-piece
invariant-loop-piece g l = record {
  room : length l.products ≡ length l.fn.products;
  going : IsGoing l.rows.list l.nets l.inputs l.begun (drop l.piece-index l.piece-items) l.products l.sum (g.N.Nodes.store l.fn.nodes) (g.N.Nodes.store l.nodes);
}
