use Rattle.std.proofs.Common.{◌≡◌, ◌≤◌, ◌<◌, ℕ, [], List, length, take, get_or, false}
use Rattle.net_core.specs.declared.cover.Lit.{Lit}
use Rattle.gate_sets.specs.declared.piece.Piece.{Piece}
use Rattle.gate_sets.specs.private.Pieces.{LeadTo}
use Rattle.gate_sets.proofs.row_list.RowList.of.Given as goal

-- the first k rows are there, and the next one begins with the literals that are kept
pub record HasRows (width : ℕ) (pieces : List Piece) (rows : List (List Lit)) (k kept : ℕ) : Type 0 where
  pub begun : List Lit
  pub next : k < length rows → begun ≡ take kept (get_or rows k [])
  pub leads : LeadTo width pieces (take k rows) begun false

abbrev pub invariant-loop-k : goal.invariant-loop-k
invariant-loop-k l = record {
  kept : l.kept ≤ l.width;
  has : HasRows l.width l.pieces l.rows l.k l.kept;
}
