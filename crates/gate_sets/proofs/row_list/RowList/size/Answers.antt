use Rattle.std.proofs.Common.{[], length, sym, ◌∙◌, ap}
use Rattle.gate_sets.specs.private.Pieces.{rows_from}
use Rattle.gate_sets.proofs.Compressing.{no_rows, nothing_long}
use Rattle.gate_sets.proofs.row_list.RowList.size.Goals as goal

pub returns : goal.returns
returns c =
    let width = c.args.self.now.width in (
      λ e. sym c.pieces.ensures.rows ∙ ap (rows_from width []) (nothing_long c.pieces.result.now e),
      λ e. ap length (no_rows width c.pieces.result.now c.pieces.ensures.sound (c.pieces.ensures.rows ∙ e)),
    )
