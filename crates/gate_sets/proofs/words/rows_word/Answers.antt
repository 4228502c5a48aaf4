use Rattle.std.proofs.Common.{List, ◌∙◌, ap}
use Rattle.net_core.specs.declared.cover.Lit.{Lit}
use Rattle.gate_sets.specs.private.Words.{row_bit}
use Rattle.gate_sets.proofs.WordBits.{rows_go_on}
use Rattle.gate_sets.proofs.words.rows_word.Goals as goal

pub loop-row-preserved : goal.loop-row-preserved
loop-row-preserved c = λ choice l.
    rows_go_on c.args.digits c.args.rows.now c.row-item.result c.loop-row.word c.row_word-word.result c.loop-row.row-index choice _ c.loop-row-test.true c.row-item.is
    (c.row_word-word.ensures choice l ∙ ap (λ (row : List Lit). row_bit c.args.digits row choice) c.as_slice.ensures) (c.loop-row.invariant choice l)
