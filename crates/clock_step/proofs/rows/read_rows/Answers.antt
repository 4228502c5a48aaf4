use Rattle.std.proofs.Common.{◌≤◌, ◌∙◌, length, map, sym, ap}
use Rattle.std.proofs.lemmas.List.{drop_all, take_all}
use Rattle.blif_lines.specs.declared.lines.Line.{Line}
use Rattle.clock_step.specs.Faults.{rows_fault}
use Rattle.clock_step.specs.Forms.{row_of}
use Rattle.clock_step.proofs.Widths.{rows_wide}
use Rattle.clock_step.proofs.rows.read_rows.Goals as goal

pub returns : goal.returns
returns c =
    let lines = c.args.lines.now in
    let n = c.loop-before.before in
    let width = c.args.width in
    let all : length lines ≤ n = c.loop-before-test.false in
    let rows = c.loop-before.invariant.rows ∙ ap (map (λ (line : Line). row_of width line.words)) (take_all n lines all) in (
      sym c.loop-before.invariant.fault ∙ ap (rows_fault width c.args.nets n) (drop_all n lines all),
      rows,
      rows_wide width c.loop-before.rows lines rows,
    )
