use Rattle.std.proofs.Common.{◌∙◌, Bool, List, ap, length}
use Rattle.counter_run.specs.private.Matrix.{cell}
use Rattle.counter_run.proofs.Cells.{written, zero_cells}
use Rattle.counter_run.proofs.asked.start_rows.Goals as goal
use Rattle.counter_run.proofs.asked.start_rows.Goals.{then-times-gt0, else-times-gt0}

pub returns-clause-others : goal.returns-clause-others
returns-clause-others c =
    let zero = zero_cells c.nets.result c.args.times c.in_ok-rows.rows.items c.in_ok-rows.ensures in
    elim c.if-times-gt0.branch [
      | then-times-gt0 w ↦ λ t id none.
          let is = w.as_mut_slice.ensures.value in
          let size = w.put_starts.ensures.shape.tall ∙ ap length is in
          let back = written c.in_ok-rows.rows.len c.in_ok-rows.rows.items w.put_starts.new.rows _ c.in_ok-rows.rows.ok.0 size (ap (λ v. v.items) w.rows-is) in
          ap (λ (rows : List (List Bool)). cell rows t id) back ∙ w.put_starts.ensures.others t id none ∙ ap (λ (rows : List (List Bool)). cell rows t id) is ∙ zero t id
      | else-times-gt0 w ↦ λ t id none. ap (λ v. cell v.items t id) w.rows-is ∙ zero t id
    ]
