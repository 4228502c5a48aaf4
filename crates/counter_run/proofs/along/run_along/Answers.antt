use Rattle.std.proofs.Common.{◌∙◌, ap, length, refl}
use Rattle.ste_model.specs.Runs.{run_of}
use Rattle.counter_run.proofs.Cells.{written}
use Rattle.counter_run.proofs.PrintedAlong.{printed_as}
use Rattle.counter_run.proofs.along.run_along.Goals as goal

pub returns-clause-printed : goal.returns-clause-printed
returns-clause-printed c bindable edges are agree =
    let net = c.args.net.now in
    let start = c.in_ok-rows.rows in
    let is = c.as_mut_slice.ensures.value in
    let put = c.put_path.ensures in
    let back = written start.len start.items c.put_path.new.rows _ start.ok.0 (put.shape.tall ∙ ap length is) refl in
    printed_as net.raw c.args.task.now c.args.bits.now net.in_range bindable c.args.path.now edges are agree start.items c.as_mut_slice.result.now c.put_path.new.rows _ c.as_slice.result.now
    (run_of c.in_ok-made.made) is back c.as_slice.ensures c.in_ok-rows.ensures.latches c.in_ok-rows.ensures.others put.each c.in_ok-made.ensures.run
