use Rattle.std.proofs.Common.{Ok}
use Rattle.ste_program.proofs.Handed.{handed_on}
use Rattle.ste_program.proofs.Told.{bound_told, no_tasks}
use Rattle.ste_program.proofs.check.bound_tasks.Goals as goal

pub returns-in_err-bind_tasks : goal.returns-in_err-bind_tasks
returns-in_err-bind_tasks c = λ models of_net.
    let flat = c.args.flat.now in
    handed_on _ _ _ c.from_residual.ensures.1
    (no_tasks models flat.net.raw flat.names c.nets.result c.args.raw.now c.in_err-bind_tasks.field-0.0 of_net c.nets.ensures c.in_err-bind_tasks.ensures.exact)

pub returns : goal.returns
returns c = λ models of_net.
    let flat = c.args.flat.now in
    bound_told models flat.net.raw flat.names c.nets.result c.args.raw.now (Ok c.in_ok-bind_tasks.field-0) of_net c.nets.ensures c.in_ok-bind_tasks.ensures.exact
