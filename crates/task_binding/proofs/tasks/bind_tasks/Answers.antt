use Rattle.std.proofs.Common.{◌∙◌, ap, map, subst}
use Rattle.task_binding.specs.Bound.{net_by, task_bound}
use Rattle.task_binding.specs.Sizes.{AllFit, most_cells}
use Rattle.task_binding.proofs.Bound.{bound_fit}
use Rattle.task_binding.proofs.tasks.bind_tasks.Goals as goal

pub returns-clause-fits : goal.returns-clause-fits
returns-clause-fits g c =
    let net = net_by (g.N.Resolve.net_of c.args.names.now) in
    bound_fit c.args.nets most_cells net c.in_ok-tasks.tasks c.args.raw.now.tasks
    (c.in_ok-tasks.ensures.bound ∙ ap (map (task_bound net)) c.as_slice.ensures)
    (subst (AllFit c.args.nets) c.as_slice-3.ensures c.in_default-first_large.ensures)
