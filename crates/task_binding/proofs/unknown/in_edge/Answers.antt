use Rattle.std.proofs.Common.{ap, map}
use Rattle.task_binding.specs.Mentions.{bind_mention, mark_mention}
use Rattle.task_binding.proofs.Leading.{three_result}
use Rattle.task_binding.proofs.unknown.in_edge.Goals as goal

pub returns : goal.returns
returns g c =
    three_result (g.N.Resolve.net_of c.args.names.now) (map bind_mention c.args.edge.now.ant)
    (map bind_mention c.args.edge.now.con) (map mark_mention c.args.edge.now.weak)
    (map bind_mention c.as_slice.result.now) (map bind_mention c.as_slice-2.result.now)
    (map mark_mention c.as_slice-3.result.now) c.args.found c.in_ok-found.found
    c.in_ok-found-2.found c.in_marks.result (ap (map bind_mention) c.as_slice.ensures)
    (ap (map bind_mention) c.as_slice-2.ensures) (ap (map mark_mention) c.as_slice-3.ensures)
    c.in_ok-found.ensures c.in_ok-found-2.ensures c.in_marks.ensures
