use Rattle.std.proofs.Common.{map, refl}
use Rattle.task_binding.specs.Mentions.{quint_mention, weak_mention}
use Rattle.task_binding.proofs.Leading.{three_result}
use Rattle.task_binding.proofs.unknown.in_assertion.Goals as goal

pub returns : goal.returns
returns g c =
    three_result (g.N.Resolve.net_of c.args.names.now) (map quint_mention c.args.ant.now)
    (map quint_mention c.args.con.now) (map weak_mention c.args.weak.now) _ _ _ c.args.found
    c.in_ok-found.found c.in_ok-found-2.found c.in_weaks.result refl refl refl
    c.in_ok-found.ensures c.in_ok-found-2.ensures c.in_weaks.ensures
