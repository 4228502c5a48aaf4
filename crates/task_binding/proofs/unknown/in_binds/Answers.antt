use Rattle.std.proofs.Common.{[], ◌∷◌}
use Rattle.task_binding.specs.Mentions.{bind_mention}
use Rattle.task_binding.proofs.Leading.{item_on, maps_end}
use Rattle.task_binding.proofs.unknown.in_binds.Goals as goal

pub loop-bind-preserved : goal.loop-bind-preserved
loop-bind-preserved g c = item_on (g.N.Resolve.net_of c.args.names.now) (λ x. bind_mention x ∷ []) c.args.binds.now c.loop-bind.bind-index c.bind-item.result _ _ _ c.loop-bind-test.true c.bind-item.is c.loop-bind.invariant c.in_ok-found.ensures

pub returns : goal.returns
returns g c = maps_end (g.N.Resolve.net_of c.args.names.now) bind_mention c.args.binds.now c.loop-bind.bind-index _ _ c.loop-bind-test.false c.loop-bind.invariant
