use Rattle.std.proofs.Common.{[], ◌∷◌}
use Rattle.task_binding.specs.Mentions.{quint_mention}
use Rattle.task_binding.proofs.Leading.{item_on, maps_end}
use Rattle.task_binding.proofs.unknown.in_quints.Goals as goal

pub loop-quint-preserved : goal.loop-quint-preserved
loop-quint-preserved g c = item_on (g.N.Resolve.net_of c.args.names.now) (λ x. quint_mention x ∷ []) c.args.quints.now c.loop-quint.quint-index c.quint-item.result _ _ _ c.loop-quint-test.true c.quint-item.is c.loop-quint.invariant c.in_ok-found.ensures

pub returns : goal.returns
returns g c = maps_end (g.N.Resolve.net_of c.args.names.now) quint_mention c.args.quints.now c.loop-quint.quint-index _ _ c.loop-quint-test.false c.loop-quint.invariant
