use Rattle.std.proofs.Common.{[], ◌∷◌}
use Rattle.task_binding.specs.Mentions.{weak_mention}
use Rattle.task_binding.proofs.Leading.{item_on, maps_end}
use Rattle.task_binding.proofs.unknown.in_weaks.Goals as goal

pub loop-weak-preserved : goal.loop-weak-preserved
loop-weak-preserved g c =
    item_on (g.N.Resolve.net_of c.args.names.now) (λ x. weak_mention x ∷ []) c.args.weaks.now
    c.loop-weak.weak-index c.weak-item.result _ _ _ c.loop-weak-test.true c.weak-item.is
    c.loop-weak.invariant c.in_ok-found.ensures

pub returns : goal.returns
returns g c =
    maps_end (g.N.Resolve.net_of c.args.names.now) weak_mention c.args.weaks.now
    c.loop-weak.weak-index _ _ c.loop-weak-test.false c.loop-weak.invariant
