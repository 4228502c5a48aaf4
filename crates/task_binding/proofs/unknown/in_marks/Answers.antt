use Rattle.std.proofs.Common.{[], ◌∷◌}
use Rattle.task_binding.specs.Mentions.{mark_mention}
use Rattle.task_binding.proofs.Leading.{item_on, maps_end}
use Rattle.task_binding.proofs.unknown.in_marks.Goals as goal

pub loop-mark-preserved : goal.loop-mark-preserved
loop-mark-preserved g c =
    item_on (g.N.Resolve.net_of c.args.names.now) (λ x. mark_mention x ∷ []) c.args.marks.now
    c.loop-mark.mark-index c.mark-item.result _ _ _ c.loop-mark-test.true c.mark-item.is
    c.loop-mark.invariant c.in_ok-found.ensures

pub returns : goal.returns
returns g c =
    maps_end (g.N.Resolve.net_of c.args.names.now) mark_mention c.args.marks.now
    c.loop-mark.mark-index _ _ c.loop-mark-test.false c.loop-mark.invariant
