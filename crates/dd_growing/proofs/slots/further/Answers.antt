use Rattle.std.proofs.Common.{◌∙◌, arith}
use Rattle.dd_growing.proofs.Walks.{walk_far, walk_next}
use Rattle.dd_growing.proofs.slots.further.Goals as goal

pub returns-then-n : goal.returns-then-n
returns-then-n c =
    let inside = c.requires.inside in
    (c.far_of.ensures.0 ∙ walk_far c.args.size c.args.node c.args.n c.if-n.true (omega (arith, inside)), c.far_of.ensures.1)

pub returns : goal.returns
returns c = (c.next.ensures.0 ∙ walk_next c.args.size c.args.node c.args.n c.args.at c.requires.at c.if-n.false, c.next.ensures.1)
