use Rattle.std.proofs.Common.{refl}
use Rattle.flat_net.proofs.Covered.{at_is, covered_new}
use Rattle.flat_net.proofs.covers.first_cover.Goals as goal

pub returns : goal.returns
returns c = covered_new c.args.models.now c.args.number c.args.covers.now c.add_covers.new.covers c.args.seen.now.items _ c.len-first.result c.index-models-number.result c.requires.long c.requires.seen
    (at_is c.args.models.now c.args.number c.index-models-number.result c.requires.number c.index-models-number.is) c.len-first.ensures c.in_ok-add_covers.ensures refl
