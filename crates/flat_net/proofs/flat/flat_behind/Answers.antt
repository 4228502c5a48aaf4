use Rattle.std.proofs.Common.{subst, sym}
use Rattle.std.specs.Prelude.{All}
use Rattle.net_core.specs.Cover.{IsCover}
use Rattle.flat_net.proofs.Parting.{shallow}
use Rattle.flat_net.proofs.Ranges.{ranges}
use Rattle.flat_net.proofs.flat.flat_behind.Goals as goal

pub net_of_parts-requires-clause-shallow : goal.net_of_parts-requires-clause-shallow
net_of_parts-requires-clause-shallow c = shallow c.args.models.now c.requires.free

pub new-requires-clause-shallow : goal.new-requires-clause-shallow
new-requires-clause-shallow c = shallow c.args.models.now c.requires.free

pub returns-clause-in_range : goal.returns-clause-in_range
returns-clause-in_range c = ranges c.args.models.now c.in-Ok-net_of_parts.raw (shallow c.args.models.now c.requires.free) c.in-Ok-net_of_parts.ensures.flat.0 c.requires.some c.requires.covered
    (subst (λ l. All IsCover l) (sym c.in-Ok-net_of_parts.ensures.flat.1) (λ k d low. (c.in_ok-parts.ensures.narrow k d low).sound))
