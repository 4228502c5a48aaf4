use Rattle.std.proofs.Common.{◌∙◌, ap, length}
use Rattle.flat_net.specs.private.Passes.{IsFirstCover}
use Rattle.flat_net.proofs.Parting.{zip_length}
use Rattle.flat_net.proofs.flat.net_of_parts.Goals as goal

pub all_instances-requires-clause-firsts : goal.all_instances-requires-clause-firsts
all_instances-requires-clause-firsts c = ap (λ l. length l) c.as_slice-2.ensures.value
    ∙ zip_length (IsFirstCover c.args.models.now c.args.covers.covers) c.args.covers.firsts.items c.args.rows.now c.requires.parts.firsts_known
