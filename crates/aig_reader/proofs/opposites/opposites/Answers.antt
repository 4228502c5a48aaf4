use Rattle.std.proofs.Common.{ap, ◌∙◌}
use Rattle.std.specs.Prelude.{eqb}
use Rattle.std.specs.List.{filter_map}
use Rattle.std.proofs.lemmas.List.Filters.{dedup_is}
use Rattle.aig_reader.specs.private.Taken.{taken_opposite}
use Rattle.aig_reader.proofs.Rising.{sorted_opposites}
use Rattle.aig_reader.proofs.opposites.opposites.Goals as goal

pub returns : goal.returns
returns c =
    dedup_is eqb c.sort.new.self.items c.dedup.new.self.items c.dedup.ensures.filtered
    ∙ sorted_opposites c.args.aig.now c.in_ok-vars.vars.items c.sort.new.self.items
    (c.in_ok-vars.ensures ∙ ap (filter_map taken_opposite) c.as_slice.ensures)
    c.in_ok-sort.ensures.permutation c.in_ok-sort.ensures.sorted
