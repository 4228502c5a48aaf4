use Rattle.std.proofs.Common.{ap, sym, ◌∙◌, slice_get}
use Rattle.std.specs.Prelude.{option_and_then}
use Rattle.aig_reader.proofs.naming.name_placed.Goals as goal

pub returns-in-None : goal.returns-in-None
returns-in-None c = ap (option_and_then (slice_get c.args.found.now)) (sym c.in-None.is
    ∙ c.place.ensures)
