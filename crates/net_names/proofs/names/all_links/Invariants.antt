use Rattle.std.proofs.Common.{◌≡◌, List, map, take}
use Rattle.blif_syntax.specs.declared.models.Model.{Model}
use Rattle.instances.specs.Numbers.{AreRows}
use Rattle.net_names.specs.Names.{link_of}
use Rattle.net_names.proofs.names.all_links.Given as goal

abbrev pub invariant-loop-row : goal.invariant-loop-row
invariant-loop-row l = (models : List Model) → AreRows models l.rows → l.links.keys ≡ map link_of (take l.row-index l.rows)
