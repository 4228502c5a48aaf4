use Rattle.net_names.proofs.Named.{names_are_resolved}
use Rattle.net_names.proofs.laws.names_are_resolved.Goals as goal

pub returns : goal.returns
returns c = names_are_resolved
