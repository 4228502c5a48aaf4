use Rattle.net_names.proofs.Named.{named_in_range}
use Rattle.net_names.proofs.laws.named_in_range.Goals as goal

pub returns : goal.returns
returns c = named_in_range
