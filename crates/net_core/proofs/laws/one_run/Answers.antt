use Rattle.net_core.proofs.Runs.{one_run}
use Rattle.net_core.proofs.laws.one_run.Goals as goal

pub returns : goal.returns
returns c = one_run
