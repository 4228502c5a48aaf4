use Rattle.counter_run.proofs.OneOnInputs.{one_run_on}
use Rattle.counter_run.proofs.laws.one_run_on.Goals as goal

pub returns : goal.returns
returns c = one_run_on
