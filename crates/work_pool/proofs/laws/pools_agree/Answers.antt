use Rattle.work_pool.proofs.Agreeing.{agree}
use Rattle.work_pool.proofs.laws.pools_agree.Goals as goal

pub returns : goal.returns
returns c = agree
