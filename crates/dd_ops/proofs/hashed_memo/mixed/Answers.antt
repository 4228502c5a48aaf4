use Rattle.std.proofs.Common.{refl}
use Rattle.dd_ops.specs.private.Tables.{mixed}
use Rattle.dd_ops.proofs.hashed_memo.mixed.Goals as goal

pub returns : goal.returns
unfolding mixed
returns c = refl
