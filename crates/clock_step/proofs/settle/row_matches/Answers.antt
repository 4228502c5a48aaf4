use Rattle.std.proofs.Common.{◌∙◌}
use Rattle.clock_step.proofs.Settling.{row_bits}
use Rattle.clock_step.proofs.settle.row_matches.Goals as goal

pub returns : goal.returns
returns c = c.row_admits.ensures ∙ row_bits c.args.bits.now c.args.row.now c.args.nets.now
