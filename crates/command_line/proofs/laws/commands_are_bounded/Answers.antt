use Rattle.command_line.proofs.Ranges.{commands_are_bounded}
use Rattle.command_line.proofs.laws.commands_are_bounded.Goals as goal

pub returns : goal.returns
returns c = commands_are_bounded
