-- Meaning. An action of the code as one of the definitions.
use Rattle.command_line.specs.Command as asked
use Rattle.command_line.specs.declared.command.Action.{Action}
use Rattle.command_line.specs.declared.command.Action.TheVariants.{Check, Info, Sim, Bench}

-- the action, with the names of files as lists of bytes
abbrev pub view_of : Action → asked.Action
view_of (Check net tasks) = asked.check net.now tasks.now
view_of (Info net) = asked.info net.now
view_of (Sim net inputs) = asked.sim net.now inputs.now
view_of (Bench stages) = asked.bench stages
