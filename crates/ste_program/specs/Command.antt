-- Meaning. The files that a command reads. Source: this project's own choice.
use Rattle.std.specs.Prelude.{ℕ, List, [], ◌++◌, Option, Some, None, option_to_list, unwrap_or}
use Rattle.command_line.specs.Command.{Action, Command, bench, check, info, sim}
use Rattle.ste_program.specs.declared.refusal.File.{File}
use Rattle.ste_program.specs.declared.refusal.File.TheVariants.{Net, Second}

-- the name of the netlist's file; `bench` reads none
abbrev pub net_file : Action → Option (List ℕ)
net_file (check net tasks) = Some net
net_file (info net) = Some net
net_file (sim net inputs) = Some net
net_file (bench stages) = None

-- the name of the second file: the tasks' of a check, the inputs' of a simulation; the other
-- actions read none
abbrev pub second_file : Action → Option (List ℕ)
second_file (check net tasks) = Some tasks
second_file (info net) = None
second_file (sim net inputs) = Some inputs
second_file (bench stages) = None

-- the name of a file of the action
abbrev pub file_of : Action → File → Option (List ℕ)
file_of action Net = net_file action
file_of action Second = second_file action

-- the name of a file as messages have it
abbrev pub file_name : Option Command → File → List ℕ
file_name None which = []
file_name (Some command) which = unwrap_or (file_of command.action which) []

-- the names of the files that are read, in order
abbrev pub files_of : Option Command → List (List ℕ)
files_of None = []
files_of (Some command) =
    option_to_list (net_file command.action) ++ option_to_list (second_file command.action)

-- the names up to a file's, in order
abbrev pub files_up_to : Command → File → List (List ℕ)
files_up_to command Net = option_to_list (net_file command.action)
files_up_to command Second = files_of (Some command)
