-- Meaning. The one line on the error sink that says why there is no report, each with a line feed.
-- Source: this project's own choice.
use Rattle.std.specs.Prelude.{ℕ, List, codes, ◌++◌, Option}
use Rattle.std.specs.Fmt.{decimal}
use Rattle.aig_model.specs.declared.fault.AigFault.{AigFault}
use Rattle.aig_model.specs.declared.fault.AigFault.TheVariants as aig
use Rattle.blif_syntax.specs.declared.fault.BlifFault.{BlifFault}
use Rattle.blif_syntax.specs.declared.fault.BlifFault.TheVariants as blif
use Rattle.hierarchy.specs.declared.fault.NetFault.{NetFault}
use Rattle.hierarchy.specs.declared.fault.NetFault.TheVariants as net
use Rattle.assert_syntax.specs.declared.fault.TaskFault.{TaskFault}
use Rattle.assert_syntax.specs.declared.fault.TaskFault.TheVariants as task
use Rattle.task_binding.specs.declared.fault.BindFault.{BindFault}
use Rattle.task_binding.specs.declared.fault.BindFault.TheVariants as bind
use Rattle.clock_step.specs.declared.fault.InputFault.{InputFault}
use Rattle.clock_step.specs.declared.fault.InputFault.TheVariants as input
use Rattle.command_line.specs.Command.{Command}
use Rattle.ste_program.specs.Command.{file_name}
use Rattle.ste_program.specs.declared.refusal.File.TheVariants as file
use Rattle.ste_program.specs.declared.refusal.Refusal.{Refusal}
use Rattle.ste_program.specs.declared.refusal.Refusal.TheVariants.{Usage, CannotRead, TooLarge, Netlist, Aig, Tasks, Hierarchy, Loop, Binding, Inputs, TooManySteps, OutOfMemory}

-- out of memory
abbrev pub out_of_memory : List ℕ
out_of_memory = codes "stework: out of memory\n"

-- the report could not be written
abbrev pub cannot_write : List ℕ
cannot_write = codes "stework: cannot write the report\n"

-- a message on a file of this name
abbrev pub file_message : List ℕ → List ℕ → List ℕ
file_message name text = codes "stework: " ++ name ++ codes ": " ++ text ++ codes "\n"

-- a message on a line of a file of this name
abbrev pub line_message : List ℕ → ℕ → List ℕ → List ℕ
line_message name line text =
    codes "stework: " ++ name ++ codes ":" ++ decimal line ++ codes ": " ++ text ++ codes "\n"

-- the message on a netlist's text that is refused
abbrev pub netlist_message : List ℕ → BlifFault → List ℕ
netlist_message name (blif.BadLine line) = line_message name line (codes "bad line")
netlist_message name (blif.UnknownWord line word) =
    line_message name line (codes "unknown word " ++ word)
netlist_message name (blif.LeftOut line word) = line_message name line (codes "left out: " ++ word)
netlist_message name blif.NoModel = file_message name (codes "no model")
netlist_message name blif.OutOfMemory = out_of_memory

-- the message on an AIGER text that is refused
abbrev pub aig_message : List ℕ → AigFault → List ℕ
aig_message name (aig.BadLine line) = line_message name line (codes "bad line")
aig_message name (aig.LeftOut line word) = line_message name line (codes "left out: " ++ word)
aig_message name aig.OutOfMemory = out_of_memory

-- the message on a task file's text that is refused
abbrev pub tasks_message : List ℕ → TaskFault → List ℕ
tasks_message name (task.BadLine line) = line_message name line (codes "bad line")
tasks_message name (task.TooDeep line) = line_message name line (codes "too deep")
tasks_message name (task.DoubleName line word) =
    line_message name line (codes "double name " ++ word)
tasks_message name (task.UnknownVar line word) =
    line_message name line (codes "unknown variable " ++ word)
tasks_message name (task.TooMany line) = line_message name line (codes "too many")
tasks_message name task.NoTask = file_message name (codes "no task")
tasks_message name task.OutOfMemory = out_of_memory

-- the message on a hierarchy that is refused
abbrev pub hierarchy_message : List ℕ → NetFault → List ℕ
hierarchy_message name (net.DoubleModel line word) =
    line_message name line (codes "double model " ++ word)
hierarchy_message name (net.UnknownModel line word) =
    line_message name line (codes "unknown model " ++ word)
hierarchy_message name (net.Recursive line word) =
    line_message name line (codes "recursive model " ++ word)
hierarchy_message name (net.BadFormal line word) =
    line_message name line (codes "bad formal " ++ word)
hierarchy_message name (net.MissingFormal line word) =
    line_message name line (codes "missing formal " ++ word)
hierarchy_message name (net.GateTooWide line) = line_message name line (codes "cover too wide")
hierarchy_message name net.TooDeep = file_message name (codes "hierarchy too deep")
hierarchy_message name net.TooManyNodes = file_message name (codes "too many nodes")
hierarchy_message name (net.DrivenTwice line word) =
    line_message name line (codes "driven twice: " ++ word)
hierarchy_message name (net.MixedClocks line word) =
    line_message name line (codes "mixed clocks at " ++ word)
hierarchy_message name net.OutOfMemory = out_of_memory

-- the message on tasks that are not bound to a netlist
abbrev pub binding_message : List ℕ → BindFault → List ℕ
binding_message name (bind.UnknownNode line word) =
    line_message name line (codes "unknown node " ++ word)
binding_message name (bind.TooLarge line) = line_message name line (codes "task too large")
binding_message name bind.OutOfMemory = out_of_memory

-- the message on an input file's text that is refused
abbrev pub inputs_message : List ℕ → InputFault → List ℕ
inputs_message name (input.BadLine line) = line_message name line (codes "bad line")
inputs_message name (input.DoubleName line word) =
    line_message name line (codes "double name " ++ word)
inputs_message name (input.UnknownNode line word) =
    line_message name line (codes "unknown node " ++ word)
inputs_message name (input.NotAnInput line word) =
    line_message name line (codes "not an input: " ++ word)
inputs_message name (input.TooMany line) = line_message name line (codes "too many")
inputs_message name input.OutOfMemory = out_of_memory

-- the words ask for nothing that is done
abbrev pub usage : List ℕ
usage = codes "usage: stework (check NET TASKS or info NET or sim NET INPUTS or bench N)" ++
    codes " [--workers W] [--steps S] [--cubes C] [--wave] [--nodes]\n"

-- the message on a refusal
abbrev pub message_of : Option Command → Refusal → List ℕ
message_of command Usage = usage
message_of command (CannotRead which) =
    codes "stework: cannot read " ++ file_name command which ++ codes "\n"
message_of command (TooLarge which) = file_message (file_name command which) (codes "too large")
message_of command (Netlist found) = netlist_message (file_name command file.Net) found
message_of command (Aig found) = aig_message (file_name command file.Net) found
message_of command (Tasks found) = tasks_message (file_name command file.Second) found
message_of command (Hierarchy found) = hierarchy_message (file_name command file.Net) found
message_of command (Loop name) =
    file_message (file_name command file.Net) (codes "loop at " ++ name)
message_of command (Binding found) = binding_message (file_name command file.Second) found
message_of command (Inputs found) = inputs_message (file_name command file.Second) found
message_of command TooManySteps = codes "stework: too many steps\n"
message_of command OutOfMemory = out_of_memory
