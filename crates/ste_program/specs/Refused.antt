-- Meaning. The refusal that goes with a layer's own fault. Source: this project's own choice.
use Rattle.aig_model.specs.declared.fault.AigFault.{AigFault}
use Rattle.aig_model.specs.declared.fault.AigFault.TheVariants as aig
use Rattle.blif_syntax.specs.declared.fault.BlifFault.{BlifFault}
use Rattle.blif_syntax.specs.declared.fault.BlifFault.TheVariants as blif
use Rattle.hierarchy.specs.declared.fault.NetFault.{NetFault}
use Rattle.hierarchy.specs.declared.fault.NetFault.TheVariants as net
use Rattle.assert_syntax.specs.declared.fault.TaskFault.{TaskFault}
use Rattle.assert_syntax.specs.declared.fault.TaskFault.TheVariants as task
use Rattle.task_binding.specs.declared.fault.BindFault.{BindFault}
use Rattle.task_binding.specs.declared.fault.BindFault.TheVariants as bind
use Rattle.clock_step.specs.declared.fault.InputFault.{InputFault}
use Rattle.clock_step.specs.declared.fault.InputFault.TheVariants as input
use Rattle.ste_program.specs.declared.refusal.Refusal.{Refusal}
use Rattle.ste_program.specs.declared.refusal.Refusal.TheVariants as refusal

-- a fault of an AIGER text
abbrev pub aig_refused : AigFault → Refusal
aig_refused aig.OutOfMemory = refusal.OutOfMemory
aig_refused found = refusal.Aig found

-- a fault of a netlist's text
abbrev pub netlist_refused : BlifFault → Refusal
netlist_refused blif.OutOfMemory = refusal.OutOfMemory
netlist_refused found = refusal.Netlist found

-- a fault of a task file's text
abbrev pub tasks_refused : TaskFault → Refusal
tasks_refused task.OutOfMemory = refusal.OutOfMemory
tasks_refused found = refusal.Tasks found

-- a fault of a hierarchy
abbrev pub hierarchy_refused : NetFault → Refusal
hierarchy_refused net.OutOfMemory = refusal.OutOfMemory
hierarchy_refused found = refusal.Hierarchy found

-- a fault of nodes and sizes
abbrev pub binding_refused : BindFault → Refusal
binding_refused bind.OutOfMemory = refusal.OutOfMemory
binding_refused found = refusal.Binding found

-- a fault of an input file's text
abbrev pub inputs_refused : InputFault → Refusal
inputs_refused input.OutOfMemory = refusal.OutOfMemory
inputs_refused found = refusal.Inputs found
