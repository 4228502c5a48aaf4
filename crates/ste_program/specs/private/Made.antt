-- For private functions. What the steps to a report know of the texts.
use Rattle.std.specs.Prelude.{◌≡◌, ◌≢◌, ◌<◌, ◌≤◌, ◌⊎◌, ◌∷◌, ◌++◌, ℕ, Bool, List, [], length, All, Option, Err}
use Rattle.blif_syntax.specs.declared.models.Model.{Model}
use Rattle.command_line.specs.Command.{Command}
use Rattle.hierarchy.specs.Faults.{IsFree, IsRefusal}
use Rattle.hierarchy.specs.Names.{net_named}
use Rattle.hierarchy.specs.Nets.{nets}
use Rattle.hierarchy.specs.declared.fault.NetFault.{NetFault}
use Rattle.flat_net.specs.Flat.{IsFlat}
use Rattle.net_core.specs.Cases.{cases_of}
use Rattle.net_core.specs.Flat.{IsInRange}
use Rattle.net_core.specs.Run.{IsSettled}
use Rattle.net_core.specs.declared.raw.RawNet.{RawNet}
use Rattle.net_names.specs.Names.{AreNamesOf}
use Rattle.net_names.specs.declared.names.NetNames.{NetNames}
use Rattle.assert_syntax.specs.declared.tasks.RawTasks.{RawTasks}
use Rattle.ste_model.specs.declared.task.Bind.{Bind}
use Rattle.ste_model.specs.declared.task.Edge.{Edge}
use Rattle.ste_model.specs.declared.task.Graph.{Graph}
use Rattle.ste_model.specs.declared.task.Quint.{Quint}
use Rattle.ste_model.specs.declared.task.Task.{Task}
use Rattle.ste_model.specs.declared.task.Weakening.{Weakening}
use Rattle.ste_model.specs.declared.task.Task.TheVariants.{Ste, Gste}
use Rattle.ste_model.specs.GraphNeed.{BindsReadBelow}
use Rattle.ste_model.specs.Need.{ReadBelow}
use Rattle.task_binding.specs.Answer.{IsBindAnswer}
use Rattle.task_binding.specs.declared.fault.BindFault.{BindFault}
use Rattle.task_binding.specs.declared.fault.BindFault.TheVariants as bind
use Rattle.ste_io.specs.Outside.{FilesState}
use Rattle.ste_program.specs.Answer.{AskedAll}
use Rattle.ste_program.specs.Netlist.{IsLoop}
use Rattle.ste_program.specs.Report.{IsReport}
use Rattle.ste_program.specs.declared.refusal.Refusal.{Refusal}
use Rattle.ste_program.specs.declared.refusal.Refusal.TheVariants as refusal

-- the flat net of a netlist, in which no gates form a loop, with the names of its nets
pub record IsNetOf (models : List Model) (net : RawNet) (names : NetNames) : Type 0 where
  pub sound : IsFree (IsRefusal models)
  pub flat : IsFlat models net
  pub in_range : IsInRange net
  pub settled : IsSettled net
  pub named : AreNamesOf models names
  pub inputs : All (λ cover. cover.inputs ≤ 1000) net.covers
  pub cases : All (λ cover. cases_of cover.inputs cover.rows ≤ 65536) net.covers

-- why a netlist has no flat net in a settled order
abbrev pub HasNoNet : List Model → Refusal → Type 0
HasNoNet models found =
    ((fault : NetFault) × (found ≡ refusal.Hierarchy fault) × IsRefusal models fault)
    ⊎ ((name : List ℕ) × (found ≡ refusal.Loop name) × IsFree (IsRefusal models) ×
    IsLoop models name)

-- why tasks are not bound to a net
abbrev pub IsNotBound : List Model → RawTasks → Refusal → Type 0
IsNotBound models raw found =
    (fault : BindFault) × (found ≡ refusal.Binding fault) × (fault ≢ bind.OutOfMemory)
    × IsBindAnswer (net_named models) (length (nets models)) raw (Err fault)

-- the bindings name nets below this number
abbrev pub AreBindsIn : ℕ → List Bind → Type 0
AreBindsIn nets binds = All (λ bind. bind.node.0 < nets) binds

-- an edge lies between two of so many vertices
abbrev pub IsBetween : ℕ → Edge → Type 0
IsBetween vertices edge = (edge.from < vertices) × (edge.to < vertices)

-- the bindings of an edge name nets, and read variables, below these numbers, and so do its
-- weakenings name nets
abbrev pub IsEdgeFit : ℕ → ℕ → Edge → Type 0
IsEdgeFit nets vars edge =
    AreBindsIn nets edge.ant × AreBindsIn nets edge.con × BindsReadBelow vars edge.ant ×
    BindsReadBelow vars edge.con
    × All (λ node. node.0 < nets) edge.weak

-- a graph has a vertex, and each of its edges lies between its vertices, and is fit
abbrev pub IsGraphFit : ℕ → ℕ → Graph → Type 0
IsGraphFit nets vars graph =
    (0 < length graph.vertices) × All (IsBetween (length graph.vertices)) graph.edges
    × All (IsEdgeFit nets vars) graph.edges

-- the quintuples of an assertion; a graph has none
abbrev pub quints_in : Task → List Quint
quints_in (Ste task) = task.ant ++ task.con
quints_in (Gste graph) = []

-- the weakenings of an assertion; a graph has none of its own
abbrev pub weak_in : Task → List Weakening
weak_in (Ste task) = task.weak
weak_in (Gste graph) = []

-- the graph that a task is; an assertion is none
abbrev pub graphs_in : Task → List Graph
graphs_in (Ste task) = []
graphs_in (Gste graph) = graph ∷ []

-- the task may be checked: what it names there is, over nets and variables below these numbers
abbrev pub IsCheckable : ℕ → ℕ → Task → Type 0
IsCheckable nets vars task =
    All (λ quint. quint.node.0 < nets) (quints_in task) × ReadBelow vars (quints_in task)
    × All (IsGraphFit nets vars) (graphs_in task)
    × All (λ weakening. weakening.node.0 < nets) (weak_in task)

-- the report that a command asks for, with what its files were asked for
pub record IsMade (command : Option Command) (files files' : FilesState) (passes : Bool)
    (bytes : List ℕ) : Type 0 where
  pub report : IsReport command files passes bytes
  pub asking : AskedAll command files files'
