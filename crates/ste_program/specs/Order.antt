-- Meaning, and two laws. The order of refusals: stages, of which each gives a refusal or nothing;
-- the first that gives one decides. Source: this project's own choice.
use Rattle.std.specs.Prelude.{◌≡◌, ◌≢◌, ◌<◌, ◌⊎◌, ◌∷◌, [], ⊤, ℕ, Bool, List, length, true, false, Option, Some, None, Err, IsSomeAnd}
use Rattle.aig_model.specs.declared.fault.AigFault.{AigFault}
use Rattle.blif_lines.specs.Lines.{lines_of}
use Rattle.blif_syntax.specs.declared.fault.BlifFault.{BlifFault}
use Rattle.blif_syntax.specs.declared.models.Model.{Model}
use Rattle.clock_step.specs.Answer as inputs
use Rattle.clock_step.specs.declared.fault.InputFault.{InputFault}
use Rattle.clock_step.specs.declared.fault.InputFault.TheVariants as input
use Rattle.command_line.specs.Command.{Action, Command, bench, check, info, sim}
use Rattle.hierarchy.specs.Faults.{IsRefusal}
use Rattle.hierarchy.specs.Names.{net_named}
use Rattle.hierarchy.specs.Nets.{nets}
use Rattle.hierarchy.specs.declared.fault.NetFault.{NetFault}
use Rattle.net_core.specs.declared.raw.RawNet.{RawNet}
use Rattle.net_gen.specs.Pipeline.{pipeline_net, pipeline_tasks}
use Rattle.flat_net.specs.Flat.{IsFlat}
use Rattle.assert_syntax.specs.declared.fault.TaskFault.{TaskFault}
use Rattle.assert_syntax.specs.declared.tasks.RawTasks.{RawTasks}
use Rattle.task_binding.specs.Answer.{IsBindAnswer}
use Rattle.task_binding.specs.declared.fault.BindFault.{BindFault}
use Rattle.task_binding.specs.declared.fault.BindFault.TheVariants as bind
use Rattle.ste_io.specs.Outside.{FilesState, StoredFiles}
use Rattle.ste_program.specs.Check.{are_too_many}
use Rattle.ste_program.specs.Command.{file_of, net_file, second_file}
use Rattle.ste_program.specs.Netlist.{IsAigTextFault, IsBlifTextFault, IsLoop, IsNetlist, is_aag}
use Rattle.ste_program.specs.Report.{IsReport, greatest, text_at}
use Rattle.ste_program.specs.TaskFile.{AreTasks, IsTasksFault}
use Rattle.ste_program.specs.declared.refusal.File.{File}
use Rattle.ste_program.specs.declared.refusal.File.TheVariants as file
use Rattle.ste_program.specs.declared.refusal.Refusal.{Refusal}
use Rattle.ste_program.specs.declared.refusal.Refusal.TheVariants as refusal

-- no stage gives anything
abbrev pub AllSilent : List (Refusal → Type 0) → Type 0
AllSilent [] = ⊤
AllSilent (stage ∷ stages) = ((other : Refusal) → ¬ stage other) × AllSilent stages

-- the first refusal: a stage gives it, and no earlier stage gives anything
abbrev pub IsFirstRefusal : List (Refusal → Type 0) → Refusal → Type 0
IsFirstRefusal [] found = ⊥
IsFirstRefusal (stage ∷ stages) found =
    stage found ⊎ (((other : Refusal) → ¬ stage other) × IsFirstRefusal stages found)

-- the text of the netlist is faulty as BLIF
abbrev pub is_faulty_blif : List ℕ → Refusal → Type 0
is_faulty_blif net_text found =
    (fault : BlifFault) × (found ≡ refusal.Netlist fault) × IsBlifTextFault net_text fault

-- the text of the netlist is faulty as AIGER
abbrev pub is_faulty_aig : List ℕ → Refusal → Type 0
is_faulty_aig net_text found =
    (fault : AigFault) × (found ≡ refusal.Aig fault) × IsAigTextFault net_text fault

-- the text of the netlist is faulty, as AIGER or as BLIF
abbrev pub is_faulty_as : Bool → List ℕ → Refusal → Type 0
is_faulty_as true net_text found = is_faulty_aig net_text found
is_faulty_as false net_text found = is_faulty_blif net_text found

-- the text of the netlist is faulty
abbrev pub is_faulty : List ℕ → Refusal → Type 0
is_faulty net_text found = is_faulty_as (is_aag net_text) net_text found

-- the text of the tasks is faulty
abbrev pub has_faulty_tasks : List ℕ → Refusal → Type 0
has_faulty_tasks task_text found =
    (fault : TaskFault) × (found ≡ refusal.Tasks fault) × IsTasksFault task_text fault

-- the hierarchy of the netlist is faulty
abbrev pub has_faulty_hierarchy : List ℕ → Refusal → Type 0
has_faulty_hierarchy net_text found =
    (fault : NetFault) × (found ≡ refusal.Hierarchy fault)
    × ((models : List Model) × IsNetlist net_text models × IsRefusal models fault)

-- gates of the netlist form a loop
abbrev pub has_loop : List ℕ → Refusal → Type 0
has_loop net_text found =
    (name : List ℕ) × (found ≡ refusal.Loop name) ×
    ((models : List Model) × IsNetlist net_text models × IsLoop models name)

-- the tasks cannot be bound to the netlist: a node of theirs names no net, or they are too large
pub record CannotBind (net_text task_text : List ℕ) (fault : BindFault) : Type 0 where
  pub models : List Model
  pub netlist : IsNetlist net_text models
  pub raw : RawTasks
  pub spelled : AreTasks task_text raw
  pub told : fault ≢ bind.OutOfMemory
  pub answer : IsBindAnswer (net_named models) (length (nets models)) raw (Err fault)

-- the tasks cannot be bound to the netlist
abbrev pub is_unbound : List ℕ → List ℕ → Refusal → Type 0
is_unbound net_text task_text found =
    (fault : BindFault) × (found ≡ refusal.Binding fault) × CannotBind net_text task_text fault

-- an input file cannot be read over the netlist's net: the fault of its first faulty line
pub record IsFaultyFor (net_text input_text : List ℕ) (fault : InputFault) : Type 0 where
  pub models : List Model
  pub netlist : IsNetlist net_text models
  pub net : RawNet
  pub flat : IsFlat models net
  pub told : fault ≢ input.OutOfMemory
  pub answer : inputs.IsInputsAnswer (net_named models) net (lines_of input_text) (Err fault)

-- the text of the inputs is faulty
abbrev pub has_faulty_inputs : List ℕ → List ℕ → Refusal → Type 0
has_faulty_inputs net_text input_text found =
    (fault : InputFault) × (found ≡ refusal.Inputs fault) × IsFaultyFor net_text input_text fault

-- the steps of all tasks together are too many
pub record HasTooManySteps (steps : Option ℕ) (task_text : List ℕ) (found : Refusal) : Type 0 where
  pub is : found ≡ refusal.TooManySteps
  pub raw : RawTasks
  pub spelled : AreTasks task_text raw
  pub many : are_too_many steps (length raw.tasks) ≡ true

-- The stages of a check's texts, in their order: the netlist's lines, the tasks' lines, the
-- hierarchy, loops of gates, the tasks' nodes and sizes, the steps.
abbrev pub check_stages : Option ℕ → List ℕ → List ℕ → List (Refusal → Type 0)
check_stages steps net_text task_text =
    is_faulty net_text ∷ has_faulty_tasks task_text ∷ has_faulty_hierarchy net_text ∷
    has_loop net_text
    ∷ is_unbound net_text task_text ∷ HasTooManySteps steps task_text ∷ []

-- those of the text of `info`: the netlist's lines, the hierarchy, loops of gates
abbrev pub info_stages : List ℕ → List (Refusal → Type 0)
info_stages net_text = is_faulty net_text ∷ has_faulty_hierarchy net_text ∷ has_loop net_text ∷ []

-- those of the texts of a simulation: the netlist's, then the inputs' lines
abbrev pub sim_stages : List ℕ → List ℕ → List (Refusal → Type 0)
sim_stages net_text input_text =
    is_faulty net_text ∷ has_faulty_hierarchy net_text ∷ has_loop net_text ∷
    has_faulty_inputs net_text input_text ∷ []

-- the stages of an action's two texts; `bench` has those of a check of the texts that it makes
abbrev pub text_stages : Action → Option ℕ → List ℕ → List ℕ → List (Refusal → Type 0)
text_stages (check net tasks) steps net_text second_text = check_stages steps net_text second_text
text_stages (info net) steps net_text second_text = info_stages net_text
text_stages (sim net inputs) steps net_text second_text = sim_stages net_text second_text
text_stages (bench stages) steps net_text second_text =
    check_stages steps (pipeline_net stages) (pipeline_tasks stages)

-- there is no file of this name
abbrev pub is_missing : File → Action → StoredFiles → Refusal → Type 0
is_missing which action store found =
    (found ≡ refusal.CannotRead which) × (text_at (file_of action which) store ≡ None)

-- the file has too many bytes
abbrev pub is_large : File → Action → StoredFiles → Refusal → Type 0
is_large which action store found =
    (found ≡ refusal.TooLarge which) ×
    IsSomeAnd (text_at (file_of action which) store) (λ bytes. greatest < length bytes)

-- it is the first refusal of the texts
abbrev pub is_in_texts : Command → StoredFiles → Refusal → Type 0
is_in_texts command store found =
    IsSomeAnd (text_at (net_file command.action) store) (λ net_text.
    IsSomeAnd (text_at (second_file command.action) store) (λ second_text.
    IsFirstRefusal (text_stages command.action command.steps net_text second_text) found))

-- the stages before a file is fetched: an earlier file is missing, or too large
abbrev pub stages_before : File → Command → StoredFiles → List (Refusal → Type 0)
stages_before file.Net command store = []
stages_before file.Second command store =
    is_missing file.Net command.action store ∷ is_large file.Net command.action store ∷ []

-- The stages in their order: the words; each file in turn, missing or too large; those of the
-- texts.
abbrev pub refusals : Option Command → StoredFiles → List (Refusal → Type 0)
refusals None store = (λ found. found ≡ refusal.Usage) ∷ []
refusals (Some command) store =
    is_missing file.Net command.action store ∷ is_large file.Net command.action store
    ∷ is_missing file.Second command.action store ∷ is_large file.Second command.action store
    ∷ is_in_texts command store ∷ []

-- Law: at most one refusal is the first.
abbrev pub OneRefusal : Type 0
OneRefusal =
    (command : Option Command) (store : StoredFiles) (one other : Refusal) →
    IsFirstRefusal (refusals command store) one → IsFirstRefusal (refusals command store) other →
    one ≡ other

-- Law: what is reported is not refused.
abbrev pub ReportedIsNotRefused : Type 0
ReportedIsNotRefused =
    (command : Option Command) (files : FilesState) (store : StoredFiles) (passes : Bool)
    (bytes : List ℕ) →
    files.holds ≡ Some store → IsReport command files passes bytes →
    AllSilent (refusals command store)
