-- The stages of a command's texts: each gives one refusal at most, and what is known silences it.
use Rattle.std.proofs.Common.{◌≡◌, ℕ, List, [], ◌∷◌, ◌++◌, length, Option, Result, Ok, Err, Bool, true, false, refl, ap, sym, ◌∙◌, inl, inr, subst}
use Rattle.std.specs.Prelude.{MatchResult}
use Rattle.std.proofs.lemmas.List.{length-map}
use Rattle.blif_lines.specs.Lines.{lines_of}
use Rattle.aig_model.specs.declared.fault.AigFault.{AigFault}
use Rattle.blif_syntax.specs.declared.fault.BlifFault.{BlifFault}
use Rattle.blif_syntax.specs.declared.models.Model.{Model}
use Rattle.clock_step.specs.Answer as inputs
use Rattle.clock_step.specs.declared.fault.InputFault.{InputFault}
use Rattle.clock_step.specs.declared.inputs.Inputs.{Inputs}
use Rattle.command_line.specs.Command.{Action, Command, bench, check, info, sim}
use Rattle.hierarchy.specs.Faults.{IsFree, IsRefusal}
use Rattle.hierarchy.specs.Names.{net_named}
use Rattle.hierarchy.specs.Nets.{nets}
use Rattle.hierarchy.specs.declared.fault.NetFault.{NetFault}
use Rattle.net_core.specs.Run.{IsSettled}
use Rattle.net_gen.specs.Pipeline.{pipeline_net, pipeline_tasks}
use Rattle.net_core.specs.declared.raw.RawNet.{RawNet}
use Rattle.flat_net.specs.Flat.{IsFlat}
use Rattle.assert_syntax.specs.Spelled.{raw_task_tree}
use Rattle.assert_syntax.specs.declared.fault.TaskFault.{TaskFault}
use Rattle.assert_syntax.specs.declared.tasks.RawTasks.{RawTasks}
use Rattle.ste_model.specs.declared.task.Tasks.{Tasks}
use Rattle.task_binding.specs.Answer.{IsBindAnswer}
use Rattle.task_binding.specs.declared.fault.BindFault.{BindFault}
use Rattle.task_binding.proofs.Alike as binding
use Rattle.ste_program.specs.Answer.{status_of}
use Rattle.ste_program.specs.Check.{IsCheck, are_too_many}
use Rattle.ste_program.specs.Netlist.{IsLoop, IsNetlist, IsNetlistAs, is_aag}
use Rattle.ste_program.specs.Order.{AllSilent, CannotBind, HasTooManySteps, IsFaultyFor, IsFirstRefusal, check_stages, has_faulty_hierarchy, has_faulty_inputs, has_faulty_tasks, has_loop, info_stages, is_faulty, is_faulty_as, is_unbound, sim_stages, text_stages}
use Rattle.ste_program.specs.Reading.{OneReading}
use Rattle.ste_program.specs.Report.{IsWritten}
use Rattle.ste_program.specs.TaskFile.{AreTasks}
use Rattle.net_names.specs.declared.names.NetNames.{NetNames}
use Rattle.ste_program.specs.private.Made.{HasNoNet, IsNetOf, IsNotBound}
use Rattle.ste_program.specs.private.Prepared.{IsPrepared}
use Rattle.ste_program.specs.private.Texts.{OrMemory}
use Rattle.ste_program.specs.declared.refusal.Refusal.{Refusal}
use Rattle.ste_program.specs.declared.refusal.Refusal.TheVariants as refusal
use Rattle.ste_program.specs.declared.run.Status.TheVariants as status
use Rattle.ste_program.proofs.HierarchyFaults as hierarchy
use Rattle.ste_program.proofs.Loops.{no_loop, one_loop}
use Rattle.ste_program.proofs.NetlistText as netlist
use Rattle.ste_program.proofs.SameInputs.{inputs_moved, one_input_fault, spelled_has_no_fault}
use Rattle.ste_program.proofs.Stages.{AllOnce, AllTold}
use Rattle.ste_program.proofs.TaskText as tasks

-- each stage of the texts gives one refusal at most
faulty_once_as : (aag : Bool) (net_text : List ℕ) (one other : Refusal) → is_faulty_as aag net_text one → is_faulty_as aag net_text other → one ≡ other
faulty_once_as true net_text one other f g = f.1 ∙ (ap (λ (fault : AigFault). refusal.Aig fault) (netlist.one_aig_fault net_text f.0 g.0 f.2 g.2) ∙ sym g.1)
faulty_once_as false net_text one other f g = f.1 ∙ (ap (λ (fault : BlifFault). refusal.Netlist fault) (netlist.one_blif_fault net_text f.0 g.0 f.2 g.2) ∙ sym g.1)

faulty_once : (net_text : List ℕ) (one other : Refusal) → is_faulty net_text one → is_faulty net_text other → one ≡ other
faulty_once net_text one other f g = faulty_once_as (is_aag net_text) net_text one other f g

tasks_once : (task_text : List ℕ) (one other : Refusal) → has_faulty_tasks task_text one → has_faulty_tasks task_text other → one ≡ other
tasks_once task_text one other f g = f.1 ∙ (ap (λ (fault : TaskFault). refusal.Tasks fault) (tasks.one_fault task_text f.0 g.0 f.2 g.2) ∙ sym g.1)

hierarchy_once : (net_text : List ℕ) (one other : Refusal) → has_faulty_hierarchy net_text one → has_faulty_hierarchy net_text other → one ≡ other
hierarchy_once net_text one other f g =
    let same = netlist.one_netlist net_text f.2.0 g.2.0 f.2.1 g.2.1 in
    let faults = hierarchy.one_fault g.2.0 f.0 g.0 (subst (λ (ms : List Model). IsRefusal ms f.0) same f.2.2) g.2.2 in
    f.1 ∙ (ap (λ (fault : NetFault). refusal.Hierarchy fault) faults ∙ sym g.1)

loop_once : (net_text : List ℕ) (one other : Refusal) → has_loop net_text one → has_loop net_text other → one ≡ other
loop_once net_text one other f g =
    let same = netlist.one_netlist net_text f.2.0 g.2.0 f.2.1 g.2.1 in
    let names = one_loop g.2.0 f.0 g.0 (subst (λ (ms : List Model). IsLoop ms f.0) same f.2.2) g.2.2 in
    f.1 ∙ (ap (λ (name : List ℕ). refusal.Loop name) names ∙ sym g.1)

-- an answer on tasks that a text spells, as one on others that it spells
moved : (net_text task_text : List ℕ) (models : List Model) (raw : RawTasks) (fault : BindFault) → IsNetlist net_text models → AreTasks task_text raw → CannotBind net_text task_text fault → IsBindAnswer (net_named models) (length (nets models)) raw (Err fault)
moved net_text task_text models raw fault spelled read h =
    let same = netlist.one_netlist net_text h.models models h.netlist spelled in
    let trees = tasks.same_tasks task_text h.raw raw h.spelled read in
    subst (λ (ms : List Model). IsBindAnswer (net_named ms) (length (nets ms)) raw (Err fault)) same
    (binding.answered_alike (net_named h.models) (length (nets h.models)) h.raw raw (Err fault) trees.0 trees.1 h.answer)

unbound_once : (net_text task_text : List ℕ) (one other : Refusal) → is_unbound net_text task_text one → is_unbound net_text task_text other → one ≡ other
unbound_once net_text task_text one other f g =
    let first = moved net_text task_text g.2.models g.2.raw f.0 g.2.netlist g.2.spelled f.2 in
    let faults = binding.one_fault (net_named g.2.models) (length (nets g.2.models)) g.2.raw f.0 g.0 f.2.told g.2.told first g.2.answer in
    f.1 ∙ (ap (λ (fault : BindFault). refusal.Binding fault) faults ∙ sym g.1)

-- a fault of an input file over one flat net is one over another
input_fault_moved : (net_text input_text : List ℕ) (models : List Model) (net : RawNet) (fault : InputFault) → IsNetlist net_text models → IsFlat models net → (h : IsFaultyFor net_text input_text fault) →
    inputs.IsInputsAnswer (net_named models) net (lines_of input_text) (Err fault)
input_fault_moved net_text input_text models net fault spelled flat h =
    let same = netlist.one_netlist net_text h.models models h.netlist spelled in
    inputs_moved models h.net net (lines_of input_text) (Err fault) (subst (λ (ms : List Model). IsFlat ms h.net) same h.flat) flat
    (subst (λ (ms : List Model). inputs.IsInputsAnswer (net_named ms) h.net (lines_of input_text) (Err fault)) same h.answer)

inputs_once : (net_text input_text : List ℕ) (one other : Refusal) → has_faulty_inputs net_text input_text one → has_faulty_inputs net_text input_text other → one ≡ other
inputs_once net_text input_text one other f g =
    let first = input_fault_moved net_text input_text g.2.models g.2.net f.0 g.2.netlist g.2.flat f.2 in
    let faults = one_input_fault (net_named g.2.models) g.2.net (lines_of input_text) f.0 g.0 f.2.told g.2.told first g.2.answer in
    f.1 ∙ (ap (λ (fault : InputFault). refusal.Inputs fault) faults ∙ sym g.1)

check_once : (steps : Option ℕ) (net_text task_text : List ℕ) → AllOnce (check_stages steps net_text task_text)
check_once steps net_text task_text =
    (faulty_once net_text, (tasks_once task_text, (hierarchy_once net_text, (loop_once net_text, (unbound_once net_text task_text, ((λ one other f g. f.is ∙ sym g.is), tt))))))

-- each stage of an action's texts gives one refusal at most
pub text_once : (action : Action) (steps : Option ℕ) (net_text second_text : List ℕ) → AllOnce (text_stages action steps net_text second_text)
text_once (check net tasks) steps net_text second_text = check_once steps net_text second_text
text_once (info net) steps net_text second_text = (faulty_once net_text, (hierarchy_once net_text, (loop_once net_text, tt)))
text_once (sim net inputs) steps net_text second_text = (faulty_once net_text, (hierarchy_once net_text, (loop_once net_text, (inputs_once net_text second_text, tt))))
text_once (bench stages) steps net_text second_text = check_once steps (pipeline_net stages) (pipeline_tasks stages)

-- what a stage of the texts gives is reported with status 2
faulty_told_as : (aag : Bool) (net_text : List ℕ) (found : Refusal) → is_faulty_as aag net_text found → status_of found ≡ status.Refused
faulty_told_as true net_text found h = ap status_of h.1
faulty_told_as false net_text found h = ap status_of h.1

faulty_told : (net_text : List ℕ) (found : Refusal) → is_faulty net_text found → status_of found ≡ status.Refused
faulty_told net_text found h = faulty_told_as (is_aag net_text) net_text found h

check_told : (steps : Option ℕ) (net_text task_text : List ℕ) → AllTold (check_stages steps net_text task_text)
check_told steps net_text task_text =
    ((λ found h. faulty_told net_text found h), ((λ found h. ap status_of h.1), ((λ found h. ap status_of h.1), ((λ found h. ap status_of h.1), ((λ found h. ap status_of h.1), ((λ found h. ap status_of h.is), tt))))))

pub text_told : (action : Action) (steps : Option ℕ) (net_text second_text : List ℕ) → AllTold (text_stages action steps net_text second_text)
text_told (check net tasks) steps net_text second_text = check_told steps net_text second_text
text_told (info net) steps net_text second_text = ((λ found h. faulty_told net_text found h), ((λ found h. ap status_of h.1), ((λ found h. ap status_of h.1), tt)))
text_told (sim net inputs) steps net_text second_text = ((λ found h. faulty_told net_text found h), ((λ found h. ap status_of h.1), ((λ found h. ap status_of h.1), ((λ found h. ap status_of h.1), tt))))
text_told (bench stages) steps net_text second_text = check_told steps (pipeline_net stages) (pipeline_tasks stages)

-- what is known silences a stage
faulty_silent_as : (aag : Bool) (net_text : List ℕ) (models : List Model) → IsNetlistAs aag net_text models → (other : Refusal) → ¬ is_faulty_as aag net_text other
faulty_silent_as true net_text models spelled other h = netlist.no_aig_fault net_text models h.0 spelled h.2
faulty_silent_as false net_text models spelled other h = netlist.no_blif_fault net_text models h.0 spelled h.2

faulty_silent : (net_text : List ℕ) (models : List Model) → IsNetlist net_text models → (other : Refusal) → ¬ is_faulty net_text other
faulty_silent net_text models spelled other h = faulty_silent_as (is_aag net_text) net_text models spelled other h

tasks_silent : (task_text : List ℕ) (raw : RawTasks) → AreTasks task_text raw → (other : Refusal) → ¬ has_faulty_tasks task_text other
tasks_silent task_text raw read other h = tasks.no_fault task_text raw h.0 read h.2

hierarchy_silent : (net_text : List ℕ) (models : List Model) → IsNetlist net_text models → IsFree (IsRefusal models) → (other : Refusal) → ¬ has_faulty_hierarchy net_text other
hierarchy_silent net_text models spelled sound other h =
    sound h.0 (subst (λ (ms : List Model). IsRefusal ms h.0) (netlist.one_netlist net_text h.2.0 models h.2.1 spelled) h.2.2)

loop_silent : (net_text : List ℕ) (models : List Model) (net : RawNet) → IsNetlist net_text models → IsFlat models net → IsSettled net → (other : Refusal) → ¬ has_loop net_text other
loop_silent net_text models net spelled flat settled other h =
    no_loop models net h.0 flat settled (subst (λ (ms : List Model). IsLoop ms h.0) (netlist.one_netlist net_text h.2.0 models h.2.1 spelled) h.2.2)

unbound_silent : (net_text task_text : List ℕ) (models : List Model) (raw : RawTasks) (bound : Tasks) → IsNetlist net_text models → AreTasks task_text raw → IsBindAnswer (net_named models) (length (nets models)) raw (Ok bound) → (other : Refusal) → ¬ is_unbound net_text task_text other
unbound_silent net_text task_text models raw bound spelled read answer other h =
    binding.no_fault (net_named models) (length (nets models)) raw bound h.0 h.2.told answer (moved net_text task_text models raw h.0 spelled read h.2)

-- tasks with the same trees are as many
steps_silent : (steps : Option ℕ) (task_text : List ℕ) (raw : RawTasks) → AreTasks task_text raw → are_too_many steps (length raw.tasks) ≡ false → (other : Refusal) → ¬ HasTooManySteps steps task_text other
steps_silent steps task_text raw read few other h =
    let trees = tasks.same_tasks task_text h.raw raw h.spelled read in
    let many = h.many in
    let as_many : length h.raw.tasks ≡ length raw.tasks = sym (length-map h.raw.tasks raw_task_tree) ∙ (ap length trees.1 ∙ length-map raw.tasks raw_task_tree) in
    let wrong : true ≡ false = sym many ∙ (ap (are_too_many steps) as_many ∙ few) in
    absurd (cc wrong)

inputs_silent : (net_text input_text : List ℕ) (models : List Model) (net : RawNet) (given : Inputs) → IsNetlist net_text models → IsFlat models net → inputs.IsInputsAnswer (net_named models) net (lines_of input_text) (Ok given) →
    (other : Refusal) → ¬ has_faulty_inputs net_text input_text other
inputs_silent net_text input_text models net given spelled flat answer other h =
    spelled_has_no_fault (net_named models) net (lines_of input_text) given h.0 h.2.told answer (input_fault_moved net_text input_text models net h.0 spelled flat h.2)

check_silent : (steps : Option ℕ) (cubes : ℕ) (wave nodes : Bool) (net_text task_text : List ℕ) (passes : Bool) (bytes : List ℕ) → IsCheck steps cubes wave nodes net_text task_text passes bytes → AllSilent (check_stages steps net_text task_text)
check_silent steps cubes wave nodes net_text task_text passes bytes written =
    let h = written.reading in
    let n = h.flattened in (
      faulty_silent net_text written.models n.netlist,
      (
        tasks_silent task_text h.raw h.spelled,
        (
          hierarchy_silent net_text written.models n.netlist n.sound,
          (
            loop_silent net_text written.models written.net n.netlist n.flat n.settled,
            (
              unbound_silent net_text task_text written.models h.raw written.tasks n.netlist h.spelled h.bound,
              (steps_silent steps task_text h.raw h.spelled written.few, tt),
            ),
          ),
        ),
      ),
    )

-- what is written is not refused
pub text_silent : (action : Action) (asked : Command) (net_text second_text : List ℕ) (passes : Bool) (bytes : List ℕ) → IsWritten action asked net_text second_text passes bytes → AllSilent (text_stages action asked.steps net_text second_text)
text_silent (check net tasks) asked net_text second_text passes bytes written = check_silent asked.steps asked.cubes asked.wave asked.nodes net_text second_text passes bytes written
text_silent (info net) asked net_text second_text passes bytes written =
    let h = written.1 in
    let n = h.flattened in
    (faulty_silent net_text h.models n.netlist, (hierarchy_silent net_text h.models n.netlist n.sound, (loop_silent net_text h.models h.net n.netlist n.flat n.settled, tt)))
text_silent (sim net inputs) asked net_text second_text passes bytes written =
    let h = written.1 in
    let n = h.flattened in
    (faulty_silent net_text h.models n.netlist, (hierarchy_silent net_text h.models n.netlist n.sound, (loop_silent net_text h.models h.net n.netlist n.flat n.settled, (inputs_silent net_text second_text h.models h.net h.inputs n.netlist n.flat h.given, tt))))
text_silent (bench stages) asked net_text second_text passes bytes written = check_silent asked.steps asked.cubes asked.wave asked.nodes (pipeline_net stages) (pipeline_tasks stages) passes written.report written.check

-- two texts have one reading at most
pub one_reading : OneReading
one_reading net_text task_text models others net other bound others_tasks f g =
    let same = netlist.one_netlist net_text models others f.flattened.netlist g.flattened.netlist in
    let trees = tasks.same_tasks task_text f.raw g.raw f.spelled g.spelled in
    let there = binding.answered_alike (net_named models) (length (nets models)) f.raw g.raw (Ok bound) trees.0 trees.1 f.bound in
    let here : IsBindAnswer (net_named models) (length (nets models)) g.raw (Ok others_tasks) =
    subst (λ (ms : List Model). IsBindAnswer (net_named ms) (length (nets ms)) g.raw (Ok others_tasks)) (sym same) g.bound in
    (same, there.2.0 ∙ sym here.2.0, there.2.1 ∙ sym here.2.1)

-- the exits of the steps over the texts: a stage gives the refusal, or is silent
pub stop : (stage : Refusal → Type 0) (stages : List (Refusal → Type 0)) (found : Refusal) → OrMemory stage found → OrMemory (IsFirstRefusal (stage ∷ stages)) found
stop stage stages found (inl memory) = inl memory
stop stage stages found (inr h) = inr (inl h)

pub skip : (stage : Refusal → Type 0) (stages : List (Refusal → Type 0)) (found : Refusal) → ((other : Refusal) → ¬ stage other) → OrMemory (IsFirstRefusal stages) found → OrMemory (IsFirstRefusal (stage ∷ stages)) found
skip stage stages found silent (inl memory) = inl memory
skip stage stages found silent (inr h) = inr (inr (silent, h))

-- a netlist has no flat net
pub net_fails : (net_text : List ℕ) (models : List Model) (stages : List (Refusal → Type 0)) (found : Refusal) → IsNetlist net_text models → OrMemory (HasNoNet models) found → OrMemory (IsFirstRefusal (has_faulty_hierarchy net_text ∷ has_loop net_text ∷ stages)) found
net_fails net_text models stages found spelled (inl memory) = inl memory
net_fails net_text models stages found spelled (inr (inl (fault, is, refused))) = inr (inl (fault, is, (models, spelled, refused)))
net_fails net_text models stages found spelled (inr (inr (name, is, sound, looped))) =
    inr (inr (hierarchy_silent net_text models spelled sound, inl (name, is, (models, spelled, looped))))

-- the same behind the netlist's lines
pub netlist_fails : (net_text : List ℕ) (models : List Model) (stages : List (Refusal → Type 0)) (found : Refusal) → IsNetlist net_text models → OrMemory (HasNoNet models) found → OrMemory (IsFirstRefusal (is_faulty net_text ∷ has_faulty_hierarchy net_text ∷ has_loop net_text ∷ stages)) found
netlist_fails net_text models stages found spelled why = skip (is_faulty net_text) (has_faulty_hierarchy net_text ∷ has_loop net_text ∷ stages) found (faulty_silent net_text models spelled) (net_fails net_text models stages found spelled why)

-- a flat net of a netlist's text, or why there is none
pub netlist_or_not : {T : Type 0} (result : Result T Refusal) (net : T → RawNet) (names : T → NetNames) (net_text : List ℕ) (models : List Model) → IsNetlist net_text models →
    MatchResult result (λ flat. IsNetOf models (net flat) (names flat)) (λ found. OrMemory (HasNoNet models) found) →
    MatchResult result (λ flat. (ones : List Model) × IsNetlist net_text ones × IsNetOf ones (net flat) (names flat)) (λ found. OrMemory (IsFirstRefusal (info_stages net_text)) found)
netlist_or_not (Ok flat) net names net_text models spelled h = (models, spelled, h)
netlist_or_not (Err found) net names net_text models spelled h = netlist_fails net_text models [] found spelled h

-- behind a flat net
pub behind_net : (net_text : List ℕ) (models : List Model) (net : RawNet) (stages : List (Refusal → Type 0)) (found : Refusal) → IsNetlist net_text models → IsFree (IsRefusal models) → IsFlat models net → IsSettled net →
    OrMemory (IsFirstRefusal stages) found → OrMemory (IsFirstRefusal (has_faulty_hierarchy net_text ∷ has_loop net_text ∷ stages)) found
behind_net net_text models net stages found spelled sound flat settled why =
    skip (has_faulty_hierarchy net_text) (has_loop net_text ∷ stages) found (hierarchy_silent net_text models spelled sound)
    (skip (has_loop net_text) stages found (loop_silent net_text models net spelled flat settled) why)

-- behind the netlist's lines and its flat net
pub behind_netlist : (net_text : List ℕ) (models : List Model) (net : RawNet) (names : NetNames) (stages : List (Refusal → Type 0)) (found : Refusal) → IsNetlist net_text models → IsNetOf models net names →
    OrMemory (IsFirstRefusal stages) found → OrMemory (IsFirstRefusal (is_faulty net_text ∷ has_faulty_hierarchy net_text ∷ has_loop net_text ∷ stages)) found
behind_netlist net_text models net names stages found spelled n why =
    skip (is_faulty net_text) (has_faulty_hierarchy net_text ∷ has_loop net_text ∷ stages) found (faulty_silent net_text models spelled)
    (behind_net net_text models net stages found spelled n.sound n.flat n.settled why)

-- the stages of a check behind both texts, and behind the netlist's
abbrev bound_stages : Option ℕ → List ℕ → List ℕ → List (Refusal → Type 0)
bound_stages steps net_text task_text = is_unbound net_text task_text ∷ HasTooManySteps steps task_text ∷ []

abbrev net_stages : Option ℕ → List ℕ → List ℕ → List (Refusal → Type 0)
net_stages steps net_text task_text = has_faulty_hierarchy net_text ∷ has_loop net_text ∷ bound_stages steps net_text task_text

abbrev task_stages : Option ℕ → List ℕ → List ℕ → List (Refusal → Type 0)
task_stages steps net_text task_text = has_faulty_tasks task_text ∷ net_stages steps net_text task_text

-- the first refusal of stages is that of more stages
first_of_more : (stages more : List (Refusal → Type 0)) (found : Refusal) → IsFirstRefusal stages found → IsFirstRefusal (stages ++ more) found
first_of_more [] more found h = absurd h
first_of_more (stage ∷ stages) more found (inl h) = inl h
first_of_more (stage ∷ stages) more found (inr h) = inr (h.0, first_of_more stages more found h.1)

-- the netlist of a simulation is refused
pub sim_fails : (net_text input_text : List ℕ) (found : Refusal) → OrMemory (IsFirstRefusal (info_stages net_text)) found → OrMemory (IsFirstRefusal (sim_stages net_text input_text)) found
sim_fails net_text input_text found (inl e) = inl e
sim_fails net_text input_text found (inr h) = inr (first_of_more (info_stages net_text) (has_faulty_inputs net_text input_text ∷ []) found h)

-- the netlist's text is refused
pub netlist_text_fails : (steps : Option ℕ) (net_text task_text : List ℕ) (found : Refusal) → OrMemory (is_faulty net_text) found → OrMemory (IsFirstRefusal (check_stages steps net_text task_text)) found
netlist_text_fails steps net_text task_text found why = stop (is_faulty net_text) (task_stages steps net_text task_text) found why

-- behind the netlist's text, which spells models
module _ (steps : Option ℕ) (net_text task_text : List ℕ) (models : List Model) (spelled : IsNetlist net_text models) where
  -- the tasks' text is refused
  pub tasks_fail : (found : Refusal) → OrMemory (has_faulty_tasks task_text) found → OrMemory (IsFirstRefusal (check_stages steps net_text task_text)) found
  tasks_fail found why =
      skip (is_faulty net_text) (task_stages steps net_text task_text) found (faulty_silent net_text models spelled)
      (stop (has_faulty_tasks task_text) (net_stages steps net_text task_text) found why)

  -- behind the tasks' text, which spells tasks
  module _ (raw : RawTasks) (read : AreTasks task_text raw) where
    behind_texts : (found : Refusal) → OrMemory (IsFirstRefusal (net_stages steps net_text task_text)) found → OrMemory (IsFirstRefusal (check_stages steps net_text task_text)) found
    behind_texts found why =
        skip (is_faulty net_text) (task_stages steps net_text task_text) found (faulty_silent net_text models spelled)
        (skip (has_faulty_tasks task_text) (net_stages steps net_text task_text) found (tasks_silent task_text raw read) why)

    -- the netlist has no flat net
    pub check_net_fails : (found : Refusal) → OrMemory (HasNoNet models) found → OrMemory (IsFirstRefusal (check_stages steps net_text task_text)) found
    check_net_fails found why = behind_texts found (net_fails net_text models (bound_stages steps net_text task_text) found spelled why)

    -- behind the flat net
    module _ (net : RawNet) (names : NetNames) (of_net : IsNetOf models net names) where
      behind_flat : (found : Refusal) → OrMemory (IsFirstRefusal (bound_stages steps net_text task_text)) found → OrMemory (IsFirstRefusal (check_stages steps net_text task_text)) found
      behind_flat found why = behind_texts found (behind_net net_text models net (bound_stages steps net_text task_text) found spelled of_net.sound of_net.flat of_net.settled why)

      -- the tasks cannot be bound
      pub unbound_fails : (found : Refusal) → OrMemory (IsNotBound models raw) found → OrMemory (IsFirstRefusal (check_stages steps net_text task_text)) found
      unbound_fails found (inl memory) = inl memory
      unbound_fails found (inr (fault, is, told, answer)) =
          behind_flat found (inr (inl (fault, is, record { models = models; netlist = spelled; raw = raw; spelled = read; told = told; answer = answer })))

      -- the tasks are bound
      module _ (bound : Tasks) (answer : IsBindAnswer (net_named models) (length (nets models)) raw (Ok bound)) where
        -- their steps are too many
        pub steps_fail : are_too_many steps (length raw.tasks) ≡ true → OrMemory (IsFirstRefusal (check_stages steps net_text task_text)) refusal.TooManySteps
        steps_fail many =
            behind_flat refusal.TooManySteps
            (inr (inr (unbound_silent net_text task_text models raw bound spelled read answer, inl (record { is = refl; raw = raw; spelled = read; many = many }))))

        -- they are not
        pub is_prepared : are_too_many steps (length raw.tasks) ≡ false → IsPrepared steps net_text task_text names.own net bound
        is_prepared few = record {
          models = models;
          named = of_net.named.own_known;
          reading = record {
            flattened = record { netlist = spelled; sound = of_net.sound; flat = of_net.flat; in_range = of_net.in_range; settled = of_net.settled };
            raw = raw;
            spelled = read;
            bound = answer;
          };
          few = few;
        }
