-- What a report says of its tasks: what passes holds, and each run breaks its task, in the hierarchy as it was written.
use Rattle.std.proofs.Common.{◌≡◌, ◌<◌, ℕ, zero, suc, Bool, List, [], ◌∷◌, length, get_or, Option, None, Some, ap, sym, ◌∙◌, subst, inl, inr, arith}
use Rattle.std.specs.Prelude.{◌⊎◌, All, slice_get}
use Rattle.std.specs.List.{AllZip}
use Rattle.std.proofs.lemmas.List.Elements.{All-contains}
use Rattle.blif_syntax.specs.declared.models.Model.{Model}
use Rattle.command_line.specs.Command.{Action, Command, bench, check, info, sim}
use Rattle.hierarchy.specs.Faults.{IsFree, IsRefusal}
use Rattle.hierarchy.specs.Nets.{nets}
use Rattle.hierarchy.proofs.Refused.{before_is_refusal}
use Rattle.flat_net.specs.Corresponds.{flat_bits, signal_bits}
use Rattle.flat_net.specs.Flat.{IsFlat}
use Rattle.flat_net.proofs.OneToOne.{corresponds}
use Rattle.flat_net.proofs.Parting.{shallow}
use Rattle.net_core.specs.Run.{IsSettled}
use Rattle.net_gen.specs.Pipeline.{pipeline_net, pipeline_tasks}
use Rattle.net_core.specs.declared.raw.RawNet.{RawNet}
use Rattle.ste_base.specs.declared.id.NodeId.{NodeId}
use Rattle.ste_model.specs.Asked.{cuts_at, depth}
use Rattle.ste_model.specs.Found.{FailsStrongly, IsStrong}
use Rattle.ste_model.specs.Holds.{Holds, RunMeets}
use Rattle.ste_model.specs.Edges.{AreNumbers, IsPathFrom, bind_cuts}
use Rattle.ste_model.specs.GraphFound.{IsGraphStrong}
use Rattle.ste_model.specs.GraphHolds.{GraphHolds, MeetsAlong}
use Rattle.ste_model.specs.GraphReport.{GraphPrints, GraphShows, IsGraphShown, IsPrintedOnPath}
use Rattle.ste_model.specs.GraphShown.{IsCandidate, IsPrintedAlong}
use Rattle.ste_model.specs.Report.{Prints, Shows, budget_report}
use Rattle.ste_model.specs.Runs.{run_of}
use Rattle.ste_model.specs.Shown.{IsBindable, IsPrinted}
use Rattle.ste_model.specs.declared.report.Report.{Report as TaskReport}
use Rattle.ste_model.specs.declared.run.Run.{Run}
use Rattle.ste_model.specs.declared.task.Assertion.{Assertion}
use Rattle.ste_model.specs.declared.task.Bind.{Bind}
use Rattle.ste_model.specs.declared.task.Edge.{Edge}
use Rattle.ste_model.specs.declared.task.Graph.{Graph}
use Rattle.ste_model.specs.declared.task.Quint.{Quint}
use Rattle.ste_model.specs.declared.task.Task.{Task}
use Rattle.ste_model.specs.declared.task.Task.TheVariants.{Ste, Gste}
use Rattle.ste_model.specs.declared.verdict.Verdict.{Verdict}
use Rattle.ste_model.specs.declared.verdict.Verdict.TheVariants.{Budget, Pass, Strong, Vacuous, Weak}
use Rattle.ste_model.proofs.Due.{asks_of_nets, due_breaks}
use Rattle.ste_model.proofs.DueAlong.{due_breaks_along, of_cuts, on_path}
use Rattle.ste_model.proofs.GraphReports.{same_edges}
use Rattle.ste_model.proofs.Passes.{pass_holds}
use Rattle.ste_model.proofs.Paths.{graph_pass_holds}
use Rattle.ste_io.specs.Outside.{FilesState}
use Rattle.work_pool.specs.declared.mode.Mode.TheVariants.{Sets}
use Rattle.work_pool.specs.Told.{IsToldOf}
use Rattle.ste_program.specs.Check.{IsCheck, task_steps}
use Rattle.ste_program.specs.Holds.{BreaksAlong, BreaksIn, BreaksTask, GraphHoldsOf, HoldsOf, TaskHoldsOf}
use Rattle.ste_program.specs.Report.{CheckBreaks, CheckHolds, IsWritten, ReportedPassHolds, PassesHold, RunsBreak, TheyBreak}
use Rattle.ste_program.specs.private.Made.{AreBindsIn, IsCheckable}
use Rattle.ste_program.proofs.TaskLists.{ants_in, checkable_ant, checkable_con, cons_in, graph_over, promised}
use Rattle.ste_program.proofs.TasksDeclared.{tasks_declared}

at_place : {A B : Type 0} (R : A → B → Type 0) (xs : List A) (ys : List B) (place : ℕ) (x : A) (y : B) → AllZip R xs ys → slice_get xs place ≡ Some x → slice_get ys place ≡ Some y → R x y
at_place R [] ys place x y all here there = absurd (cc here)
at_place R (a ∷ xs) [] place x y all here there = absurd (cc there)
at_place R (a ∷ xs) (b ∷ ys) zero x y all here there =
    let first : a ≡ x = cc here in
    let second : b ≡ y = cc there in
    subst (λ k. R x k) second (subst (λ k. R k b) first all.0)
at_place R (a ∷ xs) (b ∷ ys) (suc place) x y all here there = at_place R xs ys place x y all.1 here there

pub all_at : {X : Type 0} (P : X → Type 0) (xs : List X) (k : ℕ) (x : X) → All P xs → slice_get xs k ≡ Some x → P x
all_at P [] k x all e = absurd (cc e)
all_at P (y ∷ xs) zero x all e = let same : y ≡ x = cc e in subst P same (all 0 y (omega arith))
all_at P (y ∷ xs) (suc k) x all e = all_at P xs k x (λ j d l. all (suc j) d (omega (arith, l))) e

-- what holds of the flat net holds of the hierarchy
held : (models : List Model) (net : RawNet) (vars : ℕ) (task : Assertion) → IsFree (IsRefusal models) → IsFlat models net → Holds net vars task → HoldsOf models vars task
held models net vars task sound flat holds bits long run is_run meets =
    let low = shallow models (λ fault h. sound fault (before_is_refusal models fault h)) in
    let runs = corresponds models net low flat (depth task) in
    holds bits long (flat_bits models run)
    (record { is_run = runs.to_flat run is_run.is_run; starts = λ some. runs.starts_to_flat task.reset run some is_run.is_run (is_run.starts some) }) meets

held_graph : (models : List Model) (net : RawNet) (vars : ℕ) (graph : Graph) → IsFree (IsRefusal models) → IsFlat models net → GraphHolds net vars graph → GraphHoldsOf models vars graph
held_graph models net vars graph sound flat holds bits long path some is_path run is_run meets =
    let low = shallow models (λ fault h. sound fault (before_is_refusal models fault h)) in
    let runs = corresponds models net low flat (length path) in
    holds bits long path some is_path (flat_bits models run)
    (record { is_run = runs.to_flat run is_run.is_run; starts = λ l. runs.starts_to_flat graph.reset run l is_run.is_run (is_run.starts l) }) meets

-- pass and contradictory antecedent are no budget
no_budget : (name : List ℕ) (report : TaskReport) → (report.verdict ≡ Pass) ⊎ (report.verdict ≡ Vacuous) → report ≡ budget_report name → ⊥
no_budget name report (inl pass) over = let both : Pass ≡ Budget = sym pass ∙ ap (λ (r : TaskReport). r.verdict) over in cc both
no_budget name report (inr vacuous) over = let both : Vacuous ≡ Budget = sym vacuous ∙ ap (λ (r : TaskReport). r.verdict) over in cc both

-- where pass is reported for a task, it holds
task_holds : (models : List Model) (net : RawNet) (vars steps cubes : ℕ) (task : Task) (report : TaskReport) → IsFree (IsRefusal models) → IsFlat models net → IsSettled net → IsCheckable net.nets vars task → (report.verdict ≡ Pass) ⊎ (report.verdict ≡ Vacuous) →
    IsToldOf Sets net vars steps cubes task report → TaskHoldsOf models vars task
task_holds models net vars steps cubes (Ste task) report sound flat settled checkable says (inl told) = held models net vars task sound flat (pass_holds net vars task report.verdict settled says told.judged)
task_holds models net vars steps cubes (Ste task) report sound flat settled checkable says (inr over) = absurd (no_budget task.name report says over.0)
task_holds models net vars steps cubes (Gste graph) report sound flat settled checkable says (inl told) =
    held_graph models net vars graph sound flat (graph_pass_holds net vars graph report.verdict settled (graph_over net vars graph checkable).sound says told.judged)
task_holds models net vars steps cubes (Gste graph) report sound flat settled checkable says (inr over) = absurd (no_budget graph.name report says over.0)

-- each task of a check may be checked, over the nets of its netlist
pub checkable_at : (steps : Option ℕ) (cubes : ℕ) (wave nodes : Bool) (net_text task_text : List ℕ) (passes : Bool) (bytes : List ℕ) (written : IsCheck steps cubes wave nodes net_text task_text passes bytes) → (place : ℕ) (task : Task) → slice_get written.tasks.tasks place ≡ Some task →
    IsCheckable (length (nets written.models)) (length written.tasks.vars) task
checkable_at steps cubes wave nodes net_text task_text passes bytes written place task here =
    let r = written.reading in
    let vars = length written.tasks.vars in
    let declared = tasks_declared written.models task_text r.raw written.tasks r.spelled r.bound in
    subst (λ n. IsCheckable n vars task) r.flattened.flat.nets (all_at (IsCheckable written.net.nets vars) written.tasks.tasks place task (promised written.models r.raw written.net written.tasks r.flattened.flat r.bound declared) here)

-- where a check says pass, the task holds
pub check_holds : (steps : Option ℕ) (cubes : ℕ) (wave nodes : Bool) (net_text task_text : List ℕ) (passes : Bool) (bytes : List ℕ) (written : IsCheck steps cubes wave nodes net_text task_text passes bytes) → CheckHolds steps cubes wave nodes net_text task_text passes bytes written
check_holds given cubes wave nodes net_text task_text passes bytes written = λ place task report here there says.
    let r = written.reading in
    let n = r.flattened in
    let vars = length written.tasks.vars in
    let steps = task_steps given (length written.tasks.tasks) in
    let told : IsToldOf Sets written.net vars steps cubes task report =
    at_place (IsToldOf Sets written.net vars steps cubes) written.tasks.tasks written.report.reports place task report written.report.told here there in
    let declared = tasks_declared written.models task_text r.raw written.tasks r.spelled r.bound in
    let checkable : IsCheckable written.net.nets vars task = all_at (IsCheckable written.net.nets vars) written.tasks.tasks place task (promised written.models r.raw written.net written.tasks n.flat r.bound declared) here in
    task_holds written.models written.net vars steps cubes task report n.sound n.flat n.settled checkable says told

action_holds : (action : Action) (asked : Command) (net_text second_text : List ℕ) (passes : Bool) (bytes : List ℕ) (written : IsWritten action asked net_text second_text passes bytes) → PassesHold action asked net_text second_text passes bytes written
action_holds (check net tasks) asked net_text second_text passes bytes written = check_holds asked.steps asked.cubes asked.wave asked.nodes net_text second_text passes bytes written
action_holds (info net) asked net_text second_text passes bytes written = tt
action_holds (sim net inputs) asked net_text second_text passes bytes written = tt
action_holds (bench stages) asked net_text second_text passes bytes written = check_holds asked.steps asked.cubes asked.wave asked.nodes (pipeline_net stages) (pipeline_tasks stages) passes written.report written.check

pub passes_hold : (command : Option Command) (files : FilesState) → ReportedPassHolds command files
passes_hold command files passes bytes report = action_holds report.asked.action report.asked report.net_text report.second_text passes bytes report.written

-- the finding under the least assignment of a strong failure
strong_least : (net : RawNet) (vars : ℕ) (task : Assertion) (verdict : Verdict) (least : Option (List Bool)) (fails : Option (NodeId × ℕ)) (bits : List Bool) → verdict ≡ Strong → least ≡ Some bits → Shows net vars task verdict least fails → IsStrong net task bits × (length bits ≡ vars)
strong_least net vars task verdict least fails bits is told (inl shown) =
    let both : Some shown.1.bits ≡ Some bits = sym shown.1.least_is ∙ told in
    let same : shown.1.bits ≡ bits = cc both in
    (subst (λ (b : List Bool). IsStrong net task b) same shown.1.is_least.has, ap (λ (b : List Bool). length b) (sym same) ∙ shown.1.is_least.long)
strong_least net vars task verdict least fails bits is told (inr (inl shown)) = let both : Strong ≡ Weak = sym is ∙ shown.0 in absurd (cc both)
strong_least net vars task verdict least fails bits is told (inr (inr shown)) = absurd (shown.0 is)

-- what a run meets it meets with the bits of another that has the same bits at nets that there are
meets_as : (quints : List Quint) (bits : List Bool) (nets : ℕ) (one other : ℕ → ℕ → Bool) → All (λ quint. quint.node.0 < nets) quints → ((t id : ℕ) → id < nets → other t id ≡ one t id) → RunMeets (cuts_at quints bits) one → RunMeets (cuts_at quints bits) other
meets_as quints bits nets one other inside same meets = λ t k d l on.
    let cut = get_or (cuts_at quints bits t) k d in
    same t cut.node (asks_of_nets nets bits t quints inside k d l) ∙ meets t k d l on

-- a run that a report shows breaks the assertion
module _ (models : List Model) (net : RawNet) (vars cubes : ℕ) (task : Assertion) (sound : IsFree (IsRefusal models)) (flat : IsFlat models net) (settled : IsSettled net) (ant : All (λ quint. quint.node.0 < net.nets) task.ant) (con : All (λ quint. quint.node.0 < net.nets) task.con) where
  printed_breaks : (bits : List Bool) (run : Run) → IsStrong net task bits → IsPrinted net task bits (run_of run) → RunMeets (cuts_at task.ant bits) (run_of run) → BreaksIn models task bits run
  printed_breaks bits run strong printed meets =
      let low = shallow models (λ fault h. sound fault (before_is_refusal models fault h)) in
      let runs = corresponds models net low flat (depth task) in
      let bit = run_of run in
      let back : (t id : ℕ) → id < net.nets → flat_bits models (signal_bits models bit) t id ≡ bit t id = λ t id l. runs.back_and_there bit t id l in
      record {
        whole = signal_bits models bit;
        is_run = record { is_run = runs.to_hierarchy bit printed.is_run.is_run; starts = λ some. runs.starts_to_hierarchy task.reset bit (printed.is_run.starts some) };
        told = λ t id l m. sym (back t id (subst (λ n. id < n) (sym flat.nets) m));
        meets = meets_as task.ant bits net.nets bit (flat_bits models (signal_bits models bit)) ant back meets;
        breaks = λ followed. due_breaks.breaks net task bits bit settled strong printed.is_run meets
            (meets_as task.con bits net.nets (flat_bits models (signal_bits models bit)) bit con (λ t id l. sym (back t id l)) followed);
      }

  broken : (report : TaskReport) (run : Run) → report.run ≡ Some run → Shows net vars task report.verdict report.least report.fails → Prints net task report.verdict report.least report.run →
      (bits : List Bool) × (report.least ≡ Some bits) × (length bits ≡ vars) × BreaksIn models task bits run
  broken report run here shown (inr none) = let both : Some run ≡ None = sym here ∙ none.1 in absurd (cc both)
  broken report run here shown (inl (due, told)) =
      let both : Some told.told ≡ Some run = sym told.run_is ∙ here in
      let same : told.told ≡ run = cc both in
      let printed : IsPrinted net task told.bits (run_of run) = subst (λ (r : Run). IsPrinted net task told.bits (run_of r)) same told.printed in
      let strong = strong_least net vars task report.verdict report.least report.fails told.bits due.0 told.least_is shown in
      (told.bits, told.least_is, strong.1, printed_breaks told.bits run strong.0 printed (due_breaks.meets net task told.bits (run_of run) ant due.1 printed))

-- ---- graphs

-- what a run meets along a path it meets with the bits of another that has the same bits at nets that there are
along_as : (binds : Edge → List Bind) (bits : List Bool) (path : List Edge) (nets : ℕ) (one other : ℕ → ℕ → Bool) → ((i : ℕ) (edge : Edge) → slice_get path i ≡ Some edge → AreBindsIn nets (binds edge)) → ((t id : ℕ) → id < nets → other t id ≡ one t id) →
    MeetsAlong binds bits path one → MeetsAlong binds bits path other
along_as binds bits path nets one other inside same meets = λ i edge here k d l on.
    let cut = get_or (bind_cuts (binds edge) bits) k d in
    same i cut.node (of_cuts (λ (id : ℕ). id < nets) bits (binds edge) (inside i edge here) k d l) ∙ meets i edge here k d l on

module _ (models : List Model) (net : RawNet) (vars : ℕ) (graph : Graph) (sound : IsFree (IsRefusal models)) (flat : IsFlat models net) (settled : IsSettled net) (checkable : IsCheckable net.nets vars (Gste graph)) where
  -- the edges of a path from vertex 0 name nets that there are
  sides_in : (path : List Edge) → IsPathFrom graph.edges 0 path → (i : ℕ) (edge : Edge) → slice_get path i ≡ Some edge → AreBindsIn net.nets edge.ant × AreBindsIn net.nets edge.con
  sides_in path is_path i edge here =
      let at = on_path graph.edges 0 path is_path i edge here in (
        All-contains (λ (e : Edge). AreBindsIn net.nets e.ant) graph.edges edge (ants_in net.nets vars graph checkable) at,
        All-contains (λ (e : Edge). AreBindsIn net.nets e.con) graph.edges edge (cons_in net.nets vars graph checkable) at,
      )

  breaks_along : (bits : List Bool) (numbers : List ℕ) (path : List Edge) (run : Run) → AreNumbers graph numbers path → IsCandidate FailsStrongly net graph bits path → IsBindable net (Gste graph) → IsPrintedAlong net graph bits path (run_of run) → BreaksAlong models graph bits numbers run
  breaks_along bits numbers path run are candidate bindable printed =
      let low = shallow models (λ fault h. sound fault (before_is_refusal models fault h)) in
      let runs = corresponds models net low flat (length path) in
      let bit = run_of run in
      let back : (t id : ℕ) → id < net.nets → flat_bits models (signal_bits models bit) t id ≡ bit t id = λ t id l. runs.back_and_there bit t id l in
      let meets = due_breaks_along.meets net graph bits path bit (ants_in net.nets vars graph checkable) bindable candidate.is_path printed in
      record {
        path = path;
        are = are;
        is_path = candidate.is_path;
        whole = signal_bits models bit;
        is_run = record { is_run = runs.to_hierarchy bit printed.is_run.is_run; starts = λ some. runs.starts_to_hierarchy graph.reset bit (printed.is_run.starts some) };
        told = λ t id l m. sym (back t id (subst (λ n. id < n) (sym flat.nets) m));
        meets = along_as (λ edge. edge.ant) bits path net.nets bit (flat_bits models (signal_bits models bit)) (λ i edge here. (sides_in path candidate.is_path i edge here).0) back meets;
        breaks = λ followed. due_breaks_along.breaks net graph bits path bit settled candidate printed.is_run meets
            (along_as (λ edge. edge.con) bits path net.nets (flat_bits models (signal_bits models bit)) bit (λ i edge here. (sides_in path candidate.is_path i edge here).1) (λ t id l. sym (back t id l)) followed);
      }

  -- what a strong failure shows, with its printed run
  shown_breaks : (report : TaskReport) (run : Run) → report.run ≡ Some run → IsBindable net (Gste graph) → IsGraphShown (IsGraphStrong net graph) FailsStrongly net vars graph report.least report.path report.fails →
      IsPrintedOnPath net graph report.least report.path report.run → (bits : List Bool) × (report.least ≡ Some bits) × (length bits ≡ vars) × BreaksAlong models graph bits report.path run
  shown_breaks report run here bindable shown told =
      let runs : Some told.told ≡ Some run = sym told.run_is ∙ here in
      let same : told.told ≡ run = cc runs in
      let both : Some told.bits ≡ Some shown.bits = sym told.least_is ∙ shown.least_is in
      let bits : told.bits ≡ shown.bits = cc both in
      let path : told.path ≡ shown.is_path.path = same_edges graph report.path told.path shown.is_path.path told.are shown.is_path.are in
      let printed : IsPrintedAlong net graph shown.bits shown.is_path.path (run_of run) = subst (λ (r : Run). IsPrintedAlong net graph shown.bits shown.is_path.path (run_of r)) same
      (subst (λ (p : List Edge). IsPrintedAlong net graph shown.bits p (run_of told.told)) path (subst (λ (bs : List Bool). IsPrintedAlong net graph bs told.path (run_of told.told)) bits told.printed)) in
      (shown.bits, shown.least_is, shown.is_least.long, breaks_along shown.bits report.path shown.is_path.path run shown.is_path.are shown.is_path.candidate bindable printed)

  graph_broken : (report : TaskReport) (run : Run) → report.run ≡ Some run → GraphShows net vars graph report.verdict report.least report.path report.fails → GraphPrints net graph report.verdict report.least report.path report.run →
      (bits : List Bool) × (report.least ≡ Some bits) × (length bits ≡ vars) × BreaksAlong models graph bits report.path run
  graph_broken report run here shown (inr none) = let both : Some run ≡ None = sym here ∙ none.1 in absurd (cc both)
  graph_broken report run here (inl shown) (inl (due, told)) = shown_breaks report run here due.1 shown.1 told
  graph_broken report run here (inr (inl shown)) (inl (due, told)) = let both : Strong ≡ Weak = sym due.0 ∙ shown.0 in absurd (cc both)
  graph_broken report run here (inr (inr shown)) (inl (due, told)) = absurd (shown.0 due.0)

-- ---- tasks

-- a report of budget shows no run
no_run : (name : List ℕ) (report : TaskReport) (run : Run) → report.run ≡ Some run → report ≡ budget_report name → ⊥
no_run name report run is over = let both : Some run ≡ None = sym is ∙ ap (λ (r : TaskReport). r.run) over in cc both

-- a run that is shown of a task breaks it
task_breaks : (models : List Model) (net : RawNet) (vars steps cubes : ℕ) (task : Task) (report : TaskReport) (run : Run) → IsFree (IsRefusal models) → IsFlat models net → IsSettled net → IsCheckable net.nets vars task → report.run ≡ Some run →
    IsToldOf Sets net vars steps cubes task report → (bits : List Bool) × (report.least ≡ Some bits) × (length bits ≡ vars) × BreaksTask models task bits report.path run
task_breaks models net vars steps cubes (Ste task) report run sound flat settled checkable is (inl told) =
    broken models net vars cubes task sound flat settled (checkable_ant net.nets vars task checkable) (checkable_con net.nets vars task checkable) report run is told.shown told.run
task_breaks models net vars steps cubes (Ste task) report run sound flat settled checkable is (inr over) = absurd (no_run task.name report run is over.0)
task_breaks models net vars steps cubes (Gste graph) report run sound flat settled checkable is (inl told) = graph_broken models net vars graph sound flat settled checkable report run is told.shown told.run
task_breaks models net vars steps cubes (Gste graph) report run sound flat settled checkable is (inr over) = absurd (no_run graph.name report run is over.0)

-- where a check shows a run, it breaks its task
pub check_breaks : (steps : Option ℕ) (cubes : ℕ) (wave nodes : Bool) (net_text task_text : List ℕ) (passes : Bool) (bytes : List ℕ) (written : IsCheck steps cubes wave nodes net_text task_text passes bytes) → CheckBreaks steps cubes wave nodes net_text task_text passes bytes written
check_breaks given cubes wave nodes net_text task_text passes bytes written = λ place task report run here there is.
    let r = written.reading in
    let n = r.flattened in
    let vars = length written.tasks.vars in
    let steps = task_steps given (length written.tasks.tasks) in
    let told : IsToldOf Sets written.net vars steps cubes task report =
    at_place (IsToldOf Sets written.net vars steps cubes) written.tasks.tasks written.report.reports place task report written.report.told here there in
    let declared = tasks_declared written.models task_text r.raw written.tasks r.spelled r.bound in
    let checkable : IsCheckable written.net.nets vars task = all_at (IsCheckable written.net.nets vars) written.tasks.tasks place task (promised written.models r.raw written.net written.tasks n.flat r.bound declared) here in
    task_breaks written.models written.net vars steps cubes task report run n.sound n.flat n.settled checkable is told

action_breaks : (action : Action) (asked : Command) (net_text second_text : List ℕ) (passes : Bool) (bytes : List ℕ) (written : IsWritten action asked net_text second_text passes bytes) → TheyBreak action asked net_text second_text passes bytes written
action_breaks (check net tasks) asked net_text second_text passes bytes written = check_breaks asked.steps asked.cubes asked.wave asked.nodes net_text second_text passes bytes written
action_breaks (info net) asked net_text second_text passes bytes written = tt
action_breaks (sim net inputs) asked net_text second_text passes bytes written = tt
action_breaks (bench stages) asked net_text second_text passes bytes written = check_breaks asked.steps asked.cubes asked.wave asked.nodes (pipeline_net stages) (pipeline_tasks stages) passes written.report written.check

pub runs_break : (command : Option Command) (files : FilesState) → RunsBreak command files
runs_break command files passes bytes report = action_breaks report.asked.action report.asked report.net_text report.second_text passes bytes report.written
