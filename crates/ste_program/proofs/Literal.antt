-- What a report on an AIGER netlist says of the literals, from what it says of the model that the text stands for.
use Rattle.std.proofs.Common.{◌≡◌, ◌<◌, ◌≤◌, ℕ, Bool, true, false, List, [], ◌∷◌, length, get_or, Option, None, Some, ap, sym, ◌∙◌, subst, arith}
use Rattle.std.specs.Prelude.{All, IsTrue, slice_get}
use Rattle.std.proofs.lemmas.List.Elements.{All-contains}
use Rattle.std.proofs.lemmas.Option.{slice_get_within}
use Rattle.aig_model.specs.Answer.{spelled_aig}
use Rattle.aig_model.specs.Corresponds.{HasBitsOf, literal_bits}
use Rattle.aig_model.specs.NetLiterals.{net_bits}
use Rattle.aig_model.specs.Netlist.{model_of}
use Rattle.aig_model.specs.Sound.{IsSoundAig}
use Rattle.aig_model.specs.declared.aig.Aig.{Aig}
use Rattle.aig_model.proofs.NetLiterals.{nets_have_literals}
use Rattle.aig_model.proofs.Runs.{corresponds}
use Rattle.aig_model.proofs.Sounds.{read_is_sound}
use Rattle.blif_syntax.specs.declared.models.Model.{Model}
use Rattle.command_line.specs.Command.{Action, Command, bench, check, info, sim}
use Rattle.hierarchy.specs.Nets.{nets}
use Rattle.flat_net.specs.Corresponds.{flat_bits}
use Rattle.ste_io.specs.Outside.{FilesState}
use Rattle.ste_model.specs.Asked.{cuts_at, depth}
use Rattle.ste_model.specs.Edges.{IsPathFrom, bind_cuts}
use Rattle.ste_model.specs.GraphHolds.{MeetsAlong}
use Rattle.ste_model.specs.Holds.{RunMeets}
use Rattle.ste_model.specs.declared.run.Run.{Run}
use Rattle.ste_model.specs.declared.task.Assertion.{Assertion}
use Rattle.ste_model.specs.declared.task.Bind.{Bind}
use Rattle.ste_model.specs.declared.task.Edge.{Edge}
use Rattle.ste_model.specs.declared.task.Graph.{Graph}
use Rattle.ste_model.specs.declared.task.Quint.{Quint}
use Rattle.ste_model.specs.declared.task.Task.{Task}
use Rattle.ste_model.specs.declared.task.Task.TheVariants.{Ste, Gste}
use Rattle.ste_model.proofs.Due.{ant_below, asks_of_nets}
use Rattle.ste_model.proofs.DueAlong.{of_cuts, on_path}
use Rattle.ste_model.proofs.Passes.{each_to, on_below}
use Rattle.ste_program.specs.Check.{IsCheck}
use Rattle.ste_program.specs.Holds.{BreaksAlong, BreaksIn, BreaksTask, GraphHoldsOf, HoldsOf, TaskHoldsOf}
use Rattle.ste_program.specs.LiteralHolds.{BreaksAlongOnLiterals, BreaksOnLiterals, BreaksTaskOnLiterals, GraphHoldsOfLiterals, HoldsOfLiterals, TaskHoldsOfLiterals}
use Rattle.ste_program.specs.Netlist.{IsAigNetlist, IsNetlistAs, is_aag}
use Rattle.ste_program.specs.Report.{CheckTellsLiterals, IsWritten, ReportTellsLiterals, TellLiterals, greatest}
use Rattle.ste_program.specs.private.Made.{AreBindsIn, IsCheckable}
use Rattle.ste_program.proofs.Broken.{check_breaks, check_holds, checkable_at}
use Rattle.ste_program.proofs.TaskLists.{ants_in, checkable_ant, checkable_con, cons_in}

-- nothing of the consequent applies from the depth on
con_below : (task : Assertion) (bits : List Bool) (t : ℕ) → All (λ cut. IsTrue cut.on → t < depth task) (cuts_at task.con bits t)
con_below task bits t = on_below bits t (depth task) task.con (λ i e m. let h = each_to task.con 0 i e m in omega arith)

-- what a run meets before a time it meets with the bits of another that has the same bits till then, where nothing is asked later
meets_till : (quints : List Quint) (bits : List Bool) (count n : ℕ) (one other : ℕ → ℕ → Bool) → All (λ quint. quint.node.0 < count) quints → ((t : ℕ) → All (λ cut. IsTrue cut.on → t < n) (cuts_at quints bits t)) →
    ((t id : ℕ) → t < n → id < count → other t id ≡ one t id) → RunMeets (cuts_at quints bits) one → RunMeets (cuts_at quints bits) other
meets_till quints bits count n one other inside below same meets = λ t k d l on.
    let cut = get_or (cuts_at quints bits t) k d in
    same t cut.node (below t k d l on) (asks_of_nets count bits t quints inside k d l) ∙ meets t k d l on

-- the same along a path
along_till : (binds : Edge → List Bind) (bits : List Bool) (path : List Edge) (count : ℕ) (one other : ℕ → ℕ → Bool) → ((i : ℕ) (edge : Edge) → slice_get path i ≡ Some edge → AreBindsIn count (binds edge)) →
    ((t id : ℕ) → t < length path → id < count → other t id ≡ one t id) → MeetsAlong binds bits path one → MeetsAlong binds bits path other
along_till binds bits path count one other inside same meets = λ i edge here k d l on.
    let cut = get_or (bind_cuts (binds edge) bits) k d in
    same i cut.node (slice_get_within path i edge here) (of_cuts (λ (id : ℕ). id < count) bits (binds edge) (inside i edge here) k d l) ∙ meets i edge here k d l on

-- the edges of a path from vertex 0 name nets that there are
sides_in : (count vars : ℕ) (graph : Graph) → IsCheckable count vars (Gste graph) → (path : List Edge) → IsPathFrom graph.edges 0 path → (i : ℕ) (edge : Edge) → slice_get path i ≡ Some edge → AreBindsIn count edge.ant × AreBindsIn count edge.con
sides_in count vars graph checkable path is_path i edge here =
    let at = on_path graph.edges 0 path is_path i edge here in (
      All-contains (λ (e : Edge). AreBindsIn count e.ant) graph.edges edge (ants_in count vars graph checkable) at,
      All-contains (λ (e : Edge). AreBindsIn count e.con) graph.edges edge (cons_in count vars graph checkable) at,
    )

module _ (aig : Aig) (sound : IsSoundAig aig) (vars : ℕ) where
  models : List Model
  models = model_of aig ∷ []

  count : ℕ
  count = length (nets models)

  -- each net has its literal's bit
  same_bit : (n : ℕ) (bit : ℕ → ℕ → Bool) (run : List ℕ → List ℕ → ℕ → Bool) → HasBitsOf aig n bit run → (t id : ℕ) → t < n → id < count → flat_bits models run t id ≡ net_bits aig bit t id
  unfolding count models
  same_bit n bit run has t id lt within = nets_have_literals aig sound n bit run has t id lt within

  holds : (task : Assertion) → IsCheckable count vars (Ste task) → HoldsOf models vars task → HoldsOfLiterals aig vars task
  unfolding models
  holds task checkable held bits long bit is_run meets =
      let n = depth task in
      let runs = corresponds aig sound n in
      let w = runs.to_signals bit is_run.is_run in
      let same = same_bit n bit w.0 w.2 in
      meets_till task.con bits count n (flat_bits models w.0) (net_bits aig bit) (checkable_con count vars task checkable) (con_below task bits) (λ t id lt within. sym (same t id lt within))
      (held bits long w.0 (record { is_run = w.1; starts = λ some. (runs.starts task.reset bit w.0 some w.2).1 (is_run.starts some) })
      (meets_till task.ant bits count n (net_bits aig bit) (flat_bits models w.0) (checkable_ant count vars task checkable) (ant_below task bits) same meets))

  graph_holds : (graph : Graph) → IsCheckable count vars (Gste graph) → GraphHoldsOf models vars graph → GraphHoldsOfLiterals aig vars graph
  unfolding models
  graph_holds graph checkable held bits long path some is_path bit is_run meets =
      let n = length path in
      let runs = corresponds aig sound n in
      let w = runs.to_signals bit is_run.is_run in
      let same = same_bit n bit w.0 w.2 in
      let sides = sides_in count vars graph checkable path is_path in
      along_till (λ edge. edge.con) bits path count (flat_bits models w.0) (net_bits aig bit) (λ i edge here. (sides i edge here).1) (λ t id lt within. sym (same t id lt within))
      (held bits long path some is_path w.0 (record { is_run = w.1; starts = λ l. (runs.starts graph.reset bit w.0 l w.2).1 (is_run.starts l) })
      (along_till (λ edge. edge.ant) bits path count (net_bits aig bit) (flat_bits models w.0) (λ i edge here. (sides i edge here).0) same meets))

  pub task_holds_of_literals : (task : Task) → IsCheckable (length (nets (model_of aig ∷ []))) vars task → TaskHoldsOf (model_of aig ∷ []) vars task → TaskHoldsOfLiterals aig vars task
  unfolding count models
  task_holds_of_literals (Ste task) checkable held = holds task checkable held
  task_holds_of_literals (Gste graph) checkable held = graph_holds graph checkable held

  breaks : (task : Assertion) (bits : List Bool) (run : Run) → IsCheckable count vars (Ste task) → BreaksIn models task bits run → BreaksOnLiterals aig task bits run
  unfolding count models
  breaks task bits run checkable broken =
      let n = depth task in
      let runs = corresponds aig sound n in
      let w = runs.to_literals broken.whole broken.is_run.is_run in
      let bit = literal_bits aig broken.whole in
      let same = same_bit n bit broken.whole w.1 in
      record {
        whole = bit;
        is_run = record { is_run = w.0; starts = λ some. (runs.starts task.reset bit broken.whole some w.1).0 (broken.is_run.starts some) };
        told = λ t id lt within. broken.told t id lt within ∙ same t id lt within;
        meets = meets_till task.ant bits count n (flat_bits models broken.whole) (net_bits aig bit) (checkable_ant count vars task checkable) (ant_below task bits) (λ t id lt within. sym (same t id lt within)) broken.meets;
        breaks = λ followed. broken.breaks (meets_till task.con bits count n (net_bits aig bit) (flat_bits models broken.whole) (checkable_con count vars task checkable) (con_below task bits) same followed);
      }

  graph_breaks : (graph : Graph) (bits : List Bool) (numbers : List ℕ) (run : Run) → IsCheckable count vars (Gste graph) → BreaksAlong models graph bits numbers run → BreaksAlongOnLiterals aig graph bits numbers run
  unfolding count models
  graph_breaks graph bits numbers run checkable broken =
      let n = length broken.path in
      let runs = corresponds aig sound n in
      let w = runs.to_literals broken.whole broken.is_run.is_run in
      let bit = literal_bits aig broken.whole in
      let same = same_bit n bit broken.whole w.1 in
      let sides = sides_in count vars graph checkable broken.path broken.is_path in
      record {
        path = broken.path;
        are = broken.are;
        is_path = broken.is_path;
        whole = bit;
        is_run = record { is_run = w.0; starts = λ some. (runs.starts graph.reset bit broken.whole some w.1).0 (broken.is_run.starts some) };
        told = λ t id lt within. broken.told t id lt within ∙ same t id lt within;
        meets = along_till (λ edge. edge.ant) bits broken.path count (flat_bits models broken.whole) (net_bits aig bit) (λ i edge here. (sides i edge here).0) (λ t id lt within. sym (same t id lt within)) broken.meets;
        breaks = λ followed. broken.breaks (along_till (λ edge. edge.con) bits broken.path count (net_bits aig bit) (flat_bits models broken.whole) (λ i edge here. (sides i edge here).1) same followed);
      }

  pub task_breaks_on_literals : (task : Task) (bits : List Bool) (numbers : List ℕ) (run : Run) → IsCheckable (length (nets (model_of aig ∷ []))) vars task → BreaksTask (model_of aig ∷ []) task bits numbers run → BreaksTaskOnLiterals aig task bits numbers run
  unfolding count models
  task_breaks_on_literals (Ste task) bits numbers run checkable broken = breaks task bits run checkable broken
  task_breaks_on_literals (Gste graph) bits numbers run checkable broken = graph_breaks graph bits numbers run checkable broken

-- the netlist of an AIGER text
as_aig : (aag : Bool) (text : List ℕ) (ones : List Model) → IsTrue aag → IsNetlistAs aag text ones → IsAigNetlist text ones
as_aig true text ones is netlist = netlist
as_aig false text ones is netlist = absurd (cc is)

check_tells : (steps : Option ℕ) (cubes : ℕ) (wave nodes : Bool) (net_text task_text : List ℕ) (passes : Bool) (bytes : List ℕ) (written : IsCheck steps cubes wave nodes net_text task_text passes bytes) → length net_text ≤ greatest → IsTrue (is_aag net_text) → CheckTellsLiterals steps cubes wave nodes net_text task_text passes bytes written
check_tells steps cubes wave nodes net_text task_text passes bytes written small is =
    let netlist = as_aig (is_aag net_text) net_text written.models is written.reading.flattened.netlist in
    let aig = spelled_aig net_text in
    let sound = read_is_sound net_text small netlist.sound in
    let vars = length written.tasks.vars in
    record {
      holds = λ place task report here there says. task_holds_of_literals aig sound vars task
          (subst (λ (ms : List Model). IsCheckable (length (nets ms)) vars task) netlist.spelled (checkable_at steps cubes wave nodes net_text task_text passes bytes written place task here))
          (subst (λ (ms : List Model). TaskHoldsOf ms vars task) netlist.spelled (check_holds steps cubes wave nodes net_text task_text passes bytes written place task report here there says));
      breaks = λ place task report run here there shown.
          let r = check_breaks steps cubes wave nodes net_text task_text passes bytes written place task report run here there shown in (
            r.0,
            r.1,
            r.2,
            task_breaks_on_literals aig sound vars task r.0 report.path run
                (subst (λ (ms : List Model). IsCheckable (length (nets ms)) vars task) netlist.spelled (checkable_at steps cubes wave nodes net_text task_text passes bytes written place task here))
                (subst (λ (ms : List Model). BreaksTask ms task r.0 report.path run) netlist.spelled r.3),
          );
    }

action_tells : (action : Action) (asked : Command) (net_text second_text : List ℕ) (passes : Bool) (bytes : List ℕ) (written : IsWritten action asked net_text second_text passes bytes) → length net_text ≤ greatest → TellLiterals action asked net_text second_text passes bytes written
action_tells (check net tasks) asked net_text second_text passes bytes written small = λ is. check_tells asked.steps asked.cubes asked.wave asked.nodes net_text second_text passes bytes written small is
action_tells (info net) asked net_text second_text passes bytes written small = tt
action_tells (sim net inputs) asked net_text second_text passes bytes written small = tt
action_tells (bench stages) asked net_text second_text passes bytes written small = tt

pub report_tells : (command : Option Command) (files : FilesState) → ReportTellsLiterals command files
report_tells command files passes bytes report = action_tells report.asked.action report.asked report.net_text report.second_text passes bytes report.written report.net_small
