-- A graph over some variables is one over more.
use Rattle.std.proofs.Common.{ℕ, ◌≤◌, get_or, arith}
use Rattle.std.specs.Prelude.{List}
use Rattle.std.proofs.lemmas.Bool.{and_from, and_parts}
use Rattle.net_core.specs.declared.raw.RawNet.{RawNet}
use Rattle.exact_engine.proofs.Reading.{reads_more}
use Rattle.gste_engine.specs.Tables.{AreConsequentsOver, IsGraphOver}
use Rattle.ste_model.specs.declared.task.Bind.{Bind}
use Rattle.ste_model.specs.declared.task.Graph.{Graph}
use Rattle.ste_model.specs.declared.task.Task.TheVariants.{Gste}
use Rattle.ste_model.specs.Expressions.{reads}
use Rattle.ste_model.specs.GraphNeed.{BindsReadBelow, GraphReadsBelow}
use Rattle.work_pool.specs.declared.mode.Mode.{Mode}
use Rattle.work_pool.specs.declared.mode.Mode.TheVariants.{Sets, Exact}
use Rattle.work_pool.specs.private.Ready.{HasRoom}

module _ (v w : ℕ) (le : v ≤ w) where
  binds_more : (binds : List Bind) → BindsReadBelow v binds → BindsReadBelow w binds
  binds_more binds h k d l =
      let b = get_or binds k d in
      let p = and_parts (reads v b.guard) (reads v b.value) (h k d l) in
      and_from (reads w b.guard) (reads w b.value) (reads_more v w le b.guard p.0) (reads_more v w le b.value p.1)

  pub over_more : (net : RawNet) (graph : Graph) → IsGraphOver net v graph → IsGraphOver net w graph
  over_more net graph over = record {
    sound = over.sound;
    edges = λ k d l.
        let edge = over.edges k d l in
        record { start = edge.start; nets = edge.nets; weak = edge.weak; reads = binds_more (get_or graph.edges k d).ant edge.reads };
  }

  pub consequents_more : (net : RawNet) (graph : Graph) → AreConsequentsOver net v graph → AreConsequentsOver net w graph
  consequents_more net graph over k d l = let edge = over k d l in (edge.0, binds_more (get_or graph.edges k d).con edge.1)

-- a graph reads the variables of the tasks
pub graph_reads : (net : RawNet) (vars : ℕ) (graph : Graph) → IsGraphOver net vars graph → AreConsequentsOver net vars graph → GraphReadsBelow vars graph
graph_reads net vars graph over con k d l = ((over.edges k d l).reads, (con k d l).1)

-- a store on which a graph has room has the variables of the tasks
pub room_wide : (mode : Mode) (net : RawNet) (vars width : ℕ) (graph : Graph) → HasRoom mode net vars width (Gste graph) → vars ≤ width
room_wide Sets net vars width graph room = omega (arith, room)
room_wide Exact net vars width graph room = room
