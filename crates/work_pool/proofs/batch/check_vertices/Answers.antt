use Rattle.std.proofs.Common.{Ok, refl, subst, sym}
use Rattle.std.specs.Prelude.{Option, List, Bool}
use Rattle.net_core.proofs.Ordered.{settled_by_order}
use Rattle.ste_model.specs.declared.task.Task.TheVariants.{Gste}
use Rattle.work_pool.specs.private.Jobs.{IsDone}
use Rattle.work_pool.proofs.Done.{graph_done}
use Rattle.work_pool.proofs.Graphs.{consequents_more, graph_reads, over_more, room_wide}
use Rattle.work_pool.proofs.batch.check_vertices.Goals as goal

pub check_graph-requires-clause-graph : goal.check_graph-requires-clause-graph
check_graph-requires-clause-graph g c =
    let s = g.N.Nodes.store c.args.nodes.now in
    let b = c.args.batch.now in
    over_more b.vars s.vars (room_wide b.mode b.net.now.raw b.vars s.vars c.args.graph.now c.requires.ready.1) b.net.now.raw c.args.graph.now c.requires.ready.0.0

pub check_graph-requires-clause-consequents : goal.check_graph-requires-clause-consequents
check_graph-requires-clause-consequents g c =
    let s = g.N.Nodes.store c.args.nodes.now in
    let b = c.args.batch.now in
    consequents_more b.vars s.vars (room_wide b.mode b.net.now.raw b.vars s.vars c.args.graph.now c.requires.ready.1) b.net.now.raw c.args.graph.now c.requires.ready.0.1

pub returns-clause-done : goal.returns-clause-done
returns-clause-done g c =
    let s = g.N.Nodes.store c.args.nodes.now in
    let t = g.N.Nodes.store c.check_graph.new.nodes in
    let b = c.args.batch.now in
    let net = b.net.now in
    let e = c.in_ok-report.ensures in
    let report = c.in_ok-report.report in
    let graph = c.args.graph.now in
    let ready = c.requires.ready in
    subst (λ (least : Option (List Bool)). IsDone b.mode net.raw b.vars s.limit b.cubes (Gste graph) s t (Ok (record report { least = least }))) (sym c.first_bits.ensures)
    (graph_done b.mode net.raw b.vars s.limit b.cubes graph s t report c.requires.made refl e.keeps e.limit
    (room_wide b.mode net.raw b.vars s.vars graph ready.1) (settled_by_order net.raw net.settled net.in_order) (graph_reads net.raw b.vars graph ready.0.0 ready.0.1) e.report e.budget e.kept)
