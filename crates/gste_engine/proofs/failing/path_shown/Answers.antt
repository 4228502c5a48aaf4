use Rattle.std.proofs.Common.{◌≡◌, ◌<◌, List, All, length, None, Some, sym, ◌∙◌, subst, arith}
use Rattle.dd_nodes.specs.Stores.{Store}
use Rattle.graph_path.specs.declared.hop.Hop.{Hop}
use Rattle.graph_path.specs.Routes.{IsPathOf}
use Rattle.dual_rail.proofs.Turns.{zip_long}
use Rattle.net_core.specs.declared.raw.RawNet.{RawNet}
use Rattle.engine_parts.specs.Failing.{FailsBy}
use Rattle.ste_model.specs.declared.task.Edge.{Edge}
use Rattle.ste_model.specs.declared.task.Graph.{Graph}
use Rattle.ste_model.specs.GraphHops.{AreEdgeHops, IsEdgeHop}
use Rattle.gste_engine.specs.declared.state.State.{State}
use Rattle.gste_engine.specs.private.Taken.{table_at}
use Rattle.gste_engine.proofs.GraphPlaces.{candidate_by, hops_lead, last_states, least_closed, shown_by, table_refs}
use Rattle.gste_engine.proofs.failing.path_shown.Goals as goal

pub hops_of-requires-clause-table : goal.hops_of-requires-clause-table
hops_of-requires-clause-table g c =
    let s : Store = g.N.Nodes.store c.args.nodes.now in
    let net : RawNet = c.args.net.now.raw in
    let graph : Graph = c.args.graph.now in
    let bits = c.args.bits.now in
    let table : List State = c.args.table.now in
    table_refs net graph bits s table c.settles.ensures c.requires.graph.sound c.requires.table c.requires.long

pub path_of-requires-clause-ends : goal.path_of-requires-clause-ends
path_of-requires-clause-ends g c =
    let s : Store = g.N.Nodes.store c.args.nodes.now in
    let net : RawNet = c.args.net.now.raw in
    let graph : Graph = c.args.graph.now in
    let bits = c.args.bits.now in
    let table : List State = c.args.table.now in
    let last = last_states net graph bits s table c.settles.ensures c.requires.graph.sound c.requires.table c.requires.long in
    let closed = least_closed net graph bits s table c.settles.ensures c.requires.graph.sound c.requires.table c.requires.long in
    let hops : List Hop = c.as_slice.result.now in
    let are : AreEdgeHops (FailsBy c.args.failure) net bits (table_at bits last) graph.edges hops = subst (λ (hs : List Hop). AreEdgeHops (FailsBy c.args.failure) net bits (table_at bits last) graph.edges hs) (sym c.as_slice.ensures.value) (c.in_ok-hops.ensures.hops last c.requires.table.has) in
    let all : length graph.vertices ≡ c.in-Ok.vertices = sym (c.in-Ok.ensures.1 ∙ c.len.ensures) in
    hops_lead (FailsBy c.args.failure) net bits (table_at bits last) c.in-Ok.vertices graph.edges hops are (subst (λ n. All (λ edge. edge.to < n) graph.edges) all c.requires.graph.sound.ends)

pub path_of-requires-clause-few : goal.path_of-requires-clause-few
path_of-requires-clause-few g c =
    let s : Store = g.N.Nodes.store c.args.nodes.now in
    let net : RawNet = c.args.net.now.raw in
    let graph : Graph = c.args.graph.now in
    let bits = c.args.bits.now in
    let table : List State = c.args.table.now in
    let last = last_states net graph bits s table c.settles.ensures c.requires.graph.sound c.requires.table c.requires.long in
    let closed = least_closed net graph bits s table c.settles.ensures c.requires.graph.sound c.requires.table c.requires.long in
    let hops : List Hop = c.as_slice.result.now in
    let are : AreEdgeHops (FailsBy c.args.failure) net bits (table_at bits last) graph.edges hops = subst (λ (hs : List Hop). AreEdgeHops (FailsBy c.args.failure) net bits (table_at bits last) graph.edges hs) (sym c.as_slice.ensures.value) (c.in_ok-hops.ensures.hops last c.requires.table.has) in
    let n : length graph.edges ≡ length hops = zip_long (λ (edge : Edge) (hop : Hop). IsEdgeHop (FailsBy c.args.failure) net bits (table_at bits last) edge hop) graph.edges hops are in
    omega (arith, n, c.if-len-gt4294967295.false)

pub unreachable-requires : goal.unreachable-requires
unreachable-requires g c =
    let s : Store = g.N.Nodes.store c.args.nodes.now in
    let net : RawNet = c.args.net.now.raw in
    let graph : Graph = c.args.graph.now in
    let bits = c.args.bits.now in
    let table : List State = c.args.table.now in
    let last = last_states net graph bits s table c.settles.ensures c.requires.graph.sound c.requires.table c.requires.long in
    let closed = least_closed net graph bits s table c.settles.ensures c.requires.graph.sound c.requires.table c.requires.long in
    let hops : List Hop = c.as_slice.result.now in
    let are : AreEdgeHops (FailsBy c.args.failure) net bits (table_at bits last) graph.edges hops = subst (λ (hs : List Hop). AreEdgeHops (FailsBy c.args.failure) net bits (table_at bits last) graph.edges hs) (sym c.as_slice.ensures.value) (c.in_ok-hops.ensures.hops last c.requires.table.has) in
    let none : IsPathOf hops None = subst (IsPathOf hops) c.in-None.is c.in_ok-path.ensures.path in
    (shown_by c.args.failure).none net graph bits (table_at bits last) hops closed are none (candidate_by c.args.failure net graph bits c.settles.ensures c.requires.graph.sound c.requires.found)

pub returns-clause-path : goal.returns-clause-path
returns-clause-path g c =
    let s : Store = g.N.Nodes.store c.args.nodes.now in
    let net : RawNet = c.args.net.now.raw in
    let graph : Graph = c.args.graph.now in
    let bits = c.args.bits.now in
    let table : List State = c.args.table.now in
    let last = last_states net graph bits s table c.settles.ensures c.requires.graph.sound c.requires.table c.requires.long in
    let closed = least_closed net graph bits s table c.settles.ensures c.requires.graph.sound c.requires.table c.requires.long in
    let hops : List Hop = c.as_slice.result.now in
    let are : AreEdgeHops (FailsBy c.args.failure) net bits (table_at bits last) graph.edges hops = subst (λ (hs : List Hop). AreEdgeHops (FailsBy c.args.failure) net bits (table_at bits last) graph.edges hs) (sym c.as_slice.ensures.value) (c.in_ok-hops.ensures.hops last c.requires.table.has) in
    let some : IsPathOf hops (Some c.in-Some.path) = subst (IsPathOf hops) c.in-Some.is c.in_ok-path.ensures.path in
    (shown_by c.args.failure).shown net graph bits (table_at bits last) hops closed are c.in-Some.path some
