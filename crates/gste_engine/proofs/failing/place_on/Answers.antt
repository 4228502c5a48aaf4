use Rattle.std.proofs.Common.{◌≡◌, ◌<◌, ◌-◌, ℕ, List, All, length, get_or, Some, refl, sym, ◌∙◌, ap, subst}
use Rattle.std.specs.Prelude.{slice_get}
use Rattle.std.proofs.lemmas.Option.{slice_get_within}
use Rattle.dd_nodes.specs.Stores.{Store}
use Rattle.net_core.specs.declared.raw.RawNet.{RawNet}
use Rattle.ste_model.specs.declared.task.Edge.{Edge}
use Rattle.ste_model.specs.declared.task.Graph.{Graph}
use Rattle.gste_engine.specs.declared.state.State.{State}
use Rattle.gste_engine.specs.declared.taken.Taken.{Taken}
use Rattle.gste_engine.specs.Tables.{AreStateRefs, IsEdgeOver, IsState}
use Rattle.gste_engine.specs.private.Taken.{IsTaken, table_at}
use Rattle.gste_engine.proofs.GraphPlaces.{last_at, last_is, last_states, least_closed, not_none, place_is, table_refs}
use Rattle.gste_engine.proofs.failing.place_on.Goals as goal

pub bounds-as_slice-path : goal.bounds-as_slice-path
bounds-as_slice-path g c =
    let s : Store = g.N.Nodes.store c.args.nodes.now in
    let net : RawNet = c.args.net.now.raw in
    let graph : Graph = c.args.graph.now in
    let edges : List Edge = graph.edges in
    let bits = c.args.bits.now in
    let numbers : List ℕ = c.args.path.now in
    let table : List State = c.args.table.now in
    let time = length numbers - 1 in
    let k = get_or numbers time 0 in
    let here : slice_get edges k ≡ Some c.requires.path.candidate.edge = last_at c.args.failure net graph bits numbers c.requires.path time refl in
    let within : k < length edges = slice_get_within edges k c.requires.path.candidate.edge here in
    subst (λ (xs : List Edge). k < length xs) (sym c.as_slice.ensures) within

pub bounds-table-edge : goal.bounds-table-edge
bounds-table-edge g c =
    let s : Store = g.N.Nodes.store c.args.nodes.now in
    let net : RawNet = c.args.net.now.raw in
    let graph : Graph = c.args.graph.now in
    let edges : List Edge = graph.edges in
    let bits = c.args.bits.now in
    let numbers : List ℕ = c.args.path.now in
    let table : List State = c.args.table.now in
    let time = length numbers - 1 in
    let k = get_or numbers time 0 in
    let here : slice_get edges k ≡ Some c.requires.path.candidate.edge = last_at c.args.failure net graph bits numbers c.requires.path time refl in
    let within : k < length edges = slice_get_within edges k c.requires.path.candidate.edge here in
    let edge : Edge = c.index-as_slice-path.result in
    let is : edge ≡ get_or edges k edge = c.index-as_slice-path.is ∙ ap (λ (xs : List Edge). get_or xs k edge) c.as_slice.ensures in
    let over : IsEdgeOver net s.vars (length graph.vertices) edge = subst (IsEdgeOver net s.vars (length graph.vertices)) (sym is) (c.requires.graph.edges k edge within) in
    let inside : edge.from < length table = subst (λ n. edge.from < n) (sym c.requires.table.has.long) over.start in
    inside

pub taken_on-requires-clause-ant : goal.taken_on-requires-clause-ant
taken_on-requires-clause-ant g c =
    let s : Store = g.N.Nodes.store c.args.nodes.now in
    let net : RawNet = c.args.net.now.raw in
    let graph : Graph = c.args.graph.now in
    let edges : List Edge = graph.edges in
    let bits = c.args.bits.now in
    let numbers : List ℕ = c.args.path.now in
    let table : List State = c.args.table.now in
    let time = length numbers - 1 in
    let k = get_or numbers time 0 in
    let here : slice_get edges k ≡ Some c.requires.path.candidate.edge = last_at c.args.failure net graph bits numbers c.requires.path time refl in
    let within : k < length edges = slice_get_within edges k c.requires.path.candidate.edge here in
    let edge : Edge = c.index-as_slice-path.result in
    let is : edge ≡ get_or edges k edge = c.index-as_slice-path.is ∙ ap (λ (xs : List Edge). get_or xs k edge) c.as_slice.ensures in
    let over : IsEdgeOver net s.vars (length graph.vertices) edge = subst (IsEdgeOver net s.vars (length graph.vertices)) (sym is) (c.requires.graph.edges k edge within) in
    let inside : edge.from < length table = subst (λ n. edge.from < n) (sym c.requires.table.has.long) over.start in
    over.nets

pub taken_on-requires-clause-weak : goal.taken_on-requires-clause-weak
taken_on-requires-clause-weak g c =
    let s : Store = g.N.Nodes.store c.args.nodes.now in
    let net : RawNet = c.args.net.now.raw in
    let graph : Graph = c.args.graph.now in
    let edges : List Edge = graph.edges in
    let bits = c.args.bits.now in
    let numbers : List ℕ = c.args.path.now in
    let table : List State = c.args.table.now in
    let time = length numbers - 1 in
    let k = get_or numbers time 0 in
    let here : slice_get edges k ≡ Some c.requires.path.candidate.edge = last_at c.args.failure net graph bits numbers c.requires.path time refl in
    let within : k < length edges = slice_get_within edges k c.requires.path.candidate.edge here in
    let edge : Edge = c.index-as_slice-path.result in
    let is : edge ≡ get_or edges k edge = c.index-as_slice-path.is ∙ ap (λ (xs : List Edge). get_or xs k edge) c.as_slice.ensures in
    let over : IsEdgeOver net s.vars (length graph.vertices) edge = subst (IsEdgeOver net s.vars (length graph.vertices)) (sym is) (c.requires.graph.edges k edge within) in
    let inside : edge.from < length table = subst (λ n. edge.from < n) (sym c.requires.table.has.long) over.start in
    over.weak

pub taken_on-requires-clause-con : goal.taken_on-requires-clause-con
taken_on-requires-clause-con g c =
    let s : Store = g.N.Nodes.store c.args.nodes.now in
    let net : RawNet = c.args.net.now.raw in
    let graph : Graph = c.args.graph.now in
    let edges : List Edge = graph.edges in
    let bits = c.args.bits.now in
    let numbers : List ℕ = c.args.path.now in
    let table : List State = c.args.table.now in
    let time = length numbers - 1 in
    let k = get_or numbers time 0 in
    let here : slice_get edges k ≡ Some c.requires.path.candidate.edge = last_at c.args.failure net graph bits numbers c.requires.path time refl in
    let within : k < length edges = slice_get_within edges k c.requires.path.candidate.edge here in
    let edge : Edge = c.index-as_slice-path.result in
    let is : edge ≡ get_or edges k edge = c.index-as_slice-path.is ∙ ap (λ (xs : List Edge). get_or xs k edge) c.as_slice.ensures in
    let over : IsEdgeOver net s.vars (length graph.vertices) edge = subst (IsEdgeOver net s.vars (length graph.vertices)) (sym is) (c.requires.graph.edges k edge within) in
    let inside : edge.from < length table = subst (λ n. edge.from < n) (sym c.requires.table.has.long) over.start in
    subst (λ (x : Edge). All (λ bind. bind.node.0 < net.nets) x.con) (sym is) (c.requires.con k edge within).0

pub taken_on-requires-clause-source : goal.taken_on-requires-clause-source
taken_on-requires-clause-source g c =
    let s : Store = g.N.Nodes.store c.args.nodes.now in
    let net : RawNet = c.args.net.now.raw in
    let graph : Graph = c.args.graph.now in
    let edges : List Edge = graph.edges in
    let bits = c.args.bits.now in
    let numbers : List ℕ = c.args.path.now in
    let table : List State = c.args.table.now in
    let time = length numbers - 1 in
    let k = get_or numbers time 0 in
    let here : slice_get edges k ≡ Some c.requires.path.candidate.edge = last_at c.args.failure net graph bits numbers c.requires.path time refl in
    let within : k < length edges = slice_get_within edges k c.requires.path.candidate.edge here in
    let edge : Edge = c.index-as_slice-path.result in
    let is : edge ≡ get_or edges k edge = c.index-as_slice-path.is ∙ ap (λ (xs : List Edge). get_or xs k edge) c.as_slice.ensures in
    let over : IsEdgeOver net s.vars (length graph.vertices) edge = subst (IsEdgeOver net s.vars (length graph.vertices)) (sym is) (c.requires.graph.edges k edge within) in
    let inside : edge.from < length table = subst (λ n. edge.from < n) (sym c.requires.table.has.long) over.start in
    subst (AreStateRefs s net) (sym c.index-table-edge.is) (table_refs net graph bits s table c.settles.ensures c.requires.graph.sound c.requires.table c.requires.long edge.from c.index-table-edge.result inside)

pub unreachable-requires : goal.unreachable-requires
unreachable-requires g c =
    let s : Store = g.N.Nodes.store c.args.nodes.now in
    let net : RawNet = c.args.net.now.raw in
    let graph : Graph = c.args.graph.now in
    let edges : List Edge = graph.edges in
    let bits = c.args.bits.now in
    let numbers : List ℕ = c.args.path.now in
    let table : List State = c.args.table.now in
    let time = length numbers - 1 in
    let k = get_or numbers time 0 in
    let here : slice_get edges k ≡ Some c.requires.path.candidate.edge = last_at c.args.failure net graph bits numbers c.requires.path time refl in
    let within : k < length edges = slice_get_within edges k c.requires.path.candidate.edge here in
    let edge : Edge = c.index-as_slice-path.result in
    let is : edge ≡ get_or edges k edge = c.index-as_slice-path.is ∙ ap (λ (xs : List Edge). get_or xs k edge) c.as_slice.ensures in
    let over : IsEdgeOver net s.vars (length graph.vertices) edge = subst (IsEdgeOver net s.vars (length graph.vertices)) (sym is) (c.requires.graph.edges k edge within) in
    let inside : edge.from < length table = subst (λ n. edge.from < n) (sym c.requires.table.has.long) over.start in
    let source : State = c.index-table-edge.result in
    let last = last_states net graph bits s table c.settles.ensures c.requires.graph.sound c.requires.table c.requires.long in
    let closed = least_closed net graph bits s table c.settles.ensures c.requires.graph.sound c.requires.table c.requires.long in
    let same : edge ≡ c.requires.path.candidate.edge = last_is c.args.failure net graph bits numbers c.requires.path time refl edge is in
    let told : Taken = c.in_ok-told.told in
    let state : IsState s (last edge.from) source = subst (λ (r : State). IsState s (last edge.from) r) (sym c.index-table-edge.is) (c.requires.table.has.each edge.from source inside) in
    let taken : IsTaken c.args.failure net bits (table_at bits last) edge told = c.in_ok-told.ensures.taken last state in
    not_none c.args.failure net graph bits numbers c.requires.path time refl (table_at bits last) closed edge same told taken c.in-None.is

pub returns-clause-place : goal.returns-clause-place
returns-clause-place g c =
    let s : Store = g.N.Nodes.store c.args.nodes.now in
    let net : RawNet = c.args.net.now.raw in
    let graph : Graph = c.args.graph.now in
    let edges : List Edge = graph.edges in
    let bits = c.args.bits.now in
    let numbers : List ℕ = c.args.path.now in
    let table : List State = c.args.table.now in
    let time = length numbers - 1 in
    let k = get_or numbers time 0 in
    let here : slice_get edges k ≡ Some c.requires.path.candidate.edge = last_at c.args.failure net graph bits numbers c.requires.path time refl in
    let within : k < length edges = slice_get_within edges k c.requires.path.candidate.edge here in
    let edge : Edge = c.index-as_slice-path.result in
    let is : edge ≡ get_or edges k edge = c.index-as_slice-path.is ∙ ap (λ (xs : List Edge). get_or xs k edge) c.as_slice.ensures in
    let over : IsEdgeOver net s.vars (length graph.vertices) edge = subst (IsEdgeOver net s.vars (length graph.vertices)) (sym is) (c.requires.graph.edges k edge within) in
    let inside : edge.from < length table = subst (λ n. edge.from < n) (sym c.requires.table.has.long) over.start in
    let source : State = c.index-table-edge.result in
    let last = last_states net graph bits s table c.settles.ensures c.requires.graph.sound c.requires.table c.requires.long in
    let closed = least_closed net graph bits s table c.settles.ensures c.requires.graph.sound c.requires.table c.requires.long in
    let same : edge ≡ c.requires.path.candidate.edge = last_is c.args.failure net graph bits numbers c.requires.path time refl edge is in
    let told : Taken = c.in_ok-told.told in
    let state : IsState s (last edge.from) source = subst (λ (r : State). IsState s (last edge.from) r) (sym c.index-table-edge.is) (c.requires.table.has.each edge.from source inside) in
    let taken : IsTaken c.args.failure net bits (table_at bits last) edge told = c.in_ok-told.ensures.taken last state in
    place_is c.args.failure net graph bits numbers c.requires.path time refl (table_at bits last) closed edge same told taken c.in-Some.node c.in-Some.is
