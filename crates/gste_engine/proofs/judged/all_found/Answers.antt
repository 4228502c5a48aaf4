use Rattle.std.proofs.Common.{◌≡◌, ◌<◌, List, length, get_or, sym, subst, arith, All, Ok, Err}
use Rattle.std.proofs.lemmas.List.{take_all}
use Rattle.ste_base.specs.Functions.{Function}
use Rattle.dd_nodes.specs.Stores.{Store}
use Rattle.dd_nodes.proofs.Members.{Contains-none}
use Rattle.dd_nodes.proofs.Spending.{zero_means}
use Rattle.dd_nodes.proofs.Stores.{Keeps-refl, Keeps-trans}
use Rattle.dual_rail.proofs.Works.{Built-made, So-start, first, pass}
use Rattle.net_core.specs.declared.raw.RawNet.{RawNet}
use Rattle.net_core.specs.Run.{IsSettled}
use Rattle.net_core.proofs.Ordered.{settled_by_order}
use Rattle.ste_model.specs.declared.task.Edge.{Edge}
use Rattle.ste_model.specs.GraphNeed.{BindsReadBelow}
use Rattle.gste_engine.specs.declared.found.Findings.{Findings}
use Rattle.gste_engine.specs.declared.state.State.{State}
use Rattle.gste_engine.specs.Tables.{AreStateRefs, IsEdgeOver}
use Rattle.gste_engine.specs.private.EdgeFinds.{AreAllFound, all_found_work}
use Rattle.gste_engine.proofs.AllGiven.{own_has, own_possible, own_sets, own_table}
use Rattle.gste_engine.proofs.EdgeTurns.{IsDone, found_call, found_next, found_turn}
use Rattle.dual_rail.specs.declared.rails.Rails.{Rails}
use Rattle.gste_engine.specs.private.Seen.{IsSeenFrom}
use Rattle.gste_engine.proofs.KeptGivens.{From-keeps}
use Rattle.gste_engine.proofs.KeptSeen.{Seen-keeps, known_given, known_seen}
use Rattle.gste_engine.proofs.StateRefs.{StateRefs-keep}
use Rattle.gste_engine.proofs.judged.all_found.Goals as goal

pub loop-k-init : goal.loop-k-init
loop-k-init g c =
    let s : Store = g.N.Nodes.store c.args.nodes.now in
    let gs = g.met.N.Nodes.diagram c.args.nodes.now in
    let none = zero_means s gs in
    record {
      keeps = Keeps-refl s;
      refs = record { strong = none.ref; weak = none.ref; feasible = none.ref };
      so = λ states sets has possible. record {
        so = So-start (all_found_work c.args.net.now.raw states sets c.args.edges.now) s;
        all = record { found = record { strong = none; weak = none; feasible = none }; kept = λ f h. absurd (Contains-none f h) };
      };
    }

pub loop-k-preserved : goal.loop-k-preserved
loop-k-preserved g c =
    let s : Store = g.N.Nodes.store c.args.nodes.now in
    let t : Store = g.N.Nodes.store c.loop-k.nodes in
    let u : Store = g.N.Nodes.store c.with_edge.new.nodes in
    let gs = g.met.N.Nodes.diagram c.args.nodes.now in
    let gt = g.met.N.Nodes.diagram c.loop-k.nodes in
    let gu = g.met.N.Nodes.diagram c.with_edge.new.nodes in
    let net : RawNet = c.args.net.now.raw in
    let edges : List Edge = c.args.edges.now in
    let table : List State = c.args.table.now in
    let k = c.loop-k.k in
    let before : Findings = c.loop-k.found in
    let p = c.loop-k.invariant in
    let lt : k < length edges = omega (arith, c.loop-k-test.true) in
    let edge : Edge = c.index-edges-k.result in
    let is : edge ≡ get_or edges k edge = c.index-edges-k.is in
    let over : IsEdgeOver net s.vars (length table) edge = subst (IsEdgeOver net s.vars (length table)) (sym is) (c.requires.edges k edge lt) in
    let source : State = c.index-table-edge.result in
    let is_source : source ≡ get_or table edge.from source = c.index-table-edge.is in
    let after : Findings = c.in_ok-found.found in
    let settled : IsSettled net = settled_by_order net c.args.net.now.settled c.args.net.now.in_order in
    let mine =
    (let states = own_table s net table gs c.requires.table in
    let sets = own_sets s net table gs c.requires.table settled in
    let has = own_has s net table gs c.requires.table in
    let possible = own_possible s net table gs c.requires.table settled edges in
    let q = p.so states sets has possible in
    found_call net states sets edges table s t u k edge source before gs gt gu lt is over.start is_source has possible p.keeps q (Ok after) c.in_ok-found.ensures) in
    let keeps = mine.spends.keeps in
    let found = mine.ok.found in
    record {
      keeps = Keeps-trans s t u p.keeps keeps;
      refs = record { strong = found.strong.ref; weak = found.weak.ref; feasible = found.feasible.ref };
      so = λ states sets has possible.
          let q = p.so states sets has possible in
          let b = found_turn net states sets edges table s t u k edge source before gs gt gu lt is over.start is_source has possible p.keeps q (Ok after) c.in_ok-found.ensures in
          record {
            so = first (all_found_work net states sets edges) (IsDone net states sets edges table s t u k edge source before gs gt gu lt is over.start is_source has possible p.keeps q) s u (Ok after) b;
            all = found_next net states sets edges table s t u k edge source before gs gt gu lt is over.start is_source has possible p.keeps q after keeps b.ok;
          };
    }

pub returns-in_err-found : goal.returns-in_err-found
returns-in_err-found g c = λ states sets has possible.
    let s : Store = g.N.Nodes.store c.args.nodes.now in
    let t : Store = g.N.Nodes.store c.loop-k.nodes in
    let u : Store = g.N.Nodes.store c.with_edge.new.nodes in
    let gs = g.met.N.Nodes.diagram c.args.nodes.now in
    let gt = g.met.N.Nodes.diagram c.loop-k.nodes in
    let gu = g.met.N.Nodes.diagram c.with_edge.new.nodes in
    let net : RawNet = c.args.net.now.raw in
    let edges : List Edge = c.args.edges.now in
    let table : List State = c.args.table.now in
    let k = c.loop-k.k in
    let before : Findings = c.loop-k.found in
    let p = c.loop-k.invariant in
    let lt : k < length edges = omega (arith, c.loop-k-test.true) in
    let edge : Edge = c.index-edges-k.result in
    let is : edge ≡ get_or edges k edge = c.index-edges-k.is in
    let over : IsEdgeOver net s.vars (length table) edge = subst (IsEdgeOver net s.vars (length table)) (sym is) (c.requires.edges k edge lt) in
    let source : State = c.index-table-edge.result in
    let is_source : source ≡ get_or table edge.from source = c.index-table-edge.is in
    let q = p.so states sets has possible in
    let work : List Function = all_found_work net states sets edges in
    let fault = c.in_err-found.field-0.0 in
    pass work (IsDone net states sets edges table s t u k edge source before gs gt gu lt is over.start is_source has possible p.keeps q) (AreAllFound net states sets edges) s s u fault c.from_residual.result gs gu (So-start work s)
    (found_turn net states sets edges table s t u k edge source before gs gt gu lt is over.start is_source has possible p.keeps q (Err fault) c.in_err-found.ensures) c.from_residual.ensures.1

pub returns : goal.returns
returns g c = λ states sets has possible.
    let s : Store = g.N.Nodes.store c.args.nodes.now in
    let t : Store = g.N.Nodes.store c.loop-k.nodes in
    let net : RawNet = c.args.net.now.raw in
    let edges : List Edge = c.args.edges.now in
    let k = c.loop-k.k in
    let q = c.loop-k.invariant.so states sets has possible in
    Built-made (all_found_work net states sets edges) (AreAllFound net states sets edges) s t c.loop-k.found q.so
    (subst (λ (xs : List Edge). AreAllFound net states sets xs t c.loop-k.found) (take_all k edges (omega (arith, c.loop-k-test.false))) q.all)

pub with_edge-requires-clause-reads : goal.with_edge-requires-clause-reads
with_edge-requires-clause-reads g c =
    let s : Store = g.N.Nodes.store c.args.nodes.now in
    let t : Store = g.N.Nodes.store c.loop-k.nodes in
    let gs = g.met.N.Nodes.diagram c.args.nodes.now in
    let gt = g.met.N.Nodes.diagram c.loop-k.nodes in
    let net : RawNet = c.args.net.now.raw in
    let edges : List Edge = c.args.edges.now in
    let table : List State = c.args.table.now in
    let k = c.loop-k.k in
    let before : Findings = c.loop-k.found in
    let p = c.loop-k.invariant in
    let lt : k < length edges = omega (arith, c.loop-k-test.true) in
    let edge : Edge = c.index-edges-k.result in
    let is : edge ≡ get_or edges k edge = c.index-edges-k.is in
    let over : IsEdgeOver net s.vars (length table) edge = subst (IsEdgeOver net s.vars (length table)) (sym is) (c.requires.edges k edge lt) in
    let source : State = c.index-table-edge.result in
    let is_source : source ≡ get_or table edge.from source = c.index-table-edge.is in
    subst (λ vars. BindsReadBelow vars edge.ant) (sym p.keeps.vars) over.reads

pub with_edge-requires-clause-wanted : goal.with_edge-requires-clause-wanted
with_edge-requires-clause-wanted g c =
    let s : Store = g.N.Nodes.store c.args.nodes.now in
    let t : Store = g.N.Nodes.store c.loop-k.nodes in
    let gs = g.met.N.Nodes.diagram c.args.nodes.now in
    let gt = g.met.N.Nodes.diagram c.loop-k.nodes in
    let net : RawNet = c.args.net.now.raw in
    let edges : List Edge = c.args.edges.now in
    let table : List State = c.args.table.now in
    let k = c.loop-k.k in
    let before : Findings = c.loop-k.found in
    let p = c.loop-k.invariant in
    let lt : k < length edges = omega (arith, c.loop-k-test.true) in
    let edge : Edge = c.index-edges-k.result in
    let is : edge ≡ get_or edges k edge = c.index-edges-k.is in
    let over : IsEdgeOver net s.vars (length table) edge = subst (IsEdgeOver net s.vars (length table)) (sym is) (c.requires.edges k edge lt) in
    let source : State = c.index-table-edge.result in
    let is_source : source ≡ get_or table edge.from source = c.index-table-edge.is in
    let want : All (λ bind. bind.node.0 < net.nets) edge.con × BindsReadBelow s.vars edge.con = subst (λ (e : Edge). All (λ bind. bind.node.0 < net.nets) e.con × BindsReadBelow s.vars e.con) (sym is) (c.requires.wanted k edge lt) in
    want.0

pub with_edge-requires-clause-reads_wanted : goal.with_edge-requires-clause-reads_wanted
with_edge-requires-clause-reads_wanted g c =
    let s : Store = g.N.Nodes.store c.args.nodes.now in
    let t : Store = g.N.Nodes.store c.loop-k.nodes in
    let gs = g.met.N.Nodes.diagram c.args.nodes.now in
    let gt = g.met.N.Nodes.diagram c.loop-k.nodes in
    let net : RawNet = c.args.net.now.raw in
    let edges : List Edge = c.args.edges.now in
    let table : List State = c.args.table.now in
    let k = c.loop-k.k in
    let before : Findings = c.loop-k.found in
    let p = c.loop-k.invariant in
    let lt : k < length edges = omega (arith, c.loop-k-test.true) in
    let edge : Edge = c.index-edges-k.result in
    let is : edge ≡ get_or edges k edge = c.index-edges-k.is in
    let over : IsEdgeOver net s.vars (length table) edge = subst (IsEdgeOver net s.vars (length table)) (sym is) (c.requires.edges k edge lt) in
    let source : State = c.index-table-edge.result in
    let is_source : source ≡ get_or table edge.from source = c.index-table-edge.is in
    let want : All (λ bind. bind.node.0 < net.nets) edge.con × BindsReadBelow s.vars edge.con = subst (λ (e : Edge). All (λ bind. bind.node.0 < net.nets) e.con × BindsReadBelow s.vars e.con) (sym is) (c.requires.wanted k edge lt) in
    subst (λ vars. BindsReadBelow vars edge.con) (sym p.keeps.vars) want.1

pub with_edge-requires-clause-source : goal.with_edge-requires-clause-source
with_edge-requires-clause-source g c =
    let s : Store = g.N.Nodes.store c.args.nodes.now in
    let t : Store = g.N.Nodes.store c.loop-k.nodes in
    let gs = g.met.N.Nodes.diagram c.args.nodes.now in
    let gt = g.met.N.Nodes.diagram c.loop-k.nodes in
    let net : RawNet = c.args.net.now.raw in
    let edges : List Edge = c.args.edges.now in
    let table : List State = c.args.table.now in
    let k = c.loop-k.k in
    let before : Findings = c.loop-k.found in
    let p = c.loop-k.invariant in
    let lt : k < length edges = omega (arith, c.loop-k-test.true) in
    let edge : Edge = c.index-edges-k.result in
    let is : edge ≡ get_or edges k edge = c.index-edges-k.is in
    let over : IsEdgeOver net s.vars (length table) edge = subst (IsEdgeOver net s.vars (length table)) (sym is) (c.requires.edges k edge lt) in
    let source : State = c.index-table-edge.result in
    let is_source : source ≡ get_or table edge.from source = c.index-table-edge.is in
    StateRefs-keep s t net source p.keeps (subst (AreStateRefs s net) (sym is_source) (c.requires.table edge.from source over.start))

pub with_edge-requires-clause-nets : goal.with_edge-requires-clause-nets
with_edge-requires-clause-nets g c =
    let s : Store = g.N.Nodes.store c.args.nodes.now in
    let t : Store = g.N.Nodes.store c.loop-k.nodes in
    let gs = g.met.N.Nodes.diagram c.args.nodes.now in
    let gt = g.met.N.Nodes.diagram c.loop-k.nodes in
    let net : RawNet = c.args.net.now.raw in
    let edges : List Edge = c.args.edges.now in
    let table : List State = c.args.table.now in
    let k = c.loop-k.k in
    let before : Findings = c.loop-k.found in
    let p = c.loop-k.invariant in
    let lt : k < length edges = omega (arith, c.loop-k-test.true) in
    let edge : Edge = c.index-edges-k.result in
    let is : edge ≡ get_or edges k edge = c.index-edges-k.is in
    let over : IsEdgeOver net s.vars (length table) edge = subst (IsEdgeOver net s.vars (length table)) (sym is) (c.requires.edges k edge lt) in
    let source : State = c.index-table-edge.result in
    let is_source : source ≡ get_or table edge.from source = c.index-table-edge.is in
    over.nets

pub with_edge-requires-clause-given : goal.with_edge-requires-clause-given
with_edge-requires-clause-given g c =
    let s : Store = g.N.Nodes.store c.args.nodes.now in
    let t : Store = g.N.Nodes.store c.loop-k.nodes in
    let gs = g.met.N.Nodes.diagram c.args.nodes.now in
    let gt = g.met.N.Nodes.diagram c.loop-k.nodes in
    let net : RawNet = c.args.net.now.raw in
    let edges : List Edge = c.args.edges.now in
    let table : List State = c.args.table.now in
    let k = c.loop-k.k in
    let before : Findings = c.loop-k.found in
    let p = c.loop-k.invariant in
    let lt : k < length edges = omega (arith, c.loop-k-test.true) in
    let edge : Edge = c.index-edges-k.result in
    let is : edge ≡ get_or edges k edge = c.index-edges-k.is in
    let over : IsEdgeOver net s.vars (length table) edge = subst (IsEdgeOver net s.vars (length table)) (sym is) (c.requires.edges k edge lt) in
    let source : State = c.index-table-edge.result in
    let is_source : source ≡ get_or table edge.from source = c.index-table-edge.is in
    let given : State = c.index-givens-k.result in
    From-keeps s t net edge source given gs gt p.keeps (known_given s net edges table k edge source lt is is_source c.args.givens.now given c.index-givens-k.is c.requires.givens)

pub with_edge-requires-clause-seen : goal.with_edge-requires-clause-seen
with_edge-requires-clause-seen g c = λ reached.
    let s : Store = g.N.Nodes.store c.args.nodes.now in
    let t : Store = g.N.Nodes.store c.loop-k.nodes in
    let gs = g.met.N.Nodes.diagram c.args.nodes.now in
    let gt = g.met.N.Nodes.diagram c.loop-k.nodes in
    let net : RawNet = c.args.net.now.raw in
    let edges : List Edge = c.args.edges.now in
    let table : List State = c.args.table.now in
    let k = c.loop-k.k in
    let before : Findings = c.loop-k.found in
    let p = c.loop-k.invariant in
    let lt : k < length edges = omega (arith, c.loop-k-test.true) in
    let edge : Edge = c.index-edges-k.result in
    let is : edge ≡ get_or edges k edge = c.index-edges-k.is in
    let over : IsEdgeOver net s.vars (length table) edge = subst (IsEdgeOver net s.vars (length table)) (sym is) (c.requires.edges k edge lt) in
    let source : State = c.index-table-edge.result in
    let is_source : source ≡ get_or table edge.from source = c.index-table-edge.is in
    let seen : List Rails = c.index-seen-k.result in
    subst (λ (x : List Rails). IsSeenFrom t net edge source x) (sym {A = List Rails} c.as_slice-sets.ensures)
    (Seen-keeps s t net edge source seen gs gt p.keeps (known_seen s net edges table k edge source lt is is_source c.args.seen.now seen c.index-seen-k.is c.requires.seen reached))
