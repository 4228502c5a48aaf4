use Rattle.std.proofs.Common.{◌≡◌, ◌≢◌, ℕ, zero, suc, Bool, true, not, List, length, map, sym, ap, ◌∙◌, subst, arith, All, Ok, Err, Vec, Global}
use Rattle.std.specs.Prelude.{◌==◌}
use Rattle.std.specs.List.{AllZip}
use Rattle.std.proofs.lemmas.List.{length-map}
use Rattle.ste_base.specs.Functions.{Function}
use Rattle.dd_nodes.specs.Stores.{Store}
use Rattle.dd_nodes.proofs.Stores.{Keeps-trans, Means-keeps}
use Rattle.dd_nodes.proofs.Walks.{IsFrom-grows}
use Rattle.net_core.specs.declared.raw.RawNet.{RawNet}
use Rattle.net_core.specs.Run.{IsSettled}
use Rattle.net_core.specs.Work.{ArePossibleEach, SymbolicCut, SymbolicSet}
use Rattle.net_core.proofs.Ordered.{settled_by_order}
use Rattle.ste_model.specs.declared.task.Bind.{Bind}
use Rattle.ste_model.specs.declared.task.Edge.{Edge}
use Rattle.ste_model.specs.GraphNeed.{BindsReadBelow, bind_functions}
use Rattle.ste_model.specs.GraphWork.{SymbolicState, edge_work, feasible_where, symbolic_asked_on, symbolic_binds}
use Rattle.dual_rail.specs.declared.rails.Rails.{Rails}
use Rattle.dual_rail.specs.Rail.{AreRails, AreRefs, Built}
use Rattle.dual_rail.proofs.Turns.{Zip-keep, zip_long}
use Rattle.dual_rail.proofs.Works.{Built-wider, So-start, first, lost, more, pass}
use Rattle.sym_step.specs.declared.cut.Cut.{Cut}
use Rattle.sym_step.specs.Step.{IsCutBy, IsCutOf, rails_at}
use Rattle.sym_step.specs.Frame.{bare, nets_of}
use Rattle.sym_step.proofs.Cutting.{demands_long}
use Rattle.gste_engine.specs.declared.edge.EdgeFound.{EdgeFound}
use Rattle.gste_engine.specs.declared.state.State.{State}
use Rattle.gste_engine.specs.Tables.{IsEdgeFound, IsState}
use Rattle.gste_engine.specs.private.EdgeFinds.{IsAsked, IsWithEdge, asked_work, with_edge_work, with_found_work}
use Rattle.gste_engine.specs.private.Rounds.{IsGivenFrom}
use Rattle.gste_engine.specs.private.Seen.{IsSeenFrom, rails_of}
use Rattle.gste_engine.proofs.CutLists.{cuts_of_net}
use Rattle.gste_engine.proofs.EdgeDone.{AreFoundWith, edge_done}
use Rattle.gste_engine.proofs.EdgeTurns.{Cuts-keep, asked_in, cuts_guards, cuts_values, edge_in, edge_left}
use Rattle.gste_engine.proofs.KeptGivens.{From-keeps, given_stays}
use Rattle.gste_engine.proofs.KeptRefs.{Refs-held}
use Rattle.gste_engine.proofs.KeptSeen.{AreSeenBy, Seen-keeps, nets_stay, seen_stays, seen_zip, wanted_refs, wanted_zip}
use Rattle.gste_engine.proofs.StateRefs.{StateRefs-keep}
use Rattle.gste_engine.proofs.judged.with_edge.Goals as goal

abbrev AreAsked : Edge → Store → Vec Cut Global → Type 0
AreAsked edge t cuts = IsAsked edge t cuts.items

abbrev state_of : Function → List SymbolicSet → SymbolicState
state_of r ls = record { reached = r; latches = ls }

not_zero : (n : ℕ) (b : Bool) → b ≡ not (n == 0) → b ≡ true → n ≢ 0
not_zero zero b e is none = absurd (cc (sym is ∙ e))
not_zero (suc n) b e is none = omega (arith, none)

seen_are : (nets : List Rails) (binds asked : List Bind) (sets now : List Rails) → now ≡ sets → sets ≡ map (rails_of nets) asked → asked ≡ binds → map (rails_of nets) binds ≡ now
seen_are nets binds asked sets now e f k = sym (e ∙ f ∙ ap (λ (bs : List Bind). map (rails_of nets) bs) k)

pub returns-in_err-wanted : goal.returns-in_err-wanted
returns-in_err-wanted g c = λ r ls sets f h e mr zip family sums.
    let s : Store = g.N.Nodes.store c.args.nodes.now in
    let t : Store = g.N.Nodes.store c.asked_on.new.nodes in
    let gs = g.met.N.Nodes.diagram c.args.nodes.now in
    let gt = g.met.N.Nodes.diagram c.asked_on.new.nodes in
    let net : RawNet = c.args.net.now.raw in
    let edge : Edge = c.args.edge.now in
    let source : State = c.args.source.now in
    let x : SymbolicState = state_of r ls in
    let work : List Function = with_edge_work net edge x sets f h e in
    let fault = c.in_err-wanted.field-0.0 in
    pass work (AreAsked edge) (IsWithEdge net edge x sets f h e) s s t fault c.from_residual.result gs gt (So-start work s)
    (Built-wider work (asked_work edge) (AreAsked edge) s t (Err fault) (asked_in net edge x sets f h e) c.in_err-wanted.ensures) c.from_residual.ensures.1

pub returns-in_err-frame : goal.returns-in_err-frame
returns-in_err-frame g c = λ r ls sets f h e mr zip family sums.
    let s : Store = g.N.Nodes.store c.args.nodes.now in
    let t : Store = g.N.Nodes.store c.asked_on.new.nodes in
    let net : RawNet = c.args.net.now.raw in
    let edge : Edge = c.args.edge.now in
    let x : SymbolicState = state_of r ls in
    let work : List Function = with_edge_work net edge x sets f h e in
    let wanted : Vec Cut Global = c.in_ok-wanted.wanted in
    let a : Built (asked_work edge) (AreAsked edge) s t (Ok wanted) = c.in_ok-wanted.ensures in
    let so1 = first work (AreAsked edge) s t (Ok wanted) (Built-wider work (asked_work edge) (AreAsked edge) s t (Ok wanted) (asked_in net edge x sets f h e) a) in
    lost work (IsWithEdge net edge x sets f h e) s t c.from_residual-in_err-frame.result so1 c.from_residual-in_err-frame.ensures.1

pub edge_found-requires-clause-reads : goal.edge_found-requires-clause-reads
edge_found-requires-clause-reads g c = subst (λ v. BindsReadBelow v c.args.edge.now.ant) (sym c.in_ok-wanted.ensures.spends.keeps.vars) c.requires.reads

pub seen_by-requires : goal.seen_by-requires
seen_by-requires g c = length-map c.in_ok-made.made.frame.board.nets.items bare ∙ c.in_ok-made.ensures.frame.long

pub returns-in_err-made : goal.returns-in_err-made
returns-in_err-made g c = λ r ls sets f h e mr zip family sums.
    let s : Store = g.N.Nodes.store c.args.nodes.now in
    let t : Store = g.N.Nodes.store c.asked_on.new.nodes in
    let gs = g.met.N.Nodes.diagram c.args.nodes.now in
    let gt = g.met.N.Nodes.diagram c.asked_on.new.nodes in
    let net : RawNet = c.args.net.now.raw in
    let edge : Edge = c.args.edge.now in
    let source : State = c.args.source.now in
    let u : Store = g.N.Nodes.store c.edge_found.new.nodes in
    let gu = g.met.N.Nodes.diagram c.edge_found.new.nodes in
    let x : SymbolicState = state_of r ls in
    let work : List Function = with_edge_work net edge x sets f h e in
    let wanted : Vec Cut Global = c.in_ok-wanted.wanted in
    let a : Built (asked_work edge) (AreAsked edge) s t (Ok wanted) = c.in_ok-wanted.ensures in
    let settled : IsSettled net = settled_by_order net c.args.net.now.settled c.args.net.now.in_order in
    let so1 = first work (AreAsked edge) s t (Ok wanted) (Built-wider work (asked_work edge) (AreAsked edge) s t (Ok wanted) (asked_in net edge x sets f h e) a) in
    let here = subst (λ v. ArePossibleEach v net ls (symbolic_asked_on edge) sets) (sym a.spends.keeps.vars) family in
    let hx : IsState t x source = record { reached = Means-keeps s t r source.reached gs gt a.spends.keeps mr; latches = Zip-keep s t ls source.latches gs gt a.spends.keeps zip } in
    let fault = c.in_err-made.field-0.0 in
    pass work (IsEdgeFound net x sets) (IsWithEdge net edge x sets f h e) s t u fault c.from_residual-in_err-made.result gt gu so1
    (Built-wider work (edge_work net edge x sets) (IsEdgeFound net x sets) t u (Err fault) (edge_in net edge x sets f h e) (c.in_err-made.ensures.found r ls sets hx.reached hx.latches here)) c.from_residual-in_err-made.ensures.1

pub returns-in_err-sets : goal.returns-in_err-sets
returns-in_err-sets g c = λ r ls sets f h e mr zip family sums.
    let s : Store = g.N.Nodes.store c.args.nodes.now in
    let t : Store = g.N.Nodes.store c.asked_on.new.nodes in
    let gs = g.met.N.Nodes.diagram c.args.nodes.now in
    let gt = g.met.N.Nodes.diagram c.asked_on.new.nodes in
    let net : RawNet = c.args.net.now.raw in
    let edge : Edge = c.args.edge.now in
    let source : State = c.args.source.now in
    let u : Store = g.N.Nodes.store c.edge_found.new.nodes in
    let gu = g.met.N.Nodes.diagram c.edge_found.new.nodes in
    let x : SymbolicState = state_of r ls in
    let work : List Function = with_edge_work net edge x sets f h e in
    let wanted : Vec Cut Global = c.in_ok-wanted.wanted in
    let a : Built (asked_work edge) (AreAsked edge) s t (Ok wanted) = c.in_ok-wanted.ensures in
    let settled : IsSettled net = settled_by_order net c.args.net.now.settled c.args.net.now.in_order in
    let so1 = first work (AreAsked edge) s t (Ok wanted) (Built-wider work (asked_work edge) (AreAsked edge) s t (Ok wanted) (asked_in net edge x sets f h e) a) in
    let here = subst (λ v. ArePossibleEach v net ls (symbolic_asked_on edge) sets) (sym a.spends.keeps.vars) family in
    let hx : IsState t x source = record { reached = Means-keeps s t r source.reached gs gt a.spends.keeps mr; latches = Zip-keep s t ls source.latches gs gt a.spends.keeps zip } in
    let given : EdgeFound = c.in_ok-made.made in
    let b : Built work (IsEdgeFound net x sets) t u (Ok given) = Built-wider work (edge_work net edge x sets) (IsEdgeFound net x sets) t u (Ok given) (edge_in net edge x sets f h e) (c.in_ok-made.ensures.found r ls sets hx.reached hx.latches here) in
    let so2 = more work (IsEdgeFound net x sets) s t u (Ok given) gt gu so1 b in
    lost work (IsWithEdge net edge x sets f h e) s u c.from_residual-in_err-sets.result
    so2 c.from_residual-in_err-sets.ensures.1

pub returns-then-ne : goal.returns-then-ne
returns-then-ne g c = λ r ls sets f h e mr zip family sums.
    let s : Store = g.N.Nodes.store c.args.nodes.now in
    let t : Store = g.N.Nodes.store c.asked_on.new.nodes in
    let gs = g.met.N.Nodes.diagram c.args.nodes.now in
    let gt = g.met.N.Nodes.diagram c.asked_on.new.nodes in
    let net : RawNet = c.args.net.now.raw in
    let edge : Edge = c.args.edge.now in
    let source : State = c.args.source.now in
    let x : SymbolicState = state_of r ls in
    let work : List Function = with_edge_work net edge x sets f h e in
    let wanted : Vec Cut Global = c.in_ok-wanted.wanted in
    let a : Built (asked_work edge) (AreAsked edge) s t (Ok wanted) = c.in_ok-wanted.ensures in
    let settled : IsSettled net = settled_by_order net c.args.net.now.settled c.args.net.now.in_order in
    let so1 = first work (AreAsked edge) s t (Ok wanted) (Built-wider work (asked_work edge) (AreAsked edge) s t (Ok wanted) (asked_in net edge x sets f h e) a) in
    let here = subst (λ v. ArePossibleEach v net ls (symbolic_asked_on edge) sets) (sym a.spends.keeps.vars) family in
    let hx : IsState t x source = record { reached = Means-keeps s t r source.reached gs gt a.spends.keeps mr; latches = Zip-keep s t ls source.latches gs gt a.spends.keeps zip } in
    let v : Store = g.N.Nodes.store c.with_found.new.nodes in
    let gv = g.met.N.Nodes.diagram c.with_found.new.nodes in
    let p : IsSeenFrom t net edge source c.args.seen.now = Seen-keeps s t net edge source c.args.seen.now gs gt a.spends.keeps (c.requires.seen (not_zero source.reached.0 c.ne.result c.ne.ensures c.if-ne.true)) in
    let q : IsGivenFrom t net edge source c.args.given.now = From-keeps s t net edge source c.args.given.now gs gt a.spends.keeps c.requires.given in
    let z : Function = feasible_where net x sets in
    let ds : List SymbolicCut = symbolic_binds edge.con in
    let zr : AllZip (λ d r. AreRails t (sets d.node) r) ds c.args.seen.now = wanted_zip t net sets edge.con c.args.seen.now c.requires.wanted (seen_stays t net edge source c.args.seen.now settled p x sets hx here) in
    let asks : AllZip (IsCutBy t) ds c.as_slice-cuts.result.now = subst (λ (xs : List Cut). AllZip (IsCutBy t) ds xs) (sym {A = List Cut} c.as_slice-cuts.ensures.value) a.ok.wanted in
    let d : Built (with_found_work sets ds z f h e) (AreFoundWith net edge x sets f h e) t v c.with_found.result = c.with_found.ensures sets ds z f h e zr asks (given_stays t net edge source c.args.given.now settled q x sets hx here).reached
    (record { strong = Means-keeps s t f c.args.found.strong gs gt a.spends.keeps sums.strong; weak = Means-keeps s t h c.args.found.weak gs gt a.spends.keeps sums.weak; feasible = Means-keeps s t e c.args.found.feasible gs gt a.spends.keeps sums.feasible }) in
    edge_done net edge x sets f h e s t v wanted.items c.with_found.result gt gv so1 a.ok.wanted a.ok.given (nets_stay t net edge source c.args.seen.now settled p x sets hx here) d

pub returns : goal.returns
returns g c = λ r ls sets f h e mr zip family sums.
    let s : Store = g.N.Nodes.store c.args.nodes.now in
    let t : Store = g.N.Nodes.store c.asked_on.new.nodes in
    let gs = g.met.N.Nodes.diagram c.args.nodes.now in
    let gt = g.met.N.Nodes.diagram c.asked_on.new.nodes in
    let net : RawNet = c.args.net.now.raw in
    let edge : Edge = c.args.edge.now in
    let source : State = c.args.source.now in
    let u : Store = g.N.Nodes.store c.edge_found.new.nodes in
    let gu = g.met.N.Nodes.diagram c.edge_found.new.nodes in
    let x : SymbolicState = state_of r ls in
    let work : List Function = with_edge_work net edge x sets f h e in
    let wanted : Vec Cut Global = c.in_ok-wanted.wanted in
    let a : Built (asked_work edge) (AreAsked edge) s t (Ok wanted) = c.in_ok-wanted.ensures in
    let settled : IsSettled net = settled_by_order net c.args.net.now.settled c.args.net.now.in_order in
    let so1 = first work (AreAsked edge) s t (Ok wanted) (Built-wider work (asked_work edge) (AreAsked edge) s t (Ok wanted) (asked_in net edge x sets f h e) a) in
    let here = subst (λ v. ArePossibleEach v net ls (symbolic_asked_on edge) sets) (sym a.spends.keeps.vars) family in
    let hx : IsState t x source = record { reached = Means-keeps s t r source.reached gs gt a.spends.keeps mr; latches = Zip-keep s t ls source.latches gs gt a.spends.keeps zip } in
    let given : EdgeFound = c.in_ok-made.made in
    let b : Built work (IsEdgeFound net x sets) t u (Ok given) = Built-wider work (edge_work net edge x sets) (IsEdgeFound net x sets) t u (Ok given) (edge_in net edge x sets f h e) (c.in_ok-made.ensures.found r ls sets hx.reached hx.latches here) in
    let so2 = more work (IsEdgeFound net x sets) s t u (Ok given) gt gu so1 b in
    let v : Store = g.N.Nodes.store c.with_found-2.new.nodes in
    let gv = g.met.N.Nodes.diagram c.with_found-2.new.nodes in
    let result = c.with_found-2.result in
    let z : Function = feasible_where net x sets in
    let ds : List SymbolicCut = symbolic_binds edge.con in
    let zs : AreSeenBy u net sets edge.con (map (rails_of (nets_of given.frame)) edge.con) = seen_zip u net sets (nets_of given.frame) b.ok.nets edge.con in
    let seen_is : map (rails_of (nets_of given.frame)) edge.con ≡ c.as_slice-2.result.now = seen_are (nets_of given.frame) edge.con c.as_slice.result.now c.in_ok-sets.sets c.as_slice-2.result.now c.as_slice-2.ensures c.in_ok-sets.ensures c.as_slice.ensures in
    let zr : AllZip (λ d r. AreRails u (sets d.node) r) ds c.as_slice-2.result.now = subst (λ (xs : List Rails). AllZip (λ d r. AreRails u (sets d.node) r) ds xs) seen_is (wanted_zip u net sets edge.con (map (rails_of (nets_of given.frame)) edge.con) c.requires.wanted zs) in
    let asks : AllZip (IsCutBy u) ds wanted.items = Cuts-keep t u ds wanted.items gt gu b.spends.keeps a.ok.wanted in
    let d : Built (with_found_work sets ds z f h e) (AreFoundWith net edge x sets f h e) u v result =
    c.with_found-2.ensures sets ds z f h e zr (subst (λ (xs : List Cut). AllZip (IsCutBy u) ds xs) (sym {A = List Cut} c.as_slice-cuts.ensures.value) asks) b.ok.feasible
    (record { strong = Means-keeps s u f c.args.found.strong gs gu so2.keeps sums.strong; weak = Means-keeps s u h c.args.found.weak gs gu so2.keeps sums.weak; feasible = Means-keeps s u e c.args.found.feasible gs gu so2.keeps sums.feasible }) in
    edge_done net edge x sets f h e s u v wanted.items result gu gv so2 asks (Refs-held t u (bind_functions edge.ant) gt gu b.spends.keeps a.ok.given) (λ id lt. (rails_at (nets_of given.frame) id, b.ok.nets id lt)) d

pub with_found-requires-clause-seen : goal.with_found-requires-clause-seen
with_found-requires-clause-seen g c =
    let s : Store = g.N.Nodes.store c.args.nodes.now in
    let t : Store = g.N.Nodes.store c.asked_on.new.nodes in
    let gs = g.met.N.Nodes.diagram c.args.nodes.now in
    let gt = g.met.N.Nodes.diagram c.asked_on.new.nodes in
    let net : RawNet = c.args.net.now.raw in
    let edge : Edge = c.args.edge.now in
    let source : State = c.args.source.now in
    let wanted : Vec Cut Global = c.in_ok-wanted.wanted in
    let a : Built (asked_work edge) (AreAsked edge) s t (Ok wanted) = c.in_ok-wanted.ensures in
    let settled : IsSettled net = settled_by_order net c.args.net.now.settled c.args.net.now.in_order in
    let p : IsSeenFrom t net edge source c.args.seen.now = Seen-keeps s t net edge source c.args.seen.now gs gt a.spends.keeps (c.requires.seen (not_zero source.reached.0 c.ne.result c.ne.ensures c.if-ne.true)) in
    wanted_refs t net p.sets edge.con c.args.seen.now c.requires.wanted p.seen

pub with_found-requires-clause-long : goal.with_found-requires-clause-long
with_found-requires-clause-long g c =
    let s : Store = g.N.Nodes.store c.args.nodes.now in
    let t : Store = g.N.Nodes.store c.asked_on.new.nodes in
    let gs = g.met.N.Nodes.diagram c.args.nodes.now in
    let gt = g.met.N.Nodes.diagram c.asked_on.new.nodes in
    let net : RawNet = c.args.net.now.raw in
    let edge : Edge = c.args.edge.now in
    let source : State = c.args.source.now in
    let wanted : Vec Cut Global = c.in_ok-wanted.wanted in
    let a : Built (asked_work edge) (AreAsked edge) s t (Ok wanted) = c.in_ok-wanted.ensures in
    let settled : IsSettled net = settled_by_order net c.args.net.now.settled c.args.net.now.in_order in
    let p : IsSeenFrom t net edge source c.args.seen.now = Seen-keeps s t net edge source c.args.seen.now gs gt a.spends.keeps (c.requires.seen (not_zero source.reached.0 c.ne.result c.ne.ensures c.if-ne.true)) in
    let n = zip_long (λ (d : SymbolicCut) (r : Rails). AreRails t (p.sets d.node) r) (symbolic_binds edge.con) c.args.seen.now (wanted_zip t net p.sets edge.con c.args.seen.now c.requires.wanted p.seen) in
    let m = demands_long t (symbolic_binds edge.con) wanted.items a.ok.wanted in
    sym n ∙ m ∙ ap (λ (xs : List Cut). length xs) (sym {A = List Cut} c.as_slice-cuts.ensures.value)

pub with_found-requires-clause-guards : goal.with_found-requires-clause-guards
with_found-requires-clause-guards g c =
    let s : Store = g.N.Nodes.store c.args.nodes.now in
    let t : Store = g.N.Nodes.store c.asked_on.new.nodes in
    let gs = g.met.N.Nodes.diagram c.args.nodes.now in
    let gt = g.met.N.Nodes.diagram c.asked_on.new.nodes in
    let net : RawNet = c.args.net.now.raw in
    let edge : Edge = c.args.edge.now in
    let source : State = c.args.source.now in
    let wanted : Vec Cut Global = c.in_ok-wanted.wanted in
    let a : Built (asked_work edge) (AreAsked edge) s t (Ok wanted) = c.in_ok-wanted.ensures in
    let settled : IsSettled net = settled_by_order net c.args.net.now.settled c.args.net.now.in_order in
    let are : All (IsCutOf t net) c.as_slice-cuts.result.now = subst (λ (xs : List Cut). All (IsCutOf t net) xs) (sym {A = List Cut} c.as_slice-cuts.ensures.value) (cuts_of_net t net edge.con wanted.items a.ok.wanted c.requires.wanted) in
    cuts_guards t net c.as_slice-cuts.result.now are

pub with_found-requires-clause-values : goal.with_found-requires-clause-values
with_found-requires-clause-values g c =
    let s : Store = g.N.Nodes.store c.args.nodes.now in
    let t : Store = g.N.Nodes.store c.asked_on.new.nodes in
    let gs = g.met.N.Nodes.diagram c.args.nodes.now in
    let gt = g.met.N.Nodes.diagram c.asked_on.new.nodes in
    let net : RawNet = c.args.net.now.raw in
    let edge : Edge = c.args.edge.now in
    let source : State = c.args.source.now in
    let wanted : Vec Cut Global = c.in_ok-wanted.wanted in
    let a : Built (asked_work edge) (AreAsked edge) s t (Ok wanted) = c.in_ok-wanted.ensures in
    let settled : IsSettled net = settled_by_order net c.args.net.now.settled c.args.net.now.in_order in
    let are : All (IsCutOf t net) c.as_slice-cuts.result.now = subst (λ (xs : List Cut). All (IsCutOf t net) xs) (sym {A = List Cut} c.as_slice-cuts.ensures.value) (cuts_of_net t net edge.con wanted.items a.ok.wanted c.requires.wanted) in
    cuts_values t net c.as_slice-cuts.result.now are

pub with_found-requires-clause-gate : goal.with_found-requires-clause-gate
with_found-requires-clause-gate g c =
    let s : Store = g.N.Nodes.store c.args.nodes.now in
    let t : Store = g.N.Nodes.store c.asked_on.new.nodes in
    let gs = g.met.N.Nodes.diagram c.args.nodes.now in
    let gt = g.met.N.Nodes.diagram c.asked_on.new.nodes in
    let net : RawNet = c.args.net.now.raw in
    let edge : Edge = c.args.edge.now in
    let source : State = c.args.source.now in
    let wanted : Vec Cut Global = c.in_ok-wanted.wanted in
    let a : Built (asked_work edge) (AreAsked edge) s t (Ok wanted) = c.in_ok-wanted.ensures in
    let settled : IsSettled net = settled_by_order net c.args.net.now.settled c.args.net.now.in_order in
    let q : IsGivenFrom t net edge source c.args.given.now = From-keeps s t net edge source c.args.given.now gs gt a.spends.keeps c.requires.given in
    q.is_given.reached.ref

pub with_found-requires-clause-found : goal.with_found-requires-clause-found
with_found-requires-clause-found g c =
    let s : Store = g.N.Nodes.store c.args.nodes.now in
    let t : Store = g.N.Nodes.store c.asked_on.new.nodes in
    let gs = g.met.N.Nodes.diagram c.args.nodes.now in
    let gt = g.met.N.Nodes.diagram c.asked_on.new.nodes in
    let net : RawNet = c.args.net.now.raw in
    let edge : Edge = c.args.edge.now in
    let source : State = c.args.source.now in
    let wanted : Vec Cut Global = c.in_ok-wanted.wanted in
    let a : Built (asked_work edge) (AreAsked edge) s t (Ok wanted) = c.in_ok-wanted.ensures in
    let settled : IsSettled net = settled_by_order net c.args.net.now.settled c.args.net.now.in_order in
    let keeps = a.spends.keeps in
    record {
      strong = IsFrom-grows s.held t.held 0 c.args.found.strong keeps.grows c.requires.found.strong;
      weak = IsFrom-grows s.held t.held 0 c.args.found.weak keeps.grows c.requires.found.weak;
      feasible = IsFrom-grows s.held t.held 0 c.args.found.feasible keeps.grows c.requires.found.feasible;
    }

pub with_found-requires-2-clause-seen : goal.with_found-requires-2-clause-seen
with_found-requires-2-clause-seen g c =
    let s : Store = g.N.Nodes.store c.args.nodes.now in
    let t : Store = g.N.Nodes.store c.asked_on.new.nodes in
    let gs = g.met.N.Nodes.diagram c.args.nodes.now in
    let gt = g.met.N.Nodes.diagram c.asked_on.new.nodes in
    let net : RawNet = c.args.net.now.raw in
    let edge : Edge = c.args.edge.now in
    let source : State = c.args.source.now in
    let u : Store = g.N.Nodes.store c.edge_found.new.nodes in
    let gu = g.met.N.Nodes.diagram c.edge_found.new.nodes in
    let wanted : Vec Cut Global = c.in_ok-wanted.wanted in
    let a : Built (asked_work edge) (AreAsked edge) s t (Ok wanted) = c.in_ok-wanted.ensures in
    let settled : IsSettled net = settled_by_order net c.args.net.now.settled c.args.net.now.in_order in
    let given : EdgeFound = c.in_ok-made.made in
    let mine = edge_left t u net edge source (Ok given) settled (StateRefs-keep s t net source a.spends.keeps c.requires.source) c.in_ok-made.ensures.found in
    let x = mine.0 in
    let sets = mine.1 in
    let b : Built (edge_work net edge x sets) (IsEdgeFound net x sets) t u (Ok given) = mine.2 in
    let zs : AreSeenBy u net sets edge.con (map (rails_of (nets_of given.frame)) edge.con) = seen_zip u net sets (nets_of given.frame) b.ok.nets edge.con in
    let seen_is : map (rails_of (nets_of given.frame)) edge.con ≡ c.as_slice-2.result.now = seen_are (nets_of given.frame) edge.con c.as_slice.result.now c.in_ok-sets.sets c.as_slice-2.result.now c.as_slice-2.ensures c.in_ok-sets.ensures c.as_slice.ensures in
    subst (λ (xs : List Rails). All (AreRefs u) xs) seen_is (wanted_refs u net sets edge.con (map (rails_of (nets_of given.frame)) edge.con) c.requires.wanted zs)

pub with_found-requires-2-clause-long : goal.with_found-requires-2-clause-long
with_found-requires-2-clause-long g c =
    let s : Store = g.N.Nodes.store c.args.nodes.now in
    let t : Store = g.N.Nodes.store c.asked_on.new.nodes in
    let gs = g.met.N.Nodes.diagram c.args.nodes.now in
    let gt = g.met.N.Nodes.diagram c.asked_on.new.nodes in
    let net : RawNet = c.args.net.now.raw in
    let edge : Edge = c.args.edge.now in
    let source : State = c.args.source.now in
    let u : Store = g.N.Nodes.store c.edge_found.new.nodes in
    let gu = g.met.N.Nodes.diagram c.edge_found.new.nodes in
    let wanted : Vec Cut Global = c.in_ok-wanted.wanted in
    let a : Built (asked_work edge) (AreAsked edge) s t (Ok wanted) = c.in_ok-wanted.ensures in
    let settled : IsSettled net = settled_by_order net c.args.net.now.settled c.args.net.now.in_order in
    let given : EdgeFound = c.in_ok-made.made in
    let mine = edge_left t u net edge source (Ok given) settled (StateRefs-keep s t net source a.spends.keeps c.requires.source) c.in_ok-made.ensures.found in
    let x = mine.0 in
    let sets = mine.1 in
    let b : Built (edge_work net edge x sets) (IsEdgeFound net x sets) t u (Ok given) = mine.2 in
    let zs : AreSeenBy u net sets edge.con (map (rails_of (nets_of given.frame)) edge.con) = seen_zip u net sets (nets_of given.frame) b.ok.nets edge.con in
    let seen_is : map (rails_of (nets_of given.frame)) edge.con ≡ c.as_slice-2.result.now = seen_are (nets_of given.frame) edge.con c.as_slice.result.now c.in_ok-sets.sets c.as_slice-2.result.now c.as_slice-2.ensures c.in_ok-sets.ensures c.as_slice.ensures in
    let n = zip_long (λ (d : SymbolicCut) (r : Rails). AreRails u (sets d.node) r) (symbolic_binds edge.con) (map (rails_of (nets_of given.frame)) edge.con) (wanted_zip u net sets edge.con (map (rails_of (nets_of given.frame)) edge.con) c.requires.wanted zs) in
    let m = demands_long t (symbolic_binds edge.con) wanted.items a.ok.wanted in
    ap (λ (xs : List Rails). length xs) (sym seen_is) ∙ sym n ∙ m ∙ ap (λ (xs : List Cut). length xs) (sym {A = List Cut} c.as_slice-cuts.ensures.value)

pub with_found-requires-2-clause-guards : goal.with_found-requires-2-clause-guards
with_found-requires-2-clause-guards g c =
    let s : Store = g.N.Nodes.store c.args.nodes.now in
    let t : Store = g.N.Nodes.store c.asked_on.new.nodes in
    let gs = g.met.N.Nodes.diagram c.args.nodes.now in
    let gt = g.met.N.Nodes.diagram c.asked_on.new.nodes in
    let net : RawNet = c.args.net.now.raw in
    let edge : Edge = c.args.edge.now in
    let source : State = c.args.source.now in
    let u : Store = g.N.Nodes.store c.edge_found.new.nodes in
    let gu = g.met.N.Nodes.diagram c.edge_found.new.nodes in
    let wanted : Vec Cut Global = c.in_ok-wanted.wanted in
    let a : Built (asked_work edge) (AreAsked edge) s t (Ok wanted) = c.in_ok-wanted.ensures in
    let settled : IsSettled net = settled_by_order net c.args.net.now.settled c.args.net.now.in_order in
    let given : EdgeFound = c.in_ok-made.made in
    let mine = edge_left t u net edge source (Ok given) settled (StateRefs-keep s t net source a.spends.keeps c.requires.source) c.in_ok-made.ensures.found in
    let x = mine.0 in
    let sets = mine.1 in
    let b : Built (edge_work net edge x sets) (IsEdgeFound net x sets) t u (Ok given) = mine.2 in
    let asks : AllZip (IsCutBy u) (symbolic_binds edge.con) wanted.items = Cuts-keep t u (symbolic_binds edge.con) wanted.items gt gu b.spends.keeps a.ok.wanted in
    let are : All (IsCutOf u net) c.as_slice-cuts.result.now = subst (λ (xs : List Cut). All (IsCutOf u net) xs) (sym {A = List Cut} c.as_slice-cuts.ensures.value) (cuts_of_net u net edge.con wanted.items asks c.requires.wanted) in
    cuts_guards u net c.as_slice-cuts.result.now are

pub with_found-requires-2-clause-values : goal.with_found-requires-2-clause-values
with_found-requires-2-clause-values g c =
    let s : Store = g.N.Nodes.store c.args.nodes.now in
    let t : Store = g.N.Nodes.store c.asked_on.new.nodes in
    let gs = g.met.N.Nodes.diagram c.args.nodes.now in
    let gt = g.met.N.Nodes.diagram c.asked_on.new.nodes in
    let net : RawNet = c.args.net.now.raw in
    let edge : Edge = c.args.edge.now in
    let source : State = c.args.source.now in
    let u : Store = g.N.Nodes.store c.edge_found.new.nodes in
    let gu = g.met.N.Nodes.diagram c.edge_found.new.nodes in
    let wanted : Vec Cut Global = c.in_ok-wanted.wanted in
    let a : Built (asked_work edge) (AreAsked edge) s t (Ok wanted) = c.in_ok-wanted.ensures in
    let settled : IsSettled net = settled_by_order net c.args.net.now.settled c.args.net.now.in_order in
    let given : EdgeFound = c.in_ok-made.made in
    let mine = edge_left t u net edge source (Ok given) settled (StateRefs-keep s t net source a.spends.keeps c.requires.source) c.in_ok-made.ensures.found in
    let x = mine.0 in
    let sets = mine.1 in
    let b : Built (edge_work net edge x sets) (IsEdgeFound net x sets) t u (Ok given) = mine.2 in
    let asks : AllZip (IsCutBy u) (symbolic_binds edge.con) wanted.items = Cuts-keep t u (symbolic_binds edge.con) wanted.items gt gu b.spends.keeps a.ok.wanted in
    let are : All (IsCutOf u net) c.as_slice-cuts.result.now = subst (λ (xs : List Cut). All (IsCutOf u net) xs) (sym {A = List Cut} c.as_slice-cuts.ensures.value) (cuts_of_net u net edge.con wanted.items asks c.requires.wanted) in
    cuts_values u net c.as_slice-cuts.result.now are

pub with_found-requires-2-clause-gate : goal.with_found-requires-2-clause-gate
with_found-requires-2-clause-gate g c =
    let s : Store = g.N.Nodes.store c.args.nodes.now in
    let t : Store = g.N.Nodes.store c.asked_on.new.nodes in
    let gs = g.met.N.Nodes.diagram c.args.nodes.now in
    let gt = g.met.N.Nodes.diagram c.asked_on.new.nodes in
    let net : RawNet = c.args.net.now.raw in
    let edge : Edge = c.args.edge.now in
    let source : State = c.args.source.now in
    let u : Store = g.N.Nodes.store c.edge_found.new.nodes in
    let gu = g.met.N.Nodes.diagram c.edge_found.new.nodes in
    let wanted : Vec Cut Global = c.in_ok-wanted.wanted in
    let a : Built (asked_work edge) (AreAsked edge) s t (Ok wanted) = c.in_ok-wanted.ensures in
    let settled : IsSettled net = settled_by_order net c.args.net.now.settled c.args.net.now.in_order in
    let given : EdgeFound = c.in_ok-made.made in
    let mine = edge_left t u net edge source (Ok given) settled (StateRefs-keep s t net source a.spends.keeps c.requires.source) c.in_ok-made.ensures.found in
    let x = mine.0 in
    let sets = mine.1 in
    let b : Built (edge_work net edge x sets) (IsEdgeFound net x sets) t u (Ok given) = mine.2 in
    b.ok.feasible.ref

pub with_found-requires-2-clause-found : goal.with_found-requires-2-clause-found
with_found-requires-2-clause-found g c =
    let s : Store = g.N.Nodes.store c.args.nodes.now in
    let t : Store = g.N.Nodes.store c.asked_on.new.nodes in
    let gs = g.met.N.Nodes.diagram c.args.nodes.now in
    let gt = g.met.N.Nodes.diagram c.asked_on.new.nodes in
    let net : RawNet = c.args.net.now.raw in
    let edge : Edge = c.args.edge.now in
    let source : State = c.args.source.now in
    let u : Store = g.N.Nodes.store c.edge_found.new.nodes in
    let gu = g.met.N.Nodes.diagram c.edge_found.new.nodes in
    let wanted : Vec Cut Global = c.in_ok-wanted.wanted in
    let a : Built (asked_work edge) (AreAsked edge) s t (Ok wanted) = c.in_ok-wanted.ensures in
    let settled : IsSettled net = settled_by_order net c.args.net.now.settled c.args.net.now.in_order in
    let given : EdgeFound = c.in_ok-made.made in
    let mine = edge_left t u net edge source (Ok given) settled (StateRefs-keep s t net source a.spends.keeps c.requires.source) c.in_ok-made.ensures.found in
    let x = mine.0 in
    let sets = mine.1 in
    let b : Built (edge_work net edge x sets) (IsEdgeFound net x sets) t u (Ok given) = mine.2 in
    let keeps = Keeps-trans s t u a.spends.keeps b.spends.keeps in
    record {
      strong = IsFrom-grows s.held u.held 0 c.args.found.strong keeps.grows c.requires.found.strong;
      weak = IsFrom-grows s.held u.held 0 c.args.found.weak keeps.grows c.requires.found.weak;
      feasible = IsFrom-grows s.held u.held 0 c.args.found.feasible keeps.grows c.requires.found.feasible;
    }

pub edge_found-requires-clause-source : goal.edge_found-requires-clause-source
edge_found-requires-clause-source g c =
    StateRefs-keep (g.N.Nodes.store c.args.nodes.now) (g.N.Nodes.store c.asked_on.new.nodes) c.args.net.now.raw c.args.source.now c.asked_on.ensures.spends.keeps c.requires.source
