use Rattle.std.proofs.Common.{ℕ, List, ap, sym, subst, All, Ok, Err, Vec, Global}
use Rattle.std.specs.List.{AllZip}
use Rattle.ste_base.specs.Functions.{Function}
use Rattle.dd_nodes.specs.Stores.{Store}
use Rattle.dd_nodes.proofs.Stores.{Keeps-trans, Means-keeps}
use Rattle.dd_nodes.proofs.Walks.{IsFrom-grows}
use Rattle.net_core.specs.declared.raw.RawNet.{RawNet}
use Rattle.net_core.specs.Run.{IsSettled}
use Rattle.net_core.specs.Work.{ArePossibleEach, SymbolicSet, time_work}
use Rattle.net_core.proofs.Ordered.{settled_by_order}
use Rattle.ste_model.specs.declared.task.Bind.{Bind}
use Rattle.ste_model.specs.declared.task.Edge.{Edge}
use Rattle.ste_model.specs.GraphWork.{SymbolicState, binds_work, edge_work, symbolic_asked_on, symbolic_binds}
use Rattle.dd_nodes.specs.declared.node.Ref.{Ref}
use Rattle.dual_rail.specs.declared.rails.Rails.{Rails}
use Rattle.dual_rail.specs.Rail.{AreRails, Built}
use Rattle.dual_rail.proofs.Turns.{Zip-keep}
use Rattle.dual_rail.proofs.Works.{Built-wider, So-start, first, last, lost, more, pass}
use Rattle.sym_step.specs.declared.cut.Cut.{Cut}
use Rattle.sym_step.specs.declared.frame.Frame.{Frame}
use Rattle.sym_step.specs.Step.{IsCutBy, IsCutOf, IsStep, ids_of}
use Rattle.sym_step.specs.Frame.{IsFrame, step_of}
use Rattle.sym_step.proofs.Framing.{frame_keeps}
use Rattle.sym_step.proofs.Whole.{sets_exist}
use Rattle.gste_engine.specs.declared.edge.EdgeFound.{EdgeFound}
use Rattle.gste_engine.specs.declared.state.State.{State}
use Rattle.gste_engine.specs.Tables.{AreStateRefs, IsEdgeFound, IsState}
use Rattle.gste_engine.specs.private.Given.{given_work}
use Rattle.gste_engine.proofs.CutLists.{cuts_of_net}
use Rattle.gste_engine.proofs.EdgeParts.{binds_in, given_in, time_in}
use Rattle.gste_engine.proofs.StateRefs.{StateRefs-keep, own_is, own_long, own_state}
use Rattle.gste_engine.proofs.edge.edge_found.Goals as goal

abbrev AreCuts : List Bind → Store → Vec Cut Global → Type 0
AreCuts binds t cuts = AllZip (IsCutBy t) (symbolic_binds binds) cuts.items

abbrev state_of : Function → List SymbolicSet → SymbolicState
state_of r ls = record { reached = r; latches = ls }

abbrev HasStep : RawNet → (ℕ → SymbolicSet) → Frame → Store → Ref → Type 0
HasStep net sets frame t r = IsStep net sets t (step_of net frame r)

pub returns-in_err-cuts-clause-found : goal.returns-in_err-cuts-clause-found
returns-in_err-cuts-clause-found g c = λ r ls sets mr zip family.
    let s : Store = g.N.Nodes.store c.args.nodes.now in
    let t : Store = g.N.Nodes.store c.cuts_of.new.nodes in
    let gs = g.met.N.Nodes.diagram c.args.nodes.now in
    let gt = g.met.N.Nodes.diagram c.cuts_of.new.nodes in
    let net = c.args.net.now in
    let edge : Edge = c.args.edge.now in
    let source : State = c.args.source.now in
    let work : List Function = edge_work net.raw edge (state_of r ls) sets in
    let fault = c.in_err-cuts.field-0.0 in
    let a : Built (binds_work edge.ant) (AreCuts edge.ant) s t (Err fault) = subst (λ (xs : List Bind). Built (binds_work xs) (AreCuts xs) s t (Err fault)) c.as_slice.ensures c.in_err-cuts.ensures in
    pass work (AreCuts edge.ant) (IsEdgeFound net.raw (state_of r ls) sets) s s t fault c.from_residual.result gs gt (So-start work s)
    (Built-wider work (binds_work edge.ant) (AreCuts edge.ant) s t (Err fault) (binds_in net.raw (state_of r ls) sets edge) a) c.from_residual.ensures.1

pub returns-in_err-begun-clause-found : goal.returns-in_err-begun-clause-found
returns-in_err-begun-clause-found g c = λ r ls sets mr zip family.
    let s : Store = g.N.Nodes.store c.args.nodes.now in
    let t : Store = g.N.Nodes.store c.cuts_of.new.nodes in
    let gs = g.met.N.Nodes.diagram c.args.nodes.now in
    let gt = g.met.N.Nodes.diagram c.cuts_of.new.nodes in
    let net = c.args.net.now in
    let edge : Edge = c.args.edge.now in
    let source : State = c.args.source.now in
    let cuts : Vec Cut Global = c.in_ok-cuts.cuts in
    let a : Built (binds_work edge.ant) (AreCuts edge.ant) s t (Ok cuts) = subst (λ (xs : List Bind). Built (binds_work xs) (AreCuts xs) s t (Ok cuts)) c.as_slice.ensures c.in_ok-cuts.ensures in
    let work : List Function = edge_work net.raw edge (state_of r ls) sets in
    let so1 = first work (AreCuts edge.ant) s t (Ok cuts) (Built-wider work (binds_work edge.ant) (AreCuts edge.ant) s t (Ok cuts) (binds_in net.raw (state_of r ls) sets edge) a) in
    lost work (IsEdgeFound net.raw (state_of r ls) sets) s t c.from_residual-in_err-begun.result so1 c.from_residual-in_err-begun.ensures.1

pub returns-in_err-empty-clause-found : goal.returns-in_err-empty-clause-found
returns-in_err-empty-clause-found g c = λ r ls sets mr zip family.
    let s : Store = g.N.Nodes.store c.args.nodes.now in
    let t : Store = g.N.Nodes.store c.cuts_of.new.nodes in
    let gs = g.met.N.Nodes.diagram c.args.nodes.now in
    let gt = g.met.N.Nodes.diagram c.cuts_of.new.nodes in
    let net = c.args.net.now in
    let edge : Edge = c.args.edge.now in
    let source : State = c.args.source.now in
    let cuts : Vec Cut Global = c.in_ok-cuts.cuts in
    let a : Built (binds_work edge.ant) (AreCuts edge.ant) s t (Ok cuts) = subst (λ (xs : List Bind). Built (binds_work xs) (AreCuts xs) s t (Ok cuts)) c.as_slice.ensures c.in_ok-cuts.ensures in
    let work : List Function = edge_work net.raw edge (state_of r ls) sets in
    let so1 = first work (AreCuts edge.ant) s t (Ok cuts) (Built-wider work (binds_work edge.ant) (AreCuts edge.ant) s t (Ok cuts) (binds_in net.raw (state_of r ls) sets edge) a) in
    let u : Store = g.N.Nodes.store c.renew.new.nodes in
    let gu = g.met.N.Nodes.diagram c.renew.new.nodes in
    let latches = subst (λ (xs : List Rails). AllZip (AreRails t) ls xs) (sym (c.in_ok-begun.ensures.next net.raw)) (Zip-keep s t ls source.latches gs gt a.spends.keeps zip) in
    let asks : AllZip (IsCutBy t) (symbolic_binds edge.ant) c.as_slice-3.result.now = subst (λ (xs : List Cut). AllZip (IsCutBy t) (symbolic_binds edge.ant) xs) (sym c.as_slice-3.ensures.value) a.ok in
    let here = subst (λ v. ArePossibleEach v net.raw ls (symbolic_asked_on edge) sets) (sym a.spends.keeps.vars) family in
    let time : List Function = time_work net.raw ls (symbolic_asked_on edge) sets in
    let Step : Store → Ref → Type 0 = HasStep net.raw sets c.renew.new.frame in
    let fault = c.in_err-empty.field-0.0 in
    pass work Step (IsEdgeFound net.raw (state_of r ls) sets) s t u fault c.from_residual-in_err-empty.result gt gu so1
    (Built-wider work time Step t u (Err fault) (time_in net.raw (state_of r ls) sets edge) (c.in_err-empty.ensures.built ls (symbolic_asked_on edge) sets latches asks (ap ids_of (sym c.as_slice-2.ensures)) here)) c.from_residual-in_err-empty.ensures.1

pub returns-in_err-found-clause-found : goal.returns-in_err-found-clause-found
returns-in_err-found-clause-found g c = λ r ls sets mr zip family.
    let s : Store = g.N.Nodes.store c.args.nodes.now in
    let t : Store = g.N.Nodes.store c.cuts_of.new.nodes in
    let gs = g.met.N.Nodes.diagram c.args.nodes.now in
    let gt = g.met.N.Nodes.diagram c.cuts_of.new.nodes in
    let net = c.args.net.now in
    let edge : Edge = c.args.edge.now in
    let source : State = c.args.source.now in
    let cuts : Vec Cut Global = c.in_ok-cuts.cuts in
    let a : Built (binds_work edge.ant) (AreCuts edge.ant) s t (Ok cuts) = subst (λ (xs : List Bind). Built (binds_work xs) (AreCuts xs) s t (Ok cuts)) c.as_slice.ensures c.in_ok-cuts.ensures in
    let work : List Function = edge_work net.raw edge (state_of r ls) sets in
    let so1 = first work (AreCuts edge.ant) s t (Ok cuts) (Built-wider work (binds_work edge.ant) (AreCuts edge.ant) s t (Ok cuts) (binds_in net.raw (state_of r ls) sets edge) a) in
    let u : Store = g.N.Nodes.store c.renew.new.nodes in
    let gu = g.met.N.Nodes.diagram c.renew.new.nodes in
    let latches = subst (λ (xs : List Rails). AllZip (AreRails t) ls xs) (sym (c.in_ok-begun.ensures.next net.raw)) (Zip-keep s t ls source.latches gs gt a.spends.keeps zip) in
    let asks : AllZip (IsCutBy t) (symbolic_binds edge.ant) c.as_slice-3.result.now = subst (λ (xs : List Cut). AllZip (IsCutBy t) (symbolic_binds edge.ant) xs) (sym c.as_slice-3.ensures.value) a.ok in
    let here = subst (λ v. ArePossibleEach v net.raw ls (symbolic_asked_on edge) sets) (sym a.spends.keeps.vars) family in
    let time : List Function = time_work net.raw ls (symbolic_asked_on edge) sets in
    let Step : Store → Ref → Type 0 = HasStep net.raw sets c.renew.new.frame in
    let empty : Ref = c.in_ok-empty.empty in
    let b : Built work Step t u (Ok empty) = Built-wider work time Step t u (Ok empty) (time_in net.raw (state_of r ls) sets edge) (c.in_ok-empty.ensures.built ls (symbolic_asked_on edge) sets latches asks (ap ids_of (sym c.as_slice-2.ensures)) here) in
    let so2 = more work Step s t u (Ok empty) gt gu so1 b in
    let v : Store = g.N.Nodes.store c.found_from_frame.new.nodes in
    let gv = g.met.N.Nodes.diagram c.found_from_frame.new.nodes in
    let fault = c.in_err-found.field-0.0 in
    pass work (IsEdgeFound net.raw (state_of r ls) sets) (IsEdgeFound net.raw (state_of r ls) sets) s u v fault c.from_residual-in_err-found.result gu gv so2
    (Built-wider work (given_work net.raw (state_of r ls) sets) (IsEdgeFound net.raw (state_of r ls) sets) u v (Err fault) (given_in net.raw (state_of r ls) sets edge)
    (c.in_err-found.ensures.found (state_of r ls) sets (Means-keeps s u r source.reached gs gu so2.keeps mr) b.ok)) c.from_residual-in_err-found.ensures.1

pub returns-clause-found : goal.returns-clause-found
returns-clause-found g c = λ r ls sets mr zip family.
    let s : Store = g.N.Nodes.store c.args.nodes.now in
    let t : Store = g.N.Nodes.store c.cuts_of.new.nodes in
    let gs = g.met.N.Nodes.diagram c.args.nodes.now in
    let gt = g.met.N.Nodes.diagram c.cuts_of.new.nodes in
    let net = c.args.net.now in
    let edge : Edge = c.args.edge.now in
    let source : State = c.args.source.now in
    let cuts : Vec Cut Global = c.in_ok-cuts.cuts in
    let a : Built (binds_work edge.ant) (AreCuts edge.ant) s t (Ok cuts) = subst (λ (xs : List Bind). Built (binds_work xs) (AreCuts xs) s t (Ok cuts)) c.as_slice.ensures c.in_ok-cuts.ensures in
    let work : List Function = edge_work net.raw edge (state_of r ls) sets in
    let so1 = first work (AreCuts edge.ant) s t (Ok cuts) (Built-wider work (binds_work edge.ant) (AreCuts edge.ant) s t (Ok cuts) (binds_in net.raw (state_of r ls) sets edge) a) in
    let u : Store = g.N.Nodes.store c.renew.new.nodes in
    let gu = g.met.N.Nodes.diagram c.renew.new.nodes in
    let latches = subst (λ (xs : List Rails). AllZip (AreRails t) ls xs) (sym (c.in_ok-begun.ensures.next net.raw)) (Zip-keep s t ls source.latches gs gt a.spends.keeps zip) in
    let asks : AllZip (IsCutBy t) (symbolic_binds edge.ant) c.as_slice-3.result.now = subst (λ (xs : List Cut). AllZip (IsCutBy t) (symbolic_binds edge.ant) xs) (sym c.as_slice-3.ensures.value) a.ok in
    let here = subst (λ v. ArePossibleEach v net.raw ls (symbolic_asked_on edge) sets) (sym a.spends.keeps.vars) family in
    let time : List Function = time_work net.raw ls (symbolic_asked_on edge) sets in
    let Step : Store → Ref → Type 0 = HasStep net.raw sets c.renew.new.frame in
    let empty : Ref = c.in_ok-empty.empty in
    let b : Built work Step t u (Ok empty) = Built-wider work time Step t u (Ok empty) (time_in net.raw (state_of r ls) sets edge) (c.in_ok-empty.ensures.built ls (symbolic_asked_on edge) sets latches asks (ap ids_of (sym c.as_slice-2.ensures)) here) in
    let so2 = more work Step s t u (Ok empty) gt gu so1 b in
    let v : Store = g.N.Nodes.store c.found_from_frame.new.nodes in
    let gv = g.met.N.Nodes.diagram c.found_from_frame.new.nodes in
    let found : EdgeFound = c.in_ok-found.found in
    last work (IsEdgeFound net.raw (state_of r ls) sets) s u v (Ok found) gu gv so2
    (Built-wider work (given_work net.raw (state_of r ls) sets) (IsEdgeFound net.raw (state_of r ls) sets) u v (Ok found) (given_in net.raw (state_of r ls) sets edge)
    (c.in_ok-found.ensures.found (state_of r ls) sets (Means-keeps s u r source.reached gs gu so2.keeps mr) b.ok))

pub renew-requires-clause-cuts : goal.renew-requires-clause-cuts
renew-requires-clause-cuts g c =
    let s : Store = g.N.Nodes.store c.args.nodes.now in
    let t : Store = g.N.Nodes.store c.cuts_of.new.nodes in
    let gs = g.met.N.Nodes.diagram c.args.nodes.now in
    let gt = g.met.N.Nodes.diagram c.cuts_of.new.nodes in
    let net = c.args.net.now in
    let edge : Edge = c.args.edge.now in
    let source : State = c.args.source.now in
    let cuts : Vec Cut Global = c.in_ok-cuts.cuts in
    let a : Built (binds_work edge.ant) (AreCuts edge.ant) s t (Ok cuts) = subst (λ (xs : List Bind). Built (binds_work xs) (AreCuts xs) s t (Ok cuts)) c.as_slice.ensures c.in_ok-cuts.ensures in
    subst (λ (xs : List Cut). All (IsCutOf t net.raw) xs) (sym c.as_slice-3.ensures.value) (cuts_of_net t net.raw edge.ant cuts.items a.ok c.requires.nets)

pub renew-requires-clause-frame : goal.renew-requires-clause-frame
renew-requires-clause-frame g c =
    let s : Store = g.N.Nodes.store c.args.nodes.now in
    let t : Store = g.N.Nodes.store c.cuts_of.new.nodes in
    let gs = g.met.N.Nodes.diagram c.args.nodes.now in
    let gt = g.met.N.Nodes.diagram c.cuts_of.new.nodes in
    let net = c.args.net.now in
    let keeps = c.in_ok-cuts.ensures.spends.keeps in
    c.in_ok-begun.ensures.frame t net.raw (frame_keeps s t net.raw c.args.frame net.in_range gs gt keeps c.requires.frame) (StateRefs-keep s t net.raw c.args.source.now keeps c.requires.source)

pub found_from_frame-requires-clause-reached : goal.found_from_frame-requires-clause-reached
found_from_frame-requires-clause-reached g c =
    let s : Store = g.N.Nodes.store c.args.nodes.now in
    let t : Store = g.N.Nodes.store c.cuts_of.new.nodes in
    let u : Store = g.N.Nodes.store c.renew.new.nodes in
    let source : State = c.args.source.now in
    IsFrom-grows s.held u.held 0 source.reached (Keeps-trans s t u c.in_ok-cuts.ensures.spends.keeps c.in_ok-empty.ensures.keeps).grows c.requires.source.reached

pub returns-clause-frame : goal.returns-clause-frame
returns-clause-frame g c =
    let s : Store = g.N.Nodes.store c.args.nodes.now in
    let t : Store = g.N.Nodes.store c.cuts_of.new.nodes in
    let gs = g.met.N.Nodes.diagram c.args.nodes.now in
    let gt = g.met.N.Nodes.diagram c.cuts_of.new.nodes in
    let net = c.args.net.now in
    let edge : Edge = c.args.edge.now in
    let source : State = c.args.source.now in
    let cuts : Vec Cut Global = c.in_ok-cuts.cuts in
    let a : Built (binds_work edge.ant) (AreCuts edge.ant) s t (Ok cuts) = subst (λ (xs : List Bind). Built (binds_work xs) (AreCuts xs) s t (Ok cuts)) c.as_slice.ensures c.in_ok-cuts.ensures in
    let u : Store = g.N.Nodes.store c.renew.new.nodes in
    let v : Store = g.N.Nodes.store c.found_from_frame.new.nodes in
    let gu = g.met.N.Nodes.diagram c.renew.new.nodes in
    let gv = g.met.N.Nodes.diagram c.found_from_frame.new.nodes in
    let settled : IsSettled net.raw = settled_by_order net.raw net.settled net.in_order in
    let refs : AreStateRefs t net.raw source = StateRefs-keep s t net.raw source a.spends.keeps c.requires.source in
    let x : SymbolicState = own_state t source in
    let is : IsState t x source = own_is t net.raw source refs in
    let family = sets_exist net.raw t.vars x.latches (symbolic_asked_on edge) settled (own_long t net.raw source refs) in
    let latches = subst (λ (xs : List Rails). AllZip (AreRails t) x.latches xs) (sym (c.in_ok-begun.ensures.next net.raw)) is.latches in
    let asks : AllZip (IsCutBy t) (symbolic_binds edge.ant) c.as_slice-3.result.now = subst (λ (xs : List Cut). AllZip (IsCutBy t) (symbolic_binds edge.ant) xs) (sym c.as_slice-3.ensures.value) a.ok in
    let b = c.in_ok-empty.ensures.built x.latches (symbolic_asked_on edge) family.0 latches asks (ap ids_of (sym c.as_slice-2.ensures)) family.1 in
    let d = c.in_ok-found.ensures.found x family.0 (Means-keeps t u x.reached source.reached gt gu b.spends.keeps is.reached) b.ok in
    subst (λ (frame : Frame). IsFrame v net.raw frame) (sym c.in_ok-found.ensures.frame) (frame_keeps u v net.raw c.renew.new.frame net.in_range gu gv d.spends.keeps c.in_ok-empty.ensures.frame)
