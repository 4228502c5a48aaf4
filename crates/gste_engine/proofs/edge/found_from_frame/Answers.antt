use Rattle.std.proofs.Common.{◌≡◌, ◌<◌, List, length, map, sym, ◌∙◌, subst, arith, All, Contains, Ok, Err}
use Rattle.std.specs.List.{AllZip}
use Rattle.std.proofs.lemmas.List.{length-map}
use Rattle.ste_base.specs.Functions.{Function}
use Rattle.dd_nodes.specs.Stores.{Store}
use Rattle.dd_nodes.proofs.Stores.{Keeps-trans, Means-keeps}
use Rattle.net_core.specs.declared.raw.Latch.{Latch}
use Rattle.net_core.specs.declared.raw.RawNet.{RawNet}
use Rattle.net_core.specs.Work.{SymbolicSet, negation, some_empty}
use Rattle.ste_model.specs.GraphWork.{feasible_where, sets_functions}
use Rattle.dual_rail.specs.declared.rails.Rails.{Rails}
use Rattle.dual_rail.specs.Rail.{AreRails, Built, HasFunction}
use Rattle.dual_rail.proofs.Turns.{All-refs-keep}
use Rattle.dual_rail.proofs.Works.{Built-made, Built-wider, Rails-keep, So-start, and_built, first, more, not_built, pass}
use Rattle.sym_step.specs.declared.frame.Frame.{Frame}
use Rattle.sym_step.specs.Step.{HaveSets, rails_at}
use Rattle.sym_step.specs.Frame.{bare, input_rails, nets_of}
use Rattle.sym_step.proofs.Framing.{rails_refs}
use Rattle.gste_engine.specs.Tables.{IsEdgeFound}
use Rattle.gste_engine.specs.private.Given.{gated_sets, given_work}
use Rattle.gste_engine.proofs.EdgeParts.{clear_in, feasible_in, next_in}
use Rattle.gste_engine.proofs.GatedSets.{gated_inputs, inputs_have}
use Rattle.gste_engine.proofs.edge.found_from_frame.Goals as goal

pub returns-in_err-clear-clause-found : goal.returns-in_err-clear-clause-found
returns-in_err-clear-clause-found g c = λ source sets mr is.
    let s : Store = g.N.Nodes.store c.args.nodes.now in
    let t : Store = g.N.Nodes.store c.not.new.nodes in
    let gs = g.met.N.Nodes.diagram c.args.nodes.now in
    let gt = g.met.N.Nodes.diagram c.not.new.nodes in
    let net : RawNet = c.args.net.now.raw in
    let work : List Function = given_work net source sets in
    let e : Function = some_empty net sets in
    let frame : Frame = c.args.frame in
    let empty = c.args.empty in
    let fault = c.in_err-clear.field-0.0 in
    pass work (HasFunction (negation e)) (IsEdgeFound net source sets) s s t fault c.from_residual.result gs gt (So-start work s)
    (not_built work e s t empty (Err fault) (clear_in net source sets) is.contradictory c.in_err-clear.ensures) c.from_residual.ensures.1

pub returns-in_err-feasible-clause-found : goal.returns-in_err-feasible-clause-found
returns-in_err-feasible-clause-found g c = λ source sets mr is.
    let s : Store = g.N.Nodes.store c.args.nodes.now in
    let t : Store = g.N.Nodes.store c.not.new.nodes in
    let gs = g.met.N.Nodes.diagram c.args.nodes.now in
    let gt = g.met.N.Nodes.diagram c.not.new.nodes in
    let net : RawNet = c.args.net.now.raw in
    let work : List Function = given_work net source sets in
    let e : Function = some_empty net sets in
    let frame : Frame = c.args.frame in
    let empty = c.args.empty in
    let clear = c.in_ok-clear.clear in
    let a : Built work (HasFunction (negation e)) s t (Ok clear) = not_built work e s t empty (Ok clear) (clear_in net source sets) is.contradictory c.in_ok-clear.ensures in
    let so1 = first work (HasFunction (negation e)) s t (Ok clear) a in
    let u : Store = g.N.Nodes.store c.both.new.nodes in
    let gu = g.met.N.Nodes.diagram c.both.new.nodes in
    let reached = Means-keeps s t source.reached c.args.reached gs gt a.spends.keeps mr in
    let f : Function = feasible_where net source sets in
    let fault = c.in_err-feasible.field-0.0 in
    pass work (HasFunction f) (IsEdgeFound net source sets) s t u fault c.from_residual-in_err-feasible.result gt gu so1
    (and_built work source.reached (negation e) t u c.args.reached clear (Err fault) (feasible_in net source sets) reached a.ok c.in_err-feasible.ensures) c.from_residual-in_err-feasible.ensures.1

pub returns-in_err-next-clause-found : goal.returns-in_err-next-clause-found
returns-in_err-next-clause-found g c = λ source sets mr is.
    let s : Store = g.N.Nodes.store c.args.nodes.now in
    let t : Store = g.N.Nodes.store c.not.new.nodes in
    let gs = g.met.N.Nodes.diagram c.args.nodes.now in
    let gt = g.met.N.Nodes.diagram c.not.new.nodes in
    let net : RawNet = c.args.net.now.raw in
    let work : List Function = given_work net source sets in
    let e : Function = some_empty net sets in
    let frame : Frame = c.args.frame in
    let empty = c.args.empty in
    let clear = c.in_ok-clear.clear in
    let a : Built work (HasFunction (negation e)) s t (Ok clear) = not_built work e s t empty (Ok clear) (clear_in net source sets) is.contradictory c.in_ok-clear.ensures in
    let so1 = first work (HasFunction (negation e)) s t (Ok clear) a in
    let u : Store = g.N.Nodes.store c.both.new.nodes in
    let gu = g.met.N.Nodes.diagram c.both.new.nodes in
    let reached = Means-keeps s t source.reached c.args.reached gs gt a.spends.keeps mr in
    let f : Function = feasible_where net source sets in
    let feasible = c.in_ok-feasible.feasible in
    let b : Built work (HasFunction f) t u (Ok feasible) = and_built work source.reached (negation e) t u c.args.reached clear (Ok feasible) (feasible_in net source sets) reached a.ok c.in_ok-feasible.ensures in
    let so2 = more work (HasFunction f) s t u (Ok feasible) gt gu so1 b in
    let v : Store = g.N.Nodes.store c.feasible_sets.new.nodes in
    let gv = g.met.N.Nodes.diagram c.feasible_sets.new.nodes in
    let ws : List SymbolicSet = map (λ latch. sets latch.input.0) net.latches in
    let nets : List Rails = nets_of frame in
    let Inputs : List Latch → Type 0 = λ (latches : List Latch). AllZip (AreRails u) ws (map (input_rails nets) latches) in
    let have : HaveSets net sets u nets = λ id lt. Rails-keep s u (sets id) (rails_at nets id) gs gu so2.keeps (is.nets id lt) in
    let inputs : Inputs c.latches.result.now = subst Inputs (sym c.latches.ensures) (inputs_have net sets u nets have net.latches c.args.net.now.in_range.latch_inputs) in
    let next_work : List Function = sets_functions (gated_sets f ws) in
    let Next : Store → List Rails → Type 0 = λ t rails. AllZip (AreRails t) (gated_sets f ws) rails in
    let same = gated_inputs f sets net.latches in
    let wide = subst (λ (xs : List SymbolicSet). (h : Function) → Contains (sets_functions xs) h → Contains work h) (sym same) (next_in net source sets) in
    let fault = c.in_err-next.field-0.0 in
    pass work Next (IsEdgeFound net source sets) s u v fault c.from_residual-in_err-next.result gu gv so2
    (Built-wider work next_work Next u v (Err fault) wide (c.in_err-next.ensures ws f inputs b.ok)) c.from_residual-in_err-next.ensures.1

pub returns-clause-found : goal.returns-clause-found
returns-clause-found g c = λ source sets mr is.
    let s : Store = g.N.Nodes.store c.args.nodes.now in
    let t : Store = g.N.Nodes.store c.not.new.nodes in
    let gs = g.met.N.Nodes.diagram c.args.nodes.now in
    let gt = g.met.N.Nodes.diagram c.not.new.nodes in
    let net : RawNet = c.args.net.now.raw in
    let work : List Function = given_work net source sets in
    let e : Function = some_empty net sets in
    let frame : Frame = c.args.frame in
    let empty = c.args.empty in
    let clear = c.in_ok-clear.clear in
    let a : Built work (HasFunction (negation e)) s t (Ok clear) = not_built work e s t empty (Ok clear) (clear_in net source sets) is.contradictory c.in_ok-clear.ensures in
    let so1 = first work (HasFunction (negation e)) s t (Ok clear) a in
    let u : Store = g.N.Nodes.store c.both.new.nodes in
    let gu = g.met.N.Nodes.diagram c.both.new.nodes in
    let reached = Means-keeps s t source.reached c.args.reached gs gt a.spends.keeps mr in
    let f : Function = feasible_where net source sets in
    let feasible = c.in_ok-feasible.feasible in
    let b : Built work (HasFunction f) t u (Ok feasible) = and_built work source.reached (negation e) t u c.args.reached clear (Ok feasible) (feasible_in net source sets) reached a.ok c.in_ok-feasible.ensures in
    let so2 = more work (HasFunction f) s t u (Ok feasible) gt gu so1 b in
    let v : Store = g.N.Nodes.store c.feasible_sets.new.nodes in
    let gv = g.met.N.Nodes.diagram c.feasible_sets.new.nodes in
    let ws : List SymbolicSet = map (λ latch. sets latch.input.0) net.latches in
    let nets : List Rails = nets_of frame in
    let Inputs : List Latch → Type 0 = λ (latches : List Latch). AllZip (AreRails u) ws (map (input_rails nets) latches) in
    let have : HaveSets net sets u nets = λ id lt. Rails-keep s u (sets id) (rails_at nets id) gs gu so2.keeps (is.nets id lt) in
    let inputs : Inputs c.latches.result.now = subst Inputs (sym c.latches.ensures) (inputs_have net sets u nets have net.latches c.args.net.now.in_range.latch_inputs) in
    let next_work : List Function = sets_functions (gated_sets f ws) in
    let Next : Store → List Rails → Type 0 = λ t rails. AllZip (AreRails t) (gated_sets f ws) rails in
    let same = gated_inputs f sets net.latches in
    let wide = subst (λ (xs : List SymbolicSet). (h : Function) → Contains (sets_functions xs) h → Contains work h) (sym same) (next_in net source sets) in
    let next : List Rails = c.in_ok-next.next in
    let d : Built work Next u v (Ok next) = Built-wider work next_work Next u v (Ok next) wide (c.in_ok-next.ensures ws f inputs b.ok) in
    let so3 = more work Next s u v (Ok next) gu gv so2 d in
    Built-made work (IsEdgeFound net source sets) s v (record { frame = frame; feasible = feasible; next = next }) so3
    (record {
      long = is.long;
      nets = λ id lt. Rails-keep s v (sets id) (rails_at nets id) gs gv so3.keeps (is.nets id lt);
      feasible = Means-keeps u v f feasible gu gv d.spends.keeps b.ok;
      next = subst (λ (xs : List SymbolicSet). AllZip (AreRails v) xs next) same d.ok;
    })

pub feasible_sets-requires-clause-inside : goal.feasible_sets-requires-clause-inside
feasible_sets-requires-clause-inside g c =
    let net = c.args.net.now in
    let frame : Frame = c.args.frame in
    let long : length (nets_of frame) ≡ net.raw.nets = length-map frame.board.nets.items bare ∙ c.requires.frame.long in
    let Inside : List Latch → Type 0 = λ (latches : List Latch). All (λ latch. latch.input.0 < length (nets_of frame)) latches in
    subst Inside (sym c.latches.ensures) (λ k d lt. let inside = net.in_range.latch_inputs k d lt in omega (arith, long, inside))

pub feasible_sets-requires-clause-nets : goal.feasible_sets-requires-clause-nets
feasible_sets-requires-clause-nets g c =
    let s : Store = g.N.Nodes.store c.args.nodes.now in
    let t : Store = g.N.Nodes.store c.not.new.nodes in
    let u : Store = g.N.Nodes.store c.both.new.nodes in
    let frame : Frame = c.args.frame in
    All-refs-keep s u (nets_of frame) (Keeps-trans s t u c.in_ok-clear.ensures.keeps c.in_ok-feasible.ensures.keeps) (rails_refs s frame.board.nets.items c.requires.frame.refs)
