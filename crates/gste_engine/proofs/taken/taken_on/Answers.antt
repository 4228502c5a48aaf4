use Rattle.std.proofs.Common.{◌≡◌, ◌<◌, true, List, All, sym, ◌∙◌, ap, subst, map, length, refl}
use Rattle.std.specs.Prelude.{Option}
use Rattle.std.proofs.lemmas.List.{length-map}
use Rattle.std.proofs.lemmas.Bool.{eqb-false, eqb-true}
use Rattle.dd_nodes.specs.declared.node.Ref.{Ref}
use Rattle.dd_nodes.specs.Stores.{Store, function}
use Rattle.dual_rail.specs.declared.rails.Rails.{Rails}
use Rattle.dual_rail.specs.Rail.{set_of}
use Rattle.net_core.specs.declared.raw.RawNet.{RawNet}
use Rattle.net_core.proofs.Possible.{one_possible}
use Rattle.ste_base.specs.declared.id.NodeId.{NodeId}
use Rattle.ste_model.specs.declared.task.Edge.{Edge}
use Rattle.ste_model.specs.Edges.{asked_on}
use Rattle.sym_step.specs.declared.cut.Cut.{Cut}
use Rattle.engine_parts.specs.Failing.{first_failing}
use Rattle.gste_engine.specs.private.Taken.{IsStepOn, fixed_bind}
use Rattle.gste_engine.proofs.EdgeFails.{contradicted, is_taken, some_sets}
use Rattle.gste_engine.proofs.FixedSteps.{cuts_as, nodes_inside}
use Rattle.gste_engine.proofs.taken.taken_on.Goals as goal

pub returns-then-eq-clause-taken : goal.returns-then-eq-clause-taken
returns-then-eq-clause-taken g c = λ states is.
    let s : Store = g.N.Nodes.store c.args.nodes.now in
    let t : Store = g.N.Nodes.store c.fixed_step.new.nodes in
    let net : RawNet = c.args.net.now.raw in
    let bits = c.args.bits.now in
    let source = c.args.source.now in
    let edge : Edge = c.args.edge.now in
    let gt = g.met.N.Nodes.diagram c.fixed_step.new.nodes in
    let told = c.in_ok-made.ensures in
    let made = c.in_ok-made.made in
    let step : IsStepOn net bits (map (set_of s bits) source.latches) edge t made = subst (λ (x : Store). IsStepOn net bits (map (set_of x bits) source.latches) edge t made) c.eval.ensures.store told.step in
    let vars : t.vars ≡ s.vars = told.same.keeps.vars ∙ ap (λ (x : Store). x.vars) c.eval.ensures.store in
    let one : made.contradictory.0 ≡ 1 = eqb-true _ _ (sym c.eq.ensures ∙ c.if-eq.true) in
    contradicted c.args.failure net c.settles.ensures bits states edge s t source c.requires.long is gt vars made step _ refl (ap (λ k. record { 0 = k }) one)

pub first_failing-first-requires : goal.first_failing-first-requires
first_failing-first-requires g c =
    let s : Store = g.N.Nodes.store c.args.nodes.now in
    let t : Store = g.N.Nodes.store c.fixed_step.new.nodes in
    let net : RawNet = c.args.net.now.raw in
    let bits = c.args.bits.now in
    let source = c.args.source.now in
    let edge : Edge = c.args.edge.now in
    let gt = g.met.N.Nodes.diagram c.fixed_step.new.nodes in
    let told = c.in_ok-made.ensures in
    let made = c.in_ok-made.made in
    let step : IsStepOn net bits (map (set_of s bits) source.latches) edge t made = subst (λ (x : Store). IsStepOn net bits (map (set_of x bits) source.latches) edge t made) c.eval.ensures.store told.step in
    let vars : t.vars ≡ s.vars = told.same.keeps.vars ∙ ap (λ (x : Store). x.vars) c.eval.ensures.store in
    let known = one_possible.some net (map (set_of s bits) source.latches) (asked_on edge bits) c.settles.ensures (length-map source.latches (set_of s bits) ∙ c.requires.source.long) in
    let n : length c.as_slice-2.result.now ≡ net.nets = ap (λ (xs : List Rails). length xs) c.as_slice-2.ensures ∙ (step known.0 known.1).long in
    let wanted : c.as_slice-3.result.now ≡ map (fixed_bind bits) edge.con = cuts_as bits c.as_slice-3.result.now c.in_ok-wanted.wanted.items c.as_slice.result.now edge.con c.as_slice-3.ensures.value c.in_ok-wanted.ensures c.as_slice.ensures in
    subst (λ (cs : List Cut). All (λ cut. cut.node.0 < length c.as_slice-2.result.now) cs) (sym wanted)
    (nodes_inside (length c.as_slice-2.result.now) bits edge.con (subst (λ k. All (λ bind. bind.node.0 < k) edge.con) (sym n) c.requires.con))

pub returns-clause-taken : goal.returns-clause-taken
returns-clause-taken g c = λ states is.
    let s : Store = g.N.Nodes.store c.args.nodes.now in
    let t : Store = g.N.Nodes.store c.fixed_step.new.nodes in
    let net : RawNet = c.args.net.now.raw in
    let bits = c.args.bits.now in
    let source = c.args.source.now in
    let edge : Edge = c.args.edge.now in
    let gt = g.met.N.Nodes.diagram c.fixed_step.new.nodes in
    let told = c.in_ok-made.ensures in
    let made = c.in_ok-made.made in
    let step : IsStepOn net bits (map (set_of s bits) source.latches) edge t made = subst (λ (x : Store). IsStepOn net bits (map (set_of x bits) source.latches) edge t made) c.eval.ensures.store told.step in
    let vars : t.vars ≡ s.vars = told.same.keeps.vars ∙ ap (λ (x : Store). x.vars) c.eval.ensures.store in
    let known = some_sets c.args.failure net c.settles.ensures bits states edge s t source c.requires.long is c.requires.source.long in
    let reached : function s source.reached bits ≡ true = sym c.eval.ensures.value ∙ c.if-not-eval.false in
    let other = eqb-false _ _ (sym c.eq.ensures ∙ c.if-eq.false) in
    let wanted : c.as_slice-3.result.now ≡ map (fixed_bind bits) edge.con = cuts_as bits c.as_slice-3.result.now c.in_ok-wanted.wanted.items c.as_slice.result.now edge.con c.as_slice-3.ensures.value c.in_ok-wanted.ensures c.as_slice.ensures in
    let first = c.first_failing-first.ensures ∙ (ap (λ (xs : List Rails). first_failing c.args.failure xs c.as_slice-3.result.now) c.as_slice-2.ensures ∙ ap (λ (xs : List Cut). first_failing c.args.failure made.nets xs) wanted) in
    is_taken c.args.failure net c.settles.ensures bits states edge s t source c.requires.long is gt vars made step reached (λ e. other (ap (λ (r : Ref). r.0) e)) known _ c.requires.con (ap (λ (o : Option NodeId). record { feasible = true; first = o }) first)
