use Rattle.std.proofs.Common.{List, [], ◌∷◌, refl, arith, Ok, Err}
use Rattle.std.proofs.lemmas.List.Elements.{Contains-append_left, Contains-append_right}
use Rattle.ste_base.specs.Functions.{Function}
use Rattle.dd_nodes.specs.Stores.{Store}
use Rattle.dd_nodes.proofs.Stores.{Means-keeps}
use Rattle.net_core.specs.Work.{disjunction}
use Rattle.dual_rail.specs.Rail.{Built, HasFunction}
use Rattle.dual_rail.proofs.Works.{Built-made, Built-wider, So-start, first, more, or_built, pass}
use Rattle.gste_engine.specs.private.EdgeFinds.{AreFindings, gated_finds_work, more_gated_strong, more_gated_weak, with_found_work}
use Rattle.gste_engine.proofs.found.with_found.Goals as goal

pub returns-in_err-more : goal.returns-in_err-more
returns-in_err-more g c = λ sets ds z f h e have zip mz sums.
    let s : Store = g.N.Nodes.store c.args.nodes.now in
    let t : Store = g.N.Nodes.store c.find_all.new.nodes in
    let work : List Function = with_found_work sets ds z f h e in
    let part : List Function = gated_finds_work sets ds z f h in
    let strong : Function = more_gated_strong sets ds z f in
    let weak : Function = more_gated_weak sets ds z h in
    let fault = c.in_err-more.field-0.0 in
    pass work (AreFindings strong weak e) (AreFindings strong weak (disjunction e z)) s s t fault c.from_residual.result (g.met.N.Nodes.diagram c.args.nodes.now) (g.met.N.Nodes.diagram c.find_all.new.nodes) (So-start work s)
    (Built-wider work part (AreFindings strong weak e) s t (Err fault) (λ y has. Contains-append_left part (disjunction e z ∷ []) y has) (c.in_err-more.ensures.found sets ds z f h e have zip mz sums)) c.from_residual.ensures.1

pub returns-in_err-feasible : goal.returns-in_err-feasible
returns-in_err-feasible g c = λ sets ds z f h e have zip mz sums.
    let s : Store = g.N.Nodes.store c.args.nodes.now in
    let t : Store = g.N.Nodes.store c.find_all.new.nodes in
    let u : Store = g.N.Nodes.store c.either.new.nodes in
    let gs = g.met.N.Nodes.diagram c.args.nodes.now in
    let gt = g.met.N.Nodes.diagram c.find_all.new.nodes in
    let gu = g.met.N.Nodes.diagram c.either.new.nodes in
    let work : List Function = with_found_work sets ds z f h e in
    let part : List Function = gated_finds_work sets ds z f h in
    let strong : Function = more_gated_strong sets ds z f in
    let weak : Function = more_gated_weak sets ds z h in
    let r = c.in_ok-more.more in
    let a = Built-wider work part (AreFindings strong weak e) s t (Ok r) (λ y has. Contains-append_left part (disjunction e z ∷ []) y has) (c.in_ok-more.ensures.found sets ds z f h e have zip mz sums) in
    let fault = c.in_err-feasible.field-0.0 in
    pass work (HasFunction (disjunction e z)) (AreFindings strong weak (disjunction e z)) s t u fault c.from_residual-in_err-feasible.result gt gu (first work (AreFindings strong weak e) s t (Ok r) a)
    (or_built work e z t u r.feasible c.args.gate (Err fault) (Contains-append_right part (disjunction e z ∷ []) (disjunction e z) (0, omega arith, refl)) a.ok.feasible (Means-keeps s t z c.args.gate gs gt a.spends.keeps mz) c.in_err-feasible.ensures) c.from_residual-in_err-feasible.ensures.1

pub returns : goal.returns
returns g c = λ sets ds z f h e have zip mz sums.
    let s : Store = g.N.Nodes.store c.args.nodes.now in
    let t : Store = g.N.Nodes.store c.find_all.new.nodes in
    let u : Store = g.N.Nodes.store c.either.new.nodes in
    let gs = g.met.N.Nodes.diagram c.args.nodes.now in
    let gt = g.met.N.Nodes.diagram c.find_all.new.nodes in
    let gu = g.met.N.Nodes.diagram c.either.new.nodes in
    let work : List Function = with_found_work sets ds z f h e in
    let part : List Function = gated_finds_work sets ds z f h in
    let strong : Function = more_gated_strong sets ds z f in
    let weak : Function = more_gated_weak sets ds z h in
    let r = c.in_ok-more.more in
    let a = Built-wider work part (AreFindings strong weak e) s t (Ok r) (λ y has. Contains-append_left part (disjunction e z ∷ []) y has) (c.in_ok-more.ensures.found sets ds z f h e have zip mz sums) in
    let q = c.in_ok-feasible.feasible in
    let b : Built work (HasFunction (disjunction e z)) t u (Ok q) = or_built work e z t u r.feasible c.args.gate (Ok q) (Contains-append_right part (disjunction e z ∷ []) (disjunction e z) (0, omega arith, refl)) a.ok.feasible (Means-keeps s t z c.args.gate gs gt a.spends.keeps mz) c.in_ok-feasible.ensures in
    let keeps = b.spends.keeps in
    Built-made work (AreFindings strong weak (disjunction e z)) s u (record { strong = r.strong; weak = r.weak; feasible = q }) (more work (HasFunction (disjunction e z)) s t u (Ok q) gt gu (first work (AreFindings strong weak e) s t (Ok r) a) b)
    (record { strong = Means-keeps t u strong r.strong gt gu keeps a.ok.strong; weak = Means-keeps t u weak r.weak gt gu keeps a.ok.weak; feasible = b.ok })
