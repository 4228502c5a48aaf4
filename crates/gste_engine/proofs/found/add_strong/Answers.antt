use Rattle.std.proofs.Common.{List, Ok, Err}
use Rattle.std.proofs.lemmas.List.Elements.{Contains-append_left, Contains-append_right}
use Rattle.ste_base.specs.Functions.{Function}
use Rattle.dd_nodes.specs.Stores.{Store}
use Rattle.dd_nodes.proofs.Stores.{Means-keeps}
use Rattle.dd_nodes.proofs.Walks.{IsFrom-grows}
use Rattle.net_core.specs.Work.{conjunction, disjunction}
use Rattle.dual_rail.specs.Rail.{HasFunction}
use Rattle.dual_rail.proofs.Works.{Built-wider, So-start, first, last, pass}
use Rattle.ste_model.specs.Work.{found_strong, refutes}
use Rattle.engine_parts.specs.Refuting.{refutes_work}
use Rattle.engine_parts.proofs.Opposites.{refuted_left}
use Rattle.gste_engine.specs.private.EdgeFinds.{gated_add_work, gated_strong_work}
use Rattle.gste_engine.proofs.found.add_strong.Goals as goal

pub returns-in_err-found : goal.returns-in_err-found
returns-in_err-found g c = λ f w h x z mf mw mh mx mz.
    let s : Store = g.N.Nodes.store c.args.nodes.now in
    let t : Store = g.N.Nodes.store c.refuted.new.nodes in
    let work : List Function = gated_strong_work f w h x z in
    let fault = c.in_err-found.field-0.0 in
    pass work (HasFunction (refutes w x)) (HasFunction (disjunction f (conjunction (found_strong w h x) z))) s s t fault c.from_residual.result (g.met.N.Nodes.diagram c.args.nodes.now) (g.met.N.Nodes.diagram c.refuted.new.nodes) (So-start work s)
    (Built-wider work (refutes_work w x) (HasFunction (refutes w x)) s t (Err fault) (λ y has. Contains-append_left (refutes_work w x) (gated_add_work f h (refutes w x) z) y has) (c.in_err-found.ensures w x mw mx)) c.from_residual.ensures.1

pub returns : goal.returns
returns g c = λ f w h x z mf mw mh mx mz.
    let s : Store = g.N.Nodes.store c.args.nodes.now in
    let t : Store = g.N.Nodes.store c.refuted.new.nodes in
    let u : Store = g.N.Nodes.store c.add.new.nodes in
    let gs = g.met.N.Nodes.diagram c.args.nodes.now in
    let gt = g.met.N.Nodes.diagram c.refuted.new.nodes in
    let work : List Function = gated_strong_work f w h x z in
    let sum : Function = disjunction f (conjunction (found_strong w h x) z) in
    let r = c.in_ok-found.found in
    let a = Built-wider work (refutes_work w x) (HasFunction (refutes w x)) s t (Ok r) (λ y has. Contains-append_left (refutes_work w x) (gated_add_work f h (refutes w x) z) y has) (c.in_ok-found.ensures w x mw mx) in
    let k = a.spends.keeps in
    last work (HasFunction sum) s t u c.add.result gt (g.met.N.Nodes.diagram c.add.new.nodes) (first work (HasFunction (refutes w x)) s t (Ok r) a)
    (Built-wider work (gated_add_work f h (refutes w x) z) (HasFunction sum) t u c.add.result (λ y has. Contains-append_right (refutes_work w x) (gated_add_work f h (refutes w x) z) y has)
    (c.add.ensures f h (refutes w x) z (Means-keeps s t f c.args.sum gs gt k mf) (Means-keeps s t h c.args.cut.guard gs gt k mh) a.ok (Means-keeps s t z c.args.gate gs gt k mz)))

pub add-requires-clause-sum : goal.add-requires-clause-sum
add-requires-clause-sum g c =
    let s : Store = g.N.Nodes.store c.args.nodes.now in
    let t : Store = g.N.Nodes.store c.refuted.new.nodes in
    let a = refuted_left s t c.args.r c.args.cut.value (Ok c.in_ok-found.found) c.requires.rails c.requires.value c.in_ok-found.ensures in
    IsFrom-grows s.held t.held 0 c.args.sum a.spends.keeps.grows c.requires.sum

pub add-requires-clause-guard : goal.add-requires-clause-guard
add-requires-clause-guard g c =
    let s : Store = g.N.Nodes.store c.args.nodes.now in
    let t : Store = g.N.Nodes.store c.refuted.new.nodes in
    let a = refuted_left s t c.args.r c.args.cut.value (Ok c.in_ok-found.found) c.requires.rails c.requires.value c.in_ok-found.ensures in
    IsFrom-grows s.held t.held 0 c.args.cut.guard a.spends.keeps.grows c.requires.guard

pub add-requires-clause-found : goal.add-requires-clause-found
add-requires-clause-found g c =
    let s : Store = g.N.Nodes.store c.args.nodes.now in
    let t : Store = g.N.Nodes.store c.refuted.new.nodes in
    let a = refuted_left s t c.args.r c.args.cut.value (Ok c.in_ok-found.found) c.requires.rails c.requires.value c.in_ok-found.ensures in
    a.ok.ref

pub add-requires-clause-gate : goal.add-requires-clause-gate
add-requires-clause-gate g c =
    let s : Store = g.N.Nodes.store c.args.nodes.now in
    let t : Store = g.N.Nodes.store c.refuted.new.nodes in
    let a = refuted_left s t c.args.r c.args.cut.value (Ok c.in_ok-found.found) c.requires.rails c.requires.value c.in_ok-found.ensures in
    IsFrom-grows s.held t.held 0 c.args.gate a.spends.keeps.grows c.requires.gate
