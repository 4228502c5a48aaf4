use Rattle.std.proofs.Common.{List, subst, Ok, Err, Vec, Global}
use Rattle.std.specs.List.{AllZip}
use Rattle.std.proofs.lemmas.List.Elements.{Contains-append_left, Contains-append_right}
use Rattle.ste_base.specs.Functions.{Function}
use Rattle.dd_nodes.specs.Stores.{Store}
use Rattle.dual_rail.specs.Rail.{Built}
use Rattle.dual_rail.proofs.Works.{Built-good, Built-wider, So-start, first, last, pass}
use Rattle.sym_step.specs.declared.cut.Cut.{Cut}
use Rattle.sym_step.specs.Step.{IsCutBy}
use Rattle.ste_model.specs.declared.task.Bind.{Bind}
use Rattle.ste_model.specs.declared.task.Edge.{Edge}
use Rattle.ste_model.specs.GraphNeed.{bind_functions}
use Rattle.ste_model.specs.GraphWork.{binds_work, symbolic_binds}
use Rattle.gste_engine.specs.private.EdgeFinds.{IsAsked, asked_work}
use Rattle.gste_engine.proofs.KeptRefs.{Refs-held, bind_refs}
use Rattle.gste_engine.proofs.judged.asked_on.Goals as goal

abbrev AreCuts : List Bind → Store → Vec Cut Global → Type 0
AreCuts binds t cuts = AllZip (IsCutBy t) (symbolic_binds binds) cuts.items

abbrev AreAsked : Edge → Store → Vec Cut Global → Type 0
AreAsked edge t cuts = IsAsked edge t cuts.items

pub returns-in_err-given : goal.returns-in_err-given
returns-in_err-given g c =
    let s : Store = g.N.Nodes.store c.args.nodes.now in
    let t : Store = g.N.Nodes.store c.cuts_of.new.nodes in
    let edge : Edge = c.args.edge.now in
    let work : List Function = asked_work edge in
    let fault = c.in_err-given.field-0.0 in
    let a : Built (binds_work edge.ant) (AreCuts edge.ant) s t (Err fault) = subst (λ (xs : List Bind). Built (binds_work xs) (AreCuts xs) s t (Err fault)) c.as_slice.ensures c.in_err-given.ensures in
    pass work (AreCuts edge.ant) (AreAsked edge) s s t fault c.from_residual.result (g.met.N.Nodes.diagram c.args.nodes.now) (g.met.N.Nodes.diagram c.cuts_of.new.nodes) (So-start work s)
    (Built-wider work (binds_work edge.ant) (AreCuts edge.ant) s t (Err fault) (λ y has. Contains-append_left (binds_work edge.ant) (binds_work edge.con) y has) a) c.from_residual.ensures.1

pub returns : goal.returns
returns g c =
    let s : Store = g.N.Nodes.store c.args.nodes.now in
    let t : Store = g.N.Nodes.store c.cuts_of.new.nodes in
    let u : Store = g.N.Nodes.store c.cuts_of-2.new.nodes in
    let gt = g.met.N.Nodes.diagram c.cuts_of.new.nodes in
    let gu = g.met.N.Nodes.diagram c.cuts_of-2.new.nodes in
    let edge : Edge = c.args.edge.now in
    let work : List Function = asked_work edge in
    let given : Vec Cut Global = c.in_ok-given.given in
    let result = c.cuts_of-2.result in
    let a : Built (binds_work edge.ant) (AreCuts edge.ant) s t (Ok given) = subst (λ (xs : List Bind). Built (binds_work xs) (AreCuts xs) s t (Ok given)) c.as_slice.ensures c.in_ok-given.ensures in
    let b : Built (binds_work edge.con) (AreCuts edge.con) t u result = subst (λ (xs : List Bind). Built (binds_work xs) (AreCuts xs) t u result) c.as_slice-2.ensures c.cuts_of-2.ensures in
    let here = bind_refs t edge.ant given.items a.ok in
    let both : Built work (AreAsked edge) t u result = Built-wider work (binds_work edge.con) (AreAsked edge) t u result (λ y has. Contains-append_right (binds_work edge.ant) (binds_work edge.con) y has)
    (Built-good (binds_work edge.con) (AreCuts edge.con) (AreAsked edge) t u result (λ cuts zip. record { wanted = zip; given = Refs-held t u (bind_functions edge.ant) gt gu b.spends.keeps here }) b) in
    last work (AreAsked edge) s t u result gt gu
    (first work (AreCuts edge.ant) s t (Ok given) (Built-wider work (binds_work edge.ant) (AreCuts edge.ant) s t (Ok given) (λ y has. Contains-append_left (binds_work edge.ant) (binds_work edge.con) y has) a)) both
