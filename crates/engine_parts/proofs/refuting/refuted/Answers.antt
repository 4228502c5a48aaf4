use Rattle.std.proofs.Common.{◌≡◌, ◌∙◌, List, eqb-true, sym}
use Rattle.dd_nodes.specs.declared.node.Ref.{Ref}
use Rattle.ste_base.specs.Functions.{Function}
use Rattle.dd_nodes.specs.Stores.{Store}
use Rattle.dual_rail.specs.Rail.{HasFunction}
use Rattle.dual_rail.proofs.Works.{Built-made, So-start}
use Rattle.ste_model.specs.Work.{refutes}
use Rattle.engine_parts.specs.Refuting.{refutes_work}
use Rattle.engine_parts.proofs.Opposites.{none_refuted}
use Rattle.engine_parts.proofs.refuting.refuted.Goals as goal

pub returns-then-eq : goal.returns-then-eq
returns-then-eq g c = λ w x mw mx.
    let s : Store = g.N.Nodes.store c.args.nodes.now in
    let none : Ref = record { 0 = 0 } in
    let work : List Function = refutes_work w x in
    let same : c.args.r.can1.0 ≡ c.args.value.0 = eqb-true _ _ (sym c.eq.ensures ∙ c.if-eq.true) in
    Built-made work (HasFunction (refutes w x)) s s none (So-start work s)
    (none_refuted s c.args.r c.args.value w x (g.met.N.Nodes.diagram c.args.nodes.now) same mw mx)
