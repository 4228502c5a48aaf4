use Rattle.std.proofs.Common.{[], ◌∷◌, List, Ok, Err, true, refl}
use Rattle.ste_base.specs.Functions.{Function}
use Rattle.dd_nodes.specs.Stores.{Store}
use Rattle.dd_nodes.proofs.Stores.{Means-keeps}
use Rattle.net_core.specs.Work.{negation}
use Rattle.dual_rail.specs.Rail.{Built, HasFunction}
use Rattle.dual_rail.proofs.Works.{here, not_built, So-start, Built-made, first, pass}
use Rattle.gate_sets.specs.declared.flagged.FlaggedRails.{FlaggedRails}
use Rattle.gate_sets.specs.NetSets.{HasFlagged}
use Rattle.sym_step.proofs.cuts.value_set.Goals as goal

pub returns-in_err-can0 : goal.returns-in_err-can0
returns-in_err-can0 g c = λ x m.
    let s : Store = g.N.Nodes.store c.args.nodes.now in
    let t : Store = g.N.Nodes.store c.opposite.new.nodes in
    let ds = g.met.N.Nodes.diagram c.args.nodes.now in
    let dt = g.met.N.Nodes.diagram c.opposite.new.nodes in
    let work : List Function = negation x ∷ [] in
    let fault = c.in_err-can0.field-0.0 in
    pass work (HasFunction (negation x)) (HasFlagged (record { zero = negation x; one = x })) s s t fault c.from_residual.result ds dt (So-start work s)
    (not_built work x s t c.args.value (Err fault) (here (negation x) []) m c.in_err-can0.ensures) c.from_residual.ensures.1

pub returns : goal.returns
returns g c = λ x m.
    let s : Store = g.N.Nodes.store c.args.nodes.now in
    let t : Store = g.N.Nodes.store c.opposite.new.nodes in
    let ds = g.met.N.Nodes.diagram c.args.nodes.now in
    let dt = g.met.N.Nodes.diagram c.opposite.new.nodes in
    let work : List Function = negation x ∷ [] in
    let can0 = c.in_ok-can0.can0 in
    let a : Built work (HasFunction (negation x)) s t (Ok can0) = not_built work x s t c.args.value (Ok can0) (here (negation x) []) m c.in_ok-can0.ensures in
    let made : FlaggedRails = record { rails = record { can0 = can0; can1 = c.args.value }; known = true } in
    Built-made work (HasFlagged (record { zero = negation x; one = x })) s t made (first work (HasFunction (negation x)) s t (Ok can0) a)
    (record { rails = record { zero = a.ok; one = Means-keeps s t x c.args.value ds dt a.spends.keeps m }; known = λ yes bits l. refl })
