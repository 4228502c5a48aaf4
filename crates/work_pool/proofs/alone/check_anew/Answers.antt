use Rattle.std.proofs.Common.{Option, ap, arith, refl, sym, subst}
use Rattle.std.specs.Prelude.{IfSome}
use Rattle.dd_nodes.specs.Stores.{Keeps, Store, gets}
use Rattle.dd_growing.specs.Growing.{grown_store}
use Rattle.dd_growing.specs.GrowingLaws.{growing_diagram, within_of}
use Rattle.sym_step.specs.declared.frame.Frame.{Frame}
use Rattle.sym_step.specs.Frame.{IsFrame}
use Rattle.work_pool.proofs.Frames.{last_keeps}
use Rattle.work_pool.proofs.alone.check_anew.Goals as goal

pub check-report-requires-clause-last : goal.check-report-requires-clause-last
check-report-requires-clause-last c =
    let old = c.args.nodes.now in
    let new = c.begin.new.self in
    let s : Store = grown_store old.nodes.items old.base old.limit old.vars in
    let t : Store = grown_store new.nodes.items new.base new.limit new.vars in
    let begun : Keeps s (gets c.args.steps s) = record { grows = λ r n held. held; vars = refl; table = refl } in
    let keeps : Keeps s t = subst (Keeps s) (sym c.begin.ensures) begun in
    last_keeps s t c.args.batch.now.net.now.raw c.args.last.now c.args.batch.now.net.now.in_range
    (growing_diagram old.vars old.nodes.items old.slots.items old.ordered old.indexed) (growing_diagram new.vars new.nodes.items new.slots.items new.ordered new.indexed)
    keeps c.requires.last

pub returns-clause-last : goal.returns-clause-last
returns-clause-last c =
    let new = c.check-report.new.nodes in
    let t : Store = grown_store new.nodes.items new.base new.limit new.vars in
    let net = c.args.batch.now.net.now.raw in
    c.frame_to_carry.ensures t net (growing_diagram new.vars new.nodes.items new.slots.items new.ordered new.indexed)
    (subst (λ (o : Option Frame). IfSome o (IsFrame t net)) (sym c.take.ensures.value) c.check-report.ensures.last)

pub returns-clause-within : goal.returns-clause-within
returns-clause-within c =
    let new = c.check-report.new.nodes in
    let few = within_of new.nodes.items new.base new.limit new.within in
    let limit = c.check-report.ensures.done.limit in
    let begun = ap (λ (s : Store). s.limit) c.begin.ensures in
    omega (arith, few, limit, begun)
