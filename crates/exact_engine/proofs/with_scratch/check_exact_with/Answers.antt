use Rattle.std.proofs.Common.{IfSome, sym, subst}
use Rattle.dd_nodes.specs.Stores.{Store}
use Rattle.dd_growing.specs.Growing.{grown_store}
use Rattle.dd_growing.specs.GrowingLaws.{growing_diagram}
use Rattle.sym_step.specs.Frame.{IsFrame}
use Rattle.exact_engine.proofs.QuickSets.{begun_frame}
use Rattle.exact_engine.proofs.with_scratch.check_exact_with.Goals as goal

pub tried_by_sets-requires-clause-last : goal.tried_by_sets-requires-clause-last
tried_by_sets-requires-clause-last g c =
    let full = c.args.net.now in
    let x = c.args.scratch.now in
    let s : Store = grown_store x.nodes.items x.base x.limit x.vars in
    subst (λ (u : Store). IfSome c.args.last.now (IsFrame u full.raw)) (sym c.begin.ensures)
    (begun_frame _ s full.raw c.args.last.now full.in_range (growing_diagram x.vars x.nodes.items x.slots.items x.ordered x.indexed) c.requires.last)
