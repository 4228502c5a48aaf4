use Rattle.std.proofs.Common.{◌∙◌, List, Option, ap, map, subst}
use Rattle.std.specs.Prelude.{IfOk}
use Rattle.std.proofs.lemmas.Result.{IfOk-weaker}
use Rattle.ste_base.specs.declared.id.NodeId.{NodeId}
use Rattle.dual_rail.specs.declared.rails.Rails.{Rails}
use Rattle.gate_sets.specs.declared.net_rails.NetRails.{NetRails}
use Rattle.sym_step.specs.Frame.{first_or, input_rails, nets_of, next_of}
use Rattle.sym_step.specs.private.Demands.{nodes_of}
use Rattle.sym_step.specs.private.Latches.{AreLatchSets}
use Rattle.sym_step.proofs.latches.latch_sets.Goals as goal

pub returns-in-Some-clause-sets : goal.returns-in-Some-clause-sets
returns-in-Some-clause-sets c =
    let net = c.args.net.now.raw in
    let asked : List NodeId = nodes_of c.args.demands.now.weak c.args.demands.now.cuts in
    let told : List Rails = c.in-Some.told in
    let is = c.as_slice.ensures ∙ ap (λ (o : Option (List Rails)). first_or o (map (input_rails (nets_of c.args.frame.now)) net.latches)) c.in-Some.ensures.value in
    IfOk-weaker c.given_sets.result (λ sets. AreLatchSets net (next_of net c.args.frame.now) c.args.demands.now.weak asked c.args.frame.now.board.nets.items sets.items) _ (λ sets h was. h)
    (subst (λ (xs : List NetRails). IfOk c.given_sets.result (λ sets. AreLatchSets net (next_of net c.args.frame.now) c.args.demands.now.weak asked xs sets.items)) c.deref.ensures.value
    (subst (λ (next : List Rails). IfOk c.given_sets.result (λ sets. AreLatchSets net next c.args.demands.now.weak asked c.deref.result.now sets.items)) is c.given_sets.ensures))
