use Rattle.std.proofs.Common.{◌≡◌, ◌∙◌, ℕ, List, ap, filter, map, subst}
use Rattle.std.specs.Prelude.{IfOk}
use Rattle.ste_base.specs.declared.id.NodeId.{NodeId}
use Rattle.ste_model.specs.Asked.{weakened_at, weakens}
use Rattle.plain_check.specs.private.Sets.{AreFlags}
use Rattle.plain_check.proofs.Flagged.{ids_of}
use Rattle.plain_check.proofs.sources.flags_at.Goals as goal

pub returns : goal.returns
returns c =
    let weak = c.args.weak.now in
    let t = c.args.t in
    let ids : map (λ (node : NodeId). node.0) c.deref.result.now ≡ weakened_at weak t =
    ap (map (λ (node : NodeId). node.0)) (c.deref.ensures.value ∙ c.in_ok-nodes.ensures)
    ∙ ids_of (filter (weakens t) weak) in
    subst (λ (ids : List ℕ). IfOk c.flags_of.result (λ flags. AreFlags c.args.nets ids flags.items))
    ids c.flags_of.ensures
