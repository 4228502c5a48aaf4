use Rattle.std.proofs.Common.{◌∙◌, ap, inl, inr, map}
use Rattle.hierarchy.specs.Lines.{inputs_of}
use Rattle.flat_net.specs.private.Passes.{node_in}
use Rattle.flat_net.proofs.Refusals.{driven_found, mixed_found, mixed_free}
use Rattle.flat_net.proofs.flat.refuse_numbered.Goals as goal

pub returns-in-Err-clause-err : goal.returns-in-Err-clause-err
returns-in-Err-clause-err c = elim c.in-Err.ensures.err [
  | inl wanting ↦ inl wanting
  | inr e ↦ inr (λ covers is. driven_found c.args.models.now covers c.args.instances.now c.args.top.now c.args.names.now c.as_slice-2.result.now (c.as_slice-2.ensures ∙ c.in_ok-nodes.ensures ∙ ap (λ l. map (node_in c.args.top.now) l) (c.as_slice.ensures.keys ∙ c.in_ok-inputs.ensures ∙ ap (λ t. inputs_of t.model) c.top.view_is)) is.shallow is.named is.instances is.top c.in-Err.fault e)
]

pub returns-in-Err-refuse_mixed_clocks-clause-err : goal.returns-in-Err-refuse_mixed_clocks-clause-err
returns-in-Err-refuse_mixed_clocks-clause-err c = elim c.in-Err-refuse_mixed_clocks.ensures.err [
  | inl wanting ↦ inl wanting
  | inr e ↦ inr (λ covers is. mixed_found c.args.models.now covers c.args.instances.now c.args.top.now c.args.names.now c.as_slice-2.result.now (c.as_slice-2.ensures ∙ c.in_ok-nodes.ensures ∙ ap (λ l. map (node_in c.args.top.now) l) (c.as_slice.ensures.keys ∙ c.in_ok-inputs.ensures ∙ ap (λ t. inputs_of t.model) c.top.view_is)) is.shallow is.named is.instances is.top c.in-Ok.ensures.ok c.in-Err-refuse_mixed_clocks.fault e)
]

pub returns-clause-ok : goal.returns-clause-ok
returns-clause-ok c = λ covers is. mixed_free c.args.models.now covers c.args.instances.now c.args.top.now c.args.names.now c.as_slice-2.result.now (c.as_slice-2.ensures ∙ c.in_ok-nodes.ensures ∙ ap (λ l. map (node_in c.args.top.now) l) (c.as_slice.ensures.keys ∙ c.in_ok-inputs.ensures ∙ ap (λ t. inputs_of t.model) c.top.view_is)) is.shallow is.named is.instances is.top c.in-Ok.ensures.ok c.in-Ok-refuse_mixed_clocks.ensures.ok
