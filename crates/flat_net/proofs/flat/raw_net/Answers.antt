use Rattle.std.proofs.Common.{◌∙◌, ap, map, refl}
use Rattle.hierarchy.specs.Lines.{inputs_of, outputs_of}
use Rattle.flat_net.specs.private.Passes.{node_in}
use Rattle.flat_net.proofs.Flattened.{few_covers, flat_is}
use Rattle.flat_net.proofs.flat.raw_net.Goals as goal

pub all_gates-requires : goal.all_gates-requires
all_gates-requires c = few_covers c.args.models.now c.args.covers c.args.instances.now 4294967295 c.requires.instances c.requires.few

pub returns : goal.returns
returns c = (
  flat_is c.args.models.now c.args.covers c.args.instances.now c.args.top.now _ c.requires.instances c.requires.top c.requires.count
      (c.in_ok-nodes_in.ensures ∙ ap (λ l. map (node_in c.args.top.now) l) (c.as_slice.ensures.keys ∙ c.in_ok-inputs.ensures ∙ ap (λ t. inputs_of t.model) c.top.view_is))
      (c.in_ok-nodes_in-2.ensures ∙ ap (λ l. map (node_in c.args.top.now) l) (c.as_slice-2.ensures.keys ∙ c.in_ok-outputs.ensures ∙ ap (λ t. outputs_of t.model) c.top.view_is))
      c.in_ok-all_gates.ensures c.in_ok-all_latches.ensures refl,
  refl,
)
