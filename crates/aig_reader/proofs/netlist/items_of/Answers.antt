use Rattle.std.proofs.Common.{ap, length, map, sym, [], ◌∙◌, ◌++◌, ◌∷◌}
use Rattle.std.specs.List.{zip}
use Rattle.aig_model.specs.declared.aig.Aig.{Aig}
use Rattle.aig_model.specs.Netlist.{and_item, latch_item, opposite_item, opposites, output_item}
use Rattle.aig_model.proofs.Naming.{output_names_count}
use Rattle.aig_reader.proofs.ModelParts.{all_items, zero_items_are}
use Rattle.aig_reader.proofs.netlist.items_of.Goals as goal

pub add_outputs-requires : goal.add_outputs-requires
add_outputs-requires c = ap length c.output_names.ensures ∙ output_names_count c.args.naming.now
    ∙ sym (ap length (c.as_slice-3.ensures ∙ ap (λ (aig : Aig). aig.outputs) c.aig-aig.ensures))

pub returns : goal.returns
returns c =
    let naming = c.args.naming.now in
    all_items _ _ c.push.new.self c.push-2.new.self c.add_latches.new.items c.add_ands.new.items
    c.add_outputs.new.items c.add_opposites.new.items c.add_zero.new.items _ _ _ _
    (c.in_ok-push.ensures.ok ∙ (λ i. c.new-items.ensures i ++ c.in_ok-inputs.ensures i ∷ []))
    (c.in_ok-push-2.ensures.ok ∙ ap (λ item. c.push.new.self ++ item ∷ []) c.in_ok-outputs.ensures)
    (c.in_ok-add_latches.ensures ∙ ap (λ xs. c.push-2.new.self ++ map (latch_item naming) xs)
    (c.as_slice.ensures ∙ ap (λ (aig : Aig). aig.latches) c.aig-aig.ensures))
    (c.in_ok-add_ands.ensures ∙ ap (λ xs. c.add_latches.new.items ++ map (and_item naming) xs)
    (c.as_slice-2.ensures ∙ ap (λ (aig : Aig). aig.ands) c.aig-aig.ensures))
    (c.in_ok-add_outputs.ensures ∙ (λ i. c.add_ands.new.items ++ map
    (λ at. output_item naming at.0 at.1) (zip ((c.as_slice-3.ensures ∙ ap
    (λ (aig : Aig). aig.outputs) c.aig-aig.ensures) i) (c.output_names.ensures i))))
    (c.in_ok-add_opposites.ensures ∙ ap (λ xs. c.add_outputs.new.items ++ map (opposite_item naming)
    xs) (c.as_slice-4.ensures.value ∙ c.in_ok-vars.ensures ∙ ap opposites c.aig-aig.ensures))
    _ (c.in_ok-add_zero.ensures ∙ ap (λ xs. c.add_opposites.new.items ++ xs) (zero_items_are
    naming))
