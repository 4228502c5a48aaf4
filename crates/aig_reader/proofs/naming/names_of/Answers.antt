use Rattle.std.proofs.Common.{ap, map, ◌∙◌}
use Rattle.aig_model.specs.declared.aig.AigLatch.{AigLatch}
use Rattle.aig_model.specs.Names.{own_outputs, own_variable}
use Rattle.aig_reader.proofs.Labels.{names_made, own_few}
use Rattle.aig_reader.proofs.naming.names_of.Goals as goal

pub add_names-requires-3 : goal.add_names-requires-3
add_names-requires-3 c = own_few c.args.aig.now.outputs c.as_slice-9.result.now
    (c.as_slice-9.ensures ∙ c.in_ok-outputs.ensures
    ∙ ap (own_outputs 0) c.as_slice-8.ensures) c.requires.few.outputs

pub returns : goal.returns
returns c =
    names_made c.args.aig.now c.new-names.result c.new-taken.result.keys c.add_names.new.names
    c.add_names.new.taken.keys c.add_names-2.new.names c.add_names-2.new.taken.keys
    c.add_names-3.new.names c.add_names-3.new.taken.keys
    c.as_slice-2.result.now c.as_slice-6.result.now c.as_slice-9.result.now c.as_slice-3.result.now
    c.as_slice-7.result.now c.as_slice-10.result.now c.in_ok-vars.vars.items
    c.new-names.ensures c.new-taken.ensures.empty
    (c.as_slice-2.ensures ∙ c.in_ok-inputs.ensures ∙ ap (map own_variable) c.as_slice.ensures)
    (c.in_ok-vars.ensures ∙ ap (map (λ (l : AigLatch). l.var)) c.as_slice-4.ensures)
    (c.as_slice-6.ensures ∙ c.in_ok-latches.ensures
    ∙ ap (map own_variable) c.as_slice-5.ensures.value)
    (c.as_slice-9.ensures ∙ c.in_ok-outputs.ensures ∙ ap (own_outputs 0) c.as_slice-8.ensures)
    c.as_slice-3.ensures c.as_slice-7.ensures c.as_slice-10.ensures
    (record { names = c.in_ok-add_names.ensures.names; taken = c.in_ok-add_names.ensures.taken })
    (record {
      names = c.in_ok-add_names-2.ensures.names;
      taken = c.in_ok-add_names-2.ensures.taken;
    })
    (record {
      names = c.in_ok-add_names-3.ensures.names;
      taken = c.in_ok-add_names-3.ensures.taken;
    })
