use Rattle.std.proofs.Common.{ap, map, ◌∙◌, ◌++◌}
use Rattle.aig_model.specs.declared.aig.AigLatch.{AigLatch}
use Rattle.aig_reader.proofs.naming.sources_of.Goals as goal

pub returns : goal.returns
returns c =
    c.in_ok-sources.ensures
    ∙ (λ i. (c.in_ok-inputs.ensures ∙ (λ j. c.new-empty.ensures j ++ c.as_slice.ensures j)) i
    ++ (c.as_slice-3.ensures.value ∙ c.in_ok-vars.ensures ∙ ap (map
    (λ (l : AigLatch). l.var)) c.as_slice-2.ensures) i)
