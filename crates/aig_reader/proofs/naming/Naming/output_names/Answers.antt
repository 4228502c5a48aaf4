use Rattle.std.proofs.Common.{ap, drop, length, ◌∙◌}
use Rattle.aig_model.specs.declared.aig.Aig.{Aig}
use Rattle.aig_model.specs.Names.{output_names}
use Rattle.aig_reader.proofs.naming.Naming.output_names.Goals as goal

pub returns : goal.returns
returns c =
    c.behind.ensures
    ∙ (λ i. drop ((c.len.ensures ∙ ap length c.self.invariant.0) i) ((c.as_slice.ensures
    ∙ c.self.invariant.1) i))
    ∙ ap output_names c.self.view_is
