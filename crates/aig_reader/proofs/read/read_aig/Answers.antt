use Rattle.std.proofs.Common.{ap, subst, sym, [], ◌∙◌, ◌++◌, ◌∷◌}
use Rattle.blif_syntax.specs.Covered.{AreCovered}
use Rattle.aig_model.specs.declared.aig.Aig.{Aig}
use Rattle.aig_model.specs.Netlist.{model_of}
use Rattle.aig_model.proofs.ModelCovers.{model_covered}
use Rattle.aig_reader.proofs.ReadFew.{few_read}
use Rattle.aig_reader.proofs.read.read_aig.Goals as goal

pub model_of-requires : goal.model_of-requires
model_of-requires c = record {
  few = few_read c.args.bytes.now c.in_ok-aig.aig c.requires
      c.in_ok-aig.ensures.1;
}

pub returns-clause-answer : goal.returns-clause-answer
returns-clause-answer c = (
  c.in_ok-aig.ensures.0,
  c.in_ok-push.ensures.ok ∙ (λ i. c.new-models.ensures i ++ c.in_ok-model.ensures i ∷ []) ∙ ap
      (λ (aig : Aig). model_of aig ∷ []) c.in_ok-aig.ensures.1,
)

pub returns-clause-covered : goal.returns-clause-covered
returns-clause-covered c = subst AreCovered (sym (c.in_ok-push.ensures.ok ∙
    (λ i. c.new-models.ensures i ++ c.in_ok-model.ensures i ∷ []))) (model_covered c.in_ok-aig.aig)
