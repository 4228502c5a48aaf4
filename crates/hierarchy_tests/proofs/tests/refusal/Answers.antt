use Rattle.std.proofs.Common.{List, subst, sym}
use Rattle.blif_syntax.specs.Covered.{AreCovered}
use Rattle.blif_syntax.specs.declared.models.Model.{Model}
use Rattle.blif_syntax.proofs.Sound.{read_is_sayable}
use Rattle.hierarchy_tests.proofs.tests.refusal.Goals as goal

pub refuse-requires : goal.refuse-requires
refuse-requires c =
    subst (λ (ms : List Model). AreCovered ms) (sym c.in-Ok.ensures.1) (read_is_sayable.covered c.as_slice.result.now c.in-Ok.ensures.0)
