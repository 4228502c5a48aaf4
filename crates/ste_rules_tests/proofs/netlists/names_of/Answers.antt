use Rattle.std.proofs.Common.{List, subst, sym}
use Rattle.blif_syntax.specs.Covered.{AreCovered}
use Rattle.blif_syntax.specs.declared.models.Model.{Model}
use Rattle.blif_syntax.proofs.Sound.{read_is_sayable}
use Rattle.ste_rules_tests.proofs.netlists.names_of.Goals as goal

pub flatten-requires : goal.flatten-requires
flatten-requires c =
    subst (λ (ms : List Model). AreCovered ms) (sym c.in-Ok.ensures.1) (read_is_sayable.covered c.as_slice.result.now c.in-Ok.ensures.0)
