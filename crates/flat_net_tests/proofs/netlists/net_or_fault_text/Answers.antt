use Rattle.std.proofs.Common.{List, ◌∙◌, ap, length, subst, sym}
use Rattle.std.proofs.lemmas.List.{length-map}
use Rattle.blif_syntax.specs.Covered.{AreCovered}
use Rattle.blif_syntax.specs.declared.models.Model.{Model}
use Rattle.blif_syntax.proofs.Sound.{read_is_sayable}
use Rattle.hierarchy.specs.Names.{own_name}
use Rattle.hierarchy.specs.Nets.{nets}
use Rattle.flat_net_tests.proofs.netlists.net_or_fault_text.Goals as goal

pub flatten-requires : goal.flatten-requires
flatten-requires c =
    subst (λ (ms : List Model). AreCovered ms) (sym c.in-Ok.ensures.1) (read_is_sayable.covered c.as_slice.result.now c.in-Ok.ensures.0)

pub shown-requires : goal.shown-requires
shown-requires c =
    c.in-Ok-flatten.ensures.flat.nets
    ∙ sym (ap (λ l. length l) c.in-Ok-flatten.ensures.names.own_known ∙ length-map (nets c.in-Ok.models.models) own_name)
