use Rattle.std.proofs.Common.{List, ◌∙◌, sym, subst, arith}
use Rattle.blif_syntax.specs.declared.models.Model.{Model}
use Rattle.blif_syntax.specs.Covered.{AreCovered}
use Rattle.blif_syntax.proofs.Fit.{words_fit}
use Rattle.blif_syntax.proofs.Sound.{read_is_sayable}
use Rattle.work_pool_tests.proofs.exact.net_of.Goals as goal

pub read_models-requires : goal.read_models-requires
read_models-requires c =
    let small = c.requires in
    record { words = words_fit c.args.text.now c.as_slice.result.now (c.as_slice.ensures ∙ c.in_ok-lines.ensures) (omega (arith, small)) }

pub flatten-requires : goal.flatten-requires
flatten-requires c =
    let h = c.in-Ok.ensures in
    subst (λ (ms : List Model). AreCovered ms) (sym h.1) (read_is_sayable.covered c.as_slice.result.now h.0)
