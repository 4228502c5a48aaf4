use Rattle.std.proofs.Common.{ℕ, ap, replicate, refl, subst, sym, true, ◌∙◌}
use Rattle.std.specs.Global.{Vec}
use Rattle.net_core.specs.Flat.{IsSettledOrder}
use Rattle.sym_step.proofs.Opened.{blank_is}
use Rattle.sym_step.proofs.Sourced.{unknown}
use Rattle.sym_step.proofs.frame.Frame.into_blank.Goals as goal

pub returns : goal.returns
returns c = λ s net d f.
    blank_is s net _ d (c.all_free.ensures ∙ ap (λ n. replicate n unknown) f.long) (c.all_marked.ensures.flags ∙ ap (λ n. replicate n true) f.due)
    (subst (λ (v : Vec ℕ). IsSettledOrder net v.items) (sym c.all_marked.ensures.order) f.order) (c.laid_by.ensures net f.lists f.spare) refl c.none_asked.ensures refl refl f.room
