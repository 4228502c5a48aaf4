use Rattle.std.proofs.Common.{◌≡◌, ◌∙◌, ap}
use Rattle.net_core.specs.Possible.{is_weakened}
use Rattle.sym_step.specs.Step.{ids_of}
use Rattle.sym_step.specs.private.Demands.{Demanded}
use Rattle.sym_step.proofs.demands.Demands.is_weak.Goals as goal

pub returns : goal.returns
returns c =
    c.flag_of.ensures ∙ c.self.invariant.weakened c.args.id
    ∙ ap (λ (e : Demanded). is_weakened (ids_of e.weak) c.args.id) c.self.view_is
