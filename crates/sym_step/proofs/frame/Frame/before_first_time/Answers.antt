use Rattle.std.proofs.Common.{◌≡◌, List, Some, subst}
use Rattle.dual_rail.specs.declared.rails.Rails.{Rails}
use Rattle.sym_step.specs.Frame.{AreFirst}
use Rattle.sym_step.proofs.Framing.{with_first}
use Rattle.sym_step.proofs.frame.Frame.before_first_time.Goals as goal

pub returns-clause-frame : goal.returns-clause-frame
returns-clause-frame c = λ s net f long refs.
    let first : List Rails = c.args.first in
    with_first s net c.args.self (Some first) f (λ sets is. let same : first ≡ sets = cc is in subst (AreFirst s net) same (record { long = long; refs = refs }))
