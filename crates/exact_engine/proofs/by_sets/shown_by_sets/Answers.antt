use Rattle.std.proofs.Common.{Bool, List, Option, sym, subst}
use Rattle.exact_engine.specs.declared.showing.Shown.{Shown}
use Rattle.exact_engine.specs.private.BySets.{IsLeastStrongOf}
use Rattle.exact_engine.specs.private.Reporting.{IsShownExactly}
use Rattle.exact_engine.proofs.LeastCounters.{pass_shown}
use Rattle.exact_engine.proofs.by_sets.shown_by_sets.Goals as goal

pub returns-in-None : goal.returns-in-None
returns-in-None c =
    let net = c.args.net.now.raw in
    subst (λ (shown : Shown). IsShownExactly net c.args.vars c.args.task.now shown) (sym c.pass_shown.ensures)
    (pass_shown net c.args.vars c.args.task.now (subst (λ (o : Option (List Bool)). IsLeastStrongOf net c.args.vars c.args.task.now o) c.in-None.is c.requires.least))
