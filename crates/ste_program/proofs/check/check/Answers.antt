use Rattle.std.proofs.Common.{List, ℕ, subst, sym}
use Rattle.ste_program.specs.Check.{IsCheck}
use Rattle.ste_program.proofs.check.check.Goals as goal

pub returns : goal.returns
returns g c =
    subst (λ (bytes : List ℕ). IsCheck c.args.asked.now.steps c.args.asked.now.cubes c.args.asked.now.wave c.args.asked.now.nodes c.args.net_text.items c.args.task_text.items c.in_ok-checked.checked.passes bytes) (sym c.into.ensures) c.in_ok-checked.ensures.0
