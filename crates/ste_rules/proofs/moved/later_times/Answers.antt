use Rattle.ste_rules.proofs.moved.later_times.Goals as goal

pub returns-clause-some : goal.returns-clause-some
returns-clause-some c = λ number amount. ((c.in_ok-from.ensures.some number amount).0, (c.in_ok-to.ensures.some number amount).0)
