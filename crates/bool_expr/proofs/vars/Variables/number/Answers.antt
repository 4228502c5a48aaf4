use Rattle.std.proofs.Common.{rules, ◌≡◌}
use Rattle.bool_expr.specs.Read.{number_in}
use Rattle.bool_expr.proofs.Places.{if_within}
use Rattle.bool_expr.proofs.vars.Variables.number.Goals as goal

pub returns-clause-within : goal.returns-clause-within
returns-clause-within c =
    let found : c.copied.result ≡ number_in c.args.self.now c.args.name.now = search rules in
    if_within c.args.self.now c.args.name.now c.copied.result found
