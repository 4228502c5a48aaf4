use Rattle.std.proofs.Common.{ap, ◌∙◌}
use Rattle.std.specs.Prelude.{option_map}
use Rattle.net_names.specs.Names.{named_by}
use Rattle.net_names.proofs.Named.{names_are_resolved}
use Rattle.net_names.proofs.names.NetNames.resolve.Goals as goal

pub returns-in_err-number-clause-same : goal.returns-in_err-number-clause-same
unfolding named_by
returns-in_err-number-clause-same c = ap (λ found. option_map (λ id. id.0) found) c.from_residual.ensures ∙ c.in_err-number.ensures

pub returns-in_err-number-clause-known : goal.returns-in_err-number-clause-known
unfolding named_by
returns-in_err-number-clause-known c models known = ap (λ found. option_map (λ id. id.0) found) c.from_residual.ensures ∙ c.in_err-number.ensures ∙ names_are_resolved models c.args.self.now known c.args.text.now

pub returns-clause-same : goal.returns-clause-same
unfolding named_by
returns-clause-same c = c.in_ok-number.ensures

pub returns-clause-known : goal.returns-clause-known
unfolding named_by
returns-clause-known c models known = c.in_ok-number.ensures ∙ names_are_resolved models c.args.self.now known c.args.text.now
