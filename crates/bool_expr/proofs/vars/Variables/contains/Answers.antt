use Rattle.std.proofs.Common.{◌∙◌, ap, bytes_eq}
use Rattle.std.specs.List.{list_any}
use Rattle.std.specs.Option.{is_some}
use Rattle.bool_expr.proofs.Places.{has_number}
use Rattle.bool_expr.proofs.vars.Variables.contains.Goals as goal

pub returns : goal.returns
returns c = c.contains_key.ensures ∙ ap is_some (c.self.invariant c.args.name.now) ∙ has_number 0 c.self.inside.names.items c.args.name.now ∙ ap (list_any (bytes_eq c.args.name.now)) c.self.view_is
