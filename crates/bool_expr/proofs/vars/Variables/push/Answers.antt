use Rattle.std.proofs.Common.{◌∙◌}
use Rattle.bool_expr.proofs.Places.{number_pushed}
use Rattle.bool_expr.proofs.vars.Variables.push.Goals as goal

pub invariant_of-self-in_default : goal.invariant_of-self-in_default
invariant_of-self-in_default c = λ word. number_pushed c.self.inside.names.items c.push.new.self.items _ c.args.name.now _ word _ _ (c.len-place.ensures ∙ c.self.inside.names.ok.0) c.in_ok-clone.ensures.cases c.in_ok-push.ensures.items (c.self.invariant word) (c.in_default.ensures.ok word)
