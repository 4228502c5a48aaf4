use Rattle.std.proofs.Common.{◌≡◌, subst}
use Rattle.std.specs.Option.{IfSome}
use Rattle.ste_model.specs.Trees.{quint_tree}
use Rattle.rule_model.specs.Rules.{later_by}
use Rattle.ste_rules.proofs.Times.{later_turn}
use Rattle.ste_rules.proofs.moved.later_quints.Goals as goal

pub loop-quint-preserved : goal.loop-quint-preserved
loop-quint-preserved c = λ number amount. later_turn number c.args.quints.now c.loop-quint.quint-index c.quint-item.result c.in-Some.later c.loop-quint.made c.push.new.self c.loop-quint-test.true c.quint-item.is (subst (λ f. IfSome f (λ made. quint_tree made ≡ later_by number (quint_tree c.quint-item.result))) c.in-Some.is (c.in_ok-next.ensures.some number amount)) c.in_ok-push.ensures.ok (c.loop-quint.invariant number amount)
