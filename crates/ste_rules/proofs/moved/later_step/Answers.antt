use Rattle.std.proofs.Common.{◌≡◌, ◌∙◌, ap, subst, map}
use Rattle.std.specs.Option.{IfSome}
use Rattle.ste_model.specs.Trees.{quint_tree}
use Rattle.rule_model.specs.Rules.{later_by}
use Rattle.ste_rules.proofs.Times.{two_later}
use Rattle.ste_rules.proofs.moved.later_step.Goals as goal

pub returns-clause-some : goal.returns-clause-some
returns-clause-some c = λ number amount. two_later number c.args.step.now c.in-Some.ant c.in-Some-second.con
    (subst (λ f. IfSome f (λ made. map quint_tree made ≡ map (later_by number) (map quint_tree c.as_slice.result.now))) c.in-Some.is (c.in_ok-first.ensures.some number amount) ∙ ap (λ xs. map (later_by number) (map quint_tree xs)) c.as_slice.ensures)
    (subst (λ f. IfSome f (λ made. map quint_tree made ≡ map (later_by number) (map quint_tree c.as_slice-2.result.now))) c.in-Some-second.is (c.in_ok-second.ensures.some number amount) ∙ ap (λ xs. map (later_by number) (map quint_tree xs)) c.as_slice-2.ensures)
