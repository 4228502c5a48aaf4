use Rattle.std.proofs.Common.{◌≡◌, ◌∙◌, ◌++◌, ap, sym, subst, IfOk}
use Rattle.bool_expr.specs.declared.token.Sign.TheVariants.{Or, Xor, And}
use Rattle.ste_rules.specs.Text.{expr_text}
use Rattle.ste_rules.proofs.Exprs.{all_tree, odd_tree, any_tree, listed_is}
use Rattle.ste_rules.proofs.print.+put.Goals as goal

pub put_expr-returns-in-All : goal.put_expr-returns-in-All
put_expr-returns-in-All t c = subst (λ text. IfOk c.put_list.result (λ _. c.put_list.new.text.items ≡ c.args.text.now.items ++ text)) (listed_is c.args.vars.now And c.as_slice.result.now ∙ ap (expr_text c.args.vars.now) (sym (all_tree c.args.expr.now c.in-All.parts c.as_slice.result.now c.in-All.is c.as_slice.ensures.value))) c.put_list.ensures

pub put_expr-returns-in-Odd : goal.put_expr-returns-in-Odd
put_expr-returns-in-Odd t c = subst (λ text. IfOk c.put_list-in-Odd.result (λ _. c.put_list-in-Odd.new.text.items ≡ c.args.text.now.items ++ text)) (listed_is c.args.vars.now Xor c.as_slice-in-Odd.result.now ∙ ap (expr_text c.args.vars.now) (sym (odd_tree c.args.expr.now c.in-Odd.parts c.as_slice-in-Odd.result.now c.in-Odd.is c.as_slice-in-Odd.ensures.value))) c.put_list-in-Odd.ensures

pub put_expr-returns-in-Any : goal.put_expr-returns-in-Any
put_expr-returns-in-Any t c = subst (λ text. IfOk c.put_list-in-Any.result (λ _. c.put_list-in-Any.new.text.items ≡ c.args.text.now.items ++ text)) (listed_is c.args.vars.now Or c.as_slice-in-Any.result.now ∙ ap (expr_text c.args.vars.now) (sym (any_tree c.args.expr.now c.in-Any.parts c.as_slice-in-Any.result.now c.in-Any.is c.as_slice-in-Any.ensures.value))) c.put_list-in-Any.ensures
