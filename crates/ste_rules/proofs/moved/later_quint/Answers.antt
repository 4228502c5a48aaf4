use Rattle.ste_rules.proofs.Times.{later_made}
use Rattle.ste_rules.proofs.moved.later_quint.Goals as goal

pub returns-clause-some : goal.returns-clause-some
returns-clause-some c = λ number amount. later_made number c.args.quint.now c.in_ok-copy_expr.field-0 c.in_ok-copy_expr-2.field-0 c.in-Some.from c.in-Some.to c.in_ok-copy_expr.ensures c.in_ok-copy_expr-2.ensures (c.in-Some.ensures.some number amount).0 (c.in-Some.ensures.some number amount).1
