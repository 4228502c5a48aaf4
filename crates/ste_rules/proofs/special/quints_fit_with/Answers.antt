use Rattle.std.proofs.Common.{◌∙◌}
use Rattle.bool_expr.specs.Tree.{tree_of}
use Rattle.ste_rules.proofs.Exprs.{all_fit_with}
use Rattle.ste_rules.proofs.special.quints_fit_with.Goals as goal

pub returns : goal.returns
returns c = c.each_fits_with.ensures ∙ all_fit_with c.args.x (tree_of c.args.by.now) c.args.quints.now
