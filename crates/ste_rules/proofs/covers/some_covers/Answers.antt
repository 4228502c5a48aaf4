use Rattle.std.proofs.Common.{◌∙◌}
use Rattle.ste_model.specs.Trees.{quint_tree}
use Rattle.ste_rules.proofs.Exprs.{any_covers}
use Rattle.ste_rules.proofs.covers.some_covers.Goals as goal

pub returns : goal.returns
returns c = c.one_covers.ensures ∙ any_covers (quint_tree c.args.quint.now) c.args.quints.now
