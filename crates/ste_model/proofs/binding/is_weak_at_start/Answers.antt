use Rattle.std.proofs.Common.{◌∙◌}
use Rattle.ste_model.proofs.Bindings.{any_of_start}
use Rattle.ste_model.proofs.binding.is_weak_at_start.Goals as goal

pub returns : goal.returns
returns c = c.some_of_start.ensures ∙ any_of_start c.args.weak.now c.args.node.0
