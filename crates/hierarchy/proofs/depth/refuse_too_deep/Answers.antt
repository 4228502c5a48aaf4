use Rattle.std.proofs.Common.{sym, ◌∙◌}
use Rattle.hierarchy.proofs.Levels.{deep_is, shallow_is}
use Rattle.hierarchy.proofs.depth.refuse_too_deep.Goals as goal

pub returns-then-deep-clause-err : goal.returns-then-deep-clause-err
returns-then-deep-clause-err c = deep_is c.args.models.now c.requires.some c.requires.known (sym c.requires.deep ∙ c.if-deep.true)

pub returns-clause-ok : goal.returns-clause-ok
returns-clause-ok c = shallow_is c.args.models.now c.requires.known (sym c.requires.deep ∙ c.if-deep.false)
