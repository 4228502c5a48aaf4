use Rattle.plain_check.proofs.Chosen.{gate_gives}
use Rattle.plain_check.proofs.gates.gate_set.Goals as goal

pub returns : goal.returns
returns c = λ bit. rw (c.may_give_zero.ensures, c.may_give_one.ensures, c.requires) (gate_gives c.args.cover.now c.args.sets.now bit)
