use Rattle.std.proofs.Common.{mod-lt}
use Rattle.dd_table.proofs.Layouts.{home_is}
use Rattle.dd_table.proofs.word.home_of_word.Goals as goal

pub returns : goal.returns
returns c = (home_is c.args.slots c.args.word c.requires, mod-lt _ c.requires)
