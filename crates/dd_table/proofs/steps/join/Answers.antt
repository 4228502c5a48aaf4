use Rattle.std.proofs.Common.{rules}
use Rattle.dd_table.proofs.StepsKeep.{joins}
use Rattle.dd_table.proofs.steps.join.Goals as goal

pub join_seat-requires : goal.join_seat-requires
join_seat-requires c = (
  search rules,
  search rules,
  search rules,
  search rules,
  joins c.args.words.now.key c.args.seat.now.id c.args.seat.now.me.0 c.args.other.id c.args.other.me.0 c.requires.live,
)
