use Rattle.std.proofs.Common.{rules}
use Rattle.dd_table.proofs.Looks.{reads}
use Rattle.dd_table.proofs.steps.read_any.Goals as goal

pub load-requires : goal.load-requires
load-requires c = (
  search rules,
  search rules,
  reads c.args.words.now.key c.args.words.now.table_id.slots c.args.seat.now.id c.args.seat.now.me c.args.slot c.requires.live,
)
