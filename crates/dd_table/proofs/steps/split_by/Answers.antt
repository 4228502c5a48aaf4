use Rattle.std.proofs.Common.{rules, arith}
use Rattle.dd_table.proofs.StepsKeep.{splits}
use Rattle.dd_table.proofs.steps.split_by.Goals as goal

pub split_seat-requires : goal.split_seat-requires
split_seat-requires g c =
    let v = c.args.seat.now.me.0 in
    let named = c.requires.named in
    let left = c.requires.left in (
      search rules,
      search rules,
      splits c.args.words.now.key c.args.seat.now.id v g.Q.Quota.quota c.requires.live (omega arith),
    )
