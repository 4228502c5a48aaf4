use Rattle.std.proofs.Common.{ℕ, ◌<◌, sym, subst, rules}
use Rattle.dd_table.proofs.Walks.{walk_lt}
use Rattle.dd_table.proofs.Tries.{tries}
use Rattle.dd_table.proofs.steps.try_word.Goals as goal

pub compare_exchange-requires : goal.compare_exchange-requires
compare_exchange-requires g c =
    let v = c.args.seat.now.me.0 in
    let slot = c.args.slot in
    let w = c.requires.next in
    let in' : slot < c.args.words.now.table_id.words =
    subst (λ (y : ℕ). slot < y) c.requires.size
    (subst (λ (y : ℕ). y < v.slots) (sym w.2) (walk_lt v.slots c.args.word w.0 c.requires.live)) in (
      search rules,
      in',
      tries c.args.words.now.key c.args.words.now.table_id.slots c.args.seat.now.id c.args.seat.now.me c.args.word w.0 slot c.requires.live
          c.requires.may c.requires.left w.1 w.2,
    )
