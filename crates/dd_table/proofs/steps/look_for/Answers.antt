use Rattle.std.proofs.Common.{◌≡◌, ℕ, ◌<◌, sym, subst, rules}
use Rattle.dd_table.specs.Layout.{walk_slot}
use Rattle.dd_table.specs.Tells.{MayMake, HasWalked}
use Rattle.dd_table.proofs.Walks.{walk_lt}
use Rattle.dd_table.proofs.Looks.{looks}
use Rattle.dd_table.proofs.steps.look_for.Goals as goal

pub load-requires : goal.load-requires
load-requires g c =
    let v = c.args.seat.now.me.0 in
    let slot = c.args.slot in
    let w = c.requires.next in
    let same = c.requires.named in
    let in' : slot < c.args.words.now.table_id.words =
    subst (λ (y : ℕ). slot < y) c.requires.size
    (subst (λ (y : ℕ). y < v.slots) (sym w.2) (walk_lt v.slots c.args.word w.0 c.requires.live)) in (
      search rules,
      in',
      looks c.args.words.now.key c.args.words.now.table_id.slots c.args.seat.now.id c.args.seat.now.me g.W.Sought.word w.0 slot c.requires.live
          (subst (MayMake v) same c.requires.may)
          (subst (λ (y : ℕ). HasWalked v y w.0) same w.1)
          (subst (λ (y : ℕ). slot ≡ walk_slot v.slots y w.0) same w.2),
    )
