use Rattle.std.proofs.Common.{◌≡◌, ◌≢◌, ℕ, ◌+◌, ◌%◌, sym, ap, ◌∙◌, subst, arith}
use Rattle.dd_table.specs.Tells.{IsSoundWithRoom}
use Rattle.dd_table.specs.declared.views.View.{View}
use Rattle.atomic_table.specs.declared.shared.Seat.{Seat}
use Rattle.dd_table.proofs.Searches.{advances, never}
use Rattle.dd_table.proofs.search.search.Goals.{then-left, else-left}
use Rattle.dd_table.proofs.search.search.Goals as goal

abbrev TableSeat : Type 0
TableSeat = Seat Unit View

pub loop-n-preserved : goal.loop-n-preserved
loop-n-preserved g c =
    let i = c.loop-n.invariant in
    let slots_is : c.loop-n.seat.me.0.slots ≡ c.args.slots = i.seen.more.slots ∙ c.requires.slots.0 in
    let round = c.loop-n-test.true in
    let next_is = c.next-at.ensures.0 ∙ ap (λ (y : ℕ). (c.loop-n.at + 1) % y) (sym slots_is) in
    elim c.if-left.branch [
      | then-left w ↦
          let e = w.try_at-found.ensures in
          let ne0 : w.try_at-found.result ≢ 0 = λ z. c.if-found-eq0.false (w.found-is ∙ z) in
          let new : w.try_at-found.result ≢ c.args.word = λ z. c.if-found-word.false (w.found-is ∙ z) in
          let seat_is = w.seat-is in
          let told = subst (λ (x : TableSeat). IsSoundWithRoom x.me.0) (sym seat_is) e.told.1 in
          let met = ap (λ (x : TableSeat). x.me.0) seat_is ∙ e.told.4 ne0 new in
          record {
            table = ap (λ (x : TableSeat). x.table_id) seat_is ∙ e.table ∙ i.table;
            empty = ap (λ (x : TableSeat). x.me.1) seat_is ∙ e.told.0 ∙ i.empty;
            in_range = c.next-at.ensures.1;
            cost = λ yes. let k = e.count yes in let m = w.steps-is in let l = i.cost yes in let sum : c.if-left.steps ≡ c.args.steps.now + (c.loop-n.n + 1) = omega arith in sum;
            seen = advances c.args.word c.loop-n.n c.loop-n.at w.try_at-found.result c.next-at.result _ c.loop-n.seat.me.0 c.if-left.seat.me.0
                i.seen (omega arith) met new told next_is;
          }
      | else-left w ↦
          let e = w.look-found.ensures in
          let ne0 : w.look-found.result ≢ 0 = λ z. c.if-found-eq0.false (w.found-is ∙ z) in
          let new : w.look-found.result ≢ c.args.word = λ z. c.if-found-word.false (w.found-is ∙ z) in
          let seat_is = w.seat-is in
          let told = subst (λ (x : TableSeat). IsSoundWithRoom x.me.0) (sym seat_is) e.told.1 in
          let met = ap (λ (x : TableSeat). x.me.0) seat_is ∙ e.told.4 ne0 new in
          record {
            table = ap (λ (x : TableSeat). x.table_id) seat_is ∙ e.table ∙ i.table;
            empty = ap (λ (x : TableSeat). x.me.1) seat_is ∙ e.told.0 ∙ i.empty;
            in_range = c.next-at.ensures.1;
            cost = λ yes. let k = e.count in let m = w.steps-is in let l = i.cost yes in let sum : c.if-left.steps ≡ c.args.steps.now + (c.loop-n.n + 1) = omega arith in sum;
            seen = advances c.args.word c.loop-n.n c.loop-n.at w.look-found.result c.next-at.result _ c.loop-n.seat.me.0 c.if-left.seat.me.0
                i.seen (omega arith) met new told next_is;
          }
    ]

pub unreachable-requires : goal.unreachable-requires
unreachable-requires g c =
    let i = c.loop-n.invariant in
    let slots_is : c.loop-n.seat.me.0.slots ≡ c.args.slots = i.seen.more.slots ∙ c.requires.slots.0 in
    let all = c.loop-n-test.false in
    let live = c.requires.slots.1 in
    never c.args.word c.loop-n.n c.loop-n.at _ _ i.seen (omega arith) (omega arith)
