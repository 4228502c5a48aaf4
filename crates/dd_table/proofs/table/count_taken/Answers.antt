use Rattle.std.proofs.Common.{◌≡◌, ap, arith}
use Rattle.std.specs.Mem.Slots.{slots_items}
use Rattle.dd_table.specs.Rules.{one_if_taken}
use Rattle.dd_table.proofs.Sums.{taken_more, one_of}
use Rattle.dd_table.proofs.table.count_taken.Goals.{then-word-ne0, else-word-ne0}
use Rattle.dd_table.proofs.table.count_taken.Goals as goal

pub loop-i-preserved : goal.loop-i-preserved
loop-i-preserved c =
    let i = c.loop-i.invariant in
    let more = taken_more (slots_items c.args.closed.now.words) c.loop-i.i c.word.result c.word.ensures in
    let a = i.counted in
    let b = i.small in
    elim c.if-word-ne0.branch [
      | then-word-ne0 w ↦
          let d = one_of c.word.result w.if-word-ne0.true in
          let e = w.count-is in
          record { counted = omega arith; small = omega arith }
      | else-word-ne0 w ↦
          let d : one_if_taken c.word.result ≡ 0 = ap one_if_taken w.if-word-ne0.false in
          let e = w.count-is in
          record { counted = omega arith; small = omega arith }
    ]
