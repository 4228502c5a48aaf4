use Rattle.std.proofs.Common.{◌<◌, arith, length, ap, sym, ◌∙◌}
use Rattle.net_core.specs.Cases.{half_of_rows}
use Rattle.gate_sets.proofs.Stacked.{half_with, half_without, row_put, row_passed}
use Rattle.gate_sets.proofs.by_halves.add_half.Goals as goal
use Rattle.gate_sets.proofs.by_halves.add_half.Goals.{then-begins_with+in_ok-push, else-begins_with}

pub loop-place-preserved : goal.loop-place-preserved
loop-place-preserved c =
    let before = c.loop-place.invariant in
    let old = c.args.stack.now.items in
    let stack = c.loop-place.stack.items in
    let place = c.loop-place.place in
    let row = c.index-row.result.now in
    let bit = c.args.bit in
    let inside : place < length old = let l = c.loop-place-test.true in let end = c.len-place-end.ensures in omega (arith, l, end) in
    elim c.if-begins_with.branch [
      | then-begins_with+in_ok-push w ↦
          let put = ap (λ v. v.items) w.stack-is ∙ w.in_ok-push.ensures.items in
          let both = row_put (half_of_rows bit) old stack c.if-begins_with.stack.items place row w.without_first.result _ inside c.index-row.ensures
          (half_with bit row.now w.without_first.result.now _ (sym w.if-begins_with.ensures) w.without_first.ensures) put before.kept before.half in
          record { kept = both.0; half = both.1 }
      | else-begins_with w ↦
          let both = row_passed (half_of_rows bit) old stack c.if-begins_with.stack.items place row _ inside c.index-row.ensures (half_without bit row.now _ (sym w.if-begins_with.ensures)) (ap (λ v. v.items) w.stack-is) before.kept before.half in
          record { kept = both.0; half = both.1 }
    ]
