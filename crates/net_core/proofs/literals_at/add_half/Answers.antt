use Rattle.std.proofs.Common.{◌<◌, arith, length, ap, sym, ◌∙◌}
use Rattle.net_core.proofs.Stacked.{row_put, row_passed}
use Rattle.net_core.proofs.literals_at.add_half.Goals as goal
use Rattle.net_core.proofs.literals_at.add_half.Goals.{then-admits_at+in_ok-push, else-admits_at}

pub loop-place-preserved : goal.loop-place-preserved
loop-place-preserved c =
    let before = c.loop-place.invariant in
    let old = c.args.stack.now.items in
    let stack = c.loop-place.stack.items in
    let place = c.loop-place.place in
    let row = c.index-row.result.now in
    let inside : place < length old = let l = c.loop-place-test.true in let end = c.len-place-end.ensures in omega (arith, l, end) in
    elim c.if-admits_at.branch [
      | then-admits_at+in_ok-push w ↦
          let put = ap (λ v. v.items) w.stack-is ∙ w.in_ok-push.ensures.items in
          let both = row_put c.args.position c.args.bit old stack c.if-admits_at.stack.items place row w.behind_at.result _ inside c.index-row.ensures (sym w.if-admits_at.ensures) w.behind_at.ensures put before.kept before.half in
          record { kept = both.0; half = both.1 }
      | else-admits_at w ↦
          let both = row_passed c.args.position c.args.bit old stack c.if-admits_at.stack.items place row _ inside c.index-row.ensures (sym w.if-admits_at.ensures) (ap (λ v. v.items) w.stack-is) before.kept before.half in
          record { kept = both.0; half = both.1 }
    ]
