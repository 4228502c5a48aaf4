use Rattle.std.proofs.Common.{◌≡◌, ◌<◌, ◌+◌, ◌++◌, ◌∷◌, [], take, get_or, length, ap, ◌∙◌, true, false, arith}
use Rattle.std.proofs.lemmas.List.{take_more}
use Rattle.hierarchy.proofs.Reached.{nothing, skip, anew, step_same, same_bit}
use Rattle.hierarchy.proofs.reach.mark.Goals as goal
use Rattle.hierarchy.proofs.reach.mark.Goals.{then-not-index+in_ok-push, else-not-index}

pub loop-k-init : goal.loop-k-init
loop-k-init c = nothing c.args.marks.now.items c.args.work.now.items

pub loop-k-preserved : goal.loop-k-preserved
loop-k-preserved c =
    let more : take (c.loop-k.k-index + 1) c.args.numbers.now ≡ take c.loop-k.k-index c.args.numbers.now ++ get_or c.args.numbers.now c.loop-k.k-index 0 ∷ [] = take_more c.args.numbers.now c.loop-k.k-index 0 c.loop-k-test.true in
    let low : get_or c.args.numbers.now c.loop-k.k-index 0 < length c.args.marks.now.items = c.requires c.loop-k.k-index 0 c.loop-k-test.true in
    let within : get_or c.args.numbers.now c.loop-k.k-index 0 < length c.loop-k.marks.items = let l = c.loop-k.invariant.long in omega arith in
    elim c.if-not-index.branch [
      | then-not-index+in_ok-push w ↦ step_same more (ap (λ v. v.items) w.marks-is) (ap (λ v. v.items) w.work-is ∙ w.in_ok-push.ensures.items) (anew _ _ _ _ _ _ c.loop-k.invariant within (same_bit c.loop-k.marks.items (get_or c.args.numbers.now c.loop-k.k-index 0) c.index.result.now false c.index.ensures within w.if-not-index.true))
      | else-not-index w ↦ step_same more (ap (λ v. v.items) w.marks-is) (ap (λ v. v.items) w.work-is) (skip _ _ _ _ _ _ c.loop-k.invariant (same_bit c.loop-k.marks.items (get_or c.args.numbers.now c.loop-k.k-index 0) c.index.result.now true c.index.ensures within w.if-not-index.false))
    ]
