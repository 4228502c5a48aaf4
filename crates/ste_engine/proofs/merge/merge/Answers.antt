use Rattle.std.proofs.Common.{◌≤◌, ◌-◌, ◌++◌, length, take, drop, ◌∙◌, ap, inl, inr}
use Rattle.std.specs.Prelude.{◌⊎◌}
use Rattle.ste_engine.specs.private.TimedCuts.{merge as merge_of}
use Rattle.ste_engine.proofs.Merged.{merged}
use Rattle.ste_engine.proofs.merge.merge.Goals.{then-loop-i-test+else-j-ys, else-loop-i-test}
use Rattle.ste_engine.proofs.merge.merge.Goals as goal

pub returns : goal.returns
returns c =
    let over : (length c.args.xs.now ≤ c.loop-i.i) ⊎ (length c.args.ys.now ≤ c.loop-i.j) = elim c.loop-i-test.branch [
      | then-loop-i-test+else-j-ys w ↦ inr w.if-j-ys.false
      | else-loop-i-test w ↦ inl w.loop-i-test.false
    ] in
    let p = c.loop-i.invariant in
    c.in_ok-extend_from_slice-2.ensures.items ∙ ap (λ zs. zs ++ take (length c.args.ys.now - c.loop-i.j) (drop c.loop-i.j c.args.ys.now)) c.in_ok-extend_from_slice.ensures.items
    ∙ merged c.args.xs.now c.args.ys.now (merge_of c.args.xs.now c.args.ys.now) c.loop-i.timed_cuts.items c.loop-i.i c.loop-i.j p.first p.second over p.is
