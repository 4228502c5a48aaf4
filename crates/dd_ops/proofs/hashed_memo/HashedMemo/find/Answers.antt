use Rattle.std.proofs.Common.{sym, ap, ◌∙◌, arith}
use Rattle.dd_ops.specs.private.Tables.{same_operands}
use Rattle.dd_ops.proofs.Walks.{begins, goes_on, differs_on, true_or_false}
use Rattle.dd_ops.proofs.Keeping.{same_operands-refl}
use Rattle.dd_ops.proofs.hashed_memo.HashedMemo.find.Goals as goal

pub loop-n-init : goal.loop-n-init
loop-n-init c = record {
  here = begins c.as_slice-entries.result.now c.args.x c.home-at.result c.home-at.ensures.0 c.home-at.ensures.1;
  differ = λ i lt. absurd (omega arith);
}

pub loop-n-preserved : goal.loop-n-preserved
loop-n-preserved c =
    let es = c.as_slice-entries.result.now in
    let i = c.loop-n.invariant in
    record {
      here = goes_on es c.args.x c.loop-n.n c.loop-n.at c.next-at.result _ i.here (sym c.is_used.ensures ∙ c.if-not-is_used.false) c.next-at.ensures.0 c.next-at.ensures.1;
      differ = differs_on es c.args.x c.loop-n.n c.loop-n.at _ i.here i.differ
          (λ is. true_or_false _ (ap (λ y. same_operands y c.args.x) is ∙ same_operands-refl c.args.x) (sym c.if-eq.ensures));
    }
