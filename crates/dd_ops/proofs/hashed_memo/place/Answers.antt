use Rattle.std.proofs.Common.{refl, sym, ap, ◌∙◌, subst, arith, List, set}
use Rattle.dd_ops.specs.declared.few.Entry.{Entry}
use Rattle.dd_ops.specs.private.Tables.{IsPlaced, entry_at, is_used}
use Rattle.dd_ops.proofs.Walks.{begins, goes_on, never_full, placed}
use Rattle.dd_ops.proofs.hashed_memo.place.Goals as goal

pub loop-n-init : goal.loop-n-init
loop-n-init c = record { same = refl; here = begins c.args.entries.now c.args.entry.operands c.home-at.result c.home-at.ensures.0 c.home-at.ensures.1 }

pub returns-then-not-is_used : goal.returns-then-not-is_used
returns-then-not-is_used c =
    let same = c.loop-n.invariant.same in
    subst (λ (es : List Entry). IsPlaced c.args.entries.now c.args.entry (set es c.loop-n.at c.args.entry)) (sym same)
    (placed c.args.entries.now c.args.entry _ c.loop-n.n c.loop-n.at c.loop-n.invariant.here c.loop-n-test.true
    (ap (λ (es : List Entry). is_used (entry_at es c.loop-n.at).operands) (sym same) ∙ sym c.is_used.ensures ∙ c.if-not-is_used.true))

pub loop-n-preserved : goal.loop-n-preserved
loop-n-preserved c = record {
  same = c.loop-n.invariant.same;
  here = goes_on c.args.entries.now c.args.entry.operands c.loop-n.n c.loop-n.at c.next-at.result _ c.loop-n.invariant.here
      (ap (λ (es : List Entry). is_used (entry_at es c.loop-n.at).operands) (sym c.loop-n.invariant.same) ∙ sym c.is_used.ensures ∙ c.if-not-is_used.false) c.next-at.ensures.0 c.next-at.ensures.1;
}

pub unreachable-requires : goal.unreachable-requires
unreachable-requires c = never_full c.args.entries.now c.args.entry.operands c.loop-n.n c.requires.room (let end = c.loop-n-test.false in omega arith) c.loop-n.invariant.here.used
