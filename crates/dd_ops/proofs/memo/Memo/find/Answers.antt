use Rattle.std.proofs.Common.{sym, subst, IfNone, List}
use Rattle.dd_ops.specs.declared.few.Entry.{Entry}
use Rattle.dd_ops.specs.declared.memo.Memo.{Memo}
use Rattle.dd_ops.specs.declared.memo.Memo.TheVariants.{InPlace}
use Rattle.dd_ops.specs.private.Met.{IsMet}
use Rattle.dd_ops.proofs.Keeping.{none_in_place}
use Rattle.dd_ops.proofs.memo.Memo.find.Goals as goal

pub returns-in-InPlace-clause-none : goal.returns-in-InPlace-clause-none
returns-in-InPlace-clause-none c =
    let x = c.args.x in
    subst (λ (m : Memo). IfNone c.find_among.result (IsMet m x → ⊥)) (sym c.in-InPlace.is)
    (subst (λ (es : List Entry). IfNone c.find_among.result (IsMet (InPlace es) x → ⊥)) c.as_slice.ensures
    (none_in_place c.find_among.result c.as_slice.result.now x c.find_among.ensures.none))
