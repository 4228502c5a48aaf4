use Rattle.std.proofs.Common.{ℕ, refl, sym, ap, ◌∙◌, subst, arith, List, set}
use Rattle.dd_growing.specs.private.Slots.{IsPlaced, is_used, slot_at}
use Rattle.dd_growing.proofs.Walks.{begins, goes_on, never_full, placed}
use Rattle.dd_growing.proofs.slots.place.Goals as goal

pub loop-n-init : goal.loop-n-init
loop-n-init c = record { same = refl; here = begins c.args.table.now c.args.node c.near_of-at.result c.near_of-at.ensures.0 c.near_of-at.ensures.1 }

pub returns-then-not-is_used : goal.returns-then-not-is_used
returns-then-not-is_used c =
    let same = c.loop-n.invariant.same in
    subst (λ (xs : List ℕ). IsPlaced c.args.table.now c.args.node c.args.slot (set xs c.loop-n.at c.args.slot)) (sym same)
    (placed c.args.table.now c.args.node c.args.slot 0 c.loop-n.n c.loop-n.at c.loop-n.invariant.here c.loop-n-test.true
    (ap (λ (xs : List ℕ). is_used (slot_at xs c.loop-n.at)) (sym same) ∙ sym c.is_used.ensures ∙ c.if-not-is_used.true))

pub loop-n-preserved : goal.loop-n-preserved
loop-n-preserved c = record {
  same = c.loop-n.invariant.same;
  here = goes_on c.args.table.now c.args.node c.loop-n.n c.loop-n.at c.further-at.result 0 c.loop-n.invariant.here
      (ap (λ (xs : List ℕ). is_used (slot_at xs c.loop-n.at)) (sym c.loop-n.invariant.same) ∙ sym c.is_used.ensures ∙ c.if-not-is_used.false) c.further-at.ensures.0 c.further-at.ensures.1;
}

pub unreachable-requires : goal.unreachable-requires
unreachable-requires c = never_full c.args.table.now c.args.node c.loop-n.n c.requires.room (let end = c.loop-n-test.false in omega (arith, end)) c.loop-n.invariant.here.used
