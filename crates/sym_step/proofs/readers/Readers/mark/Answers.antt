use Rattle.std.proofs.Common.{◌≡◌, ◌+◌, ◌≤◌, ℕ, List, suc, arith, length, refl, subst, sym, ap, ◌∙◌}
use Rattle.sym_step.specs.declared.readers.Slot.{Slot}
use Rattle.sym_step.specs.private.Readers.{IsLink, head_of, slot_of, spot}
use Rattle.sym_step.proofs.Chains.{all_met, whole_met}
use Rattle.sym_step.proofs.Reading.{marked_next}
use Rattle.sym_step.proofs.readers.Readers.mark.Goals as goal

pub loop-preserved : goal.loop-preserved
loop-preserved c =
    let slots : List Slot = c.args.self.now.slots.items in
    let head : ℕ = head_of c.args.self.now c.args.id in
    let n : ℕ = c.loop.counter in
    let slot : Slot = c.in-Some.slot in
    let inv = c.loop.invariant in
    let is : slot ≡ slot_of slots (spot slots head n) = c.in-Some.ensures.some.1 ∙ ap (slot_of slots) inv.link in
    let e : suc n ≡ n + 1 = omega arith in
    record {
      long = c.mark.ensures.long ∙ inv.long;
      order = c.mark.ensures.order ∙ inv.order;
      link = ap (λ (s : Slot). s.next) is ∙ ap (spot slots head) e;
      marked = marked_next slots head n slot.number c.args.due.now.flags.items c.loop.due.flags.items c.mark.new.self.flags.items (ap (λ (s : Slot). s.number) is) inv.long inv.marked c.mark.ensures.marked;
    }

pub returns-in_default-clause-marked : goal.returns-in_default-clause-marked
returns-in_default-clause-marked c = λ k lt none.
    let slots : List Slot = c.args.self.now.slots.items in
    let inv = c.loop.invariant in
    let p = inv.marked k lt none in
    let end : IsLink slots c.loop.link → ⊥ = c.in_default.ensures.none refl in
    (p.0, all_met slots (head_of c.args.self.now c.args.id) c.loop.counter k (λ h. end (subst (IsLink slots) (sym inv.link) h)) p.1)

pub returns-clause-marked : goal.returns-clause-marked
returns-clause-marked c = λ k lt none.
    let slots : List Slot = c.args.self.now.slots.items in
    let p = c.loop.invariant.marked k lt none in
    let long : length slots ≤ c.loop.counter = omega (arith, c.loop-test.false, c.len-end.ensures, c.args.self.now.slots.ok.0) in
    (p.0, whole_met slots (head_of c.args.self.now c.args.id) c.loop.counter k long p.1)
