use Rattle.std.proofs.Common.{◌≡◌, ◌<◌, ◌%◌, ◌/◌, ℕ, sym, ap, ◌∙◌, arith}
use Rattle.std.specs.Prelude.{Some}
use Rattle.dd_nodes.specs.Plain.{plain_held}
use Rattle.dd_growing.specs.private.Slots.{ref_in, slot_at, hash_of}
use Rattle.dd_growing.proofs.Parts.{held_inside, ref_in-slot_of, slot_parts}
use Rattle.dd_growing.proofs.Walks.{begins, goes_on, passes_on, true_or_false}
use Rattle.dd_growing.proofs.slots.find.Goals.{else-slot-hash-via-then-slot-hash+else-is_at, else-slot-hash-via-else-slot-hash}
use Rattle.dd_growing.proofs.slots.find.Goals as goal

pub loop-n-init : goal.loop-n-init
loop-n-init c = record {
  here = begins c.args.slots.now c.args.node c.near_of-at.result c.near_of-at.ensures.0 c.near_of-at.ensures.1;
  passed = λ i lt. absurd (omega arith);
}

pub loop-n-preserved : goal.loop-n-preserved
loop-n-preserved c =
    let xs = c.args.slots.now in
    let nodes = c.args.nodes.now in
    let i = c.loop-n.invariant in
    record {
      here = goes_on xs c.args.node c.loop-n.n c.loop-n.at c.further-at.result 0 i.here (sym c.is_used.ensures ∙ c.if-not-is_used.false) c.further-at.ensures.0 c.further-at.ensures.1;
      passed = passes_on nodes xs c.args.node c.loop-n.n c.loop-n.at 0 i.here i.passed (λ r is held.
          let few = c.requires.few in
          let inside = held_inside nodes r c.args.node held in
          let low : r.0 < 16777216 = omega (arith, few, inside) in
          elim c.else-slot-hash.branch [
            | else-slot-hash-via-then-slot-hash+else-is_at w ↦
                let same : ref_in (slot_at xs c.loop-n.at) ≡ r = ap ref_in is ∙ ref_in-slot_of (hash_of c.args.node) r low in
                let at : plain_held nodes (ref_in (slot_at xs c.loop-n.at)) ≡ Some c.args.node = ap (plain_held nodes) same ∙ held in
                true_or_false _ (w.is_at.ensures.no at) w.if-is_at.false
            | else-slot-hash-via-else-slot-hash w ↦
                w.if-slot-hash.false (ap (λ (x : ℕ). x / 16777216) is ∙ (slot_parts (hash_of c.args.node) r low).1 ∙ ap (λ (m : ℕ). m % 256) (sym c.requires.hash))
          ]);
    }
