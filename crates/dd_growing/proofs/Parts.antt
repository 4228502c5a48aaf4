-- The parts of a slot, and the references that have room in one.
use Rattle.std.proofs.Common.{◌≡◌, ℕ, zero, suc, ◌+◌, ◌-◌, ◌*◌, ◌/◌, ◌%◌, ◌<◌, ◌≤◌, true, List, [], ◌∷◌, length, ap, arith}
use Rattle.std.specs.Prelude.{Some, slice_get}
use Rattle.std.proofs.lemmas.Option.{none-some}
use Rattle.std.proofs.lemmas.Grind.{common_steps}
use Rattle.std.proofs.lemmas.Bool.Decides.{leb_tells}
use Rattle.dd_nodes.specs.declared.node.Ref.{Ref}
use Rattle.dd_nodes.specs.declared.node.Node.{Node}
use Rattle.dd_nodes.specs.Plain.{plain_held, ref_at}
use Rattle.dd_nodes.specs.PlainLaws.{place_of}
use Rattle.dd_growing.specs.private.Slots.{is_used, ref_in, slot_of}

pub slot_parts : (hash : ℕ) (r : Ref) → r.0 < 16777216 → (slot_of hash r % 16777216 ≡ r.0) × (slot_of hash r / 16777216 ≡ hash % 256)
slot_parts hash r low = (omega arith, omega arith)

pub ref_in-slot_of : (hash : ℕ) (r : Ref) → r.0 < 16777216 → ref_in (slot_of hash r) ≡ r
ref_in-slot_of hash r low = let make : ℕ → Ref = λ n. record { 0 = n } in ap make (slot_parts hash r low).0

-- the slot of a node is used
pub used_slot : (hash k : ℕ) → is_used (slot_of hash (ref_at k)) ≡ true
used_slot hash k = let some : 1 ≤ hash % 256 * 16777216 + (k + 2) = omega arith in grind (arith, common_steps, leb_tells)

pub place_inside : (xs : List Node) (k : ℕ) (n : Node) → slice_get xs k ≡ Some n → k < length xs
place_inside [] k n at = absurd (none-some n at)
place_inside (x ∷ xs) zero n at = omega arith
place_inside (x ∷ xs) (suc k) n at = let rest = place_inside xs k n at in omega (arith, rest)

-- the reference of a node of the list is one of those that the list gives
pub held_inside : (nodes : List Node) (r : Ref) (n : Node) → plain_held nodes r ≡ Some n → r.0 < length nodes + 2
held_inside nodes r n held =
    let p = place_of nodes r n held in
    let inside = place_inside nodes (r.0 - 2) n p.1 in
    let le = p.0 in
    omega (arith, inside, le)
