-- Flat nets of one hierarchy differ in the numbers of their covers alone, so the same nets settle in them.
use Rattle.std.proofs.Common.{◌≡◌, ◌<◌, ℕ, zero, suc, List, length, map, get_or, Some, ap, sym, ◌∙◌, subst, arith, inl, inr}
use Rattle.std.specs.Prelude.{◌⊎◌, slice_get}
use Rattle.std.proofs.lemmas.Bool.{cases_order}
use Rattle.std.proofs.lemmas.List.{get_or-map, length-map}
use Rattle.ste_base.specs.declared.id.NodeId.{NodeId}
use Rattle.blif_syntax.specs.declared.models.Model.{Model}
use Rattle.hierarchy.specs.Names.{own_name}
use Rattle.hierarchy.specs.Nets.{nets}
use Rattle.net_core.specs.Run.{IsSettled, IsSettledAt, Settles}
use Rattle.net_core.specs.declared.raw.RawNet.{RawNet}
use Rattle.flat_net.specs.Flat.{IsFlat}
use Rattle.ste_program.specs.Netlist.{IsLoop}
use Rattle.ste_program.proofs.SameNets.{AreSame, flats_same, gate_at}

inputs_alike : (ones others : List NodeId) → map (λ (input : NodeId). input.0) ones ≡ map (λ (input : NodeId). input.0) others → (k : ℕ) (d : NodeId) → k < length others → (k < length ones) × ((get_or ones k d).0 ≡ (get_or others k d).0)
inputs_alike ones others e k d l =
    let first = length-map ones (λ (input : NodeId). input.0) in
    let second = length-map others (λ (input : NodeId). input.0) in
    let both = ap length e in
    let inside : k < length ones = omega (arith, first, second, both, l) in (
      inside,
      sym (get_or-map (λ (input : NodeId). input.0) ones k d 0 inside) ∙ (ap (λ (w : List ℕ). get_or w k 0) e ∙ get_or-map (λ (input : NodeId). input.0) others k d 0 l),
    )

settled_alike : (net other : RawNet) → AreSame net other → (level id : ℕ) → IsSettledAt net level id → IsSettledAt other level id
settled_alike net other same zero id h = h
settled_alike net other same (suc level) id h = λ k d l drives.
    let at = gate_at net other net.gates other.gates k d same.gates l in
    let before = h k d at.0 (at.1.output ∙ drives) in
    λ j e m.
    let input = inputs_alike (get_or net.gates k d).inputs (get_or other.gates k d).inputs at.1.inputs j e m in
    settled_alike net other same level (get_or (get_or other.gates k d).inputs j e).0
    (subst (λ n. IsSettledAt net level n) input.1 (before j e input.0))

-- what settles in one of the flat nets settles in the other
settles_alike : (models : List Model) (net other : RawNet) → IsFlat models net → IsFlat models other → (id : ℕ) → Settles net id → Settles other id
settles_alike models net other f g id h =
    (h.0, settled_alike net other (flats_same models net other f g) h.0 id h.1)

-- a netlist whose flat net settles has no loop
pub no_loop : (models : List Model) (net : RawNet) (name : List ℕ) → IsFlat models net → IsSettled net → ¬ IsLoop models name
no_loop models net name flat settled found = found.stuck.stuck (settles_alike models net found.net flat found.flat found.id (settled found.id))

same_name : (models : List Model) (one other : List ℕ) (f : IsLoop models one) (g : IsLoop models other) → (f.id ≡ g.id) ⊎ ((f.id < g.id) ⊎ (g.id < f.id)) → one ≡ other
same_name models one other f g (inl e) =
    let both : Some one ≡ Some other = sym f.named ∙ (ap (slice_get (map own_name (nets models))) e ∙ g.named) in
    let same : one ≡ other = cc in same
same_name models one other f g (inr (inl l)) = absurd (f.stuck.stuck (settles_alike models g.net f.net g.flat f.flat f.id (g.stuck.least f.id l)))
same_name models one other f g (inr (inr l)) = absurd (g.stuck.stuck (settles_alike models f.net g.net f.flat g.flat g.id (f.stuck.least g.id l)))

-- a netlist's loops are reported by one net
pub one_loop : (models : List Model) (one other : List ℕ) → IsLoop models one → IsLoop models other → one ≡ other
one_loop models one other f g = same_name models one other f g (cases_order f.id g.id)
