-- The three references of a net keep their sets.
use Rattle.std.proofs.Common.{◌≡◌, Bool, true, false, ℕ, ◌<◌, List, length, get_or, sym, ◌∙◌, ap, subst, All}
use Rattle.std.specs.Prelude.{◌||◌, not}
use Rattle.std.proofs.lemmas.List.{get_or_default, get_or-map}
use Rattle.ste_base.specs.declared.id.NodeId.{NodeId}
use Rattle.dd_nodes.specs.declared.node.Ref.{Ref}
use Rattle.ste_base.specs.Functions.{Function}
use Rattle.dd_nodes.specs.Stores.{Store, Keeps, Means, function}
use Rattle.dd_ops.proofs.Terminal.{one_bit, zero_bit}
use Rattle.dual_rail.specs.declared.rails.Rails.{Rails}
use Rattle.dual_rail.specs.Rail.{AreRails}
use Rattle.dd_nodes.proofs.Stores.{IsGood, Means-keeps}
use Rattle.dd_nodes.proofs.Spending.{own}
use Rattle.net_core.specs.Work.{SymbolicSet, everything, some_bit}
use Rattle.gate_sets.specs.declared.net_rails.NetRails.{NetRails}
use Rattle.gate_sets.specs.NetSets.{AreNetRails, AreNetRefs, HaveInputs, IsKnown, net_at, own_where, sets_at}

pub Net-keeps : (s t : Store) (w : SymbolicSet) (r : NetRails) → IsGood s → IsGood t → Keeps s t → AreNetRails s w r → AreNetRails t w r
Net-keeps s t w r ds dt k m = record {
  zero = Means-keeps s t w.zero r.can0 ds dt k m.zero;
  one = Means-keeps s t w.one r.can1 ds dt k m.one;
  some = Means-keeps s t (some_bit w) r.some ds dt k m.some;
  known = λ yes bits l. m.known yes bits (l ∙ k.vars);
}

pub own_net : (s : Store) (r : NetRails) → AreNetRefs s r → AreNetRails s (own_where s r) r
own_net s r h = record { zero = own s r.can0 h.zero; one = own s r.can1 h.one; some = h.some; known = h.known }

pub refs_of_net : (s : Store) (w : SymbolicSet) (r : NetRails) → AreNetRails s w r → AreNetRefs s r
refs_of_net s w r m = record {
  zero = m.zero.ref;
  one = m.one.ref;
  some = record {
    ref = m.some.ref;
    value = λ bits l. m.some.value bits l
        ∙ sym (ap (λ x. x || function s r.can1 bits) (m.zero.value bits l) ∙ ap (λ x. w.zero bits || x) (m.one.value bits l));
  };
  known = λ yes bits l. m.zero.value bits l ∙ m.known yes bits l ∙ ap not (sym (m.one.value bits l));
}

pub Net-refs-keep : (s t : Store) (r : NetRails) → IsGood s → IsGood t → Keeps s t → AreNetRefs s r → AreNetRefs t r
Net-refs-keep s t r ds dt k h = refs_of_net t (own_where s r) r (Net-keeps s t (own_where s r) r ds dt k (own_net s r h))

pub All-net-refs-keep : (s t : Store) (nets : List NetRails) → IsGood s → IsGood t → Keeps s t → All (AreNetRefs s) nets → All (AreNetRefs t) nets
All-net-refs-keep s t nets ds dt k h = λ i d l. Net-refs-keep s t (get_or nets i d) ds dt k (h i d l)

pub Inputs-keep : (s t : Store) (sets : ℕ → SymbolicSet) (nets : List NetRails) (inputs : List NodeId) → IsGood s → IsGood t → Keeps s t → HaveInputs s sets nets inputs → HaveInputs t sets nets inputs
Inputs-keep s t sets nets inputs ds dt k h = λ i d l. Net-keeps s t (sets (get_or inputs i d).0) (net_at nets (get_or inputs i d).0) ds dt k (h i d l)

-- the inputs' own sets
pub own_inputs : (s : Store) (nets : List NetRails) (inputs : List NodeId) → All (λ input. input.0 < length nets) inputs → All (AreNetRefs s) nets
    → HaveInputs s (λ id. own_where s (net_at nets id)) nets inputs
own_inputs s nets inputs inside refs = λ k d l. own_net s (net_at nets (get_or inputs k d).0) (refs (get_or inputs k d).0 _ (inside k d l))

-- where the constants stand, the set has their bits
pub one_at : (s : Store) (f : Function) (r : Ref) → IsGood s → r.0 ≡ 1 → Means s f r → (bits : List Bool) → length bits ≡ s.vars → f bits ≡ true
one_at s f r d e m bits l = sym (m.value bits l) ∙ one_bit s r bits d e

pub zero_at : (s : Store) (f : Function) (r : Ref) → IsGood s → r.0 ≡ 0 → Means s f r → (bits : List Bool) → length bits ≡ s.vars → f bits ≡ false
zero_at s f r d e m bits l = sym (m.value bits l) ∙ zero_bit s r bits d e

pub constant_zero : (s : Store) (w : SymbolicSet) (r : Rails) → IsGood s → r.can0.0 ≡ 1 → r.can1.0 ≡ 0 → AreRails s w r → IsKnown s.vars w
constant_zero s w r d e f m bits l = one_at s w.zero r.can0 d e m.zero bits l ∙ ap not (sym (zero_at s w.one r.can1 d f m.one bits l))

pub constant_one : (s : Store) (w : SymbolicSet) (r : Rails) → IsGood s → r.can0.0 ≡ 0 → r.can1.0 ≡ 1 → AreRails s w r → IsKnown s.vars w
constant_one s w r d e f m bits l = zero_at s w.zero r.can0 d e m.zero bits l ∙ ap not (sym (one_at s w.one r.can1 d f m.one bits l))

-- the references that were read for an input have its set
pub input_here : (s : Store) (sets : ℕ → SymbolicSet) (nets : List NetRails) (inputs : List NodeId) (k : ℕ) (id : NodeId) (r : NetRails) → All (λ input. input.0 < length nets) inputs
    → k < length inputs → get_or inputs k id ≡ id → get_or nets id.0 r ≡ r → HaveInputs s sets nets inputs → AreNetRails s (sets id.0) r
input_here s sets nets inputs k id r inside lt is_id is_r h =
    let within : id.0 < length nets = subst (λ (x : NodeId). x.0 < length nets) is_id (inside k id lt) in
    subst (AreNetRails s (sets id.0)) (get_or_default nets id.0 _ r within ∙ is_r)
    (subst (λ (x : NodeId). AreNetRails s (sets x.0) (net_at nets x.0)) is_id (h k id lt))

pub set_here : (sets : ℕ → SymbolicSet) (inputs : List NodeId) (k : ℕ) (id : NodeId) → k < length inputs → get_or inputs k id ≡ id → get_or (sets_at sets inputs) k everything ≡ sets id.0
set_here sets inputs k id lt is = get_or-map (λ (input : NodeId). sets input.0) inputs k id everything lt ∙ ap (λ (x : NodeId). sets x.0) is

-- references whose rails are those of a set have it
pub net_by_rails : (s : Store) (w : SymbolicSet) (r : NetRails) (rails : Rails) → r.can0 ≡ rails.can0 → r.can1 ≡ rails.can1 → AreNetRefs s r → AreRails s w rails → AreNetRails s w r
net_by_rails s w r rails zero one h m =
    let z : Means s w.zero r.can0 = subst (Means s w.zero) (sym zero) m.zero in
    let o : Means s w.one r.can1 = subst (Means s w.one) (sym one) m.one in
    record {
      zero = z;
      one = o;
      some = record { ref = h.some.ref; value = λ bits l. h.some.value bits l ∙ ap (λ x. x || function s r.can1 bits) (z.value bits l) ∙ ap (λ x. w.zero bits || x) (o.value bits l) };
      known = λ yes bits l. sym (z.value bits l) ∙ h.known yes bits l ∙ ap not (o.value bits l);
    }
