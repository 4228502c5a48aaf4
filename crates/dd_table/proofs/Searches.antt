-- How a search begins, goes on and ends.
use Rattle.std.proofs.Common.{◌≡◌, ◌≢◌, ℕ, ◌+◌, ◌%◌, ◌<◌, ◌≤◌, List, [], ◌∷◌, ◌++◌, length, Some, true, false, refl, sym, ap, ap₂, ◌∙◌, subst, arith, true≢false}
use mathlib.Core.Logic.{dite}
use native.Mathlib.Decide.{ℕ_discrete}
use Rattle.std.specs.Ordering.{nat_cmp}
use Rattle.std.specs.FinMap.{FinMap, get, insert}
use Rattle.dd_nodes.specs.declared.node.Ref.{Ref}
use Rattle.dd_nodes.specs.declared.node.Node.{Node}
use Rattle.dd_table.specs.declared.views.View.{View}
use Rattle.dd_table.specs.Codes.{ref}
use Rattle.dd_table.specs.Layout.{walk_slot, node_in_word}
use Rattle.dd_table.specs.Views.{met_view, found_view, made_view}
use Rattle.dd_table.specs.Rules.{IsHeldChild}
use Rattle.dd_table.specs.Tells.{IsNotHeld, HoldsMore, IsSoundWithRoom, MayMake, HasWalked, DiffersInMet, IsSearching, EndsFound, EndsOut}
use Rattle.dd_table.proofs.Maps.{get_same, get_stays, none_or_some}
use Rattle.dd_table.proofs.Walks.{walk_once, walk_to, walk_next, lt_of_le}

pub starts : (w at : ℕ) (v : View) → at ≡ walk_slot v.slots w 0 → IsSearching w 0 at v v
starts w at v is = record {
  more = record { held = refl; made = refl; limit = refl; vars = refl; slots = refl };
  at_is = is;
  others = λ k lt. absurd (omega arith);
  room = λ lt. absurd (omega arith);
}

pub walked : (w n at : ℕ) (v u : View) → IsSearching w n at v u → n < u.slots → HasWalked u w n
walked w n at v u s lt = record { within = lt; others = s.others }

pub may_still : (w : ℕ) (v u : View) → DiffersInMet v u → MayMake v w → MayMake u w
may_still w v u m may =
    let n = node_in_word w in
    record {
      some = may.some;
      var = subst (λ (y : ℕ). n.var < y) (sym m.vars) may.var;
      apart = may.apart;
      lo = subst (λ (h : FinMap nat_cmp Node). IsHeldChild h n.var n.lo.0) (sym m.held) may.lo;
      hi = subst (λ (h : FinMap nat_cmp Node). IsHeldChild h n.var n.hi.0) (sym m.held) may.hi;
    }

-- another word was met
pub advances : (w n at x next : ℕ) (v u u' : View) → IsSearching w n at v u → n < u.slots → u' ≡ met_view u at x → x ≢ w → IsSoundWithRoom u'
    → next ≡ (at + 1) % u.slots → IsSearching w (n + 1) next v u'
advances w n at x next v u u' s lt is ne told next_is =
    let slots_is : u'.slots ≡ u.slots = ap (λ (y : View). y.slots) is in
    let met' = insert u.met at x in
    let seen : (k : ℕ) → k < n + 1 → (y : ℕ) × (get met' (walk_slot u.slots w k) ≡ Some y) × (y ≢ w) = λ k lt'. dite (ℕ_discrete k n)
    (λ same. (x, ap (get met') (ap (walk_slot u.slots w) same ∙ sym s.at_is) ∙ get_same u.met at x, ne))
    (λ apart.
    let o = s.others k (lt_of_le k n (omega arith) apart) in
    let far : walk_slot u.slots w k ≡ at → x ≡ o.0 = λ hit. absurd (apart (walk_once u.slots w k n (omega arith) lt (hit ∙ s.at_is))) in
    (o.0, get_stays u.met at x (walk_slot u.slots w k) o.0 o.1 far, o.2)) in
    record {
      more = record {
        held = ap (λ (y : View). y.held) is ∙ s.more.held;
        made = ap (λ (y : View). y.made) is ∙ s.more.made;
        limit = ap (λ (y : View). y.limit) is ∙ s.more.limit;
        vars = ap (λ (y : View). y.vars) is ∙ s.more.vars;
        slots = slots_is ∙ s.more.slots;
      };
      at_is = next_is ∙ ap (λ (y : ℕ). (y + 1) % u.slots) s.at_is ∙ walk_next u.slots w n ∙ ap (λ (y : ℕ). walk_slot y w (n + 1)) (sym slots_is);
      others = λ k lt'. subst (λ (y : View). (z : ℕ) × (get y.met (walk_slot y.slots w k) ≡ Some z) × (z ≢ w)) (sym is) (seen k lt');
      room = λ _. told.0;
    }

not_held_before : (w : ℕ) (v u : View) → DiffersInMet v u → IsNotHeld u w → IsNotHeld v w
not_held_before w v u m h r e = h r (ap (λ (y : FinMap nat_cmp Node). get y r) m.held ∙ e)

-- the word was there
pub ends_found : (w n at x : ℕ) (v u u' : View) → IsSearching w n at v u → at < v.slots → x ≡ w → u' ≡ found_view u at x → IsSoundWithRoom u' → HoldsMore u u'
    → EndsFound w v u' at false
ends_found w n at x v u u' s in' same is told grows = record {
  within = in';
  sound = told.1;
  limit = ap (λ (y : View). y.limit) is ∙ s.more.limit;
  vars = ap (λ (y : View). y.vars) is ∙ s.more.vars;
  slots = ap (λ (y : View). y.slots) is ∙ s.more.slots;
  held = ap (λ (y : View). y.held) is ∙ ap₂ (λ (h : FinMap nat_cmp Node) (y : ℕ). insert h (at + 2) (node_in_word y)) s.more.held same;
  grows = λ q m e. grows q m (ap (λ (h : FinMap nat_cmp Node). get h q) s.more.held ∙ e);
  kept = λ _. ap (λ (y : View). y.made) is ∙ s.more.made;
  added = λ e. absurd (true≢false (sym e));
}

-- the slot was empty, and the word was written
pub ends_made : (w n at : ℕ) (v u u' : View) → IsSearching w n at v u → at < v.slots → u' ≡ made_view u at w → IsNotHeld u w → IsSoundWithRoom u'
    → length v.made < v.limit → HoldsMore u u' → EndsFound w v u' at true
ends_made w n at v u u' s in' is none told left grows = record {
  within = in';
  sound = told.1;
  limit = ap (λ (y : View). y.limit) is ∙ s.more.limit;
  vars = ap (λ (y : View). y.vars) is ∙ s.more.vars;
  slots = ap (λ (y : View). y.slots) is ∙ s.more.slots;
  held = ap (λ (y : View). y.held) is ∙ ap (λ (h : FinMap nat_cmp Node). insert h (at + 2) (node_in_word w)) s.more.held;
  grows = λ q m e. grows q m (ap (λ (h : FinMap nat_cmp Node). get h q) s.more.held ∙ e);
  kept = λ e. absurd (true≢false e);
  added = λ _.
      let made = ap (λ (y : View). y.made) is ∙ ap (λ (y : List Ref). y ++ ref (at + 2) ∷ []) s.more.made in
      (made, not_held_before w v u s.more none, left);
}

-- the slot was empty, and no step was left
pub ends_out : (w n at : ℕ) (v u u' : View) → IsSearching w n at v u → u' ≡ u → IsNotHeld u w → IsSoundWithRoom u' → v.limit ≤ length v.made → EndsOut w v u'
ends_out w n at v u u' s is none told full = record {
  more = subst (DiffersInMet v) (sym is) s.more;
  sound = told.1;
  full = full;
  none = not_held_before w v u s.more none;
}

-- a walk through all slots does not come: one of them was not met
pub never : (w n at : ℕ) (v u : View) → IsSearching w n at v u → 0 < n → u.slots ≤ n → ⊥
never w n at v u s some' all =
    let r = s.room some' in
    let t = walk_to u.slots w r.0 r.1 in
    let lt = t.1 in
    let o = s.others t.0 (omega arith) in
    none_or_some (get u.met r.0) o.0 r.2 (ap (get u.met) (sym t.2) ∙ o.1)
