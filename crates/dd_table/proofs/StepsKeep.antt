-- Each step on the table keeps all its rules.
use Rattle.std.proofs.Common.{◌≡◌, ◌≢◌, ℕ, ◌+◌, ◌<◌, ◌≤◌, List, [], ◌∷◌, length, set, cond, Some, Bool, sym, refl, ap, ◌∙◌, subst, inr, ⊎_elim, arith, length-append, length-set, eqb, eq-eqb, ne_eqb, get_or-set_same, get_or-set_other}
use Rattle.std.proofs.lemmas.List.Sums.{sum_by-append}
use Rattle.std.specs.Prelude.{slice_index}
use mathlib.Core.Option.{some}
use mathlib.Core.Logic.{dite}
use native.Mathlib.Decide.{ℕ_discrete}
use lib.ListN.{get_elem?}
use Rattle.std.specs.FinMap.{get, insert}
use Rattle.atomic_table.specs.Table.{Splits, Joins}
use Rattle.atomic_table.proofs.Lists.{at_set, at_snoc}
use Rattle.dd_table.specs.declared.views.View.{View}
use Rattle.dd_table.specs.declared.rule.Sizes.{Sizes}
use Rattle.dd_table.specs.Codes.{ref}
use Rattle.dd_table.specs.Layout.{walk_slot, node_in_word}
use Rattle.dd_table.specs.Views.{made_view, giving_view, given_view, joined_view, spent_view}
use Rattle.dd_table.specs.Rules.{one_if_taken, count_of, IsTableNode, HasSizes, IsView, KeepsRules, RulesHold}
use Rattle.dd_table.specs.Tells.{MayMake}
use Rattle.dd_table.proofs.Maps.{get_same}
use Rattle.dd_table.proofs.Sums.{sum_set, sum_kept, count_push, taken_set, one_of}
use Rattle.dd_table.proofs.Walks.{walk_lt, walk_once}
use Rattle.dd_table.proofs.OneView.{KeepsWords, words_kept, sizes_of, node_kept, held_is_taken, view_kept, view_found, view_giving, view_given, view_joined, view_spent, count_both}

-- no word changes, and one view changes, but for its limit and the list `made`
pub no_word : (vars slots : ℕ) (ws : List ℕ) (vs : List View) (id : ℕ) (v v' : View) → KeepsRules vars slots ws vs → get_elem? vs id ≡ some v
    → IsView vars slots ws v' → v'.limit ≡ v.limit → v'.made ≡ v.made → KeepsRules vars slots ws (set vs id v')
no_word vars slots ws vs id v v' h at view limit made = record {
  size = h.size;
  two = h.two;
  nodes = h.nodes;
  walks = h.walks;
  views = λ i u e. ⊎_elim
      (λ (t : (i ≡ id) × (v' ≡ u)). subst (IsView vars slots ws) t.1 view)
      (λ (t : (i ≢ id) × (get_elem? vs i ≡ some u)). h.views i u t.1)
      (at_set vs id i v' u e);
  limits = sum_kept (λ u. u.limit) vs id v v' at limit ∙ h.limits;
  used = sum_kept (λ u. length u.made) vs id v v' at (ap length made) ∙ h.used;
  owners = λ s. sum_kept (λ u. count_of (s + 2) u.made) vs id v v' at (ap (count_of (s + 2)) made) ∙ h.owners s;
}

-- the view of the seat that writes
view_made : (vars slots : ℕ) (ws : List ℕ) (v : View) (s w : ℕ) → IsView vars slots ws v → HasSizes vars slots v → s < slots → slice_index ws s ≡ w → MayMake v w
    → length v.made < v.limit → IsView vars slots ws (made_view v s w)
view_made vars slots ws v s w h sizes lt is may left =
    let found = view_found vars slots ws v s w h sizes lt is may in
    record {
      sizes = inr sizes;
      met = found.met;
      held = found.held;
      closed = found.closed;
      made = λ r some'. dite (ℕ_discrete r (s + 2))
          (λ same. (node_in_word w, ap (get (insert v.held (s + 2) (node_in_word w))) same ∙ get_same v.held (s + 2) (node_in_word w)))
          (λ ne.
          let z : cond {A = ℕ} (eqb (s + 2) r) 1 0 ≡ 0 = ap (λ (b : Bool). cond {A = ℕ} b 1 0) (ne_eqb (s + 2) r (λ e. ne (sym e))) in
          let t = count_push r (s + 2) v.made in
          found.made r (omega arith));
      used = let t = length-append v.made (ref (s + 2) ∷ []) in omega arith;
      last = found.last;
    }

-- a step that writes
pub writes : (vars slots : ℕ) (ws : List ℕ) (vs : List View) (id : ℕ) (v : View) (w n : ℕ)
    → KeepsRules vars slots ws vs → get_elem? vs id ≡ some v → HasSizes vars slots v → MayMake v w → length v.made < v.limit
    → n < slots → ((k : ℕ) → k < n → (x : ℕ) × (get v.met (walk_slot slots w k) ≡ Some x) × (x ≢ w))
    → slice_index ws (walk_slot slots w n) ≡ 0
    → KeepsRules vars slots (set ws (walk_slot slots w n) w) (set vs id (made_view v (walk_slot slots w n) w))
writes vars slots ws vs id v w n h at sizes may left within others empty' =
    let s = walk_slot slots w n in
    let ws' = set ws s w in
    let v' = made_view v s w in
    let view = h.views id v at in
    let in' : s < slots = walk_lt slots w n (let two = h.two in omega arith) in
    let in_ws : s < length ws = let e = h.size in omega arith in
    let here : slice_index ws' s ≡ w = get_or-set_same ws s w 0 in_ws in
    let kept : KeepsWords ws ws' = words_kept ws s w empty' in
    let other : (j : ℕ) → j ≢ s → slice_index ws' j ≡ slice_index ws j = λ j ne. get_or-set_other ws s j w 0 ne in
    let view' = view_kept vars slots ws ws' v kept view in
    let new_node : IsTableNode vars ws' (node_in_word w) = record {
      var = subst (λ (y : ℕ). (node_in_word w).var < y) sizes.0 may.var;
      apart = may.apart;
      lo = held_is_taken vars slots ws' v _ _ view' may.lo;
      hi = held_is_taken vars slots ws' v _ _ view' may.hi;
    } in
    let new_view = view_made vars slots ws' v s w view' sizes in' here may left in
    record {
      size = length-set ws s w ∙ h.size;
      two = h.two;
      nodes = λ j ne. dite (ℕ_discrete j s)
          (λ same. subst (λ (y : ℕ). IsTableNode vars ws' (node_in_word y)) (sym (ap (slice_index ws') same ∙ here)) new_node)
          (λ apart.
          let old = h.nodes j (λ z. ne (other j apart ∙ z)) in
          subst (λ (y : ℕ). IsTableNode vars ws' (node_in_word y)) (sym (other j apart)) (node_kept vars ws ws' _ kept old));
      walks = λ w1 n1 k some' in1 e lt. dite (ℕ_discrete (walk_slot slots w1 n1) s)
          (λ same.
          let is_w : w ≡ w1 = sym here ∙ ap (slice_index ws') (sym same) ∙ e in
          let is_n : n1 ≡ n = walk_once slots w n1 n in1 within (ap (λ (y : ℕ). walk_slot slots y n1) is_w ∙ same) in
          let a = others k (omega arith) in
          let b = view.met (walk_slot slots w k) a.0 a.1 in
          let c : slice_index ws' (walk_slot slots w k) ≡ a.0 = kept (walk_slot slots w k) (λ z. b.2 (sym b.1 ∙ z)) ∙ b.1 in
          subst (λ (y : ℕ). (slice_index ws' (walk_slot slots y k) ≢ 0) × (slice_index ws' (walk_slot slots y k) ≢ y)) is_w
          ((λ z. b.2 (sym c ∙ z)), (λ z. a.2 (sym c ∙ z))))
          (λ apart.
          let a = h.walks w1 n1 k some' in1 (sym (other _ apart) ∙ e) lt in
          let c : slice_index ws' (walk_slot slots w1 k) ≡ slice_index ws (walk_slot slots w1 k) = kept (walk_slot slots w1 k) a.0 in
          ((λ z. a.0 (sym c ∙ z)), (λ z. a.1 (sym c ∙ z))));
      views = λ i u e. ⊎_elim
          (λ (t : (i ≡ id) × (v' ≡ u)). subst (IsView vars slots ws') t.1 new_view)
          (λ (t : (i ≢ id) × (get_elem? vs i ≡ some u)). view_kept vars slots ws ws' u kept (h.views i u t.1))
          (at_set vs id i v' u e);
      limits = sum_kept (λ (u : View). u.limit) vs id v v' at refl ∙ h.limits;
      used =
          let a = sum_set (λ (u : View). length u.made) vs id v v' at in
          let b = taken_set ws s w in_ws empty' may.some in
          let c = h.used in
          let t = length-append v.made (ref (s + 2) ∷ []) in
          omega arith;
      owners = λ j.
          let a = sum_set (λ (u : View). count_of (j + 2) u.made) vs id v v' at in
          let c = h.owners j in
          let t = count_push (j + 2) (s + 2) v.made in
          dite (ℕ_discrete j s)
          (λ same.
          let d : cond {A = ℕ} (eqb (s + 2) (j + 2)) 1 0 ≡ 1 = ap (λ (b : Bool). cond {A = ℕ} b 1 0) (eq-eqb (s + 2) (j + 2) (omega arith)) in
          let e : one_if_taken (slice_index ws j) ≡ 0 = ap one_if_taken (ap (slice_index ws) same ∙ empty') in
          let f : one_if_taken (slice_index ws' j) ≡ 1 = ap one_if_taken (ap (slice_index ws') same ∙ here) ∙ one_of w may.some in
          omega arith)
          (λ ne.
          let d : cond {A = ℕ} (eqb (s + 2) (j + 2)) 1 0 ≡ 0 = ap (λ (b : Bool). cond {A = ℕ} b 1 0) (ne_eqb (s + 2) (j + 2) (λ z. ne (omega arith))) in
          let e : one_if_taken (slice_index ws' j) ≡ one_if_taken (slice_index ws j) = ap one_if_taken (other j ne) in
          omega arith);
    }

-- a seat is split
pub splits : (k : Sizes) (id : ℕ) (v : View) (q : ℕ) → 0 < v.slots → q + length v.made ≤ v.limit → Splits (RulesHold k) id v (giving_view q v) (given_view q v)
splits k id v q live room s h at =
    let view = h.views id v at in
    let sizes = sizes_of k.vars k.slots s.words v view live in
    let left = view_giving k.vars k.slots s.words v q view sizes room in
    let right = view_given k.vars k.slots s.words v q view sizes in
    let vs = set s.views id (giving_view q v) in
    record {
      size = h.size;
      two = h.two;
      nodes = h.nodes;
      walks = h.walks;
      views = λ i u e. ⊎_elim
          (λ was. ⊎_elim
          (λ (t : (i ≡ id) × (giving_view q v ≡ u)). subst (IsView k.vars k.slots s.words) t.1 left)
          (λ (t : (i ≢ id) × (get_elem? s.views i ≡ some u)). h.views i u t.1)
          (at_set s.views id i (giving_view q v) u was))
          (λ (same : given_view q v ≡ u). subst (IsView k.vars k.slots s.words) same right)
          (at_snoc vs (given_view q v) u i e);
      limits =
          let a = sum_set (λ (u : View). u.limit) s.views id v (giving_view q v) at in
          let b = sum_by-append (λ (u : View). u.limit) vs (given_view q v ∷ []) in
          let c = h.limits in
          omega arith;
      used =
          let a = sum_set (λ (u : View). length u.made) s.views id v (giving_view q v) at in
          let b = sum_by-append (λ (u : View). length u.made) vs (given_view q v ∷ []) in
          let c = h.used in
          omega arith;
      owners = λ j.
          let a = sum_set (λ (u : View). count_of (j + 2) u.made) s.views id v (giving_view q v) at in
          let b = sum_by-append (λ (u : View). count_of (j + 2) u.made) vs (given_view q v ∷ []) in
          let c = h.owners j in
          omega arith;
    }

-- a seat takes in another
pub joins : (k : Sizes) (id : ℕ) (v : View) (other : ℕ) (u : View) → 0 < v.slots → Joins (RulesHold k) id v other u (joined_view v u) spent_view
joins k id v other u live s h at apart there =
    let j = joined_view v u in
    let theirs : get_elem? s.views other ≡ some u = ⊎_elim
    (λ (t : (other ≡ id) × (j ≡ u)). absurd (apart t.0))
    (λ (t : (other ≢ id) × (get_elem? s.views other ≡ some u)). t.1)
    (at_set s.views id other j u there) in
    let view = h.views id v at in
    let sizes = sizes_of k.vars k.slots s.words v view live in
    let both = view_joined k.vars k.slots s.words v u view (h.views other u theirs) sizes in
    let vs = set s.views id j in
    record {
      size = h.size;
      two = h.two;
      nodes = h.nodes;
      walks = h.walks;
      views = λ i x e. ⊎_elim
          (λ (t : (i ≡ other) × (spent_view ≡ x)). subst (IsView k.vars k.slots s.words) t.1 (view_spent k.vars k.slots s.words))
          (λ (t : (i ≢ other) × (get_elem? vs i ≡ some x)). ⊎_elim
          (λ (r : (i ≡ id) × (j ≡ x)). subst (IsView k.vars k.slots s.words) r.1 both)
          (λ (r : (i ≢ id) × (get_elem? s.views i ≡ some x)). h.views i x r.1)
          (at_set s.views id i j x t.1))
          (at_set vs other i spent_view x e);
      limits =
          let a = sum_set (λ (x : View). x.limit) s.views id v j at in
          let b = sum_set (λ (x : View). x.limit) vs other u spent_view there in
          let c = h.limits in
          omega arith;
      used =
          let a = sum_set (λ (x : View). length x.made) s.views id v j at in
          let b = sum_set (λ (x : View). length x.made) vs other u spent_view there in
          let c = h.used in
          let d = length-append v.made u.made in
          omega arith;
      owners = λ y.
          let a = sum_set (λ (x : View). count_of (y + 2) x.made) s.views id v j at in
          let b = sum_set (λ (x : View). count_of (y + 2) x.made) vs other u spent_view there in
          let c = h.owners y in
          let d = count_both (y + 2) v.made u.made in
          omega arith;
    }
