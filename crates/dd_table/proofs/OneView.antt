-- The view rule, after each step that changes a view or a word.
use Rattle.std.proofs.Common.{◌≡◌, ◌≢◌, ◌⊎◌, ℕ, ◌+◌, ◌-◌, ◌<◌, ◌≤◌, List, [], ◌++◌, length, set, Some, sym, refl, ap, ◌∙◌, subst, inl, inr, ⊎_elim, arith, get_or-set_other}
use Rattle.std.specs.Prelude.{slice_index}
use Rattle.std.specs.Ordering.{nat_cmp}
use Rattle.std.specs.FinMap.{FinMap, get, insert}
use Rattle.dd_nodes.specs.declared.node.Node.{Node}
use Rattle.dd_table.specs.declared.views.View.{View}
use Rattle.dd_table.specs.declared.rule.Sizes.{Sizes}
use Rattle.dd_table.specs.Layout.{node_in_word}
use Rattle.dd_table.specs.Views.{first_view, spent_view, met_view, found_view, giving_view, given_view, joined_view, union}
use Rattle.dd_table.specs.Rules.{count_of, IsTakenChild, IsTableNode, IsHeldChild, HasSizes, IsView}
use Rattle.dd_table.specs.Tells.{MayMake}
use Rattle.dd_table.proofs.Maps.{get_same, get_cases, get_stays, union_cases, union_left, union_right, no_entry}
use Rattle.std.proofs.lemmas.List.Sums.{sum_by-append}
use Rattle.std.proofs.Common.{length-append, zero, suc, cond, ◌==◌}
use Rattle.dd_nodes.specs.declared.node.Ref.{Ref}

-- a word that is not 0 stays
abbrev pub KeepsWords : List ℕ → List ℕ → Type 0
KeepsWords ws ws' = (j : ℕ) → slice_index ws j ≢ 0 → slice_index ws' j ≡ slice_index ws j

pub words_kept : (ws : List ℕ) (s w : ℕ) → slice_index ws s ≡ 0 → KeepsWords ws (set ws s w)
words_kept ws s w empty' j ne = get_or-set_other ws s j w 0 (λ same. ne (ap (slice_index ws) same ∙ empty'))

-- the numbers of a view that is not spent
pub sizes_of : (vars slots : ℕ) (ws : List ℕ) (v : View) → IsView vars slots ws v → 0 < v.slots → HasSizes vars slots v
sizes_of vars slots ws v h live = ⊎_elim
    (λ (spent : v ≡ spent_view). let z : v.slots ≡ 0 = ap (λ (u : View). u.slots) spent in absurd (omega arith))
    (λ (sizes : HasSizes vars slots v). sizes)
    h.sizes

child_kept : (ws ws' : List ℕ) (x r : ℕ) → KeepsWords ws ws' → IsTakenChild ws x r → IsTakenChild ws' x r
child_kept ws ws' x r kept h two =
    let a = h two in
    let e : slice_index ws' (r - 2) ≡ slice_index ws (r - 2) = kept (r - 2) a.0 in
    ((λ z. a.0 (sym e ∙ z)), subst (λ (y : ℕ). x < (node_in_word y).var) (sym e) a.1)

pub node_kept : (vars : ℕ) (ws ws' : List ℕ) (n : Node) → KeepsWords ws ws' → IsTableNode vars ws n → IsTableNode vars ws' n
node_kept vars ws ws' n kept h = record {
  var = h.var;
  apart = h.apart;
  lo = child_kept ws ws' n.var n.lo.0 kept h.lo;
  hi = child_kept ws ws' n.var n.hi.0 kept h.hi;
}

-- a child that is held is taken
pub held_is_taken : (vars slots : ℕ) (ws : List ℕ) (v : View) (x r : ℕ) → IsView vars slots ws v → IsHeldChild v.held x r → IsTakenChild ws x r
held_is_taken vars slots ws v x r h child two =
    let a = child two in
    let b = (h.held r a.0 a.1).1 in
    let c = h.met (r - 2) b.0 b.1 in (
      (λ z. c.2 (sym c.1 ∙ z)),
      subst (λ (y : ℕ). x < (node_in_word y).var) (sym c.1) (subst (λ (m : Node). x < m.var) b.2 a.2),
    )

-- the words change, and the view does not
pub view_kept : (vars slots : ℕ) (ws ws' : List ℕ) (v : View) → KeepsWords ws ws' → IsView vars slots ws v → IsView vars slots ws' v
view_kept vars slots ws ws' v kept h = record {
  sizes = h.sizes;
  met = λ j w e. let a = h.met j w e in (a.0, kept j (λ z. a.2 (sym a.1 ∙ z)) ∙ a.1, a.2);
  held = h.held;
  closed = h.closed;
  made = h.made;
  used = h.used;
  last = h.last;
}

-- one word more is met
pub view_met : (vars slots : ℕ) (ws : List ℕ) (v : View) (s : ℕ) → IsView vars slots ws v → HasSizes vars slots v → s < slots → slice_index ws s ≢ 0
    → IsView vars slots ws (met_view v s (slice_index ws s))
view_met vars slots ws v s h sizes lt ne = record {
  sizes = inr sizes;
  met = λ j x e. ⊎_elim
      (λ (t : (j ≡ s) × (slice_index ws s ≡ x)). (subst (λ (i : ℕ). i < slots) (sym t.0) lt, ap (slice_index ws) t.0 ∙ t.1, λ z. ne (t.1 ∙ z)))
      (λ (t : (j ≢ s) × (get v.met j ≡ Some x)). h.met j x t.1)
      (get_cases v.met s (slice_index ws s) j x e);
  held = λ r n e.
      let a = h.held r n e in
      let stays = get_stays v.met s (slice_index ws s) (r - 2) a.1.0 a.1.1 (λ same. ap (slice_index ws) (sym same) ∙ (h.met (r - 2) a.1.0 a.1.1).1) in
      (a.0, (a.1.0, stays, a.1.2));
  closed = h.closed;
  made = h.made;
  used = h.used;
  last = h.last;
}

-- a held child in a map with one entry more, which agrees with the old ones
child_more : (held : FinMap nat_cmp Node) (q : ℕ) (n : Node) (x r : ℕ) → ((m : Node) → get held q ≡ Some m → n ≡ m) → IsHeldChild held x r → IsHeldChild (insert held q n) x r
child_more held q n x r agrees h two =
    let a = h two in
    (a.0, get_stays held q n r a.0 a.1 (λ same. agrees a.0 (ap (get held) (sym same) ∙ a.1)), a.2)

-- one node more is held, which may be made
pub view_found : (vars slots : ℕ) (ws : List ℕ) (v : View) (s w : ℕ) → IsView vars slots ws v → HasSizes vars slots v → s < slots → slice_index ws s ≡ w → MayMake v w
    → IsView vars slots ws (found_view v s w)
view_found vars slots ws v s w h sizes lt is may =
    let n = node_in_word w in
    let held = insert v.held (s + 2) n in
    let back : s + 2 - 2 ≡ s = omega arith in
    let agrees : (m : Node) → get v.held (s + 2) ≡ Some m → n ≡ m = λ m e.
    let a = h.held (s + 2) m e in
    let b = h.met (s + 2 - 2) a.1.0 a.1.1 in
    ap node_in_word (sym is ∙ ap (slice_index ws) (sym back) ∙ b.1) ∙ sym a.1.2 in
    let stays : (r : ℕ) (m : Node) → get v.held r ≡ Some m → get held r ≡ Some m = λ r m e.
    get_stays v.held (s + 2) n r m e (λ same. agrees m (ap (get v.held) (sym same) ∙ e)) in
    let more : (x r : ℕ) → IsHeldChild v.held x r → IsHeldChild held x r = λ x r c. child_more v.held (s + 2) n x r agrees c in
    let met = subst (λ (y : ℕ). IsView vars slots ws (met_view v s y)) is (view_met vars slots ws v s h sizes lt (λ z. may.some (sym is ∙ z))) in
    record {
      sizes = inr sizes;
      met = met.met;
      held = λ r m e. ⊎_elim
          (λ (t : (r ≡ s + 2) × (n ≡ m)).
          let q = t.0 in
          let back' : r - 2 ≡ s = omega arith in
          let two : 2 ≤ r = omega arith in
          (two, (w, ap (get (insert v.met s w)) back' ∙ get_same v.met s w, sym t.1)))
          (λ (t : (r ≢ s + 2) × (get v.held r ≡ Some m)). met.held r m t.1)
          (get_cases v.held (s + 2) n r m e);
      closed = λ r m e. ⊎_elim
          (λ (t : (r ≡ s + 2) × (n ≡ m)).
          subst (λ (y : Node). IsHeldChild held y.var y.lo.0 × IsHeldChild held y.var y.hi.0) t.1
          (more n.var n.lo.0 may.lo, more n.var n.hi.0 may.hi))
          (λ (t : (r ≢ s + 2) × (get v.held r ≡ Some m)).
          let c = h.closed r m t.1 in
          (more m.var m.lo.0 c.0, more m.var m.hi.0 c.1))
          (get_cases v.held (s + 2) n r m e);
      made = λ r some. let a = h.made r some in (a.0, stays r a.0 a.1);
      used = h.used;
      last = λ r m e. stays r m (h.last r m e);
    }

pub none_made : (r : ℕ) → 0 < count_of r [] → ⊥
none_made r h = omega arith

-- the two halves of a view that is split
pub view_giving : (vars slots : ℕ) (ws : List ℕ) (v : View) (q : ℕ) → IsView vars slots ws v → HasSizes vars slots v → q + length v.made ≤ v.limit
    → IsView vars slots ws (giving_view q v)
view_giving vars slots ws v q h sizes room = record {
  sizes = inr sizes;
  met = h.met;
  held = h.held;
  closed = h.closed;
  made = h.made;
  used = omega arith;
  last = h.last;
}

pub view_given : (vars slots : ℕ) (ws : List ℕ) (v : View) (q : ℕ) → IsView vars slots ws v → HasSizes vars slots v → IsView vars slots ws (given_view q v)
view_given vars slots ws v q h sizes = record {
  sizes = inr sizes;
  met = h.met;
  held = h.held;
  closed = h.closed;
  made = λ r some. absurd (none_made r some);
  used = omega arith;
  last = h.last;
}

-- two views of one table hold one node under a reference
pub one_node : (vars slots : ℕ) (ws : List ℕ) (v u : View) (r : ℕ) (m n : Node) → IsView vars slots ws v → IsView vars slots ws u
    → get v.held r ≡ Some m → get u.held r ≡ Some n → m ≡ n
one_node vars slots ws v u r m n f g a b =
    let x = (f.held r m a).1 in
    let y = (g.held r n b).1 in
    x.2 ∙ ap node_in_word (sym (f.met (r - 2) x.0 x.1).1 ∙ (g.met (r - 2) y.0 y.1).1) ∙ sym y.2

one_of_two : (a b : ℕ) → 0 < a + b → (0 < a) ⊎ (0 < b)
one_of_two zero b h = inr (omega arith)
one_of_two (suc a) b h = inl (omega arith)

pub count_both : (r : ℕ) (xs ys : List Ref) → count_of r (xs ++ ys) ≡ count_of r xs + count_of r ys
count_both r xs ys = sum_by-append (λ (q : Ref). cond {A = ℕ} (q.0 == r) 1 0) xs ys

-- a view that took in another
pub view_joined : (vars slots : ℕ) (ws : List ℕ) (v u : View) → IsView vars slots ws v → IsView vars slots ws u → HasSizes vars slots v → IsView vars slots ws (joined_view v u)
view_joined vars slots ws v u f g sizes =
    let held = union v.held u.held in
    let met_right : (s w : ℕ) → get u.met s ≡ Some w → get (union v.met u.met) s ≡ Some w = λ s w e.
    union_right v.met u.met s w e (λ y a. sym (f.met s y a).1 ∙ (g.met s w e).1) in
    let held_right : (r : ℕ) (n : Node) → get u.held r ≡ Some n → get held r ≡ Some n = λ r n e.
    union_right v.held u.held r n e (λ y a. one_node vars slots ws v u r y n f g a e) in
    let child_left : (x r : ℕ) → IsHeldChild v.held x r → IsHeldChild held x r = λ x r o two.
    let a = o two in (a.0, union_left v.held u.held r a.0 a.1, a.2) in
    let child_right : (x r : ℕ) → IsHeldChild u.held x r → IsHeldChild held x r = λ x r o two.
    let a = o two in (a.0, held_right r a.0 a.1, a.2) in
    record {
      sizes = inr sizes;
      met = λ s w e. ⊎_elim (f.met s w) (g.met s w) (union_cases v.met u.met s w e);
      held = λ r n e. ⊎_elim
          (λ (a : get v.held r ≡ Some n). let b = f.held r n a in (b.0, (b.1.0, union_left v.met u.met (r - 2) b.1.0 b.1.1, b.1.2)))
          (λ (a : get u.held r ≡ Some n). let b = g.held r n a in (b.0, (b.1.0, met_right (r - 2) b.1.0 b.1.1, b.1.2)))
          (union_cases v.held u.held r n e);
      closed = λ r n e. ⊎_elim
          (λ (a : get v.held r ≡ Some n). let b = f.closed r n a in (child_left n.var n.lo.0 b.0, child_left n.var n.hi.0 b.1))
          (λ (a : get u.held r ≡ Some n). let b = g.closed r n a in (child_right n.var n.lo.0 b.0, child_right n.var n.hi.0 b.1))
          (union_cases v.held u.held r n e);
      made = λ r some. ⊎_elim
          (λ (a : 0 < count_of r v.made). let b = f.made r a in (b.0, union_left v.held u.held r b.0 b.1))
          (λ (a : 0 < count_of r u.made). let b = g.made r a in (b.0, held_right r b.0 b.1))
          (one_of_two (count_of r v.made) (count_of r u.made) (let t = count_both r v.made u.made in omega arith));
      used = let a = f.used in let b = g.used in omega (arith, length-append v.made u.made);
      last = held_right;
    }

pub view_spent : (vars slots : ℕ) (ws : List ℕ) → IsView vars slots ws spent_view
view_spent vars slots ws = record {
  sizes = inl refl;
  met = λ s w e. absurd (no_entry s w e);
  held = λ r n e. absurd (no_entry r n e);
  closed = λ r n e. absurd (no_entry r n e);
  made = λ r some. absurd (none_made r some);
  used = omega arith;
  last = λ r n e. absurd (no_entry r n e);
}

pub view_first : (k : Sizes) (ws : List ℕ) → IsView k.vars k.slots ws (first_view k)
view_first k ws = record {
  sizes = inr (refl, refl);
  met = λ s w e. absurd (no_entry s w e);
  held = λ r n e. absurd (no_entry r n e);
  closed = λ r n e. absurd (no_entry r n e);
  made = λ r h. absurd (none_made r h);
  used = omega arith;
  last = λ r n e. absurd (no_entry r n e);
}
