-- What the rules say of one view: that it is sound, that it has room, and what a search that ends has shown.
use Rattle.std.proofs.Common.{◌≡◌, ◌≢◌, ℕ, zero, suc, ◌+◌, ◌-◌, ◌/◌, ◌<◌, ◌≤◌, List, [], ◌∷◌, length, set, Some, sym, refl, ap, ◌∙◌, subst, arith, lt_of_not-le}
use Rattle.std.specs.Prelude.{slice_index, sum_by}
use mathlib.Core.Option.{some, some-ne-none}
use mathlib.Core.Logic.{dite}
use native.Mathlib.Decide.{ℕ_discrete, dec_le}
use lib.ListN.{get_elem?}
use Rattle.std.specs.Ordering.{nat_cmp}
use Rattle.std.specs.FinMap.{FinMap, get, insert}
use Rattle.dd_nodes.specs.declared.node.Node.{Node}
use Rattle.dd_table.specs.declared.views.View.{View}
use Rattle.dd_table.specs.Layout.{walk_slot, node_in_word}
use Rattle.dd_table.specs.Rules.{count_of, IsView, KeepsRules}
use Rattle.dd_table.specs.Tells.{HasRoom, IsNotHeld, HoldsMore, IsSound, IsSoundWithRoom}
use Rattle.dd_table.proofs.Maps.{get_same, get_stays, unmet}
use Rattle.dd_table.proofs.Sums.{at_most_sum, sum_le, some_empty, one_le}
use Rattle.dd_table.proofs.Layouts.{word_once}
use Rattle.dd_table.proofs.Walks.{walk_to, lt_of_le}
use Rattle.dd_table.proofs.OneView.{sizes_of, one_node}

-- not every slot was met, since half of the slots are empty
pub has_room : (vars slots : ℕ) (ws : List ℕ) (vs : List View) (v : View) → KeepsRules vars slots ws vs → IsView vars slots ws v → 0 < v.slots → HasRoom v
has_room vars slots ws vs v h view live =
    let few : sum_by (λ (u : View). length u.made) vs ≤ sum_by (λ (u : View). u.limit) vs =
    sum_le (λ u. length u.made) (λ u. u.limit) vs (λ i u e. (h.views i u e).used) in
    let two = h.two in
    let half : slots / 2 < slots = omega arith in
    let gap = some_empty ws (let a = h.limits in let b = h.used in let c = h.size in omega arith) in
    let in' : gap.0 < v.slots =
    let a = (sizes_of vars slots ws v view live).1 in
    let b = h.size in
    let c = gap.1 in
    omega arith in
    (gap.0, in', unmet v.met gap.0 (λ x e. let a = view.met gap.0 x e in a.2 (sym a.1 ∙ gap.2)))

-- a search came to an empty slot: its word stands nowhere
pub not_held : (vars slots : ℕ) (ws : List ℕ) (vs : List View) (v : View) (w n : ℕ) → KeepsRules vars slots ws vs → IsView vars slots ws v
    → ((k : ℕ) → k < n → (x : ℕ) × (get v.met (walk_slot slots w k) ≡ Some x) × (x ≢ w)) → slice_index ws (walk_slot slots w n) ≡ 0 → IsNotHeld v w
not_held vars slots ws vs v w n h view others empty' r e =
    let a = view.held r (node_in_word w) e in
    let b = view.met (r - 2) a.1.0 a.1.1 in
    let is_w : w ≡ a.1.0 = word_once w a.1.0 a.1.2 in
    let t = walk_to slots w (r - 2) b.0 in
    let there : slice_index ws (walk_slot slots w t.0) ≡ w = ap (slice_index ws) t.2 ∙ b.1 ∙ sym is_w in
    let some' : w ≢ 0 = λ z. b.2 (sym is_w ∙ z) in
    dite (dec_le t.0 n)
    (λ le. dite (ℕ_discrete t.0 n)
    (λ same. some' (sym there ∙ ap (λ (y : ℕ). slice_index ws (walk_slot slots w y)) same ∙ empty'))
    (λ ne.
    let o = others t.0 (lt_of_le t.0 n le ne) in
    let c = view.met _ o.0 o.1 in
    o.2 (sym c.1 ∙ there)))
    (λ not. (h.walks w t.0 n some' t.1 there (lt_of_not-le not)).0 empty')

-- a word stands in one slot
pub stands_once : (vars slots : ℕ) (ws : List ℕ) (vs : List View) (s t : ℕ) → KeepsRules vars slots ws vs → s < slots → t < slots
    → slice_index ws s ≢ 0 → slice_index ws s ≡ slice_index ws t → s ≡ t
stands_once vars slots ws vs s t h in_s in_t ne e =
    let w = slice_index ws s in
    let a = walk_to slots w s in_s in
    let b = walk_to slots w t in_t in
    let ea : slice_index ws (walk_slot slots w a.0) ≡ w = ap (slice_index ws) a.2 in
    let eb : slice_index ws (walk_slot slots w b.0) ≡ w = ap (slice_index ws) b.2 ∙ sym e in
    dite (ℕ_discrete a.0 b.0)
    (λ same. sym a.2 ∙ ap (walk_slot slots w) same ∙ b.2)
    (λ apart. dite (dec_le a.0 b.0)
    (λ le. absurd ((h.walks w b.0 a.0 ne b.1 eb (lt_of_le a.0 b.0 le apart)).1 ea))
    (λ not. absurd ((h.walks w a.0 b.0 ne a.1 ea (lt_of_not-le not)).1 eb)))

-- two views of one table hold a node under one reference
pub one_reference : (vars slots : ℕ) (ws : List ℕ) (vs : List View) (v u : View) (r q : ℕ) (n : Node) → KeepsRules vars slots ws vs → IsView vars slots ws v → IsView vars slots ws u
    → get v.held r ≡ Some n → get u.held q ≡ Some n → r ≡ q
one_reference vars slots ws vs v u r q n h f g e d =
    let a = f.held r n e in
    let b = f.met (r - 2) a.1.0 a.1.1 in
    let c = g.held q n d in
    let i = g.met (q - 2) c.1.0 c.1.1 in
    let words : a.1.0 ≡ c.1.0 = word_once a.1.0 c.1.0 (sym a.1.2 ∙ c.1.2) in
    let same : r - 2 ≡ q - 2 = stands_once vars slots ws vs (r - 2) (q - 2) h b.0 i.0 (λ z. b.2 (sym b.1 ∙ z)) (b.1 ∙ words ∙ sym i.1) in
    let x = a.0 in
    let y = c.0 in
    omega arith

pub sound : (vars slots : ℕ) (ws : List ℕ) (vs : List View) (id : ℕ) (v : View) → KeepsRules vars slots ws vs → get_elem? vs id ≡ some v → 0 < v.slots → IsSound v
sound vars slots ws vs id v h at live =
    let view = h.views id v at in
    let sizes = sizes_of vars slots ws v view live in
    record {
      near = λ r n e.
          let a = view.held r n e in
          let b = view.met (r - 2) a.1.0 a.1.1 in
          let c = b.0 in
          let d = a.0 in
          let f = sizes.1 in
          (d, omega arith);
      nodes = λ r n e.
          let a = view.held r n e in
          let b = view.met (r - 2) a.1.0 a.1.1 in
          let i = h.nodes (r - 2) (λ z. b.2 (sym b.1 ∙ z)) in
          let is : node_in_word (slice_index ws (r - 2)) ≡ n = ap node_in_word b.1 ∙ sym a.1.2 in
          subst (λ (m : Node). (m.var < v.vars) × (m.lo.0 ≢ m.hi.0)) is
          (subst (λ (y : ℕ). (node_in_word (slice_index ws (r - 2))).var < y) (sym sizes.0) i.var, i.apart);
      closed = view.closed;
      once = λ r q n e f. one_reference vars slots ws vs v v r q n h view view e f;
      word = λ r n e. (view.held r n e).1;
      made = view.made;
      apart = λ r. repeats r (view.made r);
      used = view.used;
      last = view.last;
    }
  where
    repeats : (r : ℕ) → (0 < count_of r v.made → (n : Node) × (get v.held r ≡ Some n)) → count_of r v.made ≤ 1
    repeats r made = dite (dec_le 2 r)
        (λ le.
        let s : ℕ = r - 2 in
        let a = at_most_sum (λ (u : View). count_of (s + 2) u.made) vs id v at in
        let b = h.owners s in
        let c = one_le (slice_index ws s) in
        let e : s + 2 ≡ r = omega arith in
        subst (λ (y : ℕ). count_of y v.made ≤ 1) e (omega arith))
        (λ not. dite (dec_le (count_of r v.made) 0)
        (λ z. omega arith)
        (λ some'. let m = made (lt_of_not-le some') in absurd (not ((h.views id v at).held r m.0 m.1).0)))

view_set : (vs : List View) (id : ℕ) (v v' : View) → get_elem? vs id ≡ some v → get_elem? (set vs id v') id ≡ some v'
view_set [] id v v' e = absurd (some-ne-none v (sym e))
view_set (x ∷ vs) zero v v' e = refl
view_set (x ∷ vs) (suc id) v v' e = view_set vs id v v' e

-- after a step of its seat a view is sound, and has room
pub told_after : (vars slots : ℕ) (ws : List ℕ) (vs : List View) (id : ℕ) (v v' : View) → get_elem? vs id ≡ some v → KeepsRules vars slots ws (set vs id v') → 0 < v'.slots → IsSoundWithRoom v'
told_after vars slots ws vs id v v' at h live =
    let here = view_set vs id v v' at in
    (has_room vars slots ws (set vs id v') v' h (h.views id v' here) live, sound vars slots ws (set vs id v') id v' h here live)

-- one node more is held, and none is lost
pub more_after : (vars slots : ℕ) (ws : List ℕ) (vs : List View) (id : ℕ) (v v' : View) (r : ℕ) (n : Node) → IsView vars slots ws v → get_elem? vs id ≡ some v
    → KeepsRules vars slots ws (set vs id v') → v'.held ≡ insert v.held r n → HoldsMore v v'
more_after vars slots ws vs id v v' r n f at h is q m e =
    let g = h.views id v' (view_set vs id v v' at) in
    let at_q : get v'.held q ≡ get (insert v.held r n) q = ap (λ (y : FinMap nat_cmp Node). get y q) is in
    at_q ∙ get_stays v.held r n q m e
    (λ same.
    let here : get v'.held q ≡ Some n = at_q ∙ ap (get (insert v.held r n)) same ∙ get_same v.held r n in
    sym (one_node vars slots ws v v' q m n f g e here))

-- no seat may make more than half of the slots
pub half : (vars slots : ℕ) (ws : List ℕ) (vs : List View) (id : ℕ) (v : View) → KeepsRules vars slots ws vs → get_elem? vs id ≡ some v → 0 < v.slots → v.limit ≤ v.slots / 2
half vars slots ws vs id v h at live =
    let sizes = sizes_of vars slots ws v (h.views id v at) live in
    let a = at_most_sum (λ (u : View). u.limit) vs id v at in
    let b = h.limits in
    let c = ap (λ (y : ℕ). y / 2) sizes.1 in
    omega arith
