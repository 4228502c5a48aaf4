-- How the store begins, how its table grows, and how a node is added.
use Rattle.std.proofs.Common.{◌≡◌, ◌≢◌, ℕ, zero, suc, ◌+◌, ◌-◌, ◌≤◌, ◌<◌, true, false, List, [], ◌∷◌, ◌++◌, length, ◌⊎◌, inl, inr, ⊎_elim, refl, sym, ◌∙◌, ap, subst, arith}
use Rattle.std.specs.Prelude.{None, Some, slice_get}
use Rattle.std.proofs.lemmas.Bool.{cases_lt}
use Rattle.std.proofs.lemmas.Option.{none-some}
use Rattle.std.proofs.lemmas.List.{length-append}
use mathlib.Core.Logic.{dite}
use native.Mathlib.Decide.{ℕ_discrete}
use Rattle.dd_nodes.specs.declared.node.Ref.{Ref}
use Rattle.dd_nodes.specs.declared.node.Node.{Node}
use Rattle.dd_nodes.specs.Diagram.{IsFrom}
use Rattle.dd_nodes.specs.Stores.{IsRefused, Keeps, StandsFor, empty_store, node_of}
use Rattle.dd_nodes.specs.Plain.{IsOrdered, Pushes, plain_held, ref_at}
use Rattle.dd_nodes.specs.PlainLaws.{held-constant, held-place, place_of}
use Rattle.dd_nodes.proofs.PlainSteps.{IsOrdered-push, from-deep, held-push}
use Rattle.dd_recent.specs.declared.recent.RecentMemo.{RecentMemo}
use Rattle.dd_recent.specs.Recent.{AreRight}
use Rattle.dd_recent.proofs.Remembering.{AreRight-keeps}
use Rattle.dd_growing.specs.Growing.{grown_store, refs_from}
use Rattle.dd_growing.specs.private.Slots.{AreInside, HasFirst, IsFindable, IsIndexed, IsOnWalk, IsPlaced, is_used, hash_of, ref_in, slot_at, slot_of, taken, walk}
use Rattle.dd_growing.specs.GrowingLaws.{growing_diagram, length-refs_from}
use Rattle.dd_growing.proofs.Parts.{place_inside, slot_parts, used_slot}
use Rattle.dd_growing.proofs.Walks.{at_place, elsewhere, on_walk_now, on_walk_still, taken_placed}

past : (xs : List ℕ) (i : ℕ) → length xs ≤ i → slot_at xs i ≡ 0
past [] i le = refl
past (x ∷ xs) zero le = absurd (omega arith)
past (x ∷ xs) (suc i) le = past xs i (omega arith)

-- a used slot stands inside the table
used_inside : (xs : List ℕ) (i : ℕ) → is_used (slot_at xs i) ≡ true → i < length xs
used_inside xs i used = ⊎_elim (λ (lt : i < length xs). lt)
    (λ (le : length xs ≤ i). absurd (let f : true ≡ false = sym used ∙ ap is_used (past xs i le) in cc f))
    (cases_lt i (length xs))

-- ---- a store that holds nothing

none_at : (k : ℕ) (n : Node) → slice_get [] k ≡ Some n → ⊥
none_at k n at = none-some n at

pub IsIndexed-fresh : (nodes : List Node) (table : List ℕ) → nodes ≡ [] → HasFirst [] 0 table → IsIndexed nodes table
IsIndexed-fresh nodes table none has = subst (λ (xs : List Node). IsIndexed xs table) (sym none) (record {
  placed = λ k n at. absurd (none_at k n at);
  inside = has.inside;
  distinct = λ i k n at. absurd (none_at i n at);
})

held-none : (r : Ref) → plain_held [] r ≡ None
held-none r = ⊎_elim (λ (lt : r.0 < 2). held-constant [] r lt) (λ (le : 2 ≤ r.0). held-place [] r le) (cases_lt r.0 2)

-- an empty list is an empty store
pub empty_grown : (limit vars : ℕ) → grown_store [] 0 limit vars ≡ empty_store limit vars
empty_grown limit vars = λ i. record { held = λ r. held-none r i; made = []; limit = limit; vars = vars; table = [] }

-- ---- a slot more

-- what could be found can be found still
still : (slots new : List ℕ) (other : Node) (x : ℕ) → IsPlaced slots other x new → (k : ℕ) (n : Node) → IsFindable slots k n → IsFindable new k n
still slots new other x p k n on = on_walk_still slots new other x p n (slot_of (hash_of n) (ref_at k)) (used_slot (hash_of n) k) on

-- and so can the node of the new slot
now_found : (slots new : List ℕ) (node : Node) (n : ℕ) → IsPlaced slots node (slot_of (hash_of node) (ref_at n)) new → IsFindable new n node
now_found slots new node n p = on_walk_now slots new node (slot_of (hash_of node) (ref_at n)) p

-- used slots have references of one node more
inside_placed : (slots new : List ℕ) (node : Node) (hash n : ℕ) → n < 16777214 → (p : IsPlaced slots node (slot_of hash (ref_at n)) new) → AreInside n slots → AreInside (n + 1) new
inside_placed slots new node hash n few p inside i used =
    let x : ℕ = slot_of hash (ref_at n) in
    dite (ℕ_discrete i (walk (length slots) node p.steps))
    (λ here.
    let is : slot_at new i ≡ x = ap (λ (j : ℕ). slot_at new j) here ∙ at_place slots new node x 0 p in
    let r : (ref_in (slot_at new i)).0 ≡ n + 2 = ap (λ (y : ℕ). (ref_in y).0) is ∙ (slot_parts hash (ref_at n) (omega (arith, few))).0 in
    (omega (arith, r), omega (arith, r)))
    (λ apart.
    let is : slot_at new i ≡ slot_at slots i = elsewhere slots new node x 0 p i apart in
    let old = inside i (ap is_used (sym is) ∙ used) in
    let first : (ref_in (slot_at slots i)).0 < n + 1 + 2 = let lt = old.1 in omega (arith, lt) in
    (subst (λ (y : ℕ). 2 ≤ (ref_in y).0) (sym is) old.0, subst (λ (y : ℕ). (ref_in y).0 < n + 1 + 2) (sym is) first))

-- ---- a larger table

pub IsIndexed-wider : (nodes : List Node) (slots table : List ℕ) → HasFirst nodes (length nodes) table → IsIndexed nodes slots → IsIndexed nodes table
IsIndexed-wider nodes slots table has t = record {
  placed = λ k n at no. no (has.all k n (place_inside nodes k n at) at);
  inside = has.inside;
  distinct = t.distinct;
}

-- a node more has a slot
pub has_more : (nodes : List Node) (n : ℕ) (table new : List ℕ) (node : Node) → n < 16777214 → slice_get nodes n ≡ Some node → HasFirst nodes n table
    → IsPlaced table node (slot_of (hash_of node) (ref_at n)) new → HasFirst nodes (n + 1) new
has_more nodes n table new node low is has p =
    let x : ℕ = slot_of (hash_of node) (ref_at n) in
    let one : taken new ≡ taken table + 1 = taken_placed table new node x (used_slot (hash_of node) n) p in
    record {
      few = let few = has.few in omega (arith, one, few);
      inside = inside_placed table new node (hash_of node) n low p has.inside;
      all = λ k other lt at. ⊎_elim
          (λ (old : k < n). still table new node x p k other (has.all k other old at))
          (λ (last : n ≤ k).
          let here : n ≡ k = omega (arith, lt, last) in
          let same : Some node ≡ Some other = sym is ∙ ap (slice_get nodes) here ∙ at in
          let one' : node ≡ other = cc same in
          subst (λ (m : ℕ). IsFindable new m other) here (subst (IsFindable new n) one' (now_found table new node n p)))
          (cases_lt k n);
    }

-- ---- one node more

get-cases : (xs : List Node) (x n : Node) (k : ℕ) → slice_get (xs ++ x ∷ []) k ≡ Some n → (slice_get xs k ≡ Some n) ⊎ ((k ≡ length xs) × (x ≡ n))
get-cases [] x n zero e = inr (refl, cc)
get-cases [] x n (suc k) e = absurd (none-some n e)
get-cases (y ∷ ys) x n zero e = inl e
get-cases (y ∷ ys) x n (suc k) e = ⊎_elim (λ (old : slice_get ys k ≡ Some n). inl old) (λ (new : (k ≡ length ys) × (x ≡ n)). inr (ap suc new.0, new.1)) (get-cases ys x n k e)

held-at : (nodes : List Node) (n : Node) (k : ℕ) → slice_get nodes k ≡ Some n → plain_held nodes (ref_at k) ≡ Some n
held-at nodes n k at = held-place nodes (ref_at k) (omega arith) ∙ ap (slice_get nodes) (let e : k + 2 - 2 ≡ k = omega arith in e) ∙ at

-- what a search does not find is not there
pub absent_of : (nodes : List Node) (slots : List ℕ) (node : Node) → IsIndexed nodes slots
    → ((r : Ref) → IsOnWalk slots node (slot_of (hash_of node) r) → plain_held nodes r ≡ Some node → ⊥) → (r : Ref) → plain_held nodes r ≢ Some node
absent_of nodes slots node t none r held =
    let at = (place_of nodes r node held).1 in
    t.placed (r.0 - 2) node at (λ on. none (ref_at (r.0 - 2)) on (held-at nodes node (r.0 - 2) at))

pub IsIndexed-push : (nodes : List Node) (slots new : List ℕ) (node : Node) → length nodes < 16777214 → IsIndexed nodes slots
    → IsPlaced slots node (slot_of (hash_of node) (ref_at (length nodes))) new → ((r : Ref) → plain_held nodes r ≢ Some node) → IsIndexed (nodes ++ node ∷ []) new
IsIndexed-push nodes slots new node few t p absent =
    let x : ℕ = slot_of (hash_of node) (ref_at (length nodes)) in
    let long : length (nodes ++ node ∷ []) ≡ length nodes + 1 = length-append nodes (node ∷ []) in
    record {
      placed = λ k n at no. ⊎_elim
          (λ (old : slice_get nodes k ≡ Some n). t.placed k n old (λ on. no (still slots new node x p k n on)))
          (λ (last : (k ≡ length nodes) × (node ≡ n)).
          no (subst (λ (m : ℕ). IsFindable new m n) (sym last.0) (subst (IsFindable new (length nodes)) last.1 (now_found slots new node (length nodes) p))))
          (get-cases nodes node n k at);
      inside = subst (λ (m : ℕ). AreInside m new) (sym long) (inside_placed slots new node (hash_of node) (length nodes) few p t.inside);
      distinct = λ i k n at at'. ⊎_elim
          (λ (old : slice_get nodes i ≡ Some n). ⊎_elim
          (λ (old' : slice_get nodes k ≡ Some n). t.distinct i k n old old')
          (λ (last : (k ≡ length nodes) × (node ≡ n)). absurd (absent (ref_at i) (held-at nodes n i old ∙ ap Some (sym last.1))))
          (get-cases nodes node n k at'))
          (λ (last : (i ≡ length nodes) × (node ≡ n)). ⊎_elim
          (λ (old' : slice_get nodes k ≡ Some n). absurd (absent (ref_at k) (held-at nodes n k old' ∙ ap Some (sym last.1))))
          (λ (last' : (k ≡ length nodes) × (node ≡ n)). last.0 ∙ sym last'.0)
          (get-cases nodes node n k at'))
          (get-cases nodes node n i at);
    }

-- what is remembered is right still
pub AreRight-push : (nodes : List Node) (slots new : List ℕ) (node : Node) (base limit vars : ℕ) (recent : RecentMemo) → IsOrdered vars nodes → IsIndexed nodes slots
    → IsOrdered vars (nodes ++ node ∷ []) → IsIndexed (nodes ++ node ∷ []) new → AreRight (grown_store nodes base limit vars) recent → AreRight (grown_store (nodes ++ node ∷ []) base limit vars) recent
AreRight-push nodes slots new node base limit vars recent o t o' t' right =
    AreRight-keeps (grown_store nodes base limit vars) (grown_store (nodes ++ node ∷ []) base limit vars) recent (growing_diagram vars nodes slots o t) (growing_diagram vars (nodes ++ node ∷ []) new o' t')
    (λ r n at. held-push nodes node r n at) refl right

-- all that holds of a node more and its slot, where the list and the table were these
pub record IsAdded (nodes more : List Node) (new : List ℕ) (base limit vars : ℕ) (recent : RecentMemo) : Type 0 where
  pub ordered : IsOrdered vars more
  pub indexed : IsIndexed more new
  pub counted : taken new ≤ length more
  pub right : AreRight (grown_store more base limit vars) recent

pub added : (nodes more : List Node) (slots new : List ℕ) (node : Node) (count base limit vars : ℕ) (recent : RecentMemo) → more ≡ nodes ++ node ∷ [] → count ≡ length nodes → count < 16777214
    → IsPlaced slots node (slot_of (hash_of node) (ref_at count)) new → IsOrdered vars nodes → IsIndexed nodes slots → taken slots ≤ length nodes
    → AreRight (grown_store nodes base limit vars) recent → ((r : Ref) → plain_held nodes r ≢ Some node) → node.var < vars → node.lo.0 ≢ node.hi.0
    → IsFrom (plain_held nodes) (node.var + 1) node.lo → IsFrom (plain_held nodes) (node.var + 1) node.hi → IsAdded nodes more new base limit vars recent
added nodes more slots new node count base limit vars recent list long low' placed o t few right absent low differ from from' =
    let x : ℕ = slot_of (hash_of node) (ref_at (length nodes)) in
    let p : IsPlaced slots node x new = subst (λ (m : ℕ). IsPlaced slots node (slot_of (hash_of node) (ref_at m)) new) long placed in
    let o' = IsOrdered-push vars nodes node o low differ (from-deep vars nodes node.var node.lo low from) (from-deep vars nodes node.var node.hi low from') in
    let t' = IsIndexed-push nodes slots new node (omega (arith, long, low')) t p absent in
    let one : taken new ≡ taken slots + 1 = taken_placed slots new node x (used_slot (hash_of node) (length nodes)) p in
    let more' : length (nodes ++ node ∷ []) ≡ length nodes + 1 = length-append nodes (node ∷ []) in
    let all : IsAdded nodes (nodes ++ node ∷ []) new base limit vars recent = record {
      ordered = o';
      indexed = t';
      counted = omega (arith, one, more', few);
      right = AreRight-push nodes slots new node base limit vars recent o t o' t' right;
    } in
    subst (λ (xs : List Node). IsAdded nodes xs new base limit vars recent) (sym list) all

-- ---- what the store is then

pub Pushes-keeps : (xs ys : List Node) (x : Node) (r : Ref) (b l v c k w : ℕ) → Pushes xs ys x r → w ≡ v → Keeps (grown_store xs b l v) (grown_store ys c k w)
Pushes-keeps xs ys x r b l v c k w p ev = record {
  grows = λ q n at. ap (λ zs. plain_held zs q) p.list ∙ held-push xs x q n at;
  vars = ev;
  table = refl;
}

held-last : (nodes : List Node) (x : Node) → plain_held (nodes ++ x ∷ []) (ref_at (length nodes)) ≡ Some x
held-last nodes x = held-at (nodes ++ x ∷ []) x (length nodes) (get-new nodes)
  where
    get-new : (xs : List Node) → slice_get (xs ++ x ∷ []) (length xs) ≡ Some x
    get-new [] = refl
    get-new (y ∷ ys) = get-new ys

pub Pushes-stands : (xs ys : List Node) (i : ℕ) (lo hi r : Ref) (b l v : ℕ) → lo.0 ≢ hi.0 → Pushes xs ys (node_of i lo hi) r → StandsFor (grown_store ys b l v) i lo hi r
Pushes-stands xs ys i lo hi r b l v ne p = record {
  equal = λ e. absurd (ne (ap (λ (x : Ref). x.0) e));
  node = λ _. ap (λ zs. plain_held zs r) p.list ∙ ap (plain_held (xs ++ node_of i lo hi ∷ [])) p.ref ∙ held-last xs (node_of i lo hi);
}

pub Pushes-made : (xs ys : List Node) (x : Node) (r : Ref) (b c : ℕ) → c ≡ b → b ≤ length xs → Pushes xs ys x r
    → refs_from c (length ys - c) ≡ refs_from b (length xs - b) ++ r ∷ []
Pushes-made xs ys x r b c same begun p =
    let long : length ys ≡ length xs + 1 = ap (λ zs. length zs) p.list ∙ length-append xs (x ∷ []) in
    let count : length ys - b ≡ suc (length xs - b) = omega (arith, long, begun) in
    let last : b + (length xs - b) ≡ length xs = omega (arith, begun) in
    ap (λ (n : ℕ). refs_from n (length ys - n)) same ∙ ap (refs_from b) count
    ∙ ap (λ q. refs_from b (length xs - b) ++ q ∷ []) (ap ref_at last ∙ sym p.ref)

pub IsRefused-full : (nodes : List Node) (b l v i : ℕ) (lo hi : Ref) → lo.0 ≢ hi.0 → length nodes - b ≡ l → ((r : Ref) → plain_held nodes r ≢ Some (node_of i lo hi))
    → IsRefused (grown_store nodes b l v) i lo hi
IsRefused-full nodes b l v i lo hi ne full absent = record {
  differ = λ e. ne (ap (λ (x : Ref). x.0) e);
  free = absent;
  full = length-refs_from b (length nodes - b) ∙ full;
}

-- nothing is refused where less is made than may be
pub IsRefused-room : (nodes : List Node) (b l v i : ℕ) (lo hi : Ref) → length nodes - b ≢ l → IsRefused (grown_store nodes b l v) i lo hi → ⊥
IsRefused-room nodes b l v i lo hi room refused = room (sym (length-refs_from b (length nodes - b)) ∙ refused.full)
