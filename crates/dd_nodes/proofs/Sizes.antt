-- The nodes of a diagram, by the walks from its reference.
use Rattle.std.proofs.Common.{◌≡◌, ℕ, zero, suc, ◌+◌, ◌≤◌, ◌<◌, Bool, true, false, List, [], ◌∷◌, ◌++◌, length, ◌⊎◌, inl, inr, ⊎_elim, refl, sym, ◌∙◌, ap, subst, arith, Contains, Some, None}
use Rattle.std.specs.Prelude.{nat_lt, IsSome}
use Rattle.std.specs.List.{filter}
use Rattle.std.specs.Set.{unique_keys}
use Rattle.std.proofs.lemmas.Option.{none-some}
use Rattle.std.proofs.lemmas.Bool.{cases_lt, lt-ltb, ltb-true}
use Rattle.std.proofs.lemmas.List.Elements.{Contains-append_left, Contains-append_right, Contains-append_cases}
use Rattle.dd_nodes.specs.declared.node.Ref.{Ref}
use Rattle.dd_nodes.specs.declared.node.Node.{Node}
use Rattle.dd_nodes.specs.Diagram.{Held, IsFrom, IsDiagram, IsCofactor, Grows, child, same_ref}
use Rattle.dd_nodes.specs.Stores.{Store, function, IsRef, Keeps}
use Rattle.dd_nodes.specs.Functions.{on_walks, node_refs, diagram_size, node_count, IsNodeRef, ReachesNode}
use Rattle.dd_nodes.proofs.Walks.{same_numbers, from_constant, child-constant, IsAt, from_held, from_cases, Cases, child-above, child-from, child-grows, at_or_above, IsFrom-less, value-of_child, up_to, length-up_to, IsCofactor-refl, IsCofactor-trans}
use Rattle.dd_nodes.proofs.Stores.{IsGood, IsGood-at}
use Rattle.dd_nodes.proofs.Members.{Contains-head, Contains-tail, Contains-cons_cases, Contains-none, Contains-filter, Contains-filter_of, Contains-unique, Contains-unique_of, unique-apart}
use Rattle.dd_nodes.proofs.Counts.{same_ref-tells, count_nodes}

-- what holds of r and, with a reference from i, of its children at i, holds of all on the walks from r
pub walks_all : (h : Held) (v n i : ℕ) (r : Ref) (P : Ref → Type 0) → IsDiagram h v → n + i ≡ v → IsFrom h i r → P r
    → ((j : ℕ) (b : Bool) (x : Ref) → j < v → IsFrom h j x → P x → P (child h j b x)) → (x : Ref) → Contains (on_walks h i n r) x → P x
walks_all h v zero i r P d e f p next x has = ⊎_elim (λ same. subst P same p) (λ none. absurd (Contains-none x none)) (Contains-cons_cases r [] x has)
walks_all h v (suc n) i r P d e f p next x has =
    let later : (b : Bool) (y : Ref) → Contains (on_walks h (i + 1) n (child h i b r)) y → P y =
    λ b. walks_all h v n (i + 1) (child h i b r) P d (omega arith) (child-from h v i b r d f) (next i b r (omega arith) f p) next in
    ⊎_elim (λ same. subst P same p)
    (λ rest. ⊎_elim (later false x) (later true x) (Contains-append_cases (on_walks h (i + 1) n (child h i false r)) (on_walks h (i + 1) n (child h i true r)) x rest))
    (Contains-cons_cases r (on_walks h (i + 1) n (child h i false r) ++ on_walks h (i + 1) n (child h i true r)) x has)

pub walks-self : (h : Held) (i n : ℕ) (r : Ref) → Contains (on_walks h i n r) r
walks-self h i zero r = Contains-head r []
walks-self h i (suc n) r = Contains-head r (on_walks h (i + 1) n (child h i false r) ++ on_walks h (i + 1) n (child h i true r))

-- the walks behind either bit are among those from r
walks-later : (h : Held) (i n : ℕ) (b : Bool) (r x : Ref) → Contains (on_walks h (i + 1) n (child h i b r)) x → Contains (on_walks h i (suc n) r) x
walks-later h i n false r x has = Contains-tail r (on_walks h (i + 1) n (child h i false r) ++ on_walks h (i + 1) n (child h i true r)) x
    (Contains-append_left (on_walks h (i + 1) n (child h i false r)) (on_walks h (i + 1) n (child h i true r)) x has)
walks-later h i n true r x has = Contains-tail r (on_walks h (i + 1) n (child h i false r) ++ on_walks h (i + 1) n (child h i true r)) x
    (Contains-append_right (on_walks h (i + 1) n (child h i false r)) (on_walks h (i + 1) n (child h i true r)) x has)

-- a node that a reference from i holds has no variable below i
from_var_by : (h : Held) (i : ℕ) (r : Ref) (m : Node) → h r ≡ Some m → (r.0 < 2 → h r ≡ None) → Cases h i r → i ≤ m.var
from_var_by h i r m at constants (inl c) = absurd (none-some m (sym (constants c) ∙ at))
from_var_by h i r m at constants (inr (n, at', le)) = let one : Some n ≡ Some m = sym at' ∙ at in let same : n ≡ m = cc in subst (λ (k : Node). i ≤ k.var) same le

pub from_var : (h : Held) (v i : ℕ) (r : Ref) (m : Node) → IsDiagram h v → IsFrom h i r → h r ≡ Some m → i ≤ m.var
from_var h v i r m d f at = from_var_by h i r m at (d.constants r) (from_cases h i r f)

-- the children of a node on the walks from r are on them too
walks-node : (h : Held) (v n i : ℕ) (b : Bool) (r x : Ref) (m : Node) → IsDiagram h v → n + i ≡ v → IsFrom h i r → h x ≡ Some m → Contains (on_walks h i n r) x
    → Contains (on_walks h i n r) (child h m.var b x)
walks-node h v zero i b r x m d e f at has = ⊎_elim
    (λ (same : r ≡ x).
    let low : i ≤ m.var = from_var h v i r m d f (ap h same ∙ at) in
    let high : m.var < v = d.below x m at in
    absurd (omega arith))
    (λ (none : Contains [] x). absurd (Contains-none x none)) (Contains-cons_cases r [] x has)
walks-node h v (suc n) i b r x m d e f at has =
    let later : (c : Bool) → Contains (on_walks h (i + 1) n (child h i c r)) x → Contains (on_walks h i (suc n) r) (child h m.var b x) =
    λ c there. walks-later h i n c r (child h m.var b x) (walks-node h v n (i + 1) b (child h i c r) x m d (omega arith) (child-from h v i c r d f) at there) in
    let own : r ≡ x → Contains (on_walks h i (suc n) r) (child h m.var b x) = λ same.
    let held : h r ≡ Some m = ap h same ∙ at in
    ⊎_elim
    (λ (below : i < m.var).
    let back : child h i false r ≡ x = child-above h v i false r d (from_held h (i + 1) r m held (omega arith)) ∙ same in
    later false (subst (λ y. Contains (on_walks h (i + 1) n (child h i false r)) y) back (walks-self h (i + 1) n (child h i false r))))
    (λ (above : m.var ≤ i).
    let low : i ≤ m.var = from_var h v i r m d f held in
    let there : i ≡ m.var = omega arith in
    let is : child h i b r ≡ child h m.var b x = ap (λ j. child h j b r) there ∙ ap (child h m.var b) same in
    subst (λ y. Contains (on_walks h i (suc n) r) y) is (walks-later h i n b r (child h i b r) (walks-self h (i + 1) n (child h i b r))))
    (cases_lt i m.var) in
    ⊎_elim own
    (λ rest. ⊎_elim (later false) (later true) (Contains-append_cases (on_walks h (i + 1) n (child h i false r)) (on_walks h (i + 1) n (child h i true r)) x rest))
    (Contains-cons_cases r (on_walks h (i + 1) n (child h i false r) ++ on_walks h (i + 1) n (child h i true r)) x has)

walks-child_by : (h : Held) (v n i j : ℕ) (b : Bool) (r x : Ref) → IsDiagram h v → n + i ≡ v → IsFrom h i r → Contains (on_walks h i n r) x
    → (IsAt h j x) ⊎ (IsFrom h (j + 1) x) → Contains (on_walks h i n r) (child h j b x)
walks-child_by h v n i j b r x d e f has (inl (m, at, is)) = subst (λ k. Contains (on_walks h i n r) (child h k b x)) is (walks-node h v n i b r x m d e f at has)
walks-child_by h v n i j b r x d e f has (inr above) = subst (λ y. Contains (on_walks h i n r) y) (sym (child-above h v j b x d above)) has

-- what is on the walks from r, and from the variable j, has its children at j on them too
pub walks-child : (h : Held) (v n i j : ℕ) (b : Bool) (r x : Ref) → IsDiagram h v → n + i ≡ v → IsFrom h i r → IsFrom h j x → Contains (on_walks h i n r) x
    → Contains (on_walks h i n r) (child h j b x)
walks-child h v n i j b r x d e f g has = walks-child_by h v n i j b r x d e f has (at_or_above h j x g)

pub Reaches-self : (s : Store) (r : Ref) → ReachesNode s r r
Reaches-self s r = walks-self s.held 0 s.vars r

pub Reaches-child : (s : Store) (j : ℕ) (b : Bool) (r x : Ref) → IsGood s → IsRef s r → IsFrom s.held j x → ReachesNode s r x → ReachesNode s r (child s.held j b x)
Reaches-child s j b r x d f g has = walks-child s.held s.vars s.vars 0 j b r x d (omega arith) f g has

pub Reaches-trans : (s : Store) (r x y : Ref) → IsGood s → IsRef s r → IsRef s x → ReachesNode s r x → ReachesNode s x y → ReachesNode s r y
Reaches-trans s r x y d f g first second =
    walks_all s.held s.vars s.vars 0 x (ReachesNode s r) d (omega arith) g first (λ j b z lt from has. Reaches-child s j b r z d f from has) y second

walks-grows : (h k : Held) (v n i : ℕ) (r : Ref) → IsDiagram h v → IsDiagram k v → Grows h k → IsFrom h i r → on_walks k i n r ≡ on_walks h i n r
walks-grows h k v zero i r d d' g f = refl
walks-grows h k v (suc n) i r d d' g f =
    let behind : (b : Bool) → on_walks k (i + 1) n (child k i b r) ≡ on_walks h (i + 1) n (child h i b r) =
    λ b. ap (on_walks k (i + 1) n) (child-grows h k v i b r d d' g f) ∙ walks-grows h k v n (i + 1) (child h i b r) d d' g (child-from h v i b r d f) in
    λ j. r ∷ (behind false j ++ behind true j)

-- a larger store adds nothing to a diagram
pub walks-keeps : (s t : Store) (r : Ref) → IsGood s → IsGood t → Keeps s t → IsRef s r → on_walks t.held 0 t.vars r ≡ on_walks s.held 0 s.vars r
walks-keeps s t r d d' k f = ap (λ v. on_walks t.held 0 v r) k.vars ∙ walks-grows s.held t.held s.vars s.vars 0 r d (IsGood-at s t k d') k.grows f

pub size-keeps : (s t : Store) (r : Ref) → IsGood s → IsGood t → Keeps s t → IsRef s r → diagram_size t r ≡ diagram_size s r
size-keeps s t r d d' k f = ap (λ (xs : List Ref). length (unique_keys same_ref (filter (λ x. nat_lt 1 x.0) xs))) (walks-keeps s t r d d' k f)

pub Reaches-keeps : (s t : Store) (r x : Ref) → IsGood s → IsGood t → Keeps s t → IsRef s r → ReachesNode t r x → ReachesNode s r x
Reaches-keeps s t r x d d' k f has = subst (λ xs. Contains xs x) (walks-keeps s t r d d' k f) has

-- the references of a diagram, with both constants
abbrev pub reached : Store → Ref → List Ref
reached s r = record { 0 = 0 } ∷ record { 0 = 1 } ∷ node_refs s r

one_reached_by : (s : Store) (r x : Ref) (n : ℕ) → x.0 ≡ n → n < 2 → Contains (reached s r) x
one_reached_by s r x zero e lt = (zero, omega arith, same_numbers (record { 0 = 0 }) x (sym e))
one_reached_by s r x (suc zero) e lt = (suc zero, omega arith, same_numbers (record { 0 = 1 }) x (sym e))
one_reached_by s r x (suc (suc n)) e lt = absurd (omega arith)

-- what is on the walks is a constant or a node of the diagram
pub Reaches-reached : (s : Store) (r x : Ref) → ReachesNode s r x → Contains (reached s r) x
Reaches-reached s r x has = ⊎_elim
    (λ (lt : x.0 < 2). one_reached_by s r x x.0 refl lt)
    (λ (le : 2 ≤ x.0).
    let inner : Contains (node_refs s r) x = Contains-unique same_ref-tells (filter (λ y. nat_lt 1 y.0) (on_walks s.held 0 s.vars r)) x
    (Contains-filter (λ y. nat_lt 1 y.0) (on_walks s.held 0 s.vars r) x has (lt-ltb 1 x.0 (omega arith))) in
    Contains-tail (record { 0 = 0 }) (record { 0 = 1 } ∷ node_refs s r) x (Contains-tail (record { 0 = 1 }) (node_refs s r) x inner))
    (cases_lt x.0 2)

-- what is on the walks from r is held or constant, and its function is a cofactor of that of r
record IsUnder (s : Store) (r x : Ref) : Type 0 where
  ref : IsRef s x
  cofactor : IsCofactor s.vars (function s r) (function s x)

under_next : (s : Store) (r : Ref) (j : ℕ) (b : Bool) (x : Ref) → IsGood s → j < s.vars → IsFrom s.held j x → IsUnder s r x → IsUnder s r (child s.held j b x)
under_next s r j b x d lt f u =
    let n = length-up_to j b in
    record {
      ref = IsFrom-less s.held 0 (j + 1) (child s.held j b x) (omega arith) (child-from s.held s.vars j b x d f);
      cofactor = IsCofactor-trans s.vars (function s r) (function s x) (function s (child s.held j b x)) u.cofactor
          (up_to j b, omega (arith, n), λ bits l. value-of_child s.held s.vars j b x bits d f (omega arith));
    }

is_under : (s : Store) (r x : Ref) → IsGood s → IsRef s r → ReachesNode s r x → IsUnder s r x
is_under s r x d f has = walks_all s.held s.vars s.vars 0 r (IsUnder s r) d (omega arith) f
    (record { ref = f; cofactor = IsCofactor-refl s.vars (function s r) }) (λ j b y lt from u. under_next s r j b y d lt from u) x has

pub Reaches-ref : (s : Store) (r x : Ref) → IsGood s → IsRef s r → ReachesNode s r x → IsRef s x
Reaches-ref s r x d f has = (is_under s r x d f has).ref

-- a constant reaches itself alone
pub Reaches-constant : (s : Store) (r x : Ref) → IsGood s → r.0 < 2 → ReachesNode s r x → x ≡ r
Reaches-constant s r x d c has = walks_all s.held s.vars s.vars 0 r (λ y. y ≡ r) d (omega arith) (from_constant s.held 0 r c) refl
    (λ j b y lt from same. ap (child s.held j b) same ∙ child-constant s.held s.vars j b r d c) x has

held_by : (h : Held) (x : Ref) → Cases h 0 x → 2 ≤ x.0 → IsSome (h x)
held_by h x (inl c) le = absurd (omega arith)
held_by h x (inr (n, at, low)) le = subst (λ o. IsSome o) (sym at) refl

node_ref : (s : Store) (r x : Ref) → IsGood s → IsRef s r → Contains (node_refs s r) x → IsNodeRef s (function s r ∷ []) x
node_ref s r x d f has =
    let (walked, pass) = Contains-filter_of (λ y. nat_lt 1 y.0) (on_walks s.held 0 s.vars r) x (Contains-unique_of same_ref (filter (λ y. nat_lt 1 y.0) (on_walks s.held 0 s.vars r)) x has) in
    let u : IsUnder s r x = is_under s r x d f walked in
    let two : 1 < x.0 = ltb-true 1 x.0 pass in
    record {
      held = held_by s.held x (from_cases s.held 0 x u.ref) (omega arith);
      cofactor = (function s r, Contains-head (function s r) [], u.cofactor);
    }

-- a diagram has no more nodes than its function
pub size-nodes : (s : Store) (r : Ref) → IsGood s → IsRef s r → diagram_size s r ≤ node_count s.vars (function s r ∷ [])
size-nodes s r d f = count_nodes s (function s r ∷ []) (node_refs s r) d (λ x has. node_ref s r x d f has)
    (unique-apart same_ref-tells (filter (λ y. nat_lt 1 y.0) (on_walks s.held 0 s.vars r)))
