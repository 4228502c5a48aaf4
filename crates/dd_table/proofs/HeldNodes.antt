-- Functions whose cofactors all have references have no more nodes than are held.
use Rattle.std.proofs.Common.{◌≡◌, ℕ, zero, suc, ◌≤◌, ◌<◌, Bool, true, false, not, ◌||◌, List, [], ◌∷◌, ◌++◌, length, map, ⊎_elim, refl, sym, ◌∙◌, ap, subst, arith, Contains, Some, cond, inl, inr}
use Rattle.std.specs.Prelude.{◌==◌, ◌⊎◌, IsSomeAnd, Option, None}
use Rattle.std.specs.List.{filter}
use Rattle.std.specs.Set.{unique_keys, is_member}
use Rattle.std.specs.Ordering.{nat_cmp}
use Rattle.std.specs.FinMap.{get, entries, len, get-entries, len-entries}
use Rattle.std.specs.FinMap.Entries.{find}
use Rattle.std.proofs.lemmas.Bool.{cases_lt}
use Rattle.std.proofs.lemmas.List.{length-map}
use Rattle.std.proofs.lemmas.List.Elements.{Contains-append_cases}
use mathlib.Core.Logic.{dite}
use native.Mathlib.Decide.{ℕ_discrete}
use Rattle.dd_nodes.specs.declared.node.Ref.{Ref}
use Rattle.dd_nodes.specs.declared.node.Node.{Node}
use Rattle.ste_base.specs.Functions.{Function}
use Rattle.dd_nodes.specs.Diagram.{IsDiagram}
use Rattle.dd_nodes.specs.Functions.{IsCofactorOf, bits_of, cofactor, cofactors, is_constant, node_count, nodes, prefixes, same_bits}
use Rattle.dd_nodes.specs.Stores.{function}
use Rattle.dd_nodes.proofs.Counts.{bits-same, same_bits-tells}
use Rattle.dd_nodes.proofs.Members.{Contains-cons_cases, Contains-filter_of, Contains-head, Contains-map, Contains-map_of, Contains-none, Contains-tail, Contains-unique_of, count_different, unique-apart}
use Rattle.dd_nodes.proofs.Walks.{walk-constant}
use Rattle.dd_table.specs.Codes.{ref}
use Rattle.dd_table.specs.Sessions.{AreHeld, IsGoodSession, SessionValue, store_of}
use Rattle.dd_table.specs.StoreLaws.{diagram_of}
use Rattle.dd_table.proofs.Maps.{tie_other, none_or_some}

-- ---- lists

unique_shorter_by : {K : Type 0} (eq : K → K → Bool) (x : K) (xs : List K) (member : Bool) → length (unique_keys eq xs) ≤ length xs → length (cond member (unique_keys eq xs) (x ∷ unique_keys eq xs)) ≤ suc (length xs)
unique_shorter_by eq x xs true le = omega arith
unique_shorter_by eq x xs false le = omega arith

unique_shorter : {K : Type 0} (eq : K → K → Bool) (xs : List K) → length (unique_keys eq xs) ≤ length xs
unique_shorter eq [] = omega arith
unique_shorter eq (x ∷ xs) = unique_shorter_by eq x xs (is_member eq xs x) (unique_shorter eq xs)

-- ---- cofactors

prefix_long : (v : ℕ) (p : List Bool) → Contains (prefixes v) p → length p ≤ v
prefix_long zero p has = ⊎_elim
    (λ (e : [] ≡ p). subst (λ (q : List Bool). length q ≤ 0) e (omega arith))
    (λ (none : Contains [] p). absurd (Contains-none p none))
    (Contains-cons_cases [] [] p has)
prefix_long (suc v) p has = ⊎_elim
    (λ (e : [] ≡ p). subst (λ (q : List Bool). length q ≤ suc v) e (omega arith))
    (λ (later : Contains (map (λ q. false ∷ q) (prefixes v) ++ map (λ q. true ∷ q) (prefixes v)) p). ⊎_elim
    (λ (low : Contains (map (λ q. false ∷ q) (prefixes v)) p). behind (prefix_long v) false low)
    (λ (high : Contains (map (λ q. true ∷ q) (prefixes v)) p). behind (prefix_long v) true high)
    (Contains-append_cases (map (λ q. false ∷ q) (prefixes v)) (map (λ q. true ∷ q) (prefixes v)) p later))
    (Contains-cons_cases [] (map (λ q. false ∷ q) (prefixes v) ++ map (λ q. true ∷ q) (prefixes v)) p has)
  where
    behind : ((q : List Bool) → Contains (prefixes v) q → length q ≤ v) → (b : Bool) → Contains (map (λ q. b ∷ q) (prefixes v)) p → length p ≤ suc v
    behind shorter b h =
        let at = Contains-map_of (λ (q : List Bool). b ∷ q) (prefixes v) p h in
        let le = shorter at.0 at.1 in
        subst (λ (q : List Bool). length q ≤ suc v) at.2 (omega arith)

-- the bits of a cofactor are those of a function that is one
of_cofactors : (v : ℕ) (fs : List Function) (t : List Bool) → Contains (cofactors v fs) t → (f : Function) × IsCofactorOf v fs f × (bits_of v f ≡ t)
of_cofactors v [] t has = absurd (Contains-none t has)
of_cofactors v (h ∷ fs) t has = by (of_cofactors v fs t) (Contains-append_cases (map (λ p. bits_of v (cofactor p h)) (prefixes v)) (cofactors v fs) t has)
  where
    by : (Contains (cofactors v fs) t → (f : Function) × IsCofactorOf v fs f × (bits_of v f ≡ t)) → Contains (map (λ p. bits_of v (cofactor p h)) (prefixes v)) t ⊎ Contains (cofactors v fs) t →
        (f : Function) × IsCofactorOf v (h ∷ fs) f × (bits_of v f ≡ t)
    by again (inl here) =
        let at = Contains-map_of (λ (p : List Bool). bits_of v (cofactor p h)) (prefixes v) t here in
        (cofactor at.0 h, (h, Contains-head h fs, (at.0, prefix_long v at.0 at.1, λ bits l. refl)), at.2)
    by again (inr later) =
        let (f, (g, has', is), same) = again later in
        (f, (g, Contains-tail h fs g has', is), same)

-- ---- entries of a map

in_entries : (r : ℕ) (n : Node) (es : List (ℕ × Node)) → find nat_cmp r es ≡ Some n → Contains (map (λ (e : ℕ × Node). e.0) es) r
in_entries r n [] e = absurd (none_or_some (find nat_cmp r []) n refl e)
in_entries r n (a ∷ es) e = dite (ℕ_discrete r a.0)
    (λ same. subst (λ (x : ℕ). Contains (a.0 ∷ map (λ (b : ℕ × Node). b.0) es) x) (sym same) (Contains-head a.0 (map (λ (b : ℕ × Node). b.0) es)))
    (λ ne. Contains-tail a.0 (map (λ (b : ℕ × Node). b.0) es) r (in_entries r n es (ap (λ b. cond b (Some a.1) (find nat_cmp r es)) (sym (tie_other r a.0 ne)) ∙ e)))

-- the references that a session holds
abbrev held_refs : SessionValue → List Ref
held_refs k = map ref (map (λ (e : ℕ × Node). e.0) (entries k.held))

held_long : (k : SessionValue) → length (held_refs k) ≡ len k.held
held_long k = length-map (map (λ (e : ℕ × Node). e.0) (entries k.held)) ref ∙ (length-map (entries k.held) (λ (e : ℕ × Node). e.0) ∙ sym (len-entries k.held))

is_held_by : (o : Option Node) → IsSomeAnd o (λ n. 0 ≤ n.var) → (n : Node) × (o ≡ Some n)
is_held_by None h = absurd h
is_held_by (Some n) h = (n, refl)

-- ---- counting

-- the bits of a constant are constant
constant_by : (v : ℕ) (t : List Bool) (b : Bool) → bits_of v (λ _. b) ≡ t → is_constant v t ≡ true
constant_by v t true e = both (same_bits t (bits_of v (λ _. false))) (same_bits t (bits_of v (λ _. true))) ((same_bits-tells t (bits_of v (λ _. true))).1 (sym e))
  where
    both : (x y : Bool) → y ≡ true → (x || y) ≡ true
    both true y e = refl
    both false y e = e
constant_by v t false e = one (same_bits t (bits_of v (λ _. false))) (same_bits t (bits_of v (λ _. true))) ((same_bits-tells t (bits_of v (λ _. false))).1 (sym e))
  where
    one : (x y : Bool) → x ≡ true → (x || y) ≡ true
    one true y e = refl
    one false y e = absurd (cc e)

not_both : (b : Bool) → b ≡ true → not b ≡ true → ⊥
not_both true e f = let g : false ≡ true = f in cc g
not_both false e f = cc e

module _ (k : SessionValue) (d : IsDiagram (store_of k).held k.vars) where
  abbrev image : Ref → List Bool
  image r = bits_of k.vars (function (store_of k) r)

  constant_image : (r : Ref) → r.0 < 2 → bits_of k.vars (λ _. r.0 == 1) ≡ image r
  constant_image r lt = bits-same k.vars (λ _. r.0 == 1) (function (store_of k) r) (λ bits l. sym (walk-constant (store_of k).held k.vars 0 r bits d lt))

  -- a node is the image of a reference that is held
  node_image : (fs : List Function) → AreHeld (store_of k) fs → (t : List Bool) → Contains (nodes k.vars fs) t → Contains (map image (held_refs k)) t
  node_image fs held t has =
      let kept = Contains-filter_of (λ bits. not (is_constant k.vars bits)) (cofactors k.vars fs) t (Contains-unique_of same_bits (filter (λ bits. not (is_constant k.vars bits)) (cofactors k.vars fs)) t has) in
      let (f, is, bits) = of_cofactors k.vars fs t kept.0 in
      let (r, means) = held f is in
      let same : image r ≡ t = bits-same k.vars (function (store_of k) r) f means.value ∙ bits in
      ⊎_elim
      (λ (low : r.0 < 2). absurd (not_both (is_constant k.vars t) (constant_by k.vars t (r.0 == 1) (constant_image r low ∙ same)) kept.1))
      (λ (high : 2 ≤ r.0).
      let (n, at) = is_held_by (get k.held r.0) (means.ref high) in
      let key = in_entries r.0 n (entries k.held) (sym (get-entries k.held r.0) ∙ at) in
      subst (λ (x : List Bool). Contains (map image (held_refs k)) x) same
      (Contains-map image (held_refs k) r (Contains-map ref (map (λ (e : ℕ × Node). e.0) (entries k.held)) r.0 key)))
      (cases_lt r.0 2)

  -- functions whose cofactors all have references have no more nodes than are held
  nodes_held : (fs : List Function) → AreHeld (store_of k) fs → node_count k.vars fs ≤ len k.held
  nodes_held fs held =
      let few : length (nodes k.vars fs) ≤ length (unique_keys same_bits (map image (held_refs k))) =
      count_different same_bits-tells (nodes k.vars fs) (map image (held_refs k)) (unique-apart same_bits-tells (filter (λ bits. not (is_constant k.vars bits)) (cofactors k.vars fs))) (node_image fs held) in
      let short = unique_shorter same_bits (map image (held_refs k)) in
      let long : length (map image (held_refs k)) ≡ len k.held = length-map (held_refs k) image ∙ held_long k in
      omega arith

-- so where at least as many slots are taken as references are held, they are no more than these slots
pub nodes_taken : (k : SessionValue) (taken : ℕ) → IsGoodSession k → len k.held ≤ taken → (fs : List Function) → AreHeld (store_of k) fs → node_count k.vars fs ≤ taken
nodes_taken k taken good le fs held = let few = nodes_held k (diagram_of k good) fs held in omega arith
