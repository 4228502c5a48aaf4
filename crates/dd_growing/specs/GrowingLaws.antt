-- Laws. What the list of nodes of a store that grows and its slots give.
use Rattle.std.proofs.Common.{◌≡◌, ◌≢◌, ℕ, zero, suc, ◌+◌, ◌-◌, ◌≤◌, ◌<◌, List, [], ◌∷◌, length, get_or, ⊎_elim, refl, sym, ◌∙◌, ap, subst, arith}
use Rattle.std.specs.Prelude.{Option, Some, None, slice_get, IsSome, All}
use Rattle.std.specs.List.{AllPairs}
use Rattle.std.proofs.lemmas.Bool.{cases_lt}
use Rattle.std.proofs.lemmas.Option.{slice_get-get_or}
use Rattle.std.proofs.lemmas.List.{length-append, get_or_push}
use Rattle.std.proofs.lemmas.List.Quantifiers.{all_pairs_push}
use Rattle.std.proofs.Math.ListN.{get_or-append}
use Rattle.dd_nodes.specs.declared.node.Ref.{Ref}
use Rattle.dd_nodes.specs.declared.node.Node.{Node}
use Rattle.dd_nodes.specs.Diagram.{Held, IsFrom, IsDiagram}
use Rattle.dd_nodes.specs.Stores.{node_of}
use Rattle.dd_nodes.specs.Plain.{IsOrdered, depth, plain_held, ref_at, var_or}
use Rattle.dd_nodes.specs.PlainLaws.{depth-place, held-constant, held-place, place_of}
use Rattle.dd_growing.specs.Growing.{refs_from}
use Rattle.dd_growing.specs.private.Slots.{IsIndexed}

same_numbers : (r s : Ref) → r.0 ≡ s.0 → r ≡ s
same_numbers r s e = let make : ℕ → Ref = λ n. record { 0 = n } in ap make e

from_by : (nodes : List Node) (i : ℕ) (r : Ref) (o : Option Node) → plain_held nodes r ≡ o →
    i < var_or 0 o → IsFrom (plain_held nodes) (i + 1) r
from_by nodes i r None e lt _ = absurd (omega arith)
from_by nodes i r (Some n) e lt _ = rw e (let le : i + 1 ≤ n.var = omega arith in le)

constant_from : (h : Held) (i : ℕ) (r : Ref) → r.0 < 2 → IsFrom h i r
constant_from h i r c le = absurd (omega arith)

from-depth : (vars : ℕ) (nodes : List Node) (i : ℕ) (r : Ref) → i < depth vars nodes r →
    IsFrom (plain_held nodes) (i + 1) r
from-depth vars nodes i r lt = ⊎_elim
    (λ (c : r.0 < 2). constant_from (plain_held nodes) (i + 1) r c)
    (λ (le : 2 ≤ r.0). from_by nodes i r (plain_held nodes r) refl
    (subst (λ d. i < d) (depth-place vars nodes r le) lt))
    (cases_lt r.0 2)

pub growing_diagram : (vars : ℕ) (nodes : List Node) (slots : List ℕ) → IsOrdered vars nodes →
    IsIndexed nodes slots → IsDiagram (plain_held nodes) vars
growing_diagram vars nodes slots o t = record {
  constants = held-constant nodes;
  below = λ r n at. o.below (r.0 - 2) n (place_of nodes r n at).1;
  differ = λ r n at e. o.differ (r.0 - 2) n (place_of nodes r n at).1 (ap (λ (x : Ref). x.0) e);
  low = λ r n at. from-depth vars nodes n.var n.lo (o.low (r.0 - 2) n (place_of nodes r n at).1);
  high = λ r n at. from-depth vars nodes n.var n.hi (o.high (r.0 - 2) n (place_of nodes r n at).1);
  once = λ r s n at at'.
      let p = place_of nodes r n at in
      let q = place_of nodes s n at' in
      let one : r.0 - 2 ≡ s.0 - 2 = t.distinct (r.0 - 2) (s.0 - 2) n p.1 q.1 in
      let le = p.0 in
      let le' = q.0 in
      same_numbers r s (omega arith);
}

pub length-refs_from : (base n : ℕ) → length (refs_from base n) ≡ n
length-refs_from base zero = refl
length-refs_from base (suc n) = length-append (refs_from base n) (ref_at (base + n) ∷ []) ∙ ap (λ k. k + 1) (length-refs_from base n) ∙ let e : n + 1 ≡ suc n = omega arith in e

-- the reference at place k
pub refs_from-at : (base n k : ℕ) (d : Ref) → k < n →
    get_or (refs_from base n) k d ≡ ref_at (base + k)
refs_from-at base zero k d lt = absurd (omega arith)
refs_from-at base (suc n) k d lt =
    let long = length-refs_from base n in
    ⊎_elim
    (λ (old : k < n). get_or-append (refs_from base n) (ref_at (base + n) ∷ []) d k
    (omega arith) ∙ refs_from-at base n k d old)
    (λ (last : n ≤ k). get_or_push (refs_from base n) (ref_at (base + n)) d k
    (omega arith) ∙ ap ref_at (let e : base + n ≡ base + k = omega arith in e))
    (cases_lt k n)

apart_at : (base n k : ℕ) (r : Ref) → k < n → r ≡ ref_at (base + k) → r ≢ ref_at (base + n)
apart_at base n k r lt e same = let one : base + k + 2 ≡ base + n + 2 = ap (λ (x : Ref). x.0) (sym e ∙ same) in absurd (omega arith)

pub refs_from-distinct : (base n : ℕ) → AllPairs (λ a b. a ≢ b) (refs_from base n)
refs_from-distinct base zero = λ i j d lt within. absurd (omega arith)
refs_from-distinct base (suc n) =
    all_pairs_push (λ a b. a ≢ b) (refs_from base n) (ref_at (base + n)) (refs_from-distinct base n)
    (λ k d lt. let long = length-refs_from base n in let old : k < n = omega arith in apart_at base n k (get_or (refs_from base n) k d) old (refs_from-at base n k d old))

some_is : (o : Option Node) (n : Node) → o ≡ Some n → IsSome o
some_is o n e = subst (λ x. IsSome x) (sym e) refl

pub made_held_of : (nodes : List Node) (base : ℕ) → base ≤ length nodes →
    All (λ r. IsSome (plain_held nodes r)) (refs_from base (length nodes - base))
made_held_of nodes base begun k d lt =
    let long = length-refs_from base (length nodes - base) in
    let old : k < length nodes - base = omega arith in
    let inside : base + k < length nodes = omega arith in
    let at : plain_held nodes (ref_at (base + k)) ≡ slice_get nodes (base + k) = held-place nodes (ref_at (base + k)) (omega arith) ∙ ap (slice_get nodes) (let e : base + k + 2 - 2 ≡ base + k = omega arith in e) in
    let some : plain_held nodes (get_or (refs_from base (length nodes - base)) k d) ≡ Some (get_or nodes (base + k) (node_of 0 d d)) =
    ap (plain_held nodes) (refs_from-at base
    (length nodes - base) k d old) ∙ at ∙ slice_get-get_or nodes (base + k)
    (node_of 0 d d) inside in
    some_is _ _ some

pub within_of : (nodes : List Node) (base limit : ℕ) → length nodes ≤ base + limit →
    length (refs_from base (length nodes - base)) ≤ limit
within_of nodes base limit within = let long = length-refs_from base (length nodes - base) in omega arith
