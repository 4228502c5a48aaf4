-- The least route, hop by hop.
use Rattle.std.proofs.Common.{◌≡◌, ◌≢◌, ℕ, suc, ◌+◌, ◌-◌, ◌<◌, List, [], ◌∷◌, ◌++◌, length, refl, sym, ◌∙◌, ap, subst, arith, inl, inr}
use Rattle.std.specs.Prelude.{slice_get, Some, Option, IsTrue}
use Rattle.std.proofs.lemmas.List.{append_assoc}
use Rattle.std.specs.Ordering.{nat_cmp, ordering_then}
use Rattle.std.proofs.lemmas.Cmp.{ranked}
use Rattle.std.proofs.Math.Decide.{ℕ_discrete}
use Rattle.std.specs.declared.cmp.Ordering.{Ordering}
use Rattle.std.specs.declared.cmp.Ordering.TheVariants.{Less, Equal, Greater}
use Rattle.std.specs.Ordering.{MatchOrdering}
use Rattle.std.specs.Cmp.Lexicographic.{slice_cmp}
use Rattle.graph_path.specs.declared.hop.Hop.{Hop}
use Rattle.graph_path.specs.Routes.{IsHopRoute, IsLeastHopRoute, LeadToVertices}
use Rattle.graph_path.specs.private.Distances.{IsDistance, MayBegin, AreDistances, IsBeginning, IsFirstBeginning}
use Rattle.graph_path.proofs.Levels.{get_all, one_some, has_or_not, route_cons, route_parts}

-- the first hop of a route with the fewest hops may begin one
beginning_by : (hops : List Hop) (far : List (Option ℕ)) → AreDistances hops far → LeadToVertices (length far) hops → (v left n : ℕ) (hop : Hop) (rest : List ℕ) → IsDistance hops v left → slice_get hops n ≡ Some hop → hop.from ≡ v → IsTrue hop.feasible → (rest ≡ [] → IsTrue hop.fails) → (rest ≢ [] → IsHopRoute hops hop.to rest) → length rest ≡ left → MayBegin far left hop
beginning_by hops far done ends v left n hop [] fewest at from feasible last goes e = inl (let f = e in omega arith, feasible, last refl)
beginning_by hops far done ends v left n hop (m ∷ rest) fewest at from feasible last goes e =
    let route = goes (λ f. let g = ap length f in omega arith) in
    elim (has_or_not far hop.to (get_all (λ (h : Hop). h.to < length far) hops n hop ends at)) [
      | inl none ↦ absurd (done.none hop.to none (m ∷ rest) route)
      | inr has ↦
          let h = done.some hop.to has.0 has.1 in
          let c = h.least (m ∷ rest) route in
          let d = fewest.least (n ∷ h.some.0) (route_cons hops v n hop h.some.0 at from feasible h.some.1) in
          let f = h.some.2 in
          inr (has.0, let g : left ≡ suc has.0 = omega (arith, c, d, f, e) in g, feasible, has.1)
    ]

pub beginning : (hops : List Hop) (far : List (Option ℕ)) → AreDistances hops far → LeadToVertices (length far) hops → (v left o : ℕ) (os : List ℕ) → IsDistance hops v left → IsHopRoute hops v (o ∷ os) → length os ≡ left → IsBeginning hops far v left o
beginning hops far done ends v left o os fewest route e =
    let parts = route_parts hops v (o ∷ os) route in
    let one : o ≡ parts.first = heads o parts.first os parts.rest parts.is in
    let two : os ≡ parts.rest = tails o parts.first os parts.rest parts.is in (
      parts.hop,
      ap (slice_get hops) one ∙ parts.at,
      parts.from,
      beginning_by hops far done ends v left parts.first parts.hop parts.rest fewest parts.at parts.from parts.feasible parts.ends parts.goes (ap length (sym two) ∙ e),
    )
  where
    heads : (a b : ℕ) (xs ys : List ℕ) → (a ∷ xs) ≡ (b ∷ ys) → a ≡ b
    heads a b xs ys e = cc

    tails : (a b : ℕ) (xs ys : List ℕ) → (a ∷ xs) ≡ (b ∷ ys) → xs ≡ ys
    tails a b xs ys e = cc

-- from a vertex with a distance some hop may begin a route
pub some_begins : (hops : List Hop) (far : List (Option ℕ)) → AreDistances hops far → LeadToVertices (length far) hops → (v left : ℕ) → IsDistance hops v left → (n : ℕ) × IsBeginning hops far v left n
some_begins hops far done ends v left fewest = go fewest.some.0 fewest.some.1 fewest.some.2
  where
    go : (route : List ℕ) → IsHopRoute hops v route → length route ≡ suc left → (n : ℕ) × IsBeginning hops far v left n
    go [] route e = absurd route
    go (o ∷ os) route e = (o, beginning hops far done ends v left o os fewest route (omega (arith, e)))

not_greater : (o rest : Ordering) → (o ≡ Greater → ⊥) → (o ≡ Equal → rest ≢ Greater) → ordering_then o rest ≢ Greater
not_greater Less rest f g e = cc e
not_greater Equal rest f g e = g refl e
not_greater Greater rest f g e = f refl

is_greater : (x y : ℕ) (r : Ordering) → MatchOrdering r (x < y) (x ≡ y) (y < x) → r ≡ Greater → y < x
is_greater x y Less h e = absurd (cc e)
is_greater x y Equal h e = absurd (cc e)
is_greater x y Greater h e = h

is_equal : (x y : ℕ) (r : Ordering) → MatchOrdering r (x < y) (x ≡ y) (y < x) → r ≡ Equal → x ≡ y
is_equal x y Less h e = absurd (cc e)
is_equal x y Equal h e = h
is_equal x y Greater h e = absurd (cc e)

-- the first such hop begins the least route, where what is behind it is least among routes of its length
pub least_from : (hops : List Hop) (far : List (Option ℕ)) → AreDistances hops far → LeadToVertices (length far) hops → (v left n : ℕ) (rest : List ℕ) → IsDistance hops v left → IsFirstBeginning hops far v left n → IsHopRoute hops v (n ∷ rest) → length rest ≡ left
    → ((os : List ℕ) → IsHopRoute hops v (n ∷ os) → length os ≡ length rest → slice_cmp nat_cmp rest os ≢ Greater) → IsLeastHopRoute hops v (n ∷ rest)
least_from hops far done ends v left n rest fewest first route long behind = record {
  route = route;
  least = λ other r. (let l = fewest.least other r in omega (arith, l, long), λ e. compare other r e);
}
  where
    compare : (other : List ℕ) → IsHopRoute hops v other → length other ≡ length (n ∷ rest) → slice_cmp nat_cmp (n ∷ rest) other ≢ Greater
    compare [] r e = absurd r
    compare (o ∷ os) r e =
        let same : length os ≡ length rest = omega (arith, e) in
        not_greater (nat_cmp n o) (slice_cmp nat_cmp rest os)
        (λ g. first.1 o (is_greater n o (nat_cmp n o) (ranked n o (nat_cmp n o) refl) g) (beginning hops far done ends v left o os fewest r (same ∙ long)))
        (λ g. behind os (subst (λ (k : ℕ). IsHopRoute hops v (k ∷ os)) (sym (is_equal n o (nat_cmp n o) (ranked n o (nat_cmp n o) refl) g)) r) same)

-- the last hop
pub least_last : (hops : List Hop) (far : List (Option ℕ)) → AreDistances hops far → LeadToVertices (length far) hops → (v left n : ℕ) → left ≡ 0 → IsDistance hops v left → IsFirstBeginning hops far v left n → IsLeastHopRoute hops v (n ∷ [])
least_last hops far done ends v left n zero_left fewest first =
    least_from hops far done ends v left n [] fewest first (first.0.0, first.0.1, first.0.2, (both first.0.0 first.0.3).0, (both first.0.0 first.0.3).1) (sym zero_left) alone
  where
    both : (hop : Hop) → MayBegin far left hop → IsTrue hop.feasible × IsTrue hop.fails
    both hop (inl last) = (last.1, last.2)
    both hop (inr on) = absurd (let e = on.1 in omega (arith, e, zero_left))

    alone : (os : List ℕ) → IsHopRoute hops v (n ∷ os) → length os ≡ length {A = ℕ} [] → slice_cmp nat_cmp [] os ≢ Greater
    alone [] r e f = cc f
    alone (o ∷ os) r e f = absurd (omega (arith, e))

-- what a hop that is not the last leads to
pub record IsOn (hops : List Hop) (far : List (Option ℕ)) (n left : ℕ) (hop : Hop) : Type 0 where
  pub less : ℕ
  pub is : left ≡ suc less
  pub feasible : IsTrue hop.feasible
  pub has : slice_get far hop.to ≡ Some (Some less)

pub goes_on : (hops : List Hop) (far : List (Option ℕ)) (n left : ℕ) (hop : Hop) → left ≢ 0 → MayBegin far left hop → IsOn hops far n left hop
goes_on hops far n left hop more (inl last) = absurd (more last.0)
goes_on hops far n left hop more (inr on) = record { less = on.0; is = on.1; feasible = on.2; has = on.3 }

behind_route : (hops : List Hop) (v n : ℕ) (hop : Hop) (os : List ℕ) → slice_get hops n ≡ Some hop → 0 < length os → IsHopRoute hops v (n ∷ os) → IsHopRoute hops hop.to os
behind_route hops v n hop [] at l r = absurd (omega arith)
behind_route hops v n hop (o ∷ os) at l r = subst (λ (h : Hop). IsHopRoute hops h.to (o ∷ os)) (one_some (slice_get hops n) r.0 hop r.1 at) r.4

pub least_more : (hops : List Hop) (far : List (Option ℕ)) → AreDistances hops far → LeadToVertices (length far) hops → (v left n : ℕ) (hop : Hop) → IsDistance hops v left → IsFirstBeginning hops far v left n → slice_get hops n ≡ Some hop → left ≢ 0 → (rest : List ℕ) → IsLeastHopRoute hops hop.to rest → IsLeastHopRoute hops v (n ∷ rest)
least_more hops far done ends v left n hop fewest first at more rest is =
    let same = one_some (slice_get hops n) first.0.0 hop first.0.1 at in
    let on = goes_on hops far n left hop more (subst (MayBegin far left) same first.0.3) in
    let next = done.some hop.to on.less on.has in
    let l = next.least rest is.route in
    let m = (is.least next.some.0 next.some.1).0 in
    let long : length rest ≡ left = (let e = next.some.2 in let f = on.is in omega (arith, l, m, e, f)) in
    least_from hops far done ends v left n rest fewest first
    (route_cons hops v n hop rest at (ap (λ (h : Hop). h.from) (sym same) ∙ first.0.2) on.feasible is.route) long
    (λ os r e. (is.least os (behind_route hops v n hop os at (let f = on.is in omega (arith, e, long, f)) r)).1 e)

-- the walk so far
pub record WalkedSoFar (hops : List Hop) (far : List (Option ℕ)) (vertex left : ℕ) (path : List ℕ) : Type 0 where
  pub fewest : IsDistance hops vertex left
  pub ahead : (rest : List ℕ) → IsLeastHopRoute hops vertex rest → IsLeastHopRoute hops 0 (path ++ rest)

pub walked_more : (hops : List Hop) (far : List (Option ℕ)) → AreDistances hops far → LeadToVertices (length far) hops → (v left n : ℕ) (hop : Hop) (path : List ℕ) → IsFirstBeginning hops far v left n → slice_get hops n ≡ Some hop → left ≢ 0 → WalkedSoFar hops far v left path → WalkedSoFar hops far hop.to (left - 1) (path ++ n ∷ [])
walked_more hops far done ends v left n hop path first at more so =
    let same = one_some (slice_get hops n) first.0.0 hop first.0.1 at in
    let on = goes_on hops far n left hop more (subst (MayBegin far left) same first.0.3) in
    record {
      fewest = subst (IsDistance hops hop.to) (let e = on.is in let f : on.less ≡ left - 1 = omega (arith, e) in f) (done.some hop.to on.less on.has);
      ahead = λ rest is. subst (IsLeastHopRoute hops 0) (sym (append_assoc path (n ∷ []) rest)) (so.ahead (n ∷ rest) (least_more hops far done ends v left n hop so.fewest first at more rest is));
    }

-- no earlier hop, and not this one
pub none_more : (hops : List Hop) (far : List (Option ℕ)) (v left k : ℕ) (hop : Hop) → slice_get hops k ≡ Some hop → (hop.from ≡ v → MayBegin far left hop → ⊥) → ((m : ℕ) → m < k → ¬ IsBeginning hops far v left m) → (m : ℕ) → m < k + 1 → ¬ IsBeginning hops far v left m
none_more hops far v left k hop at not_this none m l is = elim (ℕ_discrete m k) [
  | no differ ↦ none m (omega (arith, l, differ)) is
  | yes same ↦
      let one = one_some (slice_get hops k) is.0 hop (ap (slice_get hops) (sym same) ∙ is.1) at in
      not_this (ap (λ (h : Hop). h.from) (sym one) ∙ is.2) (subst (MayBegin far left) one is.3)
]

-- without vertices there is no hop, and so no route
pub no_route : (hops : List Hop) (vertices : ℕ) → vertices ≡ 0 → LeadToVertices vertices hops → (others : List ℕ) → IsHopRoute hops 0 others → ⊥
no_route hops vertices e ends others route =
    let parts = route_parts hops 0 others route in
    let l = get_all (λ (h : Hop). h.to < vertices) hops parts.first parts.hop ends parts.at in
    omega (arith, l, e)
