-- Distances, level by level.
use Rattle.std.proofs.Common.{◌≡◌, ◌≢◌, ℕ, zero, suc, ◌+◌, ◌≤◌, ◌<◌, Bool, true, false, List, [], ◌∷◌, length, set, refl, sym, ◌∙◌, ap, subst, arith, inl, inr}
use Rattle.std.specs.Prelude.{All, slice_get, Some, None, Option, IsTrue, ◌⊎◌}
use Rattle.std.proofs.Math.Decide.{ℕ_discrete}
use Rattle.std.proofs.lemmas.List.{length-set}
use Rattle.std.proofs.lemmas.Option.{slice_get_within}
use Rattle.graph_path.specs.declared.hop.Hop.{Hop}
use Rattle.graph_path.specs.Routes.{IsHopRoute, LeadToVertices}
use Rattle.graph_path.specs.private.Distances.{IsDistance, MayBegin, AreDistancesBelow, AreDistances, count_unknown}

-- ---- lists

get_set_same : {X : Type 0} → (xs : List X) (i : ℕ) (y : X) → i < length xs → slice_get (set xs i y) i ≡ Some y
get_set_same [] i y l = absurd (omega arith)
get_set_same (x ∷ xs) zero y l = refl
get_set_same (x ∷ xs) (suc i) y l = get_set_same xs i y (omega arith)

get_set_other : {X : Type 0} → (xs : List X) (i j : ℕ) (y : X) → j ≢ i → slice_get (set xs i y) j ≡ slice_get xs j
get_set_other [] i j y differ = refl
get_set_other (x ∷ xs) zero zero y differ = absurd (differ refl)
get_set_other (x ∷ xs) zero (suc j) y differ = refl
get_set_other (x ∷ xs) (suc i) zero y differ = refl
get_set_other (x ∷ xs) (suc i) (suc j) y differ = get_set_other xs i j y (λ e. differ (ap suc e))

the_same : {X : Type 0} → (a b : X) → Some a ≡ Some b → a ≡ b
the_same a b e = cc

pub get_all : {X : Type 0} (P : X → Type 0) → (xs : List X) (i : ℕ) (y : X) → All P xs → slice_get xs i ≡ Some y → P y
get_all P [] i y all e = absurd (cc e)
get_all P (x ∷ xs) zero y all e = subst P (the_same x y e) (all 0 x (omega arith))
get_all P (x ∷ xs) (suc i) y all e = get_all P xs i y (λ k d l. all (suc k) d (omega arith)) e

pub one_some : {X : Type 0} → (o : Option X) (x y : X) → o ≡ Some x → o ≡ Some y → x ≡ y
one_some (Some a) x y e f = cc
one_some None x y e f = absurd (cc e)

none_some : {X : Type 0} {A : Type 0} → (o : Option (Option X)) (x : X) → o ≡ Some None → o ≡ Some (Some x) → A
none_some None x e f = absurd (cc e)
none_some (Some None) x e f = absurd (cc f)
none_some (Some (Some a)) x e f = absurd (cc e)

-- a place of a list of distances has none, or one
abbrev pub HasOrNot : List (Option ℕ) → ℕ → Type 0
HasOrNot far v = (slice_get far v ≡ Some None) ⊎ ((k : ℕ) × (slice_get far v ≡ Some (Some k)))

pub has_or_not : (far : List (Option ℕ)) (v : ℕ) → v < length far → HasOrNot far v
has_or_not [] v l = absurd (omega arith)
has_or_not (None ∷ far) zero l = inl refl
has_or_not (Some k ∷ far) zero l = inr (k, refl)
has_or_not (x ∷ far) (suc v) l = has_or_not far v (omega arith)

count_unknown-set : (far : List (Option ℕ)) (v k : ℕ) → slice_get far v ≡ Some None → count_unknown (set far v (Some k)) < count_unknown far
count_unknown-set [] v k e = absurd (cc e)
count_unknown-set (None ∷ far) zero k e = omega arith
count_unknown-set (Some j ∷ far) zero k e = absurd (cc e)
count_unknown-set (None ∷ far) (suc v) k e = let h = count_unknown-set far v k e in omega arith
count_unknown-set (Some j ∷ far) (suc v) k e = count_unknown-set far v k e

-- ---- routes

pub route_cons : (hops : List Hop) (vertex n : ℕ) (hop : Hop) (rest : List ℕ) → slice_get hops n ≡ Some hop → hop.from ≡ vertex → IsTrue hop.feasible → IsHopRoute hops hop.to rest → IsHopRoute hops vertex (n ∷ rest)
route_cons hops vertex n hop [] e f on route = absurd route
route_cons hops vertex n hop (m ∷ rest) e f on route = (hop, e, f, on, route)

-- a route is one feasible hop that fails, or a feasible hop and a route
pub record IsLonger (hops : List Hop) (vertex : ℕ) (path : List ℕ) : Type 0 where
  pub first : ℕ
  pub rest : List ℕ
  pub hop : Hop
  pub is : path ≡ first ∷ rest
  pub at : slice_get hops first ≡ Some hop
  pub from : hop.from ≡ vertex
  pub feasible : IsTrue hop.feasible
  pub ends : rest ≡ [] → IsTrue hop.fails
  pub goes : rest ≢ [] → IsHopRoute hops hop.to rest

pub route_parts : (hops : List Hop) (vertex : ℕ) (path : List ℕ) → IsHopRoute hops vertex path → IsLonger hops vertex path
route_parts hops vertex [] route = absurd route
route_parts hops vertex (n ∷ []) route = record { first = n; rest = []; hop = route.0; is = refl; at = route.1; from = route.2; feasible = route.3; ends = λ e. route.4; goes = λ h. absurd (h refl) }
route_parts hops vertex (n ∷ m ∷ rest) route = record { first = n; rest = m ∷ rest; hop = route.0; is = refl; at = route.1; from = route.2; feasible = route.3; ends = λ e. absurd (let f = ap length e in omega arith); goes = λ h. route.4 }

-- a vertex has one distance
one_fewest : (hops : List Hop) (v j k : ℕ) → IsDistance hops v j → IsDistance hops v k → j ≡ k
one_fewest hops v j k a b =
    let l = a.least b.some.0 b.some.1 in
    let m = b.least a.some.0 a.some.1 in
    omega (arith, l, m, a.some.2, b.some.2)

-- a hop that may begin a route of a level begins one with so many hops behind
led : (hops : List Hop) (far : List (Option ℕ)) (level n : ℕ) (hop : Hop) → ((v k : ℕ) → slice_get far v ≡ Some (Some k) → IsDistance hops v k) → slice_get hops n ≡ Some hop → MayBegin far level hop → (route : List ℕ) × IsHopRoute hops hop.from route × (length route ≡ suc level)
led hops far level n hop some at (inl last) = (n ∷ [], (hop, at, refl, last.1, last.2), let e = last.0 in omega arith)
led hops far level n hop some at (inr on) =
    let next = (some hop.to on.0 on.3).some in
    (n ∷ next.0, route_cons hops hop.from n hop next.0 at refl on.2 next.1, let e = next.2 in let f = on.1 in omega arith)

-- ---- marking a level

-- after the first j hops of a pass, from the distances at its start
pub record MarkedSoFar (hops : List Hop) (level : ℕ) (old far : List (Option ℕ)) (j : ℕ) (changed : Bool) : Type 0 where
  pub long : length far ≡ length old
  pub kept : (v k : ℕ) → slice_get old v ≡ Some (Some k) → slice_get far v ≡ Some (Some k)
  pub new : (v k : ℕ) → slice_get far v ≡ Some (Some k) → (slice_get old v ≡ Some (Some k)) ⊎ ((k ≡ level) × IsDistance hops v level)
  pub seen : (i : ℕ) (hop : Hop) → i < j → slice_get hops i ≡ Some hop → MayBegin old level hop → slice_get far hop.from ≢ Some None
  pub same : changed ≡ false → far ≡ old
  pub less : count_unknown far ≤ count_unknown old
  pub fewer : IsTrue changed → count_unknown far < count_unknown old

pub marked_start : (hops : List Hop) (level : ℕ) (old : List (Option ℕ)) → MarkedSoFar hops level old old 0 false
marked_start hops level old = record {
  long = refl;
  kept = λ v k e. e;
  new = λ v k e. inl e;
  seen = λ i hop l. absurd (omega arith);
  same = λ e. refl;
  less = omega arith;
  fewer = λ e. absurd (cc e);
}

-- what may begin a route by the distances now may by those at the start, since what is new has this level; and the other way
begins_old : (hops : List Hop) (level : ℕ) (old far : List (Option ℕ)) (j : ℕ) (changed : Bool) → MarkedSoFar hops level old far j changed → (hop : Hop) → MayBegin far level hop → MayBegin old level hop
begins_old hops level old far j changed so hop (inl last) = inl last
begins_old hops level old far j changed so hop (inr on) = elim (so.new hop.to on.0 on.3) [
  | inl before ↦ inr (on.0, on.1, on.2, before)
  | inr now ↦ absurd (let e = now.0 in let f = on.1 in omega arith)
]

begins_now : (hops : List Hop) (level : ℕ) (old far : List (Option ℕ)) (j : ℕ) (changed : Bool) → MarkedSoFar hops level old far j changed → (hop : Hop) → MayBegin old level hop → MayBegin far level hop
begins_now hops level old far j changed so hop (inl last) = inl last
begins_now hops level old far j changed so hop (inr on) = inr (on.0, on.1, on.2, so.kept hop.to on.0 on.3)

none_old : (hops : List Hop) (level : ℕ) (old far : List (Option ℕ)) (j : ℕ) (changed : Bool) → MarkedSoFar hops level old far j changed → (v : ℕ) → slice_get far v ≡ Some None → slice_get old v ≡ Some None
none_old hops level old far j changed so v e = elim (has_or_not old v (let l = slice_get_within far v None e in omega (arith, l, so.long))) [
  | inl h ↦ h
  | inr h ↦ none_some (slice_get far v) h.0 e (so.kept v h.0 h.1)
]

-- a hop that changes nothing
pub marked_pass : (hops : List Hop) (level : ℕ) (old far after : List (Option ℕ)) (j : ℕ) (changed : Bool) (hop : Hop) → slice_get hops j ≡ Some hop → after ≡ far → (MayBegin far level hop → slice_get far hop.from ≢ Some None) → MarkedSoFar hops level old far j changed → MarkedSoFar hops level old after (j + 1) changed
marked_pass hops level old far after j changed hop at e passed so = subst (λ (f : List (Option ℕ)). MarkedSoFar hops level old f (j + 1) changed) (sym e) (record {
  long = so.long;
  kept = so.kept;
  new = so.new;
  seen = λ i other l is begins. elim (ℕ_discrete i j) [
    | yes same ↦ let one = one_some (slice_get hops j) hop other at (ap (slice_get hops) (sym same) ∙ is) in
        subst (λ (h : Hop). slice_get far h.from ≢ Some None) one (passed (begins_now hops level old far j changed so hop (subst (MayBegin old level) (sym one) begins)))
    | no differ ↦ so.seen i other (omega (arith, differ)) is begins
  ];
  same = so.same;
  less = so.less;
  fewer = so.fewer;
})

-- a hop that gives its vertex the level
marked_set : (hops : List Hop) (level : ℕ) (old far : List (Option ℕ)) (j : ℕ) (changed : Bool) (hop : Hop) → AreDistancesBelow hops old level → slice_get hops j ≡ Some hop → slice_get far hop.from ≡ Some None → MayBegin far level hop → MarkedSoFar hops level old far j changed → MarkedSoFar hops level old (set far hop.from (Some level)) (j + 1) true
marked_set hops level old far j changed hop is at empty begins so = record {
  long = length-set far hop.from (Some level) ∙ so.long;
  kept = λ v k e. elim (ℕ_discrete v hop.from) [
    | yes same ↦ none_some (slice_get far v) k (ap (slice_get far) same ∙ empty) (so.kept v k e)
    | no differ ↦ get_set_other far hop.from v (Some level) differ ∙ so.kept v k e
  ];
  new = λ v k e. elim (ℕ_discrete v hop.from) [
    | yes same ↦ inr (
      sym (inner level k (sym (get_set_same far hop.from (Some level) within) ∙ ap (slice_get (set far hop.from (Some level))) (sym same) ∙ e)),
      subst (λ (w : ℕ). IsDistance hops w level) (sym same) fewest,
    )
    | no differ ↦ so.new v k (sym (get_set_other far hop.from v (Some level) differ) ∙ e)
  ];
  seen = λ i other l found begins e. elim (ℕ_discrete other.from hop.from) [
    | yes same ↦ none_some (slice_get (set far hop.from (Some level)) other.from) level e (ap (slice_get (set far hop.from (Some level))) same ∙ get_set_same far hop.from (Some level) within)
    | no differ ↦ elim (ℕ_discrete i j) [
      | yes here ↦ differ (ap (λ (h : Hop). h.from) (one_some (slice_get hops i) other hop found (ap (slice_get hops) here ∙ at)))
      | no later ↦ so.seen i other (omega (arith, later)) found begins (sym (get_set_other far hop.from other.from (Some level) differ) ∙ e)
    ]
  ];
  same = λ e. absurd (cc e);
  less = let h = count_unknown-set far hop.from level empty in let m = so.less in omega arith;
  fewer = λ e. let h = count_unknown-set far hop.from level empty in let m = so.less in omega arith;
}
  where
    within : hop.from < length far
    within = slice_get_within far hop.from None empty

    inner : (a b : ℕ) → Some (Some a) ≡ Some (Some b) → a ≡ b
    inner a b e = cc

    before : slice_get old hop.from ≡ Some None
    before = none_old hops level old far j changed so hop.from empty

    fewest : IsDistance hops hop.from level
    fewest = record {
      some = led hops old level j hop (λ v k e. (is.some v k e).1) at (begins_old hops level old far j changed so hop begins);
      least = is.none hop.from before;
    }

pub marked_more : (hops : List Hop) (level : ℕ) (old far after : List (Option ℕ)) (j : ℕ) (changed : Bool) (hop : Hop) → AreDistancesBelow hops old level → slice_get hops j ≡ Some hop → slice_get far hop.from ≡ Some None → MayBegin far level hop → after ≡ set far hop.from (Some level) → MarkedSoFar hops level old far j changed → MarkedSoFar hops level old after (j + 1) true
marked_more hops level old far after j changed hop is at empty begins e so = subst (λ (f : List (Option ℕ)). MarkedSoFar hops level old f (j + 1) true) (sym e) (marked_set hops level old far j changed hop is at empty begins so)

-- after all hops the next level is known
pub marked_end : (hops : List Hop) (level : ℕ) (old far : List (Option ℕ)) (j : ℕ) (changed : Bool) → LeadToVertices (length old) hops → AreDistancesBelow hops old level → length hops ≤ j → MarkedSoFar hops level old far j changed → AreDistancesBelow hops far (level + 1)
marked_end hops level old far j changed ends is l so = record {
  some = λ v k e. elim (so.new v k e) [
    | inl before ↦ let h = is.some v k before in (let m = h.0 in omega arith, h.1)
    | inr now ↦ (let e = now.0 in omega arith, subst (IsDistance hops v) (sym now.0) now.1)
  ];
  none = λ v e other route.
      let before = none_old hops level old far j changed so v e in
      let long = is.none v before other route in
      elim (ℕ_discrete (length other) (level + 1)) [
        | no differ ↦ omega (arith, long, differ)
        | yes same ↦
            let parts = route_parts hops v other route in
            absurd (so.seen parts.first parts.hop (let w = slice_get_within hops parts.first parts.hop parts.at in omega (arith, w, l)) parts.at
            (begins_by parts.rest parts.hop parts.feasible parts.ends parts.goes (let f = ap length parts.is in omega (arith, f, same)) (get_all (λ (h : Hop). h.to < length old) hops parts.first parts.hop ends parts.at)
            (λ path r. is.none v before (parts.first ∷ path) (route_cons hops v parts.first parts.hop path parts.at parts.from parts.feasible r)))
            (ap (slice_get far) parts.from ∙ e))
      ];
}
  where
    begins_by : (rest : List ℕ) (hop : Hop) → IsTrue hop.feasible → (rest ≡ [] → IsTrue hop.fails) → (rest ≢ [] → IsHopRoute hops hop.to rest) → length rest ≡ level → hop.to < length old → ((path : List ℕ) → IsHopRoute hops hop.to path → level < suc (length path)) → MayBegin old level hop
    begins_by [] hop feasible ends goes e l far_off = inl (let f = e in omega arith, feasible, ends refl)
    begins_by (m ∷ rest) hop feasible ends goes e l far_off =
        let route = goes (λ f. (let g = ap length f in omega arith)) in
        elim (has_or_not old hop.to l) [
          | inl none ↦ absurd (let c = is.none hop.to none (m ∷ rest) route in omega arith)
          | inr has ↦
              let h = is.some hop.to has.0 has.1 in
              let c = h.1.least (m ∷ rest) route in
              let d = far_off h.1.some.0 h.1.some.1 in
              let f = h.1.some.2 in
              inr (has.0, let g : level ≡ suc has.0 = omega (arith, c, d, f, e) in g, feasible, has.1)
        ]

-- nothing has a distance at first
pub starts_below : (hops : List Hop) (far : List (Option ℕ)) → ((v k : ℕ) → slice_get far v ≢ Some (Some k)) → AreDistancesBelow hops far 0
starts_below hops far none = record {
  some = λ v k e. absurd (none v k e);
  none = λ v e other route. some_hop hops v other route;
}
  where
    some_hop : (hops : List Hop) (v : ℕ) (other : List ℕ) → IsHopRoute hops v other → 0 < length other
    some_hop hops v [] route = absurd route
    some_hop hops v (n ∷ rest) route = omega arith

-- where a level changed nothing all distances are known
pub ends_known : (hops : List Hop) (far : List (Option ℕ)) (level : ℕ) → LeadToVertices (length far) hops → AreDistancesBelow hops far level → AreDistancesBelow hops far (level + 1) → AreDistances hops far
ends_known hops far level ends is next = record {
  some = λ v k e. (is.some v k e).1;
  none = λ v e other route. go other v e route;
}
  where
    go : (other : List ℕ) (v : ℕ) → slice_get far v ≡ Some None → IsHopRoute hops v other → ⊥
    go [] v e route = route
    go (n ∷ []) v e route = let l = next.none v e (n ∷ []) route in omega arith
    go (n ∷ m ∷ rest) v e route =
        let hop = route.0 in
        elim (has_or_not far hop.to (get_all (λ (h : Hop). h.to < length far) hops n hop ends route.1)) [
          | inl none ↦ go (m ∷ rest) hop.to none route.4
          | inr has ↦
              let h = is.some hop.to has.0 has.1 in
              let l = next.none v e (n ∷ h.1.some.0) (route_cons hops v n hop h.1.some.0 route.1 route.2 route.3 h.1.some.1) in
              let f = h.1.some.2 in
              let k = h.0 in
              omega (arith, l, f, k)
        ]

count_unknown-all : (far : List (Option ℕ)) → count_unknown far ≤ length far
count_unknown-all [] = omega arith
count_unknown-all (None ∷ far) = let h = count_unknown-all far in omega arith
count_unknown-all (Some k ∷ far) = let h = count_unknown-all far in omega arith

none_at : (x : Option ℕ) (k : ℕ) → x ≡ None → x ≡ Some k → ⊥
none_at x k e f = cc

pub unknown_below : (hops : List Hop) (far : List (Option ℕ)) → All (λ distance. distance ≡ None) far → AreDistancesBelow hops far 0 × (count_unknown far ≤ length far)
unknown_below hops far all = (starts_below hops far (λ v k e. none_at (Some k) k (get_all (λ d. d ≡ None) far v (Some k) all e) refl), count_unknown-all far)
