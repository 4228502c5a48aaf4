-- Least routes of so many hops, from those of one hop less.
use Rattle.std.proofs.Common.{◌≡◌, ◌≢◌, ℕ, ◌<◌, ◌≤◌, ◌+◌, zero, suc, Bool, true, false, List, [], ◌∷◌, ◌++◌, length, get_or, refl, sym, ap, subst, ◌∙◌, arith, inl, inr}
use Rattle.std.specs.Prelude.{All, IsTrue, None, Some, ◌==◌, ◌&&◌, cond, nat_lt, position, slice_get}
use Rattle.std.specs.List.{position_or_len}
use Rattle.std.specs.Ordering.{MatchOrdering, nat_cmp, ordering_then}
use Rattle.std.specs.declared.cmp.Ordering.{Ordering}
use Rattle.std.specs.declared.cmp.Ordering.TheVariants.{Less, Equal, Greater}
use Rattle.std.specs.Cmp.Lexicographic.{slice_cmp}
use Rattle.std.proofs.lemmas.Grind.{common_steps}
use Rattle.std.proofs.lemmas.Bool.{and_from, and_parts, both_ways, cases_lt, eq-eqb, eqb-true, lt-ltb}
use Rattle.std.proofs.lemmas.Cmp.{ranked}
use Rattle.std.proofs.lemmas.Option.{get_or_from_slice_get, slice_get-get_or, slice_get_within}
use Rattle.std.proofs.lemmas.List.{get_or_default}
use Rattle.std.proofs.lemmas.List.Quantifiers.{position-Some}
use Rattle.plain_check.specs.declared.found.Failure.{Failure}
use Rattle.plain_check.specs.declared.hops.Hop.{Hop}
use Rattle.plain_check.specs.private.Hops.{AreBest, IsBest, IsRoute, IsSearched, IsShortest, ends_so, hop_fails, leads}
use Rattle.plain_check.proofs.HopFacts.{the_hop}

-- ---- the first that passes

passed_early : {X : Type 0} (p : X → Bool) (xs : List X) (k : ℕ) (x : X) → slice_get xs k ≡ Some x → p x ≡ true → position_or_len p xs < length xs
passed_early p [] k x at pass = absurd (cc at)
passed_early p (y ∷ xs) zero x at pass = let same : y ≡ x = cc at in let e : p y ≡ true = ap p same ∙ pass in rw e (omega arith)
passed_early p (y ∷ xs) (suc k) x at pass = later (p y) refl (passed_early p xs k x at pass)
  where
    later : (b : Bool) → p y ≡ b → position_or_len p xs < length xs → position_or_len p (y ∷ xs) < length (y ∷ xs)
    later true e rest = rw e (omega arith)
    later false e rest = rw e (omega (arith, rest))

none_is : (b : Bool) (i : ℕ) → cond b (Some i) None ≡ None → b ≡ false
none_is false i e = refl
none_is true i e = absurd (cc e)

pub none_passes : {X : Type 0} (p : X → Bool) (xs : List X) (k : ℕ) (x : X) → position p xs ≡ None → slice_get xs k ≡ Some x → p x ≡ true → ⊥
none_passes p xs k x e at pass =
    let below = passed_early p xs k x at pass in
    let stuck : nat_lt (position_or_len p xs) (length xs) ≡ false = none_is (nat_lt (position_or_len p xs) (length xs)) (position_or_len p xs) e in
    absurd (grind (arith, common_steps))

-- the first hop that passes, and those that pass behind it
record IsFirstPass (p : Hop → Bool) (hops : List Hop) (k : ℕ) : Type 0 where
  hop : Hop
  at : slice_get hops k ≡ Some hop
  pass : p hop ≡ true
  first : (j : ℕ) (other : Hop) → slice_get hops j ≡ Some other → p other ≡ true → k ≤ j

first_pass : (p : Hop → Bool) (hops : List Hop) (k : ℕ) → position p hops ≡ Some k → IsFirstPass p hops k
first_pass p hops k e =
    let d = the_hop 0 0 false false false in
    let facts = position-Some p hops k d e in
    record {
      hop = get_or hops k d;
      at = slice_get-get_or hops k d facts.0;
      pass = facts.1;
      first = λ j other at pass. elim (cases_lt j k) [
        | inl less ↦ absurd (both_ways (p (get_or hops j d)) (facts.2 j less) (ap p (get_or_from_slice_get hops j other d at) ∙ pass))
        | inr more ↦ more
      ];
    }

-- ---- the order of lists

not_greater : (o rest : Ordering) → (o ≡ Greater → ⊥) → (o ≡ Equal → rest ≢ Greater) → ordering_then o rest ≢ Greater
not_greater Less rest f g e = cc e
not_greater Equal rest f g e = g refl e
not_greater Greater rest f g e = f refl

is_greater : (x y : ℕ) (r : Ordering) → MatchOrdering r (x < y) (x ≡ y) (y < x) → r ≡ Greater → y < x
is_greater x y Less h e = absurd (cc e)
is_greater x y Equal h e = absurd (cc e)
is_greater x y Greater h e = h

is_equal : (x y : ℕ) (r : Ordering) → MatchOrdering r (x < y) (x ≡ y) (y < x) → r ≡ Equal → x ≡ y
is_equal x y Less h e = absurd (cc e)
is_equal x y Equal h e = h
is_equal x y Greater h e = absurd (cc e)

least_first : (k j : ℕ) (rest other : List ℕ) → k ≤ j → (k ≡ j → slice_cmp nat_cmp rest other ≢ Greater) → slice_cmp nat_cmp (k ∷ rest) (j ∷ other) ≢ Greater
least_first k j rest other l behind = not_greater (nat_cmp k j) (slice_cmp nat_cmp rest other)
    (λ g. let m = is_greater k j (nat_cmp k j) (ranked k j (nat_cmp k j) refl) g in absurd (omega (arith, l, m)))
    (λ g. behind (is_equal k j (nat_cmp k j) (ranked k j (nat_cmp k j) refl) g))

-- ---- routes of one hop

module _ (how : Failure) (hops : List Hop) (vertex : ℕ) where
  ends_is : (hop : Hop) → IsTrue (ends_so how vertex hop) → (hop.from ≡ vertex) × IsTrue (hop_fails how hop)
  ends_is hop h = let p = and_parts (hop.from == vertex) (hop_fails how hop) h in (eqb-true hop.from vertex p.0, p.1)

  is_ends : (hop : Hop) → hop.from ≡ vertex → IsTrue (hop_fails how hop) → IsTrue (ends_so how vertex hop)
  is_ends hop from fails = and_from (hop.from == vertex) (hop_fails how hop) (eq-eqb hop.from vertex from) fails

  pub last_some : (k : ℕ) → position (ends_so how vertex) hops ≡ Some k → IsBest how hops 1 vertex (k ∷ [])
  last_some k e =
      let h = first_pass (ends_so how vertex) hops k e in
      let p = ends_is h.hop h.pass in
      ((h.hop, h.at, p.0, p.1), refl, λ other route long. compare h other route long)
    where
      compare : IsFirstPass (ends_so how vertex) hops k → (other : List ℕ) → IsRoute how hops vertex other → length other ≡ 1 → slice_cmp nat_cmp (k ∷ []) other ≢ Greater
      compare h [] route long = absurd route
      compare h (j ∷ []) (hop, at, from, fails) long = least_first k j [] [] (h.first j hop at (is_ends hop from fails)) (λ same g. cc g)
      compare h (j ∷ i ∷ other) route long = absurd (omega (arith, long))

  pub last_none : position (ends_so how vertex) hops ≡ None → IsBest how hops 1 vertex []
  last_none e [] route long = absurd route
  last_none e (j ∷ []) (hop, at, from, fails) long = none_passes (ends_so how vertex) hops j hop e at (is_ends hop from fails)
  last_none e (j ∷ i ∷ other) route long = absurd (omega (arith, long))

-- ---- routes of one hop more

-- a best list with a number is a route of its length, and where it has none there is no such route
known_is : (how : Failure) (hops : List Hop) (n vertex : ℕ) (path : List ℕ) → 0 < n → IsBest how hops n vertex path → IsTrue (nat_lt 0 (length path)) → IsRoute how hops vertex path × (length path ≡ n) × ((other : List ℕ) → IsRoute how hops vertex other → length other ≡ n → slice_cmp nat_cmp path other ≢ Greater)
known_is how hops n vertex [] some best h = absurd (cc h)
known_is how hops n vertex (k ∷ path) some best h = best

is_known : (how : Failure) (hops : List Hop) (n vertex : ℕ) (path other : List ℕ) → IsBest how hops n vertex path → IsRoute how hops vertex other → length other ≡ n → IsTrue (nat_lt 0 (length path))
is_known how hops n vertex [] other best route long = absurd (best other route long)
is_known how hops n vertex (k ∷ path) other best route long = lt-ltb 0 (length (k ∷ path)) (omega arith)

module _ (how : Failure) (hops : List Hop) (n : ℕ) (best : List (List ℕ)) (some : 0 < n) (are : AreBest how hops n best) (ends : All (λ hop. hop.to < length best) hops) (vertex : ℕ) where
  within : (k : ℕ) (hop : Hop) → slice_get hops k ≡ Some hop → hop.to < length best
  within k hop at = let l = slice_get_within hops k hop at in subst (λ (h : Hop). h.to < length best) (get_or_from_slice_get hops k hop hop at) (ends k hop l)

  abbrev behind : Hop → List ℕ
  behind hop = get_or best hop.to []

  leads_is : (hop : Hop) → IsTrue (leads best vertex hop) → (hop.from ≡ vertex) × IsTrue hop.feasible × IsTrue (nat_lt 0 (length (behind hop)))
  leads_is hop h =
      let p = and_parts (hop.from == vertex) (hop.feasible && nat_lt 0 (length (behind hop))) h in
      let q = and_parts hop.feasible (nat_lt 0 (length (behind hop))) p.1 in
      (eqb-true hop.from vertex p.0, q.0, q.1)

  -- the first hop of a route leads
  first_leads : (k i : ℕ) (rest : List ℕ) (hop : Hop) → slice_get hops k ≡ Some hop → hop.from ≡ vertex → IsTrue hop.feasible → IsRoute how hops hop.to (i ∷ rest) → length (k ∷ i ∷ rest) ≡ n + 1 → IsTrue (leads best vertex hop)
  first_leads k i rest hop at from feasible route long =
      and_from (hop.from == vertex) (hop.feasible && nat_lt 0 (length (behind hop))) (eq-eqb hop.from vertex from)
      (and_from hop.feasible (nat_lt 0 (length (behind hop))) feasible
      (is_known how hops n hop.to (behind hop) (i ∷ rest) (are hop.to (within k hop at)) route (omega (arith, long))))

  pub more_none : position (leads best vertex) hops ≡ None → IsBest how hops (n + 1) vertex []
  more_none e [] route long = absurd route
  more_none e (k ∷ []) route long = absurd (omega (arith, long, some))
  more_none e (k ∷ i ∷ rest) (hop, at, from, feasible, route) long = none_passes (leads best vertex) hops k hop e at (first_leads k i rest hop at from feasible route long)

  with_hop : (k : ℕ) (hop : Hop) (rest : List ℕ) → slice_get hops k ≡ Some hop → hop.from ≡ vertex → IsTrue hop.feasible → 0 < length rest → IsRoute how hops hop.to rest → IsRoute how hops vertex (k ∷ rest)
  with_hop k hop [] at from feasible long route = absurd (omega (arith, long))
  with_hop k hop (i ∷ rest) at from feasible long route = (hop, at, from, feasible, route)

  pub more_some : (k : ℕ) (hop : Hop) → position (leads best vertex) hops ≡ Some k → slice_get hops k ≡ Some hop → IsBest how hops (n + 1) vertex (k ∷ behind hop)
  more_some k hop e at =
      let h = first_pass (leads best vertex) hops k e in
      let one : h.hop ≡ hop = the_same h.hop hop (sym h.at ∙ at) in
      let p = leads_is hop (subst (λ (x : Hop). IsTrue (leads best vertex x)) one h.pass) in
      let known = known_is how hops n hop.to (behind hop) some (are hop.to (within k hop at)) p.2 in
      (with_hop k hop (behind hop) at p.0 p.1 (let l = known.1 in omega (arith, some, l)) known.0, (let l = known.1 in omega (arith, l)), λ other route long. compare h known.2 other route long)
    where
      the_same : (a b : Hop) → Some a ≡ Some b → a ≡ b
      the_same a b f = cc

      compare : IsFirstPass (leads best vertex) hops k → ((other : List ℕ) → IsRoute how hops hop.to other → length other ≡ n → slice_cmp nat_cmp (behind hop) other ≢ Greater) → (other : List ℕ) → IsRoute how hops vertex other → length other ≡ n + 1 → slice_cmp nat_cmp (k ∷ behind hop) other ≢ Greater
      compare h least [] route long = absurd route
      compare h least (j ∷ []) route long = absurd (omega (arith, long, some))
      compare h least (j ∷ i ∷ rest) (first, there, from, feasible, route) long =
          least_first k j (behind hop) (i ∷ rest) (h.first j first there (first_leads j i rest first there from feasible route long))
          (λ same. least (i ∷ rest) (subst (λ (x : Hop). IsRoute how hops x.to (i ∷ rest)) (the_same first hop (sym there ∙ (ap (slice_get hops) (sym same) ∙ at))) route) (omega (arith, long)))

  -- the same of the hop that is read
  pub more_first : (k : ℕ) → position (leads best vertex) hops ≡ Some k → IsBest how hops (n + 1) vertex (k ∷ get_or best (get_or hops k (the_hop 0 0 false false false)).to [])
  more_first k e =
      let d = the_hop 0 0 false false false in
      let l = (position-Some (leads best vertex) hops k d e).0 in
      more_some k (get_or hops k d) e (slice_get-get_or hops k d l)

-- ---- the search

-- one vertex more has its route
pub one_more_best : (how : Failure) (hops : List Hop) (n : ℕ) (best : List (List ℕ)) (route : List ℕ) → AreBest how hops n best → IsBest how hops n (length best) route → AreBest how hops n (best ++ route ∷ [])
one_more_best how hops n best route are here vertex l = elim (cases_lt vertex (length best)) [
  | inl old ↦ subst (IsBest how hops n vertex) (sym (early best route vertex old)) (are vertex old)
  | inr new ↦
      let long = length_more best route in
      let e : length best ≡ vertex = omega (arith, l, long, new) in
      subst (λ (v : ℕ). IsBest how hops n v (get_or (best ++ route ∷ []) v [])) e (subst (IsBest how hops n (length best)) (sym (last best route)) here)
]
  where
    early : (xs : List (List ℕ)) (x : List ℕ) (k : ℕ) → k < length xs → get_or (xs ++ x ∷ []) k [] ≡ get_or xs k []
    early [] x k m = absurd (omega arith)
    early (y ∷ xs) x zero m = refl
    early (y ∷ xs) x (suc k) m = early xs x k (omega arith)

    last : (xs : List (List ℕ)) (x : List ℕ) → get_or (xs ++ x ∷ []) (length xs) [] ≡ x
    last [] x = refl
    last (y ∷ xs) x = last xs x

    length_more : (xs : List (List ℕ)) (x : List ℕ) → length (xs ++ x ∷ []) ≡ suc (length xs)
    length_more [] x = refl
    length_more (y ∷ xs) x = let h = length_more xs x in omega arith

none_here : (how : Failure) (hops : List Hop) (n vertex : ℕ) (path other : List ℕ) → path ≡ [] → IsBest how hops n vertex path → IsRoute how hops vertex other → length other ≢ n
none_here how hops n vertex [] other e best route = best other route
none_here how hops n vertex (k ∷ path) other e best route = absurd (cc e)

pub goes_searched : (how : Failure) (hops : List Hop) (n : ℕ) (best more : List (List ℕ)) → 0 < length best → get_or best 0 [] ≡ [] → IsSearched how hops n best → ((m : ℕ) → 0 < m → AreBest how hops m best → AreBest how hops (m + 1) more) → IsSearched how hops (n + 1) more
goes_searched how hops n best more some none is step = record {
  count = is.count + 1;
  some = omega arith;
  are = step is.count is.some is.are;
  fewest = λ other route.
      let l = is.fewest other route in
      let differs = none_here how hops is.count 0 (get_or best 0 []) other none (is.are 0 some) route in
      elim (cases_lt is.count (length other)) [ inl less ↦ omega (arith, less) | inr more ↦ absurd (differs (omega (arith, l, more))) ];
  all = λ e. ap (λ (k : ℕ). k + 1) (is.all none);
}

pub starts_searched : (how : Failure) (hops : List Hop) (best : List (List ℕ)) → AreBest how hops 1 best → IsSearched how hops 1 best
starts_searched how hops best are = record { count = 1; some = omega arith; are = are; fewest = λ other route. long other route; all = λ e. refl }
  where
    long : (other : List ℕ) → IsRoute how hops 0 other → 1 ≤ length other
    long [] route = absurd route
    long (k ∷ other) route = omega arith

pub ends_searched : (how : Failure) (hops : List Hop) (n : ℕ) (best : List (List ℕ)) (path : List ℕ) → 0 < length best → path ≡ get_or best 0 [] → IsSearched how hops n best → IsShortest how hops n path
ends_searched how hops n best [] some e is = λ other route.
    let l = is.fewest other route in
    let m = is.all (sym e) in
    let differs = none_here how hops is.count 0 (get_or best 0 []) other (sym e) (is.are 0 some) route in
    elim (cases_lt n (length other)) [ inl less ↦ less | inr more ↦ absurd (differs (omega (arith, l, m, more))) ]
ends_searched how hops n best (k ∷ path) some e is =
    let best_here = subst (IsBest how hops is.count 0) (sym e) (is.are 0 some) in
    let long = best_here.1 in
    (best_here.0, λ other route. (let l = is.fewest other route in omega (arith, l, long), λ same. best_here.2 other route (same ∙ long)))

pub nothing_there : (best : List (List ℕ)) (path : List ℕ) → 0 < length best → path ≡ get_or best 0 path → length path ≤ 0 → get_or best 0 [] ≡ []
nothing_there best path some e none = get_or_default best 0 [] path some ∙ sym e ∙ blank path none
  where
    blank : (xs : List ℕ) → length xs ≤ 0 → xs ≡ []
    blank [] l = refl
    blank (x ∷ xs) l = absurd (omega (arith, l))
