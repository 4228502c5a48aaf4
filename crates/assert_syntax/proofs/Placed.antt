-- Where lines may stand, in plain terms and from what the earlier lines say.
use Rattle.std.proofs.Common.{ℕ, zero, suc, ◌+◌, ◌<◌, ◌≤◌, ◌≡◌, ◌⊎◌, inl, inr, refl, sym, ap, subst, ◌∙◌, List, [], ◌∷◌, ◌++◌, length, filter, take, drop, Bool, true, false, Some, None, arith, append-nil, length-append, bytes_eq, nat_lt}
use Rattle.std.specs.Prelude.{slice_get}
use Rattle.std.specs.List.{flat_map}
use Rattle.std.proofs.Math.Nat.{eq-or-lt_of_le}
use Rattle.std.proofs.lemmas.Grind.{flat_map-append}
use Rattle.std.proofs.lemmas.List.Elements.{filter-append}
use Rattle.std.proofs.lemmas.List.Sums.{fold-append}
use Rattle.indexmap.specs.IndexSet.{insert_all}
use Rattle.assert_syntax.specs.declared.form.Span.{Span}
use Rattle.assert_syntax.specs.declared.form.Span.TheVariants as span
use Rattle.assert_syntax.specs.declared.position.Position.{Position}
use Rattle.assert_syntax.specs.declared.position.Position.TheVariants.{Start, Assertion, Graph, Edge, Ended}
use Rattle.assert_syntax.specs.Forms.{Entry, Form}
use Rattle.assert_syntax.specs.Forms as form
use Rattle.assert_syntax.specs.Places.{Context, context_behind, context_of, edges_behind, holds_edges, may_stand_at, names_behind, position_behind, span_fits, vars_behind, vertices_behind}
use Rattle.assert_syntax.specs.Rules.{ClauseStands, HasForm, IsFirst, IsBehind, IsGraphAt, Stands, declared, declares, forms_of, mentions, names_task, opens, starts_edge, tasks_named}

up_to : (k i : ℕ) → k < suc i → (k ≡ i) ⊎ (k < i)
up_to k i h = eq-or-lt_of_le {n = k} {m = i} (omega (arith, h))

one_form : (lines : List Entry) (i : ℕ) (a b : Form) → HasForm lines i a → HasForm lines i b → a ≡ b
one_form lines i a b x y = cc (x, y)

moved : (lines : List Entry) (k i : ℕ) (form : Form) → k ≡ i → HasForm lines k form → HasForm lines i form
moved lines k i form e has = subst (λ n. HasForm lines n form) e has

-- the nearest position that was opened before a line
abbrev pub IsAt : List Entry → ℕ → Position → Type 0
IsAt lines i Start = IsFirst lines i
IsAt lines i position = IsBehind lines i position

behind_on : (lines : List Entry) (i : ℕ) (position : Position) (form : Form) → IsBehind lines i position → HasForm lines i form → opens form ≡ None → IsBehind lines (suc i) position
behind_on lines i position form b has none = record {
  start = b.start;
  head = b.head;
  earlier = omega (arith, b.earlier);
  here = b.here;
  opened = b.opened;
  nearest = λ k other above below is. elim (up_to k i below) [ inr before ↦ b.nearest k other above before is | inl same ↦ ap opens (one_form lines i other form (moved lines k i other same is) has) ∙ none ];
}

behind_here : (lines : List Entry) (i : ℕ) (position : Position) (form : Form) → HasForm lines i form → opens form ≡ Some position → IsBehind lines (suc i) position
behind_here lines i position form has some = record { start = i; head = form; earlier = omega arith; here = has; opened = some; nearest = λ k other above below is. absurd (omega (arith, above, below)) }

first_on : (lines : List Entry) (i : ℕ) (form : Form) → IsFirst lines i → HasForm lines i form → opens form ≡ None → IsFirst lines (suc i)
first_on lines i form first has none = λ k other below is. elim (up_to k i below) [ inr before ↦ first k other before is | inl same ↦ ap opens (one_form lines i other form (moved lines k i other same is) has) ∙ none ]

at_on : (lines : List Entry) (i : ℕ) (position : Position) (form : Form) → IsAt lines i position → HasForm lines i form → opens form ≡ None → IsAt lines (suc i) position
at_on lines i Start form at has none = first_on lines i form at has none
at_on lines i Assertion form at has none = behind_on lines i Assertion form at has none
at_on lines i Graph form at has none = behind_on lines i Graph form at has none
at_on lines i Edge form at has none = behind_on lines i Edge form at has none
at_on lines i Ended form at has none = behind_on lines i Ended form at has none

-- the position behind a line
position_on : (lines : List Entry) (i : ℕ) (position : Position) (form : Form) → IsAt lines i position → HasForm lines i form → IsAt lines (suc i) (position_behind form position)
position_on lines i position (form.vars names) at has = at_on lines i position (form.vars names) at has refl
position_on lines i position (form.ste name reset) at has = behind_here lines i Assertion (form.ste name reset) has refl
position_on lines i position (form.gste name vertex reset) at has = behind_here lines i Graph (form.gste name vertex reset) has refl
position_on lines i position (form.edge from to) at has = behind_here lines i Edge (form.edge from to) has refl
position_on lines i position (form.clause clause) at has = at_on lines i position (form.clause clause) at has refl
position_on lines i position (form.weak node times) at has =
    at_on lines i position (form.weak node times) at has refl
position_on lines i position form.ending at has = behind_here lines i Ended form.ending has refl
position_on lines i position form.wrong at has = at_on lines i position form.wrong at has refl

one_position : (a b : Position) → Some a ≡ Some b → a ≡ b
one_position a b e = cc

some_none : (p : Position) → Some p ≡ None → ⊥
some_none p e = absurd (cc e)

three_ways : (b c : Bool) (k i : ℕ) → nat_lt k i ≡ b → nat_lt i k ≡ c → (k < i) ⊎ ((k ≡ i) ⊎ (i < k))
three_ways true c k i e f = inl (grind (arith, e))
three_ways false true k i e f = inr (inr (grind (arith, f)))
three_ways false false k i e f = inr (inl (grind (arith, e, f)))

up_to_three : (k i : ℕ) → (k < i) ⊎ ((k ≡ i) ⊎ (i < k))
up_to_three k i = three_ways (nat_lt k i) (nat_lt i k) k i refl refl

-- only one position was opened nearest before a line
one_behind : (lines : List Entry) (i : ℕ) (a b : Position) → IsBehind lines i a → IsBehind lines i b → a ≡ b
one_behind lines i a b x y = elim (up_to_three x.start y.start) [
  | inl less ↦ absurd (some_none b (sym y.opened ∙ x.nearest y.start y.head less y.earlier y.here))
  | inr (inl same) ↦ one_position a b (sym x.opened ∙ ap opens (one_form lines y.start x.head y.head (moved lines x.start y.start x.head same x.here) y.here) ∙ y.opened)
  | inr (inr more) ↦ absurd (some_none a (sym x.opened ∙ y.nearest x.start x.head more x.earlier x.here))
]

first_behind : (lines : List Entry) (i : ℕ) (a : Position) → IsFirst lines i → IsBehind lines i a → ⊥
first_behind lines i a first b = let e = sym b.opened ∙ first b.start b.head b.earlier b.here in absurd (cc e)

-- a position that was opened is the one that is kept
at_behind : (lines : List Entry) (i : ℕ) (position a : Position) → IsAt lines i position → IsBehind lines i a → position ≡ a
at_behind lines i Start a at b = absurd (first_behind lines i a at b)
at_behind lines i Assertion a at b = one_behind lines i Assertion a at b
at_behind lines i Graph a at b = one_behind lines i Graph a at b
at_behind lines i Edge a at b = one_behind lines i Edge a at b
at_behind lines i Ended a at b = one_behind lines i Ended a at b

at_first : (lines : List Entry) (i : ℕ) (position : Position) → IsAt lines i position → IsFirst lines i → position ≡ Start
at_first lines i Start at first = refl
at_first lines i Assertion at first = absurd (first_behind lines i Assertion first at)
at_first lines i Graph at first = absurd (first_behind lines i Graph first at)
at_first lines i Edge at first = absurd (first_behind lines i Edge first at)
at_first lines i Ended at first = absurd (first_behind lines i Ended first at)

-- a clause or a weakening with these times may stand
clause_stands : (lines : List Entry) (i : ℕ) (position : Position) (times : Span) → IsAt lines i position → span_fits times position ≡ true → ClauseStands lines i times
clause_stands lines i Edge span.Absent at may = at
clause_stands lines i Start span.Absent at may = absurd (cc may)
clause_stands lines i Assertion span.Absent at may = absurd (cc may)
clause_stands lines i Graph span.Absent at may = absurd (cc may)
clause_stands lines i Ended span.Absent at may = absurd (cc may)
clause_stands lines i Assertion (span.During a b) at may = at
clause_stands lines i Start (span.During a b) at may = absurd (cc may)
clause_stands lines i Graph (span.During a b) at may = absurd (cc may)
clause_stands lines i Edge (span.During a b) at may = absurd (cc may)
clause_stands lines i Ended (span.During a b) at may = absurd (cc may)
clause_stands lines i Assertion span.Late at may = at
clause_stands lines i Start span.Late at may = absurd (cc may)
clause_stands lines i Graph span.Late at may = absurd (cc may)
clause_stands lines i Edge span.Late at may = absurd (cc may)
clause_stands lines i Ended span.Late at may = absurd (cc may)

clause_stands_not : (lines : List Entry) (i : ℕ) (position : Position) (times : Span) → IsAt lines i position → span_fits times position ≡ false → ¬ ClauseStands lines i times
clause_stands_not lines i position span.Absent at may b = let e = sym (ap (span_fits span.Absent) (at_behind lines i position Edge at b)) ∙ may in absurd (cc e)
clause_stands_not lines i position (span.During x y) at may b = let e = sym (ap (span_fits (span.During x y)) (at_behind lines i position Assertion at b)) ∙ may in absurd (cc e)
clause_stands_not lines i position span.Late at may b = let e = sym (ap (span_fits span.Late) (at_behind lines i position Assertion at b)) ∙ may in absurd (cc e)

-- a line that may stand by what is kept stands
pub stands : (lines : List Entry) (i : ℕ) (position : Position) (form : Form) → IsAt lines i position → may_stand_at form position ≡ true → Stands lines i form
stands lines i Start (form.vars names) at may = at
stands lines i Assertion (form.vars names) at may = absurd (cc may)
stands lines i Graph (form.vars names) at may = absurd (cc may)
stands lines i Edge (form.vars names) at may = absurd (cc may)
stands lines i Ended (form.vars names) at may = absurd (cc may)
stands lines i position (form.ste name reset) at may = tt
stands lines i position (form.gste name vertex reset) at may = tt
stands lines i Start (form.edge from to) at may = absurd (cc may)
stands lines i Assertion (form.edge from to) at may = absurd (cc may)
stands lines i Graph (form.edge from to) at may = inl at
stands lines i Edge (form.edge from to) at may = inr at
stands lines i Ended (form.edge from to) at may = absurd (cc may)
stands lines i position (form.clause clause) at may = clause_stands lines i position clause.span at may
stands lines i position (form.weak node times) at may = clause_stands lines i position times at may
stands lines i Start form.ending at may = absurd (cc may)
stands lines i Assertion form.ending at may = inl at
stands lines i Graph form.ending at may = inr (inl at)
stands lines i Edge form.ending at may = inr (inr at)
stands lines i Ended form.ending at may = absurd (cc may)
stands lines i position form.wrong at may = absurd (cc may)

-- a line that may not stand by what is kept does not stand
pub stands_not : (lines : List Entry) (i : ℕ) (position : Position) (form : Form) → IsAt lines i position → may_stand_at form position ≡ false → ¬ Stands lines i form
stands_not lines i position (form.vars names) at may first = let e = sym (ap (may_stand_at (form.vars names)) (at_first lines i position at first)) ∙ may in absurd (cc e)
stands_not lines i position (form.ste name reset) at may s = absurd (cc may)
stands_not lines i position (form.gste name vertex reset) at may s = absurd (cc may)
stands_not lines i position (form.edge from to) at may (inl b) = let e = sym (ap (may_stand_at (form.edge from to)) (at_behind lines i position Graph at b)) ∙ may in absurd (cc e)
stands_not lines i position (form.edge from to) at may (inr b) = let e = sym (ap (may_stand_at (form.edge from to)) (at_behind lines i position Edge at b)) ∙ may in absurd (cc e)
stands_not lines i position (form.clause clause) at may s = clause_stands_not lines i position clause.span at may s
stands_not lines i position (form.weak node times) at may s =
    clause_stands_not lines i position times at may s
stands_not lines i position form.ending at may (inl b) = let e = sym (ap (may_stand_at form.ending) (at_behind lines i position Assertion at b)) ∙ may in absurd (cc e)
stands_not lines i position form.ending at may (inr (inl b)) = let e = sym (ap (may_stand_at form.ending) (at_behind lines i position Graph at b)) ∙ may in absurd (cc e)
stands_not lines i position form.ending at may (inr (inr b)) = let e = sym (ap (may_stand_at form.ending) (at_behind lines i position Edge at b)) ∙ may in absurd (cc e)
stands_not lines i position form.wrong at may s = s

-- the forms up to a place, with one more
take_more : {A : Type 0} (xs : List A) (i : ℕ) (x : A) → slice_get xs i ≡ Some x → take (suc i) xs ≡ take i xs ++ x ∷ []
take_more [] i x e = absurd (cc e)
take_more (y ∷ ys) zero x e = let same : y ≡ x = cc in ap (λ z. z ∷ []) same
take_more (y ∷ ys) (suc i) x e = ap (λ zs. y ∷ zs) (take_more ys i x e)

-- the same from another place on
pub window : {A : Type 0} (xs : List A) (s i : ℕ) (x : A) → s ≤ i → slice_get xs i ≡ Some x → drop s (take (suc i) xs) ≡ drop s (take i xs) ++ x ∷ []
window [] s i x h e = absurd (cc e)
window (y ∷ ys) zero i x h e = take_more (y ∷ ys) i x e
window (y ∷ ys) (suc s) zero x h e = absurd (omega (arith, h))
window (y ∷ ys) (suc s) (suc i) x h e = window ys s i x (omega (arith, h)) e

-- there is none from the end on
none_from : {A : Type 0} (xs : List A) (i : ℕ) → drop i (take i xs) ≡ []
none_from [] zero = refl
none_from [] (suc i) = refl
none_from (y ∷ ys) zero = refl
none_from (y ∷ ys) (suc i) = none_from ys i

gathered : (f : Form → List (List ℕ)) (lines : List Entry) (i : ℕ) (form : Form) → HasForm lines i form → flat_map f (take (suc i) (forms_of lines)) ≡ flat_map f (take i (forms_of lines)) ++ f form
gathered f lines i form has =
    ap (flat_map f) (take_more (forms_of lines) i form has) ∙ flat_map-append f (take i (forms_of lines)) (form ∷ []) ∙ ap (λ k. flat_map f (take i (forms_of lines)) ++ k) (append-nil (f form))

vars_are : (form : Form) (vars : List (List ℕ)) → vars_behind form vars ≡ vars ++ declares form
vars_are (form.vars names) vars = refl
vars_are (form.ste name reset) vars = sym (append-nil vars)
vars_are (form.gste name vertex reset) vars = sym (append-nil vars)
vars_are (form.edge from to) vars = sym (append-nil vars)
vars_are (form.clause clause) vars = sym (append-nil vars)
vars_are (form.weak node times) vars = sym (append-nil vars)
vars_are form.ending vars = sym (append-nil vars)
vars_are form.wrong vars = sym (append-nil vars)

names_are : (form : Form) (names : List (List ℕ)) → names_behind form names ≡ names ++ names_task form
names_are (form.vars vars) names = sym (append-nil names)
names_are (form.ste name reset) names = refl
names_are (form.gste name vertex reset) names = refl
names_are (form.edge from to) names = sym (append-nil names)
names_are (form.clause clause) names = sym (append-nil names)
names_are (form.weak node times) names = sym (append-nil names)
names_are form.ending names = sym (append-nil names)
names_are form.wrong names = sym (append-nil names)

-- the variables and the names behind a line
pub vars_on : (lines : List Entry) (i : ℕ) (form : Form) (vars : List (List ℕ)) → HasForm lines i form → vars ≡ declared lines i → vars_behind form vars ≡ declared lines (suc i)
vars_on lines i form vars has e = vars_are form vars ∙ ap (λ k. k ++ declares form) e ∙ sym (gathered declares lines i form has)

pub names_on : (lines : List Entry) (i : ℕ) (form : Form) (names : List (List ℕ)) → HasForm lines i form → names ≡ tasks_named lines i → names_behind form names ≡ tasks_named lines (suc i)
names_on lines i form names has e = names_are form names ∙ ap (λ k. k ++ names_task form) e ∙ sym (gathered names_task lines i form has)

-- what is kept of a graph that starts at this place
abbrev pub GraphTold : List Entry → ℕ → ℕ → List (List ℕ) → ℕ → Type 0
GraphTold lines i start vertices edges =
    (vertices ≡ insert_all bytes_eq [] (flat_map mentions (drop start (take i (forms_of lines)))))
    × (edges ≡ length (filter starts_edge (drop start (take i (forms_of lines)))))

graph_on : (lines : List Entry) (i start : ℕ) (form : Form) → IsGraphAt lines i start → HasForm lines i form → (opens form ≡ Some Graph → ⊥) → IsGraphAt lines (suc i) start
graph_on lines i start form g has apart = record {
  head = g.head;
  earlier = omega (arith, g.earlier);
  here = g.here;
  opened = g.opened;
  nearest = λ k other above below is. elim (up_to k i below) [ inr before ↦ g.nearest k other above before is | inl same ↦ λ e. apart (ap opens (one_form lines i form other has (moved lines k i other same is)) ∙ e) ];
}

graph_here : (lines : List Entry) (i : ℕ) (form : Form) → HasForm lines i form → opens form ≡ Some Graph → IsGraphAt lines (suc i) i
graph_here lines i form has some = record { head = form; earlier = omega arith; here = has; opened = some; nearest = λ k other above below is e. absurd (omega (arith, above, below)) }

graph_back : (lines : List Entry) (i start : ℕ) (form : Form) → IsGraphAt lines (suc i) start → HasForm lines i form → (opens form ≡ Some Graph → ⊥) → IsGraphAt lines i start
graph_back lines i start form g has apart = elim (up_to start i g.earlier) [
  | inr before ↦ record { head = g.head; earlier = before; here = g.here; opened = g.opened; nearest = λ k other above below is. g.nearest k other above (omega (arith, below)) is }
  | inl same ↦ absurd (apart (ap opens (one_form lines i form g.head has (moved lines start i g.head same g.here)) ∙ g.opened))
]

graph_same : (lines : List Entry) (i start : ℕ) (form : Form) → IsGraphAt lines (suc i) start → HasForm lines i form → opens form ≡ Some Graph → start ≡ i
graph_same lines i start form g has some = elim (up_to start i g.earlier) [
  | inr before ↦ absurd (g.nearest i form before (omega arith) has some)
  | inl same ↦ same
]

vertices_are : (form : Form) (vertices : List (List ℕ)) → (opens form ≡ Some Graph → ⊥) → vertices_behind form vertices ≡ insert_all bytes_eq vertices (mentions form)
vertices_are (form.vars names) vertices apart = refl
vertices_are (form.ste name reset) vertices apart = refl
vertices_are (form.gste name vertex reset) vertices apart = absurd (apart refl)
vertices_are (form.edge from to) vertices apart = refl
vertices_are (form.clause clause) vertices apart = refl
vertices_are (form.weak node times) vertices apart = refl
vertices_are form.ending vertices apart = refl
vertices_are form.wrong vertices apart = refl

edges_are : (form : Form) (edges : ℕ) → (opens form ≡ Some Graph → ⊥) → edges_behind form edges ≡ edges + length (filter starts_edge (form ∷ []))
edges_are (form.vars names) edges apart = omega arith
edges_are (form.ste name reset) edges apart = omega arith
edges_are (form.gste name vertex reset) edges apart = absurd (apart refl)
edges_are (form.edge from to) edges apart = omega arith
edges_are (form.clause clause) edges apart = omega arith
edges_are (form.weak node times) edges apart = omega arith
edges_are form.ending edges apart = omega arith
edges_are form.wrong edges apart = omega arith

-- one more line of a graph
pub graph_more : (lines : List Entry) (i start : ℕ) (form : Form) (vertices : List (List ℕ)) (edges : ℕ) → start ≤ i → HasForm lines i form → (opens form ≡ Some Graph → ⊥) → GraphTold lines i start vertices edges → GraphTold lines (suc i) start (vertices_behind form vertices) (edges_behind form edges)
graph_more lines i start form vertices edges h has apart told =
    let w = drop start (take i (forms_of lines)) in
    let more = window (forms_of lines) start i form h has in
    let flat : flat_map mentions (w ++ form ∷ []) ≡ flat_map mentions w ++ mentions form = flat_map-append mentions w (form ∷ []) ∙ ap (λ k. flat_map mentions w ++ k) (append-nil (mentions form)) in (
      vertices_are form vertices apart ∙ ap (λ v. insert_all bytes_eq v (mentions form)) told.0 ∙ sym (fold-append _ [] (flat_map mentions w) (mentions form)) ∙ ap (insert_all bytes_eq []) (sym flat ∙ sym (ap (flat_map mentions) more)),
      edges_are form edges apart ∙ ap (λ n. n + length (filter starts_edge (form ∷ []))) told.1 ∙ sym (length-append (filter starts_edge w) (filter starts_edge (form ∷ []))) ∙ ap length (sym (filter-append starts_edge w (form ∷ [])) ∙ sym (ap (filter starts_edge) more)),
    )

graph_starts : (lines : List Entry) (i : ℕ) (name vertex : List ℕ) (reset : Bool) → HasForm lines i (form.gste name vertex reset) → GraphTold lines (suc i) i (vertex ∷ []) 0
graph_starts lines i name vertex reset has =
    let more : drop i (take (suc i) (forms_of lines)) ≡ form.gste name vertex reset ∷ [] = window (forms_of lines) i i (form.gste name vertex reset) (omega arith) has ∙ ap (λ w. w ++ form.gste name vertex reset ∷ []) (none_from (forms_of lines) i) in
    (sym (ap (λ w. insert_all bytes_eq [] (flat_map mentions w)) more), sym (ap (λ w. length (filter starts_edge w)) more))

-- what the lines before place i say is kept so
pub record Told (lines : List Entry) (i : ℕ) (c : Context) : Type 0 where
  pub position : IsAt lines i c.place
  pub vars : c.vars ≡ declared lines i
  pub names : c.names ≡ tasks_named lines i
  pub graph : (start : ℕ) → IsGraphAt lines i start → GraphTold lines i start c.vertices c.edges
  pub started : holds_edges c.place ≡ true → (start : ℕ) × IsGraphAt lines i start

graph_kept : (lines : List Entry) (i : ℕ) (c : Context) (form : Form) → Told lines i c → HasForm lines i form → (opens form ≡ Some Graph → ⊥) → (start : ℕ) → IsGraphAt lines (suc i) start → GraphTold lines (suc i) start (vertices_behind form c.vertices) (edges_behind form c.edges)
graph_kept lines i c form told has apart start g =
    let before = graph_back lines i start form g has apart in
    graph_more lines i start form c.vertices c.edges (let h = before.earlier in omega (arith, h)) has apart (told.graph start before)

graph_told : (lines : List Entry) (i : ℕ) (c : Context) (form : Form) → Told lines i c → HasForm lines i form → (start : ℕ) → IsGraphAt lines (suc i) start → GraphTold lines (suc i) start (vertices_behind form c.vertices) (edges_behind form c.edges)
graph_told lines i c (form.gste name vertex reset) told has start g =
    subst (λ s. GraphTold lines (suc i) s (vertex ∷ []) 0) (sym (graph_same lines i start (form.gste name vertex reset) g has refl)) (graph_starts lines i name vertex reset has)
graph_told lines i c (form.vars names) told has start g = graph_kept lines i c (form.vars names) told has (λ e. absurd (cc e)) start g
graph_told lines i c (form.ste name reset) told has start g = graph_kept lines i c (form.ste name reset) told has (λ e. absurd (cc e)) start g
graph_told lines i c (form.edge from to) told has start g = graph_kept lines i c (form.edge from to) told has (λ e. absurd (cc e)) start g
graph_told lines i c (form.clause clause) told has start g = graph_kept lines i c (form.clause clause) told has (λ e. absurd (cc e)) start g
graph_told lines i c (form.weak node times) told has start g =
    graph_kept lines i c (form.weak node times) told has (λ e. absurd (cc e)) start g
graph_told lines i c form.ending told has start g = graph_kept lines i c form.ending told has (λ e. absurd (cc e)) start g
graph_told lines i c form.wrong told has start g = graph_kept lines i c form.wrong told has (λ e. absurd (cc e)) start g

still_started : (lines : List Entry) (i : ℕ) (c : Context) (form : Form) → Told lines i c → HasForm lines i form → may_stand_at form c.place ≡ true → holds_edges (position_behind form c.place) ≡ true → (start : ℕ) × IsGraphAt lines (suc i) start
still_started lines i c (form.gste name vertex reset) told has may h = (i, graph_here lines i (form.gste name vertex reset) has refl)
still_started lines i c (form.vars names) told has may h = let s = told.started h in (s.0, graph_on lines i s.0 (form.vars names) s.1 has (λ e. absurd (cc e)))
still_started lines i c (form.ste name reset) told has may h = absurd (cc h)
still_started lines i c (form.edge from to) told has may h = let s = told.started may in (s.0, graph_on lines i s.0 (form.edge from to) s.1 has (λ e. absurd (cc e)))
still_started lines i c (form.clause clause) told has may h = let s = told.started h in (s.0, graph_on lines i s.0 (form.clause clause) s.1 has (λ e. absurd (cc e)))
still_started lines i c (form.weak node times) told has may h =
    let s = told.started h in
    (s.0, graph_on lines i s.0 (form.weak node times) s.1 has (λ e. absurd (cc e)))
still_started lines i c form.ending told has may h = absurd (cc h)
still_started lines i c form.wrong told has may h = absurd (cc may)

-- one more line
pub told_on : (lines : List Entry) (i : ℕ) (c : Context) (form : Form) → Told lines i c → HasForm lines i form → may_stand_at form c.place ≡ true → Told lines (suc i) (context_behind c form)
told_on lines i c form told has may = record {
  position = position_on lines i c.place form told.position has;
  vars = vars_on lines i form c.vars has told.vars;
  names = names_on lines i form c.names has told.names;
  graph = graph_told lines i c form told has;
  started = still_started lines i c form told has may;
}

-- before the first line
pub told_first : (lines : List Entry) → Told lines 0 (context_of [])
told_first lines = record {
  position = λ k form below is. absurd (omega (arith, below));
  vars = refl;
  names = refl;
  graph = λ start g. absurd (omega (arith, g.earlier));
  started = λ h. absurd (cc h);
}
