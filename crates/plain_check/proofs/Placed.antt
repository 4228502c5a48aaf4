-- The failing place of a path.
use Rattle.std.proofs.Common.{◌≡◌, ℕ, ◌<◌, ◌-◌, zero, suc, Bool, true, List, [], ◌∷◌, map, length, get_or, sym, refl, ap, subst, ◌∙◌, arith}
use Rattle.std.specs.Prelude.{All, IsTrue, ◌↔◌, None, Some, position, slice_get}
use Rattle.std.specs.List.{list_any}
use Rattle.std.proofs.lemmas.Bool.{both_ways}
use Rattle.std.proofs.lemmas.Option.{slice_get-get_or, slice_get_read, slice_get_within}
use Rattle.std.proofs.lemmas.List.Folds.{Any-from_list_any}
use Rattle.std.proofs.lemmas.List.Quantifiers.{position-Some}
use Rattle.net_core.specs.declared.bit_set.BitSet.{BitSet}
use Rattle.net_core.specs.declared.raw.RawNet.{RawNet}
use Rattle.net_core.specs.Run.{Cut, IsSettled}
use Rattle.ste_model.specs.declared.task.Bind.{Bind}
use Rattle.ste_model.specs.declared.task.Edge.{Edge}
use Rattle.ste_model.specs.declared.task.Graph.{Graph}
use Rattle.ste_model.specs.Edges.{AreNumbers, IsGraph, bind_at, bind_cuts}
use Rattle.ste_model.specs.GraphFound.{FailsOn, IsGraphFound}
use Rattle.ste_model.specs.GraphShown.{IsPathPlace, IsFirstFailing, IsShownPath}
use Rattle.ste_model.specs.GraphTable.{IsFeasible, IsLeastClosed, VertexState, enough}
use Rattle.ste_model.proofs.Rounds.{least_alike}
use Rattle.plain_check.specs.declared.found.Failure.{Failure}
use Rattle.plain_check.specs.declared.found.Failure.TheVariants as failure
use Rattle.plain_check.specs.declared.hops.Hop.{Hop}
use Rattle.plain_check.specs.private.Hops.{AreHops, IsShortest, fails_of}
use Rattle.plain_check.specs.private.Outcome.{bind_fails, fails_cut}
use Rattle.plain_check.specs.private.Sets.{set_at}
use Rattle.plain_check.proofs.HopFacts.{fails_here}
use Rattle.plain_check.proofs.Levels.{none_passes}
use Rattle.plain_check.proofs.Outcomes.{fails_is}
use Rattle.plain_check.proofs.Routed.{edge_of_number, none_shown, number_of_edge, numbers_long, shown_is}

cut_fails : (how : Failure) (sets : ℕ → BitSet) (cut : Cut) → IsTrue (fails_cut how sets cut) ↔ fails_of how sets cut
cut_fails failure.Strong sets cut = fails_is failure.Strong sets cut
cut_fails failure.Weak sets cut = fails_is failure.Weak sets cut

got_map : {X Y : Type 0} (f : X → Y) (xs : List X) (k : ℕ) (x : X) → slice_get xs k ≡ Some x → slice_get (map f xs) k ≡ Some (f x)
got_map f [] k x e = absurd (cc e)
got_map f (y ∷ xs) zero x e = let same : y ≡ x = cc e in ap (λ z. Some (f z)) same
got_map f (y ∷ xs) (suc k) x e = got_map f xs k x e

map_got : {X Y : Type 0} (f : X → Y) (xs : List X) (k : ℕ) (y : Y) → slice_get (map f xs) k ≡ Some y → (x : X) × (slice_get xs k ≡ Some x) × (f x ≡ y)
map_got f [] k y e = absurd (cc e)
map_got f (x ∷ xs) zero y e = (x, refl, cc e)
map_got f (x ∷ xs) (suc k) y e = map_got f xs k y e

-- the first binding that fails is the first cut that does
pub first_is : (how : Failure) (row : List BitSet) (bits : List Bool) (binds : List Bind) (d : Bind) (k : ℕ) → position (bind_fails how row bits) binds ≡ Some k → IsFirstFailing (fails_of how) (set_at row) (bind_cuts binds bits) k
first_is how row bits binds d k e =
    let facts = position-Some (bind_fails how row bits) binds k d e in
    let bind = get_or binds k d in
    record {
      cut = bind_at bits bind;
      here = got_map (bind_at bits) binds k bind (slice_get-get_or binds k d facts.0);
      fails = (cut_fails how (set_at row) (bind_at bits bind)).0 facts.1;
      first = λ j other less at fails.
          let found = map_got (bind_at bits) binds j other at in
          let same : get_or binds j d ≡ found.0 = get_or_from binds j found.0 d found.1 in
          both_ways (bind_fails how row bits (get_or binds j d)) (facts.2 j less)
          (subst (λ (b : Bind). bind_fails how row bits b ≡ true) (sym same) ((cut_fails how (set_at row) (bind_at bits found.0)).1 (subst (fails_of how (set_at row)) (sym found.2) fails)));
    }
  where
    get_or_from : (xs : List Bind) (j : ℕ) (x y : Bind) → slice_get xs j ≡ Some x → get_or xs j y ≡ x
    get_or_from [] j x y e = absurd (cc e)
    get_or_from (z ∷ xs) zero x y e = cc e
    get_or_from (z ∷ xs) (suc j) x y e = get_or_from xs j x y e

module _ (how : Failure) (net : RawNet) (graph : Graph) (bits : List Bool) (table : ℕ → VertexState) (settled : IsSettled net) (least : IsLeastClosed net graph bits table) (numbers : List ℕ) (t : ℕ) (time : suc t ≡ length numbers) (edge : Edge) (at : slice_get graph.edges (get_or numbers t 0) ≡ Some edge) where
  pub placed : (row : List BitSet) → IsFeasible net bits table edge (set_at row) → (d : Bind) (k : ℕ) → position (bind_fails how row bits) edge.con ≡ Some k → (path : List Edge) → AreNumbers graph numbers path → IsPathPlace (fails_of how) net graph bits path t k
  placed row feasible d k e path are = record {
    table = table;
    is_table = least;
    edge = edge;
    time = time ∙ numbers_long graph numbers path are;
    last = edge_of_number graph numbers path are t edge at (omega (arith, time));
    sets = set_at row;
    feasible = feasible;
    first = first_is how row bits edge.con d k e;
  }

  -- the last edge of the shown path fails in this table
  pub last_fails : IsShownPath (fails_of how) net graph bits numbers → FailsOn (fails_of how) net bits table edge
  last_fails shown =
      let c = shown.candidate in
      let n = c.last.number in
      let long = numbers_long graph numbers shown.path shown.are in
      let same : n ≡ t = let l = c.last.last in omega (arith, l, long, time) in
      let there = number_of_edge graph numbers shown.path shown.are n c.edge c.last.here in
      let one : c.edge ≡ edge = the_same c.edge edge (sym there ∙ ap (λ (i : ℕ). slice_get graph.edges (get_or numbers i 0)) same ∙ at) in
      subst (λ (e : Edge). FailsOn (fails_of how) net bits table e) one (subst (λ (tb : ℕ → VertexState). FailsOn (fails_of how) net bits tb c.edge) (least_alike net graph bits c.table table c.is_table least) c.fails)
    where
      the_same : (a b : Edge) → Some a ≡ Some b → a ≡ b
      the_same a b e = cc

  -- so its row is there, and some consequent of it fails
  pub no_row : IsShownPath (fails_of how) net graph bits numbers → ¬ ((sets : ℕ → BitSet) → ¬ IsFeasible net bits table edge sets)
  no_row shown none = let f = last_fails shown in none f.0 f.1

  pub no_failing : IsShownPath (fails_of how) net graph bits numbers → (row : List BitSet) → IsFeasible net bits table edge (set_at row) → ¬ (position (bind_fails how row bits) edge.con ≡ None)
  no_failing shown row feasible e =
      let h = (fails_here net bits table edge settled row feasible how).1 (last_fails shown) in
      nothing edge.con h e
    where
      nothing : (binds : List Bind) → IsTrue (list_any (bind_fails how row bits) binds) → position (bind_fails how row bits) binds ≡ None → ⊥
      nothing binds h f =
          let any = Any-from_list_any (bind_fails how row bits) binds h in
          none_passes (bind_fails how row bits) binds any.0 (get_or binds any.0 any.1) f (slice_get-get_or binds any.0 any.1 any.2) (subst (λ (b : Bind). bind_fails how row bits b ≡ true) (sym any.3) any.4)

-- ---- from the route that was found

-- hops end at vertices
pub hops_end : (net : RawNet) (bits : List Bool) (table : ℕ → VertexState) (vertices : ℕ) (edges : List Edge) (hops : List Hop) → AreHops net bits table edges hops → All (λ edge. edge.to < vertices) edges → All (λ hop. hop.to < vertices) hops
hops_end net bits table vertices [] [] are ends k d l = absurd (omega arith)
hops_end net bits table vertices [] (hop ∷ hops) are ends k d l = absurd are
hops_end net bits table vertices (edge ∷ edges) [] are ends k d l = absurd are
hops_end net bits table vertices (edge ∷ edges) (hop ∷ hops) are ends zero d l = let h = ends 0 edge (omega arith) in let e = are.0.to in omega (arith, h, e)
hops_end net bits table vertices (edge ∷ edges) (hop ∷ hops) are ends (suc k) d l = hops_end net bits table vertices edges hops are.1 (λ i e m. ends (suc i) e (omega arith)) k d (omega arith)

pub one_less : (n m : ℕ) → (n ≡ 0 → ⊥) → n ≡ m → suc (n - 1) ≡ m
one_less zero m some e = absurd (some refl)
one_less (suc n) m some e = omega (arith, e)

module _ (how : Failure) (net : RawNet) (graph : Graph) (bits : List Bool) (table : ℕ → VertexState) (hops : List Hop) (are : AreHops net bits table graph.edges hops) (least : IsLeastClosed net graph bits table) where
  pub path_shown : (n : ℕ) (numbers : List ℕ) → 0 < length numbers → IsShortest how hops n numbers → IsShownPath (fails_of how) net graph bits numbers
  path_shown n [] some is = absurd (omega (arith, some))
  path_shown n (k ∷ rest) some is = shown_is how net graph bits table hops are least n k rest is

  pub nothing_shown : IsSettled net → IsGraph graph → (n : ℕ) (numbers : List ℕ) → n ≡ enough net graph → length numbers ≡ 0 → IsShortest how hops n numbers → ¬ IsGraphFound (fails_of how) net graph bits
  nothing_shown settled good n [] e none is = none_shown how net graph bits table hops are least settled good n e is
  nothing_shown settled good n (k ∷ rest) e none is = absurd (omega (arith, none))

number_within : (graph : Graph) (numbers : List ℕ) (path : List Edge) → AreNumbers graph numbers path → (t : ℕ) → t < length numbers → get_or numbers t 0 < length graph.edges
number_within graph [] path are t l = absurd (omega arith)
number_within graph (n ∷ numbers) [] are t l = absurd are
number_within graph (n ∷ numbers) (x ∷ path) are zero l = slice_get_within graph.edges n x are.0
number_within graph (n ∷ numbers) (x ∷ path) are (suc t) l = number_within graph numbers path are.1 t (omega arith)

-- the last number as the code reads it
pub within_edges : (how : Failure) (net : RawNet) (graph : Graph) (bits : List Bool) (numbers read : List ℕ) (edges : List Edge) (t : ℕ) → IsShownPath (fails_of how) net graph bits numbers → read ≡ numbers → edges ≡ graph.edges → suc t ≡ length numbers → get_or read t 0 < length edges
within_edges how net graph bits numbers read edges t shown same are time =
    subst (λ (es : List Edge). get_or read t 0 < length es) (sym are) (subst (λ (xs : List ℕ). get_or xs t 0 < length graph.edges) (sym same) (number_within graph numbers shown.path shown.are t (omega (arith, time))))

pub at_last : (graph : Graph) (numbers read : List ℕ) (edges : List Edge) (t : ℕ) (edge : Edge) → read ≡ numbers → edges ≡ graph.edges → get_or read t 0 < length edges → edge ≡ get_or edges (get_or read t 0) edge → slice_get graph.edges (get_or numbers t 0) ≡ Some edge
at_last graph numbers read edges t edge same are l is =
    subst (λ (xs : List ℕ). slice_get graph.edges (get_or xs t 0) ≡ Some edge) same (subst (λ (es : List Edge). slice_get es (get_or read t 0) ≡ Some edge) are (slice_get_read edges (length edges) (get_or read t 0) edge refl l is))
