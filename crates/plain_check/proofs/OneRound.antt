-- The next round, edge by edge, under one assignment.
use Rattle.std.proofs.Common.{◌≡◌, ◌≢◌, ℕ, ◌<◌, zero, suc, Bool, true, List, [], ◌∷◌, ◌++◌, length, get_or, set, arith, refl, sym, ap, subst, ◌∙◌}
use Rattle.std.specs.Prelude.{All, Some, None, slice_get}
use Rattle.std.specs.List.{AllZip}
use Rattle.std.proofs.Math.Decide.{ℕ_discrete}
use Rattle.std.proofs.lemmas.List.{length-map}
use Rattle.std.proofs.lemmas.List.Elements.{All-contains, All-nil, All-push, Contains-append_left, Contains-get_or, Contains-push}
use Rattle.net_core.specs.declared.bit_set.BitSet.{BitSet}
use Rattle.net_core.specs.declared.raw.RawNet.{RawNet}
use Rattle.net_core.specs.Run.{IsSettled}
use Rattle.net_core.specs.Sets.{IsIn, IsWithin, first_set, first_sets, neither, next_sets}
use Rattle.net_core.proofs.Possible.{itself, one_family}
use Rattle.ste_model.specs.declared.task.Edge.{Edge}
use Rattle.ste_model.specs.declared.task.Graph.{Graph}
use Rattle.ste_model.specs.Edges.{asked_on}
use Rattle.ste_model.specs.GraphTable.{IsFeasible, IsNext, IsReachedWith, IsStateWithin, Takes, VertexState}
use Rattle.ste_model.proofs.Unions.{empties, join_least, join_left, join_long, join_right, join_set, join_sets, next_grows, sets_trans}
use Rattle.plain_check.specs.declared.rounds.State.{State}
use Rattle.plain_check.specs.States.{latch_unions, start, state_of, states_of, with_edges}

-- what the edges into a vertex have to find there
abbrev Carries : RawNet → List Bool → (ℕ → VertexState) → (ℕ → VertexState) → Edge → Type 0
Carries net bits now next edge = (sets : ℕ → BitSet) → IsFeasible net bits now edge sets → IsReachedWith (next_sets net sets) (next edge.to)

same_within : (a b : VertexState) → a ≡ b → IsStateWithin a b
same_within a b e = subst (IsStateWithin a) e (λ h. h, itself a.latches)

-- ---- the start

module _ (net : RawNet) (graph : Graph) (bits : List Bool) (now next : ℕ → VertexState) (first : next 0 ≡ state_of net (Some (start net graph.reset))) (others : (vertex : ℕ) → next (suc vertex) ≡ state_of net None) where
  start_long : (vertex : ℕ) → length (next vertex).latches ≡ length net.latches
  start_long zero = ap (λ (state : VertexState). length state.latches) first ∙ length-map net.latches (first_set graph.reset)
  start_long (suc vertex) = ap (λ (state : VertexState). length state.latches) (others vertex) ∙ length-map net.latches (λ latch. neither)

  start_least : (edges : List Edge) (other : ℕ → VertexState) → Takes net (with_edges graph edges) bits now other → (vertex : ℕ) → IsStateWithin (next vertex) (other vertex)
  start_least edges other takes zero = subst (λ (state : VertexState). IsStateWithin state (other 0)) (sym first) (λ h. takes.start.0, takes.start.1)
  start_least edges other takes (suc vertex) = subst (λ (state : VertexState). IsStateWithin state (other (suc vertex))) (sym (others vertex)) (λ h. absurd (cc h), empties net.latches (other (suc vertex)).latches (takes.long (suc vertex)))

  -- where no edge is feasible the next round is the start
  pub start_next : (edges : List Edge) → All (λ edge. (sets : ℕ → BitSet) → ¬ IsFeasible net bits now edge sets) edges → IsNext net (with_edges graph edges) bits now next
  start_next edges none = record {
    takes = record {
      long = start_long;
      start = subst (IsReachedWith (first_sets net graph.reset)) (sym first) (refl, itself (first_sets net graph.reset));
      edges = λ k d l sets f. absurd (none k d l sets f);
    };
    least = λ other takes vertex. start_least edges other takes vertex;
  }

pub no_edges : (net : RawNet) (bits : List Bool) (now : ℕ → VertexState) → All (λ edge. (sets : ℕ → BitSet) → ¬ IsFeasible net bits now edge sets) []
no_edges net bits now = All-nil (λ edge. (sets : ℕ → BitSet) → ¬ IsFeasible net bits now edge sets)

-- ---- one edge more

fewer : (net : RawNet) (graph : Graph) (bits : List Bool) (now other : ℕ → VertexState) (edges : List Edge) (edge : Edge) → Takes net (with_edges graph (edges ++ edge ∷ [])) bits now other → Takes net (with_edges graph edges) bits now other
fewer net graph bits now other edges edge takes = record {
  long = takes.long;
  start = takes.start;
  edges = λ k d l. All-contains (Carries net bits now other) (edges ++ edge ∷ []) (get_or edges k d) takes.edges (Contains-append_left edges (edge ∷ []) (get_or edges k d) (Contains-get_or edges k d l));
}

-- an edge that is not feasible changes nothing
pub skip_edge : (net : RawNet) (graph : Graph) (bits : List Bool) (now next : ℕ → VertexState) (edges : List Edge) (edge : Edge) → ((sets : ℕ → BitSet) → ¬ IsFeasible net bits now edge sets) → IsNext net (with_edges graph edges) bits now next → IsNext net (with_edges graph (edges ++ edge ∷ [])) bits now next
skip_edge net graph bits now next edges edge none is = record {
  takes = record {
    long = is.takes.long;
    start = is.takes.start;
    edges = All-push (Carries net bits now next) edges edge is.takes.edges (λ sets f. absurd (none sets f));
  };
  least = λ other takes. is.least other (fewer net graph bits now other edges edge takes);
}

module _ (net : RawNet) (graph : Graph) (bits : List Bool) (now before after : ℕ → VertexState) (edges : List Edge) (edge : Edge) (sets : ℕ → BitSet) (settled : IsSettled net) (is : IsNext net (with_edges graph edges) bits now before) (feasible : IsFeasible net bits now edge sets) (others : (vertex : ℕ) → vertex ≢ edge.to → after vertex ≡ before vertex) (there : after edge.to ≡ record { reached = true; latches = join_sets (before edge.to).latches (next_sets net sets) }) where
  next_long : length (before edge.to).latches ≡ length (next_sets net sets)
  next_long = is.takes.long edge.to ∙ sym (length-map net.latches (λ latch. sets latch.input.0))

  reached : (after edge.to).reached ≡ true
  reached = ap (λ (state : VertexState). state.reached) there

  latches : (after edge.to).latches ≡ join_sets (before edge.to).latches (next_sets net sets)
  latches = ap (λ (state : VertexState). state.latches) there

  grows_by : (vertex : ℕ) → Dec (vertex ≡ edge.to) → IsStateWithin (before vertex) (after vertex)
  grows_by vertex (yes e) = subst (λ (v : ℕ). IsStateWithin (before v) (after v)) (sym e)
      (λ h. reached, subst (AllZip IsWithin (before edge.to).latches) (sym latches) (join_left (before edge.to).latches (next_sets net sets) next_long))
  grows_by vertex (no e) = same_within (before vertex) (after vertex) (sym (others vertex e))

  grows : (vertex : ℕ) → IsStateWithin (before vertex) (after vertex)
  grows vertex = grows_by vertex (ℕ_discrete vertex edge.to)

  long_by : (vertex : ℕ) → Dec (vertex ≡ edge.to) → length (after vertex).latches ≡ length net.latches
  long_by vertex (yes e) = subst (λ (v : ℕ). length (after v).latches ≡ length net.latches) (sym e) (ap length latches ∙ join_long (before edge.to).latches (next_sets net sets) next_long ∙ length-map net.latches (λ latch. sets latch.input.0))
  long_by vertex (no e) = ap (λ (state : VertexState). length state.latches) (others vertex e) ∙ is.takes.long vertex

  more : (want : List BitSet) (vertex : ℕ) → IsReachedWith want (before vertex) → IsReachedWith want (after vertex)
  more want vertex h = ((grows vertex).0 h.0, sets_trans want (before vertex).latches (after vertex).latches h.1 (grows vertex).1)

  carried : Carries net bits now after edge
  carried found f =
      let alike = next_grows found sets (λ id bit i. subst (IsIn bit) (one_family net (now edge.from).latches (asked_on edge bits) settled found sets f.possible feasible.possible id) i) net.latches in
      (reached, subst (AllZip IsWithin (next_sets net found)) (sym latches) (sets_trans (next_sets net found) (next_sets net sets) (join_sets (before edge.to).latches (next_sets net sets)) alike (join_right (before edge.to).latches (next_sets net sets) next_long)))

  least_by : (other : ℕ → VertexState) → Takes net (with_edges graph (edges ++ edge ∷ [])) bits now other → (vertex : ℕ) → Dec (vertex ≡ edge.to) → IsStateWithin (after vertex) (other vertex)
  least_by other takes vertex (no e) = subst (λ (state : VertexState). IsStateWithin state (other vertex)) (sym (others vertex e)) (is.least other (fewer net graph bits now other edges edge takes) vertex)
  least_by other takes vertex (yes e) =
      let old = is.least other (fewer net graph bits now other edges edge takes) edge.to in
      let last = All-contains (Carries net bits now other) (edges ++ edge ∷ []) edge takes.edges (Contains-push edges edge) sets feasible in
      subst (λ (v : ℕ). IsStateWithin (after v) (other v)) (sym e)
      (λ h. last.0, subst (λ (l : List BitSet). AllZip IsWithin l (other edge.to).latches) (sym latches) (join_least (before edge.to).latches (next_sets net sets) (other edge.to).latches old.1 last.1))

  -- an edge that is feasible gives its next sets to its target
  pub add_edge : IsNext net (with_edges graph (edges ++ edge ∷ [])) bits now after
  add_edge = record {
    takes = record {
      long = λ vertex. long_by vertex (ℕ_discrete vertex edge.to);
      start = more (first_sets net graph.reset) 0 is.takes.start;
      edges = All-push (Carries net bits now after) edges edge
          (λ k d l found f. more (next_sets net found) (get_or edges k d).to (is.takes.edges k d l found f)) carried;
    };
    least = λ other takes vertex. least_by other takes vertex (ℕ_discrete vertex edge.to);
  }

-- ---- lists of states

pub joined_is : (one other : List BitSet) → length one ≡ length other → latch_unions one other ≡ join_sets one other
joined_is [] [] e = refl
joined_is [] (y ∷ other) e = absurd (omega arith)
joined_is (x ∷ one) [] e = absurd (omega arith)
joined_is (x ∷ one) (y ∷ other) e = ap (λ (sets : List BitSet). join_set x y ∷ sets) (joined_is one other (omega arith))

get_set_same : {X : Type 0} (xs : List X) (k : ℕ) (x : X) → k < length xs → slice_get (set xs k x) k ≡ Some x
get_set_same [] k x l = absurd (omega arith)
get_set_same (y ∷ xs) zero x l = refl
get_set_same (y ∷ xs) (suc k) x l = get_set_same xs k x (omega arith)

get_set_other : {X : Type 0} (xs : List X) (k j : ℕ) (x : X) → j ≢ k → slice_get (set xs k x) j ≡ slice_get xs j
get_set_other [] k j x e = refl
get_set_other (y ∷ xs) zero zero x e = absurd (e refl)
get_set_other (y ∷ xs) zero (suc j) x e = refl
get_set_other (y ∷ xs) (suc k) zero x e = refl
get_set_other (y ∷ xs) (suc k) (suc j) x e = get_set_other xs k j x (λ same. e (ap suc same))

pub set_there : (net : RawNet) (states : List State) (k : ℕ) (state : State) → k < length states → states_of net (set states k state) k ≡ state_of net (Some state)
set_there net states k state l = ap (state_of net) (get_set_same states k state l)

pub set_others : (net : RawNet) (states : List State) (k : ℕ) (state : State) (vertex : ℕ) → vertex ≢ k → states_of net (set states k state) vertex ≡ states_of net states vertex
set_others net states k state vertex e = ap (state_of net) (get_set_other states k vertex state e)

pub state_there : (net : RawNet) (states : List State) (k : ℕ) (state : State) → k < length states → state ≡ get_or states k state → states_of net states k ≡ state_of net (Some state)
state_there net [] k state l e = absurd (omega arith)
state_there net (x ∷ states) zero state l e = ap (λ (s : State). state_of net (Some s)) (sym e)
state_there net (x ∷ states) (suc k) state l e = state_there net states k state (omega arith) e

join_same : (net : RawNet) (old after : List BitSet) (sets : ℕ → BitSet) → length old ≡ length net.latches → after ≡ latch_unions old (next_sets net sets) → after ≡ join_sets old (next_sets net sets)
join_same net old after sets long e = e ∙ joined_is old (next_sets net sets) (long ∙ sym (length-map net.latches (λ latch. sets latch.input.0)))

pub arrived_long : (net : RawNet) (old after : List BitSet) (sets : ℕ → BitSet) → length old ≡ length net.latches → after ≡ latch_unions old (next_sets net sets) → length after ≡ length net.latches
arrived_long net old after sets long e =
    let next = length-map net.latches (λ latch. sets latch.input.0) in
    ap length (join_same net old after sets long e) ∙ join_long old (next_sets net sets) (long ∙ sym next) ∙ next

same_state : (reached : Bool) (a b : List BitSet) → reached ≡ true → a ≡ b → ◌≡◌ {A = VertexState} (record { reached = reached; latches = a }) (record { reached = true; latches = b })
same_state reached a b e f = cc

-- the state that is written at the target of an edge
pub arrives : (net : RawNet) (states : List State) (to : ℕ) (old state : State) (sets : ℕ → BitSet) → to < length states → old ≡ get_or states to old → length (states_of net states to).latches ≡ length net.latches → state.reached ≡ true → state.latches ≡ latch_unions old.latches (next_sets net sets) → states_of net (set states to state) to ≡ record { reached = true; latches = join_sets (states_of net states to).latches (next_sets net sets) }
arrives net states to old state sets l is long reached latches =
    let before = state_there net states to old l is in
    let same : old.latches ≡ (states_of net states to).latches = ap (λ (s : VertexState). s.latches) (sym before) in
    set_there net states to state l
    ∙ same_state state.reached state.latches (join_sets (states_of net states to).latches (next_sets net sets)) reached
    (join_same net (states_of net states to).latches state.latches sets long (latches ∙ ap (λ (x : List BitSet). latch_unions x (next_sets net sets)) same))

-- what holds of all elements holds of one that is read
pub item_of : {X : Type 0} (P : X → Type 0) (xs ys : List X) (k : ℕ) (x : X) → ys ≡ xs → k < length ys → x ≡ get_or ys k x → All P xs → P x
item_of P xs ys k x same l is all = subst P (sym is) (subst (All P) (sym same) all k x l)
