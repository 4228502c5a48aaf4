-- What comes to a vertex, edge by edge, and the sum of it.
use Rattle.std.proofs.Common.{◌≡◌, ◌≢◌, ℕ, zero, suc, ◌+◌, ◌<◌, Bool, true, false, List, [], ◌∷◌, ◌++◌, length, take, drop, get_or, map, filter, refl, sym, ◌∙◌, ap, subst, arith, Contains, All, ⊎_elim, eq-eqb, ne_eqb, inl, inr}
use Rattle.std.specs.Prelude.{◌==◌, if◌then◌else◌}
use Rattle.std.proofs.Math.Seq.{drop-cons}
use Rattle.std.proofs.lemmas.Bool.{cases_lt}
use Rattle.std.proofs.lemmas.List.{length-map, map-append, take-append-drop, take_more}
use Rattle.std.proofs.lemmas.List.Elements.{All-nil, All-cons, All-head, All-tail, Contains-append_left, Contains-append_right}
use Rattle.ste_base.specs.Functions.{Function}
use Rattle.dd_nodes.proofs.Members.{Contains-cons_cases}
use Rattle.net_core.specs.declared.raw.RawNet.{RawNet}
use Rattle.net_core.specs.Sets.{first_set}
use Rattle.net_core.specs.Work.{SymbolicSet, chain, disjunction, never, sums, whole}
use Rattle.ste_model.specs.declared.task.Edge.{Edge}
use Rattle.ste_model.specs.declared.task.Graph.{Graph}
use Rattle.ste_model.specs.GraphWork.{SymbolicState, latch_in, ones_of, reached_in, start_state, vertex_work, zeros_of}
use Rattle.ste_model.specs.Work.{constant_set, over_times}
use Rattle.dual_rail.proofs.Works.{Within}
use Rattle.gste_engine.specs.private.Sums.{arrivals_work, coming, never_state, state_functions, summed_at, with_state, with_states}
use Rattle.gste_engine.proofs.Lists.{unions_long}
use Rattle.gste_engine.proofs.Sets.{IsOfUnion, no_set, none_at, unions_at, unions_find}

-- ---- what comes

module _ (given : Edge → SymbolicState) (vertex : ℕ) where
  abbrev pub into : List Edge → List SymbolicState
  into edges = map given (filter (λ (edge : Edge). edge.to == vertex) edges)

  pub into_append : (xs ys : List Edge) → into (xs ++ ys) ≡ into xs ++ into ys
  into_append [] ys = refl
  into_append (x ∷ xs) ys = by (x.to == vertex) (into_append xs ys)
    where
      by : (b : Bool) → into (xs ++ ys) ≡ into xs ++ into ys
          → map given (if b then x ∷ filter (λ (edge : Edge). edge.to == vertex) (xs ++ ys) else filter (λ (edge : Edge). edge.to == vertex) (xs ++ ys)) ≡ map given (if b then x ∷ filter (λ (edge : Edge). edge.to == vertex) xs else filter (λ (edge : Edge). edge.to == vertex) xs) ++ into ys
      by true rest = ap (λ zs. given x ∷ zs) rest
      by false rest = rest

  into_this : (e : Edge) (ys : List Edge) → e.to ≡ vertex → into (e ∷ ys) ≡ given e ∷ into ys
  into_this e ys same = ap (λ (b : Bool). map given (if b then e ∷ filter (λ (edge : Edge). edge.to == vertex) ys else filter (λ (edge : Edge). edge.to == vertex) ys)) (eq-eqb e.to vertex same)

  into_other : (e : Edge) (ys : List Edge) → e.to ≢ vertex → into (e ∷ ys) ≡ into ys
  into_other e ys differ = ap (λ (b : Bool). map given (if b then e ∷ filter (λ (edge : Edge). edge.to == vertex) ys else filter (λ (edge : Edge). edge.to == vertex) ys)) (ne_eqb e.to vertex differ)

  module _ (net : RawNet) (reset : Bool) where
    pub coming_append : (xs ys : List Edge) → coming net reset given (xs ++ ys) vertex ≡ coming net reset given xs vertex ++ into ys
    coming_append xs ys = by (vertex == 0)
      where
        by : (b : Bool) → (if b then start_state net reset ∷ [] else []) ++ into (xs ++ ys) ≡ ((if b then start_state net reset ∷ [] else []) ++ into xs) ++ into ys
        by true = ap (λ zs. start_state net reset ∷ zs) (into_append xs ys)
        by false = into_append xs ys

    module _ (edges : List Edge) (k : ℕ) (d : Edge) (lt : k < length edges) where
      pub coming_this : (get_or edges k d).to ≡ vertex → coming net reset given (take (k + 1) edges) vertex ≡ coming net reset given (take k edges) vertex ++ given (get_or edges k d) ∷ []
      coming_this same =
          ap (λ (xs : List Edge). coming net reset given xs vertex) (take_more edges k d lt) ∙ coming_append (take k edges) (get_or edges k d ∷ [])
          ∙ ap (λ zs. coming net reset given (take k edges) vertex ++ zs) (into_this (get_or edges k d) [] same)

      append_none : (xs : List SymbolicState) → xs ++ [] ≡ xs
      append_none [] = refl
      append_none (x ∷ xs) = ap (λ zs. x ∷ zs) (append_none xs)

      pub coming_other : (get_or edges k d).to ≢ vertex → coming net reset given (take (k + 1) edges) vertex ≡ coming net reset given (take k edges) vertex
      coming_other differ =
          ap (λ (xs : List Edge). coming net reset given xs vertex) (take_more edges k d lt) ∙ coming_append (take k edges) (get_or edges k d ∷ [])
          ∙ ap (λ zs. coming net reset given (take k edges) vertex ++ zs) (into_other (get_or edges k d) [] differ) ∙ append_none (coming net reset given (take k edges) vertex)

      -- all that comes: what came before this edge, this one, and what comes behind it
      pub coming_split : (get_or edges k d).to ≡ vertex → coming net reset given edges vertex ≡ coming net reset given (take k edges) vertex ++ given (get_or edges k d) ∷ into (drop (suc k) edges)
      coming_split same =
          let parts : edges ≡ take k edges ++ get_or edges k d ∷ drop (suc k) edges = sym (take-append-drop k edges) ∙ ap (λ zs. take k edges ++ zs) (drop-cons edges k d lt) in
          ap (λ (xs : List Edge). coming net reset given xs vertex) parts ∙ coming_append (take k edges) (get_or edges k d ∷ drop (suc k) edges)
          ∙ ap (λ zs. coming net reset given (take k edges) vertex ++ zs) (into_this (get_or edges k d) (drop (suc k) edges) same)

abbrev pub IsLong : RawNet → SymbolicState → Type 0
IsLong net x = length x.latches ≡ length net.latches

all_append : {X : Type 0} (P : X → Type 0) (xs ys : List X) → All P xs → All P ys → All P (xs ++ ys)
all_append P [] ys h g = g
all_append P (x ∷ xs) ys h g = All-cons P x (xs ++ ys) (All-head P x xs h) (all_append P xs ys (All-tail P x xs h) g)

pub coming_long : (net : RawNet) (reset : Bool) (given : Edge → SymbolicState) (vertex : ℕ) (edges : List Edge) → All (λ edge. IsLong net (given edge)) edges → All (IsLong net) (coming net reset given edges vertex)
coming_long net reset given vertex edges long = all_append (IsLong net) (if vertex == 0 then start_state net reset ∷ [] else []) (into given vertex edges) (start (vertex == 0)) (rest edges long)
  where
    start : (b : Bool) → All (IsLong net) (if b then start_state net reset ∷ [] else [])
    start true = All-cons (IsLong net) (start_state net reset) [] (length-map net.latches (λ latch. constant_set (first_set reset latch))) (All-nil (IsLong net))
    start false = All-nil (IsLong net)

    rest : (xs : List Edge) → All (λ edge. IsLong net (given edge)) xs → All (IsLong net) (into given vertex xs)
    rest [] h = All-nil (IsLong net)
    rest (x ∷ xs) h = by (x.to == vertex) (All-head (λ (edge : Edge). IsLong net (given edge)) x xs h) (rest xs (All-tail (λ (edge : Edge). IsLong net (given edge)) x xs h))
      where
        by : (b : Bool) → IsLong net (given x) → All (IsLong net) (into given vertex xs) → All (IsLong net) (map given (if b then x ∷ filter (λ (edge : Edge). edge.to == vertex) xs else filter (λ (edge : Edge). edge.to == vertex) xs))
        by true here later = All-cons (IsLong net) (given x) (into given vertex xs) here later
        by false here later = later

-- ---- sums

pub with_states_push : (x : SymbolicState) (ys : List SymbolicState) (y : SymbolicState) → with_states x (ys ++ y ∷ []) ≡ with_state (with_states x ys) y
with_states_push x [] y = refl
with_states_push x (z ∷ ys) y = with_states_push (with_state x z) ys y

pub with_states_long : (net : RawNet) (x : SymbolicState) (ys : List SymbolicState) → IsLong net x → All (IsLong net) ys → IsLong net (with_states x ys)
with_states_long net x [] h all = h
with_states_long net x (y ∷ ys) h all =
    let here = All-head (IsLong net) y ys all in
    with_states_long net (with_state x y) ys (unions_long x.latches y.latches (h ∙ sym here) ∙ here) (All-tail (IsLong net) y ys all)

pub never_long : (net : RawNet) → IsLong net (never_state net)
never_long net = length-map net.latches (λ latch. no_set)

chain_at : (f : Function) (fs gs : List Function) (h : Function) → Contains (chain disjunction f (fs ++ h ∷ gs)) (disjunction (whole disjunction f fs) h)
chain_at f [] gs h = (0, omega arith, refl)
chain_at f (x ∷ fs) gs h =
    let rest = chain_at (disjunction f x) fs gs h in
    (suc rest.0, let lt = rest.1 in omega arith, rest.2)

pub through : (F : ℕ → List Function) (n m : ℕ) → n < m → Within (F n) (over_times F m)
through F n zero lt f h = absurd (omega arith)
through F n (suc m) lt f h = elim (cases_lt n m) [
  | inl before ↦ Contains-append_left (over_times F m) (F m) f (through F n m (omega arith) f h)
  | inr here ↦ Contains-append_right (over_times F m) (F m) f (subst (λ k. Contains (F k) f) (let e : n ≡ m = omega arith in e) h)
]

reached_is : (x : SymbolicState) (ys : List SymbolicState) → (with_states x ys).reached ≡ whole disjunction x.reached (reached_in ys)
reached_is x [] = refl
reached_is x (y ∷ ys) = reached_is (with_state x y) ys

latch_is : (net : RawNet) (l : ℕ) (x : SymbolicState) (ys : List SymbolicState) → l < length net.latches → IsLong net x → All (IsLong net) ys
    → (get_or (with_states x ys).latches l no_set).zero ≡ whole disjunction (get_or x.latches l no_set).zero (zeros_of (latch_in l ys))
    × ((get_or (with_states x ys).latches l no_set).one ≡ whole disjunction (get_or x.latches l no_set).one (ones_of (latch_in l ys)))
latch_is net l x [] lt h all = (refl, refl)
latch_is net l x (y ∷ ys) lt h all =
    let here = All-head (IsLong net) y ys all in
    let more : IsLong net (with_state x y) = unions_long x.latches y.latches (h ∙ sym here) ∙ here in
    let rest = latch_is net l (with_state x y) ys lt more (All-tail (IsLong net) y ys all) in
    let at = unions_at x.latches y.latches l (h ∙ sym here) (omega (arith, lt, here)) in (
      rest.0 ∙ ap (λ (w : SymbolicSet). whole disjunction w.zero (zeros_of (latch_in l ys))) at,
      rest.1 ∙ ap (λ (w : SymbolicSet). whole disjunction w.one (ones_of (latch_in l ys))) at,
    )

-- one more of what comes to a vertex: its functions are among those for the vertex
module _ (net : RawNet) (pre post : List SymbolicState) (y : SymbolicState) (longs : All (IsLong net) pre) (long : IsLong net y) where
  abbrev all_of : List SymbolicState
  all_of = pre ++ y ∷ post

  abbrev sets_at : ℕ → List Function
  sets_at l = sums (zeros_of (latch_in l all_of)) ++ sums (ones_of (latch_in l all_of))

  abbrev before : SymbolicState
  before = with_states (never_state net) pre

  reached_has : Contains (vertex_work net all_of) (disjunction before.reached y.reached)
  reached_has =
      let f : Function = disjunction before.reached y.reached in
      Contains-append_left (sums (reached_in all_of)) (over_times sets_at (length net.latches)) f
      (subst (λ (fs : List Function). Contains (sums fs) f) (sym (map-append (λ (x : SymbolicState). x.reached) pre (y ∷ post)))
      (subst (λ (b : Function). Contains (sums (reached_in pre ++ y.reached ∷ reached_in post)) (disjunction b y.reached)) (sym (reached_is (never_state net) pre))
      (chain_at never (reached_in pre) (reached_in post) y.reached)))

  latch_has : (l : ℕ) → l < length net.latches → (f : Function) → IsOfUnion before.latches y.latches f l → Contains (vertex_work net all_of) f
  latch_has l lt f is =
      Contains-append_right (sums (reached_in all_of)) (over_times sets_at (length net.latches)) f (through sets_at l (length net.latches) lt f (elim is [
        | inl e ↦ Contains-append_left (sums (zeros_of (latch_in l all_of))) (sums (ones_of (latch_in l all_of))) f (subst (λ (h : Function). Contains (sums (zeros_of (latch_in l all_of))) h) e zero_has)
        | inr e ↦ Contains-append_right (sums (zeros_of (latch_in l all_of))) (sums (ones_of (latch_in l all_of))) f (subst (λ (h : Function). Contains (sums (ones_of (latch_in l all_of))) h) e one_has)
      ]))
    where
      at : ((get_or before.latches l no_set).zero ≡ whole disjunction (get_or (never_state net).latches l no_set).zero (zeros_of (latch_in l pre))) × ((get_or before.latches l no_set).one ≡ whole disjunction (get_or (never_state net).latches l no_set).one (ones_of (latch_in l pre)))
      at = latch_is net l (never_state net) pre lt (never_long net) longs

      split : latch_in l all_of ≡ latch_in l pre ++ get_or y.latches l no_set ∷ latch_in l post
      split = map-append (λ (x : SymbolicState). get_or x.latches l no_set) pre (y ∷ post)

      zero_has : Contains (sums (zeros_of (latch_in l all_of))) (disjunction (get_or before.latches l no_set).zero (get_or y.latches l no_set).zero)
      zero_has =
          let last : Function = (get_or y.latches l no_set).zero in
          let zeros : zeros_of (latch_in l all_of) ≡ zeros_of (latch_in l pre) ++ last ∷ zeros_of (latch_in l post) = ap zeros_of split ∙ map-append (λ (w : SymbolicSet). w.zero) (latch_in l pre) (get_or y.latches l no_set ∷ latch_in l post) in
          let start : (get_or before.latches l no_set).zero ≡ whole disjunction never (zeros_of (latch_in l pre)) = at.0 ∙ ap (λ (w : SymbolicSet). whole disjunction w.zero (zeros_of (latch_in l pre))) (none_at net.latches l) in
          subst (λ (fs : List Function). Contains (sums fs) (disjunction (get_or before.latches l no_set).zero last)) (sym zeros)
          (subst (λ (b : Function). Contains (sums (zeros_of (latch_in l pre) ++ last ∷ zeros_of (latch_in l post))) (disjunction b last)) (sym start) (chain_at never (zeros_of (latch_in l pre)) (zeros_of (latch_in l post)) last))

      one_has : Contains (sums (ones_of (latch_in l all_of))) (disjunction (get_or before.latches l no_set).one (get_or y.latches l no_set).one)
      one_has =
          let last : Function = (get_or y.latches l no_set).one in
          let ones : ones_of (latch_in l all_of) ≡ ones_of (latch_in l pre) ++ last ∷ ones_of (latch_in l post) = ap ones_of split ∙ map-append (λ (w : SymbolicSet). w.one) (latch_in l pre) (get_or y.latches l no_set ∷ latch_in l post) in
          let start : (get_or before.latches l no_set).one ≡ whole disjunction never (ones_of (latch_in l pre)) = at.1 ∙ ap (λ (w : SymbolicSet). whole disjunction w.one (ones_of (latch_in l pre))) (none_at net.latches l) in
          subst (λ (fs : List Function). Contains (sums fs) (disjunction (get_or before.latches l no_set).one last)) (sym ones)
          (subst (λ (b : Function). Contains (sums (ones_of (latch_in l pre) ++ last ∷ ones_of (latch_in l post))) (disjunction b last)) (sym start) (chain_at never (ones_of (latch_in l pre)) (ones_of (latch_in l post)) last))

  pub vertex_has : Within (state_functions (with_state before y)) (vertex_work net all_of)
  vertex_has f h =
      let r : Function = disjunction before.reached y.reached in
      let same : length before.latches ≡ length y.latches = with_states_long net (never_state net) pre (never_long net) longs ∙ sym long in
      ⊎_elim
      (λ (e : r ≡ f). subst (λ (x : Function). Contains (vertex_work net all_of) x) e reached_has)
      (λ (later : Contains _ f). let at = unions_find before.latches y.latches f same later in latch_has at.0 (let lt = at.1 in omega (arith, lt, long)) f at.2)
      (Contains-cons_cases r _ f h)

-- and so among those for the round
pub arrival_in : (net : RawNet) (graph : Graph) (given : Edge → SymbolicState) (k : ℕ) (d : Edge) → k < length graph.edges → (get_or graph.edges k d).to < length graph.vertices → All (λ edge. IsLong net (given edge)) graph.edges
    → Within (state_functions (with_state (summed_at net graph.reset given (take k graph.edges) (get_or graph.edges k d).to) (given (get_or graph.edges k d)))) (arrivals_work net graph given)
arrival_in net graph given k d lt inside long f h =
    let edge : Edge = get_or graph.edges k d in
    let v = edge.to in
    let pre : List SymbolicState = coming net graph.reset given (take k graph.edges) v in
    let post : List SymbolicState = into given v (drop (suc k) graph.edges) in
    let all : All (IsLong net) (pre ++ given edge ∷ post) = subst (All (IsLong net)) (coming_split given v net graph.reset graph.edges k d lt refl) (coming_long net graph.reset given v graph.edges long) in
    through (λ u. vertex_work net (coming net graph.reset given graph.edges u)) v (length graph.vertices) inside f
    (subst (λ (xs : List SymbolicState). Contains (vertex_work net xs) f) (sym (coming_split given v net graph.reset graph.edges k d lt refl))
    (vertex_has net pre post (given edge) (firsts pre (given edge ∷ post) all) (long k d lt) f h))
  where
    firsts : (xs ys : List SymbolicState) → All (IsLong net) (xs ++ ys) → All (IsLong net) xs
    firsts [] ys h = All-nil (IsLong net)
    firsts (x ∷ xs) ys h = All-cons (IsLong net) x xs (All-head (IsLong net) x (xs ++ ys) h) (firsts xs ys (All-tail (IsLong net) x (xs ++ ys) h))
