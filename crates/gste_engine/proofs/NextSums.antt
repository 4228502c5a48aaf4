-- The sums of what comes to each vertex are, under each assignment, the table of the next round.
use Rattle.std.proofs.Common.{◌≡◌, ℕ, suc, ◌<◌, Bool, true, false, not, List, [], ◌∷◌, ◌++◌, length, take, drop, get_or, map, filter, refl, sym, ◌∙◌, ap, subst, arith, All}
use Rattle.std.specs.Prelude.{◌==◌, ◌&&◌, ◌||◌, IsTrue, if◌then◌else◌}
use Rattle.std.specs.List.{AllZip}
use Rattle.std.proofs.lemmas.Bool.{and_from, and_parts, both_ways, eqb-true, not-true, not_from_false, or_left, or_right}
use Rattle.std.proofs.lemmas.List.{length-map}
use Rattle.std.proofs.lemmas.List.Elements.{All-nil, All-cons, All-head, All-tail}
use Rattle.net_core.specs.declared.bit_set.BitSet.{BitSet}
use Rattle.net_core.specs.declared.raw.Latch.{Latch}
use Rattle.net_core.specs.declared.raw.RawNet.{RawNet}
use Rattle.net_core.specs.Possible.{ArePossible}
use Rattle.net_core.specs.Run.{IsSettled}
use Rattle.net_core.specs.Sets.{IsIn, IsWithin, first_set, neither, next_sets}
use Rattle.ste_base.specs.Functions.{Function}
use Rattle.net_core.specs.Work.{SymbolicSet, set_at, some_empty}
use Rattle.net_core.proofs.Possible.{itself, one_family}
use Rattle.ste_model.specs.declared.task.Edge.{Edge}
use Rattle.ste_model.specs.declared.task.Graph.{Graph}
use Rattle.ste_model.specs.Edges.{asked_on}
use Rattle.ste_model.specs.GraphTable.{IsFeasible, IsNext, IsReachedWith, IsStateWithin, Takes, VertexState}
use Rattle.ste_model.specs.GraphWork.{SymbolicState, feasible_where, gated_set, given_by, start_state, state_at}
use Rattle.ste_model.specs.Work.{constant_set}
use Rattle.ste_model.proofs.Rounds.{state_trans}
use Rattle.ste_model.proofs.SumsAt.{empty_is}
use Rattle.ste_model.proofs.Unions.{empties, join_least, join_left, join_right, join_sets, next_grows, or_least, sets_trans}
use Rattle.gste_engine.specs.private.Sums.{coming, never_state, summed_at, unions, with_state, with_states}
use Rattle.gste_engine.proofs.Comings.{IsLong, coming_long, coming_split, into, never_long, with_states_long}
use Rattle.gste_engine.proofs.Lists.{unions_long}
use Rattle.gste_engine.proofs.Sets.{no_set}

-- ---- unions under one assignment

module _ (net : RawNet) (bits : List Bool) where
  pub unions_here : (vs ws : List SymbolicSet) → map (set_at bits) (unions vs ws) ≡ join_sets (map (set_at bits) vs) (map (set_at bits) ws)
  unions_here [] ws = refl
  unions_here (v ∷ vs) [] = refl
  unions_here (v ∷ vs) (w ∷ ws) =
      let one : BitSet = record { zero = v.zero bits || w.zero bits; one = v.one bits || w.one bits } in
      ap (λ (xs : List BitSet). one ∷ xs) (unions_here vs ws)

  here_long : (x y : SymbolicState) → IsLong net x → IsLong net y → length (map (set_at bits) x.latches) ≡ length (map (set_at bits) y.latches)
  here_long x y hx hy = length-map x.latches (set_at bits) ∙ hx ∙ sym hy ∙ sym (length-map y.latches (set_at bits))

  more_long : (x y : SymbolicState) → IsLong net x → IsLong net y → IsLong net (with_state x y)
  more_long x y hx hy = unions_long x.latches y.latches (hx ∙ sym hy) ∙ hy

  first_within : (x y : SymbolicState) → IsLong net x → IsLong net y → IsStateWithin (state_at bits x) (state_at bits (with_state x y))
  first_within x y hx hy = (
    λ h. or_left (x.reached bits) (y.reached bits) h,
    subst (λ (xs : List BitSet). AllZip IsWithin (map (set_at bits) x.latches) xs) (sym (unions_here x.latches y.latches)) (join_left (map (set_at bits) x.latches) (map (set_at bits) y.latches) (here_long x y hx hy)),
  )

  second_within : (x y : SymbolicState) → IsLong net x → IsLong net y → IsStateWithin (state_at bits y) (state_at bits (with_state x y))
  second_within x y hx hy = (
    λ h. or_right (x.reached bits) (y.reached bits) h,
    subst (λ (xs : List BitSet). AllZip IsWithin (map (set_at bits) y.latches) xs) (sym (unions_here x.latches y.latches)) (join_right (map (set_at bits) x.latches) (map (set_at bits) y.latches) (here_long x y hx hy)),
  )

  sum_grows : (x : SymbolicState) (ys : List SymbolicState) → IsLong net x → All (IsLong net) ys → IsStateWithin (state_at bits x) (state_at bits (with_states x ys))
  sum_grows x [] hx all = (λ h. h, itself (map (set_at bits) x.latches))
  sum_grows x (y ∷ ys) hx all =
      let hy = All-head (IsLong net) y ys all in
      state_trans (state_at bits x) (state_at bits (with_state x y)) (state_at bits (with_states x (y ∷ ys))) (first_within x y hx hy) (sum_grows (with_state x y) ys (more_long x y hx hy) (All-tail (IsLong net) y ys all))

  -- what comes is within the sum
  sum_has : (x : SymbolicState) (pre post : List SymbolicState) (y : SymbolicState) → IsLong net x → All (IsLong net) (pre ++ y ∷ post) → IsStateWithin (state_at bits y) (state_at bits (with_states x (pre ++ y ∷ post)))
  sum_has x [] post y hx all =
      let hy = All-head (IsLong net) y post all in
      state_trans (state_at bits y) (state_at bits (with_state x y)) (state_at bits (with_states x (y ∷ post))) (second_within x y hx hy) (sum_grows (with_state x y) post (more_long x y hx hy) (All-tail (IsLong net) y post all))
  sum_has x (z ∷ pre) post y hx all =
      let hz = All-head (IsLong net) z (pre ++ y ∷ post) all in
      sum_has (with_state x z) pre post y (more_long x z hx hz) (All-tail (IsLong net) z (pre ++ y ∷ post) all)

  -- and the sum is within whatever all of it is
  sum_least : (x : SymbolicState) (ys : List SymbolicState) (other : VertexState) → IsStateWithin (state_at bits x) other → All (λ y. IsStateWithin (state_at bits y) other) ys → IsStateWithin (state_at bits (with_states x ys)) other
  sum_least x [] other h all = h
  sum_least x (y ∷ ys) other h all =
      let here = All-head (λ (z : SymbolicState). IsStateWithin (state_at bits z) other) y ys all in
      let joined : IsStateWithin (state_at bits (with_state x y)) other = (
        λ e. or_least (x.reached bits) (y.reached bits) h.0 here.0 e,
        subst (λ (xs : List BitSet). AllZip IsWithin xs other.latches) (sym (unions_here x.latches y.latches)) (join_least (map (set_at bits) x.latches) (map (set_at bits) y.latches) other.latches h.1 here.1),
      ) in
      sum_least (with_state x y) ys other joined (All-tail (λ (z : SymbolicState). IsStateWithin (state_at bits z) other) y ys all)

  -- ---- what an edge gives

  and_one : (a b : Bool) → b ≡ true → (a && b) ≡ a
  and_one true true e = refl
  and_one false true e = refl
  and_one a false e = absurd (cc e)

  and_none : (a b : Bool) → b ≡ false → (a && b) ≡ false
  and_none true false e = refl
  and_none false false e = refl
  and_none a true e = absurd (cc e)

  set_same : (a b c d : Bool) → a ≡ c → b ≡ d → ◌≡◌ {A = BitSet} (record { zero = a; one = b }) (record { zero = c; one = d })
  set_same a b c d e f = cc

  all_given : (f : Function) (sets : ℕ → SymbolicSet) (latches : List Latch) → f bits ≡ true → map (set_at bits) (map (λ latch. gated_set (sets latch.input.0) f) latches) ≡ map (λ latch. set_at bits (sets latch.input.0)) latches
  all_given f sets [] e = refl
  all_given f sets (l ∷ ls) e =
      let w : SymbolicSet = sets l.input.0 in
      ap (λ (x : BitSet). x ∷ map (set_at bits) (map (λ latch. gated_set (sets latch.input.0) f) ls)) (set_same (w.zero bits && f bits) (w.one bits && f bits) (w.zero bits) (w.one bits) (and_one (w.zero bits) (f bits) e) (and_one (w.one bits) (f bits) e))
      ∙ ap (λ (xs : List BitSet). set_at bits w ∷ xs) (all_given f sets ls e)

  pub none_given : (f : Function) (sets : ℕ → SymbolicSet) (latches : List Latch) → f bits ≡ false → map (set_at bits) (map (λ latch. gated_set (sets latch.input.0) f) latches) ≡ map (λ latch. neither) latches
  none_given f sets [] e = refl
  none_given f sets (l ∷ ls) e =
      let w : SymbolicSet = sets l.input.0 in
      ap (λ (x : BitSet). x ∷ map (set_at bits) (map (λ latch. gated_set (sets latch.input.0) f) ls)) (set_same (w.zero bits && f bits) (w.one bits && f bits) false false (and_none (w.zero bits) (f bits) e) (and_none (w.one bits) (f bits) e))
      ∙ ap (λ (xs : List BitSet). neither ∷ xs) (none_given f sets ls e)

  pub nevers_here : (latches : List Latch) → map (set_at bits) (map (λ latch. no_set) latches) ≡ map (λ latch. neither) latches
  nevers_here [] = refl
  nevers_here (l ∷ ls) = ap (λ (xs : List BitSet). neither ∷ xs) (nevers_here ls)

  firsts_here : (reset : Bool) (latches : List Latch) → map (set_at bits) (map (λ latch. constant_set (first_set reset latch)) latches) ≡ map (first_set reset) latches
  firsts_here reset [] = refl
  firsts_here reset (l ∷ ls) = ap (λ (xs : List BitSet). first_set reset l ∷ xs) (firsts_here reset ls)

  is_false : (b : Bool) → (b ≡ true → ⊥) → b ≡ false
  is_false true h = absurd (h refl)
  is_false false h = refl

  module _ (graph : Graph) (settled : IsSettled net) (states : ℕ → SymbolicState) (sets : Edge → ℕ → SymbolicSet) (possible : All (λ edge. ArePossible net (state_at bits (states edge.from)).latches (asked_on edge bits) (λ id. set_at bits (sets edge id))) graph.edges) where
    abbrev now : ℕ → VertexState
    now vertex = state_at bits (states vertex)

    abbrev given : Edge → SymbolicState
    given edge = given_by net (states edge.from) (sets edge)

    abbrev family : Edge → ℕ → BitSet
    family edge id = set_at bits (sets edge id)

    abbrev feasible : Edge → Bool
    feasible edge = feasible_where net (states edge.from) (sets edge) bits

    given_long : (edge : Edge) → IsLong net (given edge)
    given_long edge = length-map net.latches (λ latch. gated_set (sets edge latch.input.0) (feasible_where net (states edge.from) (sets edge)))

    module _ (edge : Edge) (here : ArePossible net (now edge.from).latches (asked_on edge bits) (family edge)) where
      -- where its function is 1 the edge is feasible
      feasible_is : IsTrue (feasible edge) → IsFeasible net bits now edge (family edge)
      feasible_is h =
          let p = and_parts ((states edge.from).reached bits) (not (some_empty net (sets edge) bits)) h in
          record { reached = p.0; possible = here; full = λ none. both_ways (some_empty net (sets edge) bits) (not-true (some_empty net (sets edge) bits) p.1) ((empty_is net (sets edge) bits).1 none) }

      same_family : (other : ℕ → BitSet) → IsFeasible net bits now edge other → (id : ℕ) → other id ≡ family edge id
      same_family other f id = one_family net (now edge.from).latches (asked_on edge bits) settled other (family edge) f.possible here id

      -- and where it is feasible it is 1
      is_feasible : (other : ℕ → BitSet) → IsFeasible net bits now edge other → IsTrue (feasible edge)
      is_feasible other f =
          let empty = some_empty net (sets edge) bits in
          and_from ((states edge.from).reached bits) (not empty) f.reached
          (not_from_false empty (is_false empty (λ e. let none = (empty_is net (sets edge) bits).0 e in f.full (none.0, none.1, same_family other f none.0 ∙ none.2))))

      -- what it gives is within what takes it
      given_within : (state : VertexState) → length state.latches ≡ length net.latches → ((other : ℕ → BitSet) → IsFeasible net bits now edge other → IsReachedWith (next_sets net other) state) → IsStateWithin (state_at bits (given edge)) state
      given_within state long takes = by (feasible edge) refl
        where
          by : (b : Bool) → feasible edge ≡ b → IsStateWithin (state_at bits (given edge)) state
          by true e =
              let t = takes (family edge) (feasible_is e) in
              (λ h. t.0, subst (λ (xs : List BitSet). AllZip IsWithin xs state.latches) (sym (all_given (feasible_where net (states edge.from) (sets edge)) (sets edge) net.latches e)) t.1)
          by false e =
              (λ h. absurd (let f : true ≡ false = sym h ∙ e in cc f), subst (λ (xs : List BitSet). AllZip IsWithin xs state.latches) (sym (none_given (feasible_where net (states edge.from) (sets edge)) (sets edge) net.latches e)) (empties net.latches state.latches long))

      -- and where it is feasible, it gives the next sets
      gives_next : (other : ℕ → BitSet) → IsFeasible net bits now edge other → (state : VertexState) → IsStateWithin (state_at bits (given edge)) state → IsReachedWith (next_sets net other) state
      gives_next other f state within =
          let e = is_feasible other f in
          let grown = next_grows other (family edge) (λ id bit i. subst (IsIn bit) (same_family other f id) i) net.latches in
          (within.0 e, sets_trans (next_sets net other) (next_sets net (family edge)) state.latches grown (subst (λ (xs : List BitSet). AllZip IsWithin xs state.latches) (all_given (feasible_where net (states edge.from) (sets edge)) (sets edge) net.latches e) within.1))

    abbrev sums : ℕ → SymbolicState
    sums vertex = summed_at net graph.reset given graph.edges vertex

    longs : (vertex : ℕ) → All (IsLong net) (coming net graph.reset given graph.edges vertex)
    longs vertex = coming_long net graph.reset given vertex graph.edges (λ k d l. given_long (get_or graph.edges k d))

    pub sums_long : (vertex : ℕ) → IsLong net (sums vertex)
    sums_long vertex = with_states_long net (never_state net) (coming net graph.reset given graph.edges vertex) (never_long net) (longs vertex)

    into_within : (vertex : ℕ) (state : VertexState) (edges : List Edge) → ((k : ℕ) (d : Edge) → k < length edges → (get_or edges k d).to ≡ vertex → IsStateWithin (state_at bits (given (get_or edges k d))) state) → All (λ y. IsStateWithin (state_at bits y) state) (into given vertex edges)
    into_within vertex state [] h = All-nil (λ (y : SymbolicState). IsStateWithin (state_at bits y) state)
    into_within vertex state (edge ∷ edges) h = by (edge.to == vertex) refl (into_within vertex state edges (λ k d l e. h (suc k) d (omega (arith, l)) e))
      where
        by : (b : Bool) → (edge.to == vertex) ≡ b → All (λ y. IsStateWithin (state_at bits y) state) (into given vertex edges)
            → All (λ y. IsStateWithin (state_at bits y) state) (map given (if b then edge ∷ filter (λ (e : Edge). e.to == vertex) edges else filter (λ (e : Edge). e.to == vertex) edges))
        by true e rest = All-cons (λ (y : SymbolicState). IsStateWithin (state_at bits y) state) (given edge) (into given vertex edges) (h 0 edge (omega arith) (eqb-true edge.to vertex e)) rest
        by false e rest = rest

    append_all : {X : Type 0} (P : X → Type 0) (xs ys : List X) → All P xs → All P ys → All P (xs ++ ys)
    append_all P [] ys h g = g
    append_all P (x ∷ xs) ys h g = All-cons P x (xs ++ ys) (All-head P x xs h) (append_all P xs ys (All-tail P x xs h) g)

    coming_within : (other : ℕ → VertexState) → Takes net graph bits now other → (vertex : ℕ) → All (λ y. IsStateWithin (state_at bits y) (other vertex)) (coming net graph.reset given graph.edges vertex)
    coming_within other takes vertex = append_all (λ (y : SymbolicState). IsStateWithin (state_at bits y) (other vertex)) (if vertex == 0 then start_state net graph.reset ∷ [] else []) (into given vertex graph.edges) (start (vertex == 0) refl) (into_within vertex (other vertex) graph.edges rest)
      where
        start : (b : Bool) → (vertex == 0) ≡ b → All (λ y. IsStateWithin (state_at bits y) (other vertex)) (if b then start_state net graph.reset ∷ [] else [])
        start true e = All-cons (λ (y : SymbolicState). IsStateWithin (state_at bits y) (other vertex)) (start_state net graph.reset) []
            (subst (λ (v : ℕ). IsStateWithin (state_at bits (start_state net graph.reset)) (other v)) (sym (eqb-true vertex 0 e))
            (λ h. takes.start.0, subst (λ (xs : List BitSet). AllZip IsWithin xs (other 0).latches) (sym (firsts_here graph.reset net.latches)) takes.start.1))
            (All-nil (λ (y : SymbolicState). IsStateWithin (state_at bits y) (other vertex)))
        start false e = All-nil (λ (y : SymbolicState). IsStateWithin (state_at bits y) (other vertex))

        rest : (k : ℕ) (d : Edge) → k < length graph.edges → (get_or graph.edges k d).to ≡ vertex → IsStateWithin (state_at bits (given (get_or graph.edges k d))) (other vertex)
        rest k d l e = given_within (get_or graph.edges k d) (possible k d l) (other vertex) (takes.long vertex)
            (λ family f. subst (λ (v : ℕ). IsReachedWith (next_sets net family) (other v)) e (takes.edges k d l family f))

    pub sums_next : IsNext net graph bits now (λ vertex. state_at bits (sums vertex))
    sums_next = record {
      takes = record {
        long = λ vertex. length-map (sums vertex).latches (set_at bits) ∙ sums_long vertex;
        start =
            let starts : IsStateWithin (state_at bits (start_state net graph.reset)) (state_at bits (sums 0)) = sum_has (never_state net) [] (into given 0 graph.edges) (start_state net graph.reset) (never_long net) (longs 0) in
            (starts.0 refl, subst (λ (xs : List BitSet). AllZip IsWithin xs (map (set_at bits) (sums 0).latches)) (firsts_here graph.reset net.latches) starts.1);
        edges = λ k d l other f.
            let edge = get_or graph.edges k d in
            let pre = coming net graph.reset given (take k graph.edges) edge.to in
            let post = into given edge.to (drop (suc k) graph.edges) in
            let split = coming_split given edge.to net graph.reset graph.edges k d l refl in
            gives_next edge (possible k d l) other f (state_at bits (sums edge.to))
            (subst (λ (xs : List SymbolicState). IsStateWithin (state_at bits (given edge)) (state_at bits (with_states (never_state net) xs))) (sym split)
            (sum_has (never_state net) pre post (given edge) (never_long net) (subst (All (IsLong net)) split (longs edge.to))));
      };
      least = λ other takes vertex.
          sum_least (never_state net) (coming net graph.reset given graph.edges vertex) (other vertex)
          (λ h. absurd (cc h), subst (λ (xs : List BitSet). AllZip IsWithin xs (other vertex).latches) (sym (nevers_here net.latches)) (empties net.latches (other vertex).latches (takes.long vertex)))
          (coming_within other takes vertex);
    }
