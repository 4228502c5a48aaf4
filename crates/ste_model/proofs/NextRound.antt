-- There are rounds: the next table is made edge by edge.
use Rattle.std.proofs.Common.{◌≡◌, ℕ, zero, suc, Bool, true, List, [], ◌∷◌, length, get_or, arith, sym, refl, subst, ◌∙◌}
use Rattle.std.specs.Prelude.{All}
use Rattle.std.proofs.Math.Decide.{ℕ_discrete}
use Rattle.std.proofs.lemmas.List.{length-map}
use Rattle.net_core.specs.declared.bit_set.BitSet.{BitSet}
use Rattle.net_core.specs.declared.raw.RawNet.{RawNet}
use Rattle.net_core.specs.Run.{IsSettled}
use Rattle.net_core.specs.Sets.{IsEmptyAt, IsIn, first_set, first_sets, neither, next_sets}
use Rattle.net_core.proofs.Possible.{and_or_not, itself, not_or_not, one_family, same_or_not, some_family}
use Rattle.ste_model.specs.declared.task.Edge.{Edge}
use Rattle.ste_model.specs.declared.task.Graph.{Graph}
use Rattle.ste_model.specs.Edges.{IsGraph, asked_on}
use Rattle.ste_model.specs.GraphTable.{AreRounds, IsFeasible, IsLeastClosed, IsNext, IsReachedWith, IsStateWithin, IsTableWithin, OneLeastClosed, RoundsSettle, VertexState, enough}
use Rattle.ste_model.proofs.Decisions.{below_or_not, set_or_not}
use Rattle.ste_model.proofs.Rounds.{nothing, nothing_within_all, same_least, same_rounds, settle_all}
use Rattle.ste_model.proofs.Unions.{all_neither, join_least, join_left, join_long, join_right, join_sets, next_grows, sets_trans}

module _ (net : RawNet) (graph : Graph) (bits : List Bool) (settled : IsSettled net) where
  empty_or_not : (sets : ℕ → BitSet) → Dec (IsEmptyAt net sets)
  empty_or_not sets = below_or_not (λ id. sets id ≡ neither) (λ id. set_or_not (sets id) neither) net.nets

  feasible_here : (now : ℕ → VertexState) (edge : Edge) → Dec (length (now edge.from).latches ≡ length net.latches) → Dec ((sets : ℕ → BitSet) × IsFeasible net bits now edge sets)
  feasible_here now edge (no short) = no (λ f. short f.1.possible.long)
  feasible_here now edge (yes long) =
      let asked = asked_on edge bits in
      let family = some_family net (now edge.from).latches asked settled long in
      elim (and_or_not (same_or_not (now edge.from).reached true) (not_or_not (empty_or_not family.0))) [
        | yes h ↦ yes (family.0, record { reached = h.0; possible = family.1; full = h.1 })
        | no h ↦ no (λ f. h (f.1.reached, λ empty. f.1.full (empty.0, empty.1, one_family net (now edge.from).latches asked settled f.0 family.0 f.1.possible family.1 empty.0 ∙ empty.2)))
      ]

  pub feasible_or_not : (now : ℕ → VertexState) (edge : Edge) → Dec ((sets : ℕ → BitSet) × IsFeasible net bits now edge sets)
  feasible_or_not now edge = feasible_here now edge (ℕ_discrete (length (now edge.from).latches) (length net.latches))

  pub with_sets : List BitSet → VertexState → VertexState
  with_sets sets state = record { reached = true; latches = join_sets sets state.latches }

  unfoldable pub arrive : {A : Type 0} {P : (ℕ → BitSet) → Type 0} → VertexState → Dec A → Dec ((sets : ℕ → BitSet) × P sets) → VertexState
  arrive state (yes e) (yes f) = with_sets (next_sets net f.0) state
  arrive state (yes e) (no f) = state
  arrive state (no e) f = state

  unfoldable pub begin : {A : Type 0} → Dec A → VertexState
  begin (yes e) = record { reached = true; latches = first_sets net graph.reset }
  begin (no e) = nothing net graph bits

  unfoldable pub next_from : (ℕ → VertexState) → List Edge → ℕ → VertexState
  next_from now [] vertex = begin (ℕ_discrete vertex 0)
  next_from now (edge ∷ edges) vertex = arrive (next_from now edges vertex) (ℕ_discrete edge.to vertex) (feasible_or_not now edge)

  begin_long : {A : Type 0} (d : Dec A) → length (begin d).latches ≡ length net.latches
  unfolding begin nothing
  begin_long (yes e) = length-map net.latches (first_set graph.reset)
  begin_long (no e) = length-map net.latches (λ latch. neither)

  arrive_long : {A : Type 0} {P : (ℕ → BitSet) → Type 0} (state : VertexState) (d : Dec A) (f : Dec ((sets : ℕ → BitSet) × P sets)) → length state.latches ≡ length net.latches → length (arrive state d f).latches ≡ length net.latches
  unfolding arrive with_sets
  arrive_long state (yes e) (yes f) long = join_long (next_sets net f.0) state.latches (length-map net.latches (λ latch. f.0 latch.input.0) ∙ sym long) ∙ long
  arrive_long state (yes e) (no f) long = long
  arrive_long state (no e) f long = long

  arrive_keeps : {A : Type 0} {P : (ℕ → BitSet) → Type 0} (state : VertexState) (d : Dec A) (f : Dec ((sets : ℕ → BitSet) × P sets)) → length state.latches ≡ length net.latches → IsStateWithin state (arrive state d f)
  unfolding arrive with_sets
  arrive_keeps state (yes e) (yes f) long = (λ h. refl, join_right (next_sets net f.0) state.latches (length-map net.latches (λ latch. f.0 latch.input.0) ∙ sym long))
  arrive_keeps state (yes e) (no f) long = (λ h. h, itself state.latches)
  arrive_keeps state (no e) f long = (λ h. h, itself state.latches)

  arrive_takes : (now : ℕ → VertexState) (edge : Edge) (vertex : ℕ) (state : VertexState) (d : Dec (edge.to ≡ vertex)) (f : Dec ((sets : ℕ → BitSet) × IsFeasible net bits now edge sets)) → length state.latches ≡ length net.latches → edge.to ≡ vertex → (sets : ℕ → BitSet) → IsFeasible net bits now edge sets → IsReachedWith (next_sets net sets) (arrive state d f)
  unfolding arrive with_sets
  arrive_takes now edge vertex state (yes e) (yes f) long here sets feasible = (
    refl,
    sets_trans _ _ _ (next_grows sets f.0 (λ id bit i. subst (IsIn bit) (one_family net (now edge.from).latches (asked_on edge bits) settled sets f.0 feasible.possible f.1.possible id) i) net.latches)
        (join_left (next_sets net f.0) state.latches (length-map net.latches (λ latch. f.0 latch.input.0) ∙ sym long)),
  )
  arrive_takes now edge vertex state (yes e) (no f) long here sets feasible = absurd (f (sets, feasible))
  arrive_takes now edge vertex state (no e) f long here sets feasible = absurd (e here)

  arrive_least : (now : ℕ → VertexState) (edge : Edge) (vertex : ℕ) (state other : VertexState) (d : Dec (edge.to ≡ vertex)) (f : Dec ((sets : ℕ → BitSet) × IsFeasible net bits now edge sets)) → IsStateWithin state other → (edge.to ≡ vertex → (sets : ℕ → BitSet) → IsFeasible net bits now edge sets → IsReachedWith (next_sets net sets) other) → IsStateWithin (arrive state d f) other
  unfolding arrive with_sets
  arrive_least now edge vertex state other (yes e) (yes f) h takes = let given = takes e f.0 f.1 in (λ r. given.0, join_least (next_sets net f.0) state.latches other.latches given.1 h.1)
  arrive_least now edge vertex state other (yes e) (no f) h takes = h
  arrive_least now edge vertex state other (no e) f h takes = h

  from_long : (now : ℕ → VertexState) (edges : List Edge) (vertex : ℕ) → length (next_from now edges vertex).latches ≡ length net.latches
  unfolding next_from
  from_long now [] vertex = begin_long (ℕ_discrete vertex 0)
  from_long now (edge ∷ edges) vertex = arrive_long (next_from now edges vertex) (ℕ_discrete edge.to vertex) (feasible_or_not now edge) (from_long now edges vertex)

  begin_starts : (d : Dec (◌≡◌ {A = ℕ} 0 0)) → IsReachedWith (first_sets net graph.reset) (begin d)
  unfolding begin
  begin_starts (yes e) = (refl, itself (first_sets net graph.reset))
  begin_starts (no e) = absurd (e refl)

  from_starts : (now : ℕ → VertexState) (edges : List Edge) → IsReachedWith (first_sets net graph.reset) (next_from now edges 0)
  unfolding next_from
  from_starts now [] = begin_starts (ℕ_discrete 0 0)
  from_starts now (edge ∷ edges) =
      let before = from_starts now edges in
      let kept = arrive_keeps (next_from now edges 0) (ℕ_discrete edge.to 0) (feasible_or_not now edge) (from_long now edges 0) in
      (kept.0 before.0, sets_trans _ _ _ before.1 kept.1)

  from_takes : (now : ℕ → VertexState) (edges : List Edge) → All (λ edge. (sets : ℕ → BitSet) → IsFeasible net bits now edge sets → IsReachedWith (next_sets net sets) (next_from now edges edge.to)) edges
  unfolding next_from
  from_takes now [] k d l sets feasible = absurd (omega arith)
  from_takes now (edge ∷ edges) zero d l sets feasible = arrive_takes now edge edge.to (next_from now edges edge.to) (ℕ_discrete edge.to edge.to) (feasible_or_not now edge) (from_long now edges edge.to) refl sets feasible
  from_takes now (edge ∷ edges) (suc k) d l sets feasible =
      let to = (get_or edges k d).to in
      let before = from_takes now edges k d (omega arith) sets feasible in
      let kept = arrive_keeps (next_from now edges to) (ℕ_discrete edge.to to) (feasible_or_not now edge) (from_long now edges to) in
      (kept.0 before.0, sets_trans _ _ _ before.1 kept.1)

  begin_least : (vertex : ℕ) (d : Dec (vertex ≡ 0)) (other : ℕ → VertexState) → length (other vertex).latches ≡ length net.latches → IsReachedWith (first_sets net graph.reset) (other 0) → IsStateWithin (begin d) (other vertex)
  unfolding begin
  begin_least vertex (yes e) other long starts = subst (λ (v : ℕ). IsStateWithin (record { reached = true; latches = first_sets net graph.reset }) (other v)) (sym e) (λ h. starts.0, starts.1)
  begin_least vertex (no e) other long starts = nothing_within_all net graph bits (other vertex) long

  from_least : (now : ℕ → VertexState) (edges : List Edge) (other : ℕ → VertexState) → ((vertex : ℕ) → length (other vertex).latches ≡ length net.latches) → IsReachedWith (first_sets net graph.reset) (other 0) → All (λ edge. (sets : ℕ → BitSet) → IsFeasible net bits now edge sets → IsReachedWith (next_sets net sets) (other edge.to)) edges → IsTableWithin (next_from now edges) other
  unfolding next_from
  from_least now [] other long starts takes vertex = begin_least vertex (ℕ_discrete vertex 0) other (long vertex) starts
  from_least now (edge ∷ edges) other long starts takes vertex =
      arrive_least now edge vertex (next_from now edges vertex) (other vertex) (ℕ_discrete edge.to vertex) (feasible_or_not now edge)
      (from_least now edges other long starts (λ k d l. takes (suc k) d (omega arith)) vertex)
      (λ e sets feasible. subst (λ (v : ℕ). IsReachedWith (next_sets net sets) (other v)) e (takes 0 edge (omega arith) sets feasible))

  pub next_is : (now : ℕ → VertexState) → IsNext net graph bits now (next_from now graph.edges)
  next_is now = record {
    takes = record { long = from_long now graph.edges; start = from_starts now graph.edges; edges = from_takes now graph.edges };
    least = λ other takes. from_least now graph.edges other takes.long takes.start takes.edges;
  }

  made : ℕ → ℕ → VertexState
  made zero vertex = nothing net graph bits
  made (suc n) vertex = next_from (made n) graph.edges vertex

  pub some_rounds : (rounds : ℕ → ℕ → VertexState) × AreRounds net graph bits rounds
  unfolding made nothing
  some_rounds = (
    made,
    record {
      start = λ vertex. record { long = length-map net.latches (λ latch. neither); reached = refl; empty = all_neither net.latches };
      next = λ n. next_is (made n);
    },
  )

-- the least closed table is that of some last round
pub some_least : (net : RawNet) (graph : Graph) (bits : List Bool) → IsSettled net → IsGraph graph → (table : ℕ → VertexState) × IsLeastClosed net graph bits table
some_least net graph bits settled good =
    let made = some_rounds net graph bits settled in
    (made.0 (enough net graph), settle_all net graph bits made.0 settled good made.1)

pub rounds_settle : RoundsSettle
rounds_settle = record { some = some_rounds; same = same_rounds; settle = settle_all }

pub one_least_closed : OneLeastClosed
one_least_closed = record { some = some_least; same = same_least }
