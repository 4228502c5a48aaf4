-- The table after so many rounds; after enough it is the least closed one.
use Rattle.std.proofs.Common.{◌≡◌, ℕ, ◌+◌, suc, Bool, List, get_or, arith, sym, subst, ◌∙◌}
use Rattle.std.specs.Prelude.{All, Some, None}
use Rattle.std.proofs.lemmas.Bool.{both_ways}
use Rattle.net_core.specs.declared.bit_set.BitSet.{BitSet}
use Rattle.net_core.specs.declared.raw.RawNet.{RawNet}
use Rattle.net_core.specs.Run.{IsSettled}
use Rattle.ste_model.specs.declared.task.Graph.{Graph}
use Rattle.ste_model.specs.Edges.{IsGraph}
use Rattle.ste_model.specs.GraphTable.{AreRounds, IsFeasible, IsLeastClosed, IsNext, VertexState, enough}
use Rattle.ste_model.proofs.NextRound.{some_rounds}
use Rattle.ste_model.proofs.Rounds.{settle_all, states_alike}
use Rattle.plain_check.specs.States.{start, state_of}
use Rattle.plain_check.proofs.OneRound.{start_next}

-- the table is that of round n
abbrev pub IsRound : RawNet → Graph → List Bool → ℕ → (ℕ → VertexState) → Type 0
IsRound net graph bits n table = (rounds : ℕ → ℕ → VertexState) → AreRounds net graph bits rounds → (vertex : ℕ) → table vertex ≡ rounds n vertex

same_next : (net : RawNet) (graph : Graph) (bits : List Bool) (now one other : ℕ → VertexState) → IsNext net graph bits now one → IsNext net graph bits now other → (vertex : ℕ) → one vertex ≡ other vertex
same_next net graph bits now one other p q vertex = states_alike (one vertex) (other vertex) (p.least other q.takes vertex) (q.least one p.takes vertex)

-- the start is the first round, since nothing is reached before
pub first_round : (net : RawNet) (graph : Graph) (bits : List Bool) (table : ℕ → VertexState) → table 0 ≡ state_of net (Some (start net graph.reset)) → ((vertex : ℕ) → table (suc vertex) ≡ state_of net None) → IsRound net graph bits 1 table
first_round net graph bits table first others rounds are vertex =
    let none : All (λ edge. (sets : ℕ → BitSet) → ¬ IsFeasible net bits (rounds 0) edge sets) graph.edges =
    λ k d l sets f. both_ways (rounds 0 (get_or graph.edges k d).from).reached (are.start (get_or graph.edges k d).from).reached f.reached in
    same_next net graph bits (rounds 0) table (rounds 1) (start_next net graph bits (rounds 0) table first others graph.edges none) (are.next 0) vertex

pub next_round : (net : RawNet) (graph : Graph) (bits : List Bool) (n : ℕ) (table next : ℕ → VertexState) → IsRound net graph bits n table → IsNext net graph bits table next → IsRound net graph bits (n + 1) next
next_round net graph bits n table next is step rounds are vertex =
    let path : table ≡ rounds n = λ i v. is rounds are v i in
    let e : suc n ≡ n + 1 = omega arith in
    same_next net graph bits (rounds n) next (rounds (suc n)) (subst (λ (t : ℕ → VertexState). IsNext net graph bits t next) path step) (are.next n) vertex
    ∙ (λ i. rounds (e i) vertex)

pub last_round : (net : RawNet) (graph : Graph) (bits : List Bool) (n : ℕ) (table : ℕ → VertexState) → IsSettled net → IsGraph graph → n ≡ enough net graph → IsRound net graph bits n table → IsLeastClosed net graph bits table
last_round net graph bits n table settled good e is =
    let made = some_rounds net graph bits settled in
    let path : made.0 n ≡ table = λ i v. sym (is made.0 made.1 v) i in
    subst (IsLeastClosed net graph bits) path (subst (λ (k : ℕ). IsLeastClosed net graph bits (made.0 k)) (sym e) (settle_all net graph bits made.0 settled good made.1))
