-- What hops say of the edges of a graph, and the outcome from them.
use Rattle.std.proofs.Common.{◌≡◌, ℕ, Bool, true, false, not, List, [], ◌∷◌, get_or, sym, refl, subst, ◌∙◌, inl, inr}
use Rattle.std.specs.Prelude.{All, Any, IsTrue, ◌↔◌, None, if◌then◌else◌}
use Rattle.std.specs.List.{AllZip, list_any}
use Rattle.std.proofs.lemmas.Bool.{both_ways, or_cases, or_left, or_right}
use Rattle.std.proofs.lemmas.List.{get_or_default}
use Rattle.net_core.specs.declared.bit_set.BitSet.{BitSet}
use Rattle.net_core.specs.declared.raw.RawNet.{RawNet}
use Rattle.net_core.specs.Run.{Cut, IsSettled}
use Rattle.ste_model.specs.declared.task.Edge.{Edge}
use Rattle.ste_model.specs.declared.task.Graph.{Graph}
use Rattle.ste_model.specs.Edges.{bind_at}
use Rattle.ste_model.specs.GraphFound.{FailsOn, IsGraphContradictory, IsGraphFound}
use Rattle.ste_model.specs.GraphTable.{IsFeasible, IsLeastClosed, VertexState}
use Rattle.ste_model.proofs.GraphVerdicts.{fails_in, found_in}
use Rattle.ste_model.proofs.Rounds.{least_alike}
use Rattle.ste_model.proofs.SumsAt.{any_cases, any_first, any_later, any_none}
use Rattle.plain_check.specs.declared.found.Failure.{Failure}
use Rattle.plain_check.specs.declared.found.Failure.TheVariants as failure
use Rattle.plain_check.specs.declared.found.Outcome.TheVariants.{Contradictory, Strong, Weak, Fine}
use Rattle.plain_check.specs.declared.hops.Hop.{Hop}
use Rattle.plain_check.specs.private.Hops.{AreHops, IsGraphOutcome, IsHopOf, fails_of, hop_fails, is_feasible, outcome_of}
use Rattle.plain_check.specs.private.Outcome.{bind_fails}
use Rattle.plain_check.specs.private.Sets.{set_at}
use Rattle.plain_check.specs.States.{IsEdgeRow}
use Rattle.plain_check.proofs.Outcomes.{any_of_map, fails_is, map_any_at, says}

abbrev pub the_hop : ℕ → ℕ → Bool → Bool → Bool → Hop
the_hop from to feasible strong weak = record { from = from; to = to; feasible = feasible; strong = strong; weak = weak }

abbrev pub Named : Failure → (ℕ → BitSet) → Cut → Type 0
Named how sets cut = says how (sets cut.node) cut

-- the two names of a way to fail
pub by_name : (how : Failure) (net : RawNet) (bits : List Bool) (table : ℕ → VertexState) (edge : Edge) → FailsOn (Named how) net bits table edge ↔ FailsOn (fails_of how) net bits table edge
by_name failure.Strong net bits table edge = (λ h. h, λ h. h)
by_name failure.Weak net bits table edge = (λ h. h, λ h. h)

module _ (net : RawNet) (bits : List Bool) (table : ℕ → VertexState) (edge : Edge) where
  off : (how : Failure) → hop_fails how (the_hop edge.from edge.to false false false) ≡ false
  off failure.Strong = refl
  off failure.Weak = refl

  pub none_hop : IsEdgeRow net bits table edge None → IsHopOf net bits table edge (the_hop edge.from edge.to false false false)
  none_hop none = record {
    from = refl;
    to = refl;
    feasible = (λ h. absurd (cc h), λ f. absurd (none f.0 f.1));
    fails = λ how. (λ h. absurd (both_ways (hop_fails how (the_hop edge.from edge.to false false false)) (off how) h), λ f. absurd (none f.0 f.1));
  }

  module _ (settled : IsSettled net) (row : List BitSet) (feasible : IsFeasible net bits table edge (set_at row)) where
    found : (how : Failure) → IsTrue (list_any (bind_fails how row bits) edge.con) → FailsOn (Named how) net bits table edge
    found how h = (set_at row, feasible, any_of_map (bind_at bits) (λ cut. says how (set_at row cut.node) cut) (bind_fails how row bits) (λ bind e. (fails_is how (set_at row) (bind_at bits bind)).0 e) edge.con h)

    back : (how : Failure) → FailsOn (Named how) net bits table edge → IsTrue (list_any (bind_fails how row bits) edge.con)
    back how f =
        let any = fails_in (says how) net bits settled table edge (set_at row) feasible f in
        map_any_at (bind_at bits) (λ cut. says how (set_at row cut.node) cut) (bind_fails how row bits) (λ bind e. (fails_is how (set_at row) (bind_at bits bind)).1 e) edge.con any.0 any.1 any.2 any.3 any.4

    pub fails_here : (how : Failure) → IsTrue (list_any (bind_fails how row bits) edge.con) ↔ FailsOn (fails_of how) net bits table edge
    fails_here how = (λ h. (by_name how net bits table edge).0 (found how h), λ f. back how ((by_name how net bits table edge).1 f))

    says_so : (how : Failure) (strong weak : Bool) → strong ≡ list_any (bind_fails failure.Strong row bits) edge.con → weak ≡ list_any (bind_fails failure.Weak row bits) edge.con → hop_fails how (the_hop edge.from edge.to true strong weak) ≡ list_any (bind_fails how row bits) edge.con
    says_so failure.Strong strong weak s w = s
    says_so failure.Weak strong weak s w = w

    pub some_hop : (strong weak : Bool) → strong ≡ list_any (bind_fails failure.Strong row bits) edge.con → weak ≡ list_any (bind_fails failure.Weak row bits) edge.con → IsHopOf net bits table edge (the_hop edge.from edge.to true strong weak)
    some_hop strong weak s w = record {
      from = refl;
      to = refl;
      feasible = (λ h. (set_at row, feasible), λ f. refl);
      fails = λ how. let e = says_so how strong weak s w in let h = fails_here how in (λ t. h.0 (sym e ∙ t), λ f. e ∙ h.1 f);
    }

-- ---- all edges

-- a test of the hops, and what it says of the edges
some_hop_is : (R : Edge → Hop → Type 0) (p : Hop → Bool) (P : Edge → Type 0) → ((edge : Edge) (hop : Hop) → R edge hop → IsTrue (p hop) ↔ P edge) → (edges : List Edge) (hops : List Hop) → AllZip R edges hops → IsTrue (list_any p hops) ↔ Any P edges
some_hop_is R p P means [] [] are = (λ h. absurd (cc h), λ any. absurd (any_none P any))
some_hop_is R p P means [] (hop ∷ hops) are = absurd are
some_hop_is R p P means (edge ∷ edges) [] are = absurd are
some_hop_is R p P means (edge ∷ edges) (hop ∷ hops) are =
    let here = means edge hop are.0 in
    let rest = some_hop_is R p P means edges hops are.1 in (
      λ h. elim (or_cases (p hop) (list_any p hops) h) [ inl one ↦ any_first P edge edges (here.0 one) | inr other ↦ any_later P edge edges (rest.0 other) ],
      λ any. elim (any_cases P edge edges any) [ inl one ↦ or_left (p hop) (list_any p hops) (here.1 one) | inr other ↦ or_right (p hop) (list_any p hops) (rest.1 other) ],
    )

module _ (net : RawNet) (graph : Graph) (bits : List Bool) (settled : IsSettled net) (table : ℕ → VertexState) (least : IsLeastClosed net graph bits table) (hops : List Hop) (are : AreHops net bits table graph.edges hops) where
  abbrev CanTake : Edge → Type 0
  CanTake edge = (sets : ℕ → BitSet) × IsFeasible net bits table edge sets

  feasible_is : IsTrue (list_any is_feasible hops) ↔ Any CanTake graph.edges
  feasible_is = some_hop_is (IsHopOf net bits table) is_feasible CanTake (λ edge hop is. is.feasible) graph.edges hops are

  fails_is_any : (how : Failure) → IsTrue (list_any (hop_fails how) hops) ↔ Any (FailsOn (fails_of how) net bits table) graph.edges
  fails_is_any how = some_hop_is (IsHopOf net bits table) (hop_fails how) (FailsOn (fails_of how) net bits table) (λ edge hop is. is.fails how) graph.edges hops are

  -- what is found is found in this table
  found_here : (how : Failure) → IsGraphFound (fails_of how) net graph bits → Any (FailsOn (fails_of how) net bits table) graph.edges
  found_here failure.Strong found = found_in (says failure.Strong) net bits settled graph table least found
  found_here failure.Weak found = found_in (says failure.Weak) net bits settled graph table least found

  pub found_is : (how : Failure) → IsTrue (list_any (hop_fails how) hops) → IsGraphFound (fails_of how) net graph bits
  found_is how h = (table, least, (fails_is_any how).0 h)

  pub found_not : (how : Failure) → list_any (hop_fails how) hops ≡ false → ¬ IsGraphFound (fails_of how) net graph bits
  found_not how none found = both_ways (list_any (hop_fails how) hops) none ((fails_is_any how).1 (found_here how found))

  none_feasible : list_any is_feasible hops ≡ false → IsGraphContradictory net graph bits
  none_feasible none = (table, least, λ k d l sets f. both_ways (list_any is_feasible hops) none (feasible_is.1 (k, get_or graph.edges k d, l, get_or_default graph.edges k (get_or graph.edges k d) d l, (sets, f))))

  not_contradictory : list_any is_feasible hops ≡ true → ¬ IsGraphContradictory net graph bits
  not_contradictory some c =
      let any = feasible_is.0 some in
      let none = subst (λ (t : ℕ → VertexState). All (λ edge. (sets : ℕ → BitSet) → ¬ IsFeasible net bits t edge sets) graph.edges) (least_alike net graph bits c.0 table c.1 least) c.2 in
      subst (λ (edge : Edge). (sets : ℕ → BitSet) → ¬ IsFeasible net bits table edge sets) any.3 (none any.0 any.1 any.2) any.4.0 any.4.1

  pub outcome_is : IsGraphOutcome net graph bits (outcome_of hops)
  outcome_is = by (list_any is_feasible hops) (list_any (hop_fails failure.Strong) hops) (list_any (hop_fails failure.Weak) hops) refl refl refl
    where
      by : (f s w : Bool) → list_any is_feasible hops ≡ f → list_any (hop_fails failure.Strong) hops ≡ s → list_any (hop_fails failure.Weak) hops ≡ w → IsGraphOutcome net graph bits (if not f then Contradictory else if s then Strong else if w then Weak else Fine)
      by false s w e a b = none_feasible e
      by true true w e a b = found_is failure.Strong a
      by true false true e a b = (found_not failure.Strong a, found_is failure.Weak b)
      by true false false e a b = (not_contradictory e, found_not failure.Strong a, λ weak. found_not failure.Weak b weak.1)
