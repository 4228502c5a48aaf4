-- The row of an edge: its possible sets where it is feasible.
use Rattle.std.proofs.Common.{◌≡◌, ℕ, Bool, true, false, List, length, arith, sym, ap, subst, ◌∙◌}
use Rattle.std.specs.Prelude.{None, Some}
use Rattle.std.specs.List.{list_any}
use Rattle.std.proofs.lemmas.Bool.{both_ways}
use Rattle.std.proofs.lemmas.List.{get_or_default}
use Rattle.std.proofs.lemmas.List.Folds.{Any-from_list_any, list_any_at}
use Rattle.net_core.specs.declared.bit_set.BitSet.{BitSet}
use Rattle.net_core.specs.declared.raw.RawNet.{RawNet}
use Rattle.net_core.specs.Possible.{ArePossible}
use Rattle.net_core.specs.Run.{IsSettled}
use Rattle.net_core.specs.Sets.{IsEmptyAt, both}
use Rattle.net_core.proofs.Possible.{one_family}
use Rattle.ste_model.specs.declared.task.Edge.{Edge}
use Rattle.ste_model.specs.Edges.{asked_on}
use Rattle.ste_model.specs.GraphTable.{VertexState}
use Rattle.plain_check.specs.declared.rounds.State.{State}
use Rattle.plain_check.specs.private.Outcome.{is_empty}
use Rattle.plain_check.specs.private.Sets.{set_at}
use Rattle.plain_check.specs.States.{IsEdgeRow, state_of}
use Rattle.plain_check.proofs.Outcomes.{empty_is}

empty_at : (net : RawNet) (row : List BitSet) → length row ≡ net.nets → list_any is_empty row ≡ true → IsEmptyAt net (set_at row)
empty_at net row long h =
    let any = Any-from_list_any is_empty row h in
    (any.0, let l = any.2 in omega arith, get_or_default row any.0 both any.1 any.2 ∙ any.3 ∙ (empty_is any.1).0 any.4)

empty_not : (net : RawNet) (row : List BitSet) → length row ≡ net.nets → list_any is_empty row ≡ false → ¬ IsEmptyAt net (set_at row)
empty_not net row long none empty =
    both_ways (list_any is_empty row) none (list_any_at is_empty row empty.0 both (let l = empty.1 in omega arith) ((empty_is (set_at row empty.0)).1 empty.2))

module _ (net : RawNet) (bits : List Bool) (table : ℕ → VertexState) (edge : Edge) (source : State) (is : table edge.from ≡ state_of net (Some source)) where
  pub not_reached : source.reached ≡ false → IsEdgeRow net bits table edge None
  not_reached off sets f = both_ways source.reached off (ap (λ (state : VertexState). state.reached) (sym is) ∙ f.reached)

  module _ (settled : IsSettled net) (row : List BitSet) (long : length row ≡ net.nets) (here : ArePossible net source.latches (asked_on edge bits) (set_at row)) where
    possible : ArePossible net (table edge.from).latches (asked_on edge bits) (set_at row)
    possible = subst (λ (state : VertexState). ArePossible net state.latches (asked_on edge bits) (set_at row)) (sym is) here

    pub not_full : list_any is_empty row ≡ true → IsEdgeRow net bits table edge None
    not_full h sets f =
        let empty = empty_at net row long h in
        f.full (empty.0, empty.1, one_family net (table edge.from).latches (asked_on edge bits) settled sets (set_at row) f.possible possible empty.0 ∙ empty.2)

    pub feasible_row : source.reached ≡ true → list_any is_empty row ≡ false → IsEdgeRow net bits table edge (Some row)
    feasible_row on none = (long, record { reached = ap (λ (state : VertexState). state.reached) is ∙ on; possible = possible; full = empty_not net row long none })
