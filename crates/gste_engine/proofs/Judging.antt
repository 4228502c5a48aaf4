-- From the table of the round that settles to what is found on it.
use Rattle.std.proofs.Common.{ℕ, List, length, refl, sym, subst, All, Result}
use Rattle.dd_nodes.specs.Stores.{Store, Keeps}
use Rattle.dd_nodes.proofs.Stores.{IsGood}
use Rattle.dd_ops.specs.declared.fault.OpFault.{OpFault}
use Rattle.net_core.specs.declared.raw.RawNet.{RawNet}
use Rattle.net_core.specs.Run.{IsSettled}
use Rattle.net_core.specs.Work.{SymbolicSet}
use Rattle.dual_rail.specs.Rail.{Built}
use Rattle.ste_model.specs.declared.task.Edge.{Edge}
use Rattle.ste_model.specs.declared.task.Graph.{Graph}
use Rattle.ste_model.specs.GraphNeed.{AreWholeRounds}
use Rattle.ste_model.specs.GraphTable.{enough}
use Rattle.ste_model.specs.GraphWork.{SymbolicState}
use Rattle.gste_engine.specs.declared.found.Findings.{Findings}
use Rattle.gste_engine.specs.declared.state.State.{State}
use Rattle.gste_engine.specs.Tables.{AreStateRefs, HasStates}
use Rattle.gste_engine.specs.private.EdgeFinds.{AreAllFound, all_found_work}
use Rattle.gste_engine.proofs.AllGiven.{ArePossibleOn, own_has, own_possible, own_sets, own_table}
use Rattle.gste_engine.proofs.NextTables.{possible_each}

-- what is promised of all edges on a table
abbrev pub FindsAll : RawNet → List Edge → List State → Store → Store → Result Findings OpFault → Type 0
FindsAll net edges table s t result = (states : ℕ → SymbolicState) (sets : Edge → ℕ → SymbolicSet) → HasStates states (length table) s table → ArePossibleOn s.vars net states sets edges
    → Built (all_found_work net states sets edges) (AreAllFound net states sets edges) s t result

-- the references of all edges, by the table's own functions
pub all_left : (net : RawNet) (edges : List Edge) (table : List State) (s t : Store) (result : Result Findings OpFault) → IsGood s → IsSettled net → All (AreStateRefs s net) table → FindsAll net edges table s t result
    → (states : ℕ → SymbolicState) × (sets : Edge → ℕ → SymbolicSet) × Built (all_found_work net states sets edges) (AreAllFound net states sets edges) s t result
all_left net edges table s t result gs settled refs call =
    let states = own_table s net table gs refs in
    let sets = own_sets s net table gs refs settled in
    (states, sets, call states sets (own_has s net table gs refs) (own_possible s net table gs refs settled edges))

-- the call, on the table of the round that settles
pub all_call : (net : RawNet) (graph : Graph) (tables : ℕ → ℕ → SymbolicState) (sets : ℕ → Edge → ℕ → SymbolicSet) (s t u : Store) (table : List State) (result : Result Findings OpFault) → AreWholeRounds net s.vars graph tables sets → Keeps s t
    → HasStates (tables (enough net graph)) (length graph.vertices) t table → FindsAll net graph.edges table t u result
    → Built (all_found_work net (tables (enough net graph)) (sets (enough net graph)) graph.edges) (AreAllFound net (tables (enough net graph)) (sets (enough net graph)) graph.edges) t u result
all_call net graph tables sets s t u table result whole keeps has call =
    call (tables (enough net graph)) (sets (enough net graph)) (record { long = refl; each = has.each })
    (subst (λ v. ArePossibleOn v net (tables (enough net graph)) (sets (enough net graph)) graph.edges) (sym keeps.vars) (possible_each net s.vars graph tables sets whole (enough net graph)))
