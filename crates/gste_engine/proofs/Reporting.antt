-- What is found on the settled table tells the findings, and steps that are out were too few.
use Rattle.std.proofs.Common.{◌≢◌, ℕ, ◌<◌, ◌+◌, Bool, List, length, sym, subst, ◌∙◌, All}
use Rattle.std.specs.Prelude.{IsSome}
use Rattle.std.specs.List.{AllPairs}
use Rattle.dd_nodes.specs.declared.node.Ref.{Ref}
use Rattle.ste_base.specs.Functions.{Function}
use Rattle.dd_nodes.specs.Spending.{Spends}
use Rattle.dd_nodes.specs.Stores.{Means, Store, function}
use Rattle.dd_nodes.proofs.Spending.{too_few}
use Rattle.dd_nodes.proofs.Stores.{IsGood}
use Rattle.net_core.specs.declared.raw.RawNet.{RawNet}
use Rattle.net_core.specs.Run.{IsSettled}
use Rattle.net_core.specs.Work.{SymbolicSet}
use Rattle.engine_parts.specs.declared.results.Results.{Results}
use Rattle.ste_model.specs.declared.task.Edge.{Edge}
use Rattle.ste_model.specs.declared.task.Graph.{Graph}
use Rattle.ste_model.specs.Assignments.{Tells}
use Rattle.ste_model.specs.Edges.{IsGraph}
use Rattle.ste_model.specs.GraphFound.{IsGraphContradictory, IsGraphStrong, IsGraphWeak}
use Rattle.ste_model.specs.GraphNeed.{AreWholeRounds, IsGraphNeed}
use Rattle.ste_model.specs.GraphTable.{enough}
use Rattle.ste_model.specs.GraphWork.{SymbolicState, graph_contradictory_where, graph_strong_where, graph_weak_where, graph_work}
use Rattle.ste_model.proofs.GraphWheres.{graph_results_are_findings}
use Rattle.gste_engine.specs.declared.state.State.{State}
use Rattle.gste_engine.specs.private.Judged.{AreGraphResults, TellGraphFindings}

tells_by : (t : Store) (f : Function) (r : Ref) (P : List Bool → Type 0) → Means t f r → Tells t.vars f P → Tells t.vars (function t r) P
tells_by t f r P m tells bits l = (λ h. (tells bits l).0 (sym (m.value bits l) ∙ h), λ p. m.value bits l ∙ (tells bits l).1 p)

pub graph_results_tell : (net : RawNet) (graph : Graph) (tables : ℕ → ℕ → SymbolicState) (sets : ℕ → Edge → ℕ → SymbolicSet) (t : Store) (states : List State) (r : Results) → IsSettled net → IsGraph graph → AreWholeRounds net t.vars graph tables sets →
    AreGraphResults net graph (tables (enough net graph)) (sets (enough net graph)) t states r → TellGraphFindings t net graph r
graph_results_tell net graph tables sets t states r settled sound whole h =
    let table = tables (enough net graph) in
    let last = sets (enough net graph) in
    record {
      refs = record { strong = h.strong.ref; weak = h.weak.ref; contradictory = h.contradictory.ref };
      strong = tells_by t (graph_strong_where net graph table last) r.strong (IsGraphStrong net graph) h.strong (graph_results_are_findings.strong net t.vars graph tables sets settled sound whole);
      weak = tells_by t (graph_weak_where net graph table last) r.weak (IsGraphWeak net graph) h.weak (graph_results_are_findings.weak net t.vars graph tables sets settled sound whole);
      contradictory = tells_by t (graph_contradictory_where net graph table last) r.contradictory (IsGraphContradictory net graph) h.contradictory (graph_results_are_findings.contradictory net t.vars graph tables sets settled sound whole);
    }

-- where steps are out, fewer were left than the graph needs
pub graph_short : (net : RawNet) (graph : Graph) (s t : Store) → IsGood t → AllPairs (λ a b. a ≢ b) t.made → All (λ r. IsSome (t.held r)) t.made
    → ((tables : ℕ → ℕ → SymbolicState) (sets : ℕ → Edge → ℕ → SymbolicSet) → AreWholeRounds net s.vars graph tables sets → Spends (graph_work net graph tables sets) s t (Unit {0}))
    → (need : ℕ) → IsGraphNeed net s.vars graph need → s.limit < length s.made + need
graph_short net graph s t d apart held left need (tables, sets, whole, is) =
    subst (λ n. s.limit < length s.made + n) (sym is) (too_few (graph_work net graph tables sets) s t (Unit {0}) d apart held (left tables sets whole) tt)
