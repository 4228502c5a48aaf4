-- A run that is due along a path meets the antecedents and breaks the consequents.
use Rattle.std.proofs.Common.{◌≡◌, ℕ, ◌<◌, zero, suc, Bool, true, false, not, List, [], ◌∷◌, length, get_or, sym, refl, subst, ◌∙◌}
use Rattle.std.specs.Prelude.{All, Contains, IsTrue, Some, slice_get}
use Rattle.std.proofs.lemmas.List.Elements.{All-contains, All-map}
use Rattle.net_core.specs.declared.bit_set.BitSet.{BitSet}
use Rattle.net_core.specs.declared.raw.RawNet.{RawNet}
use Rattle.net_core.specs.Run.{IsSettled, IsUndriven}
use Rattle.net_core.specs.Sets.{IsIn, only}
use Rattle.net_core.proofs.Possible.{is_only, one_family}
use Rattle.ste_model.specs.declared.task.Bind.{Bind}
use Rattle.ste_model.specs.declared.task.Edge.{Edge}
use Rattle.ste_model.specs.declared.task.Graph.{Graph}
use Rattle.ste_model.specs.declared.task.Task.TheVariants.{Gste}
use Rattle.ste_model.specs.Edges.{IsPathFrom, asked_on, bind_at, bind_cuts}
use Rattle.ste_model.specs.Found.{FailsStrongly}
use Rattle.ste_model.specs.GraphHolds.{MeetsAlong}
use Rattle.ste_model.specs.GraphShown.{DueBreaksAlong, IsCandidate, IsPrintedAlong}
use Rattle.ste_model.specs.Holds.{IsTaskRun}
use Rattle.ste_model.specs.Shown.{AsksOfNets, IsBindable}
use Rattle.ste_model.proofs.Paths.{along}

-- the edges of a path are edges of the graph
pub on_path : (edges : List Edge) (vertex : ℕ) (path : List Edge) → IsPathFrom edges vertex path → (i : ℕ) (edge : Edge) → slice_get path i ≡ Some edge → Contains edges edge
on_path edges vertex [] is_path i edge here = absurd (cc here)
on_path edges vertex (first ∷ path) is_path zero edge here = let same : first ≡ edge = cc here in subst (Contains edges) same is_path.0
on_path edges vertex (first ∷ path) is_path (suc i) edge here = on_path edges first.to path is_path.2 i edge here

-- what holds of the nets of bindings holds of those of their cuts
pub of_cuts : (P : ℕ → Type 0) (bits : List Bool) (binds : List Bind) → All (λ bind. P bind.node.0) binds → All (λ cut. P cut.node) (bind_cuts binds bits)
of_cuts P bits binds all = All-map (λ cut. P cut.node) (bind_at bits) binds all

due_meets : (net : RawNet) (graph : Graph) (bits : List Bool) (path : List Edge) (run : ℕ → ℕ → Bool) → AsksOfNets net (Gste graph) → IsBindable net (Gste graph) → IsPathFrom graph.edges 0 path → IsPrintedAlong net graph bits path run → MeetsAlong (λ edge. edge.ant) bits path run
due_meets net graph bits path run nets bindable is_path printed i edge here k d l on =
    let is_edge = on_path graph.edges 0 path is_path i edge here in
    let free = of_cuts (IsUndriven net) bits edge.ant (All-contains (λ e. All (λ bind. IsUndriven net bind.node.0) e.ant) graph.edges edge bindable is_edge) k d l in
    let within = of_cuts (λ id. id < net.nets) bits edge.ant (All-contains (λ e. All (λ bind. bind.node.0 < net.nets) e.ant) graph.edges edge nets is_edge) k d l in
    sym ((printed.sources i edge (get_or (bind_cuts edge.ant bits) k d).node here within free).asked k d l on refl)

not_itself : (bit : Bool) → bit ≡ not bit → ⊥
not_itself false e = cc e
not_itself true e = cc e

-- a bit of a set that fails strongly is not the value
breaks : (set : BitSet) (bit value : Bool) → IsIn bit set → set ≡ only (not value) → bit ≡ value → ⊥
breaks set bit value h e same = not_itself value (sym same ∙ is_only (not value) bit (subst (IsIn bit) e h))

due_breaks : (net : RawNet) (graph : Graph) (bits : List Bool) (path : List Edge) (run : ℕ → ℕ → Bool) → IsSettled net → IsCandidate FailsStrongly net graph bits path → IsTaskRun net graph.reset (length path) run → MeetsAlong (λ edge. edge.ant) bits path run → ¬ MeetsAlong (λ edge. edge.con) bits path run
due_breaks net graph bits path run settled candidate is_run meets con =
    let edge = candidate.edge in
    let i = candidate.last.number in
    let at = along net graph bits candidate.table settled candidate.is_table.closed path candidate.is_path run is_run meets i edge candidate.last.here in
    let fails = candidate.fails in
    let any = fails.2 in
    let same = one_family net (candidate.table edge.from).latches (asked_on edge bits) settled at.1.sets fails.0 at.1.feasible.possible fails.1.possible any.1.node in
    breaks (at.1.sets any.1.node) (run i any.1.node) any.1.value (at.1.inside any.1.node) (same ∙ any.4.1)
    (All-contains (λ c. IsTrue c.on → run i c.node ≡ c.value) (bind_cuts edge.con bits) any.1 (con i edge candidate.last.here) (any.0, any.2, any.3) any.4.0)

pub due_breaks_along : DueBreaksAlong
due_breaks_along = record { meets = due_meets; breaks = due_breaks }
