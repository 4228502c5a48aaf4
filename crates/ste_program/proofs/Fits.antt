-- The reports of tasks that may be checked are of nets that there are.
use Rattle.std.proofs.Common.{◌≡◌, ◌≤◌, ◌<◌, ℕ, zero, suc, Bool, List, [], ◌∷◌, length, Option, Some, ap, sym, ◌∙◌, subst, inl, inr, arith}
use Rattle.std.specs.Prelude.{All, IfSome, slice_get}
use Rattle.std.specs.List.{AllZip}
use Rattle.std.proofs.lemmas.List.Elements.{All-cons}
use Rattle.net_core.specs.declared.bit_set.BitSet.{BitSet}
use Rattle.net_core.specs.Run.{Cut}
use Rattle.net_core.specs.declared.raw.RawNet.{RawNet}
use Rattle.ste_base.specs.declared.id.NodeId.{NodeId}
use Rattle.ste_model.specs.Asked.{cuts_at}
use Rattle.ste_model.specs.Found.{FailsStrongly, FailsWeakly, IsStrong, IsWeak}
use Rattle.ste_model.specs.Edges.{AreNumbers, bind_cuts}
use Rattle.ste_model.specs.GraphFound.{IsGraphStrong, IsGraphWeak}
use Rattle.ste_model.specs.GraphReport.{GraphPrints, GraphShows, IsGraphShown}
use Rattle.ste_model.specs.Report.{IsShown, Prints, Shows}
use Rattle.ste_model.specs.declared.report.Report.{Report}
use Rattle.ste_model.specs.declared.run.Run.{Run}
use Rattle.ste_model.specs.declared.task.Assertion.{Assertion}
use Rattle.ste_model.specs.declared.task.Edge.{Edge}
use Rattle.ste_model.specs.declared.task.Graph.{Graph}
use Rattle.ste_model.specs.declared.task.Quint.{Quint}
use Rattle.ste_model.specs.declared.task.Task.{Task}
use Rattle.ste_model.specs.declared.task.Task.TheVariants.{Ste, Gste}
use Rattle.ste_model.specs.declared.verdict.Verdict.{Verdict}
use Rattle.ste_model.proofs.Due.{asks_of_nets}
use Rattle.ste_model.proofs.DueAlong.{of_cuts}
use Rattle.work_pool.specs.declared.mode.Mode.TheVariants.{Sets}
use Rattle.work_pool.specs.Told.{IsToldOf}
use Rattle.ste_program.specs.private.Made.{AreBindsIn, IsCheckable}
use Rattle.ste_program.proofs.Broken.{all_at}
use Rattle.ste_program.proofs.TaskLists.{checkable_con, cons_in}

-- the failing place and the rows of the run are of nets below the number
abbrev pub Fits : ℕ → Report → Type 0
Fits n report =
    IfSome report.fails (λ (place : NodeId × ℕ). place.0.0 < n) × IfSome report.run (λ (run : Run). length run.rows ≤ n)

place_in : (Finds : List Bool → Type 0) (Fails : (ℕ → BitSet) → Cut → Type 0) (net : RawNet) (vars n : ℕ) (task : Assertion) (least : Option (List Bool)) (fails : Option (NodeId × ℕ)) → All (λ quint. quint.node.0 < n) task.con →
    IsShown Finds Fails net vars task least fails → IfSome fails (λ (place : NodeId × ℕ). place.0.0 < n)
place_in Finds Fails net vars n task least fails con h =
    let at = h.is_place in
    let low : at.cut.node < n = all_at (λ (cut : Cut). cut.node < n) (cuts_at task.con h.bits h.place.1) at.number at.cut (asks_of_nets n h.bits h.place.1 task.con con) at.here in
    subst (λ (f : Option (NodeId × ℕ)). IfSome f (λ (place : NodeId × ℕ). place.0.0 < n)) (sym h.fails_is) (subst (λ (id : ℕ). id < n) (sym at.node) low)

fails_in : (net : RawNet) (vars n : ℕ) (task : Assertion) (verdict : Verdict) (least : Option (List Bool)) (fails : Option (NodeId × ℕ)) → All (λ quint. quint.node.0 < n) task.con → Shows net vars task verdict least fails → IfSome fails (λ (place : NodeId × ℕ). place.0.0 < n)
fails_in net vars n task verdict least fails con (inl h) = place_in (IsStrong net task) FailsStrongly net vars n task least fails con h.1
fails_in net vars n task verdict least fails con (inr (inl h)) = place_in (IsWeak net task) FailsWeakly net vars n task least fails con h.1
fails_in net vars n task verdict least fails con (inr (inr h)) = subst (λ (f : Option (NodeId × ℕ)). IfSome f (λ (place : NodeId × ℕ). place.0.0 < n)) (sym h.3) tt

rows_in : (net : RawNet) (n : ℕ) (task : Assertion) (verdict : Verdict) (least : Option (List Bool)) (run : Option Run) → net.nets ≡ n → Prints net task verdict least run → IfSome run (λ (r : Run). length r.rows ≤ n)
rows_in net n task verdict least run e (inl h) =
    let tall = h.1.rows.tall in
    let low : length h.1.told.rows ≤ n = omega (arith, tall, e) in
    subst (λ (o : Option Run). IfSome o (λ (r : Run). length r.rows ≤ n)) (sym h.1.run_is) low
rows_in net n task verdict least run e (inr h) = subst (λ (o : Option Run). IfSome o (λ (r : Run). length r.rows ≤ n)) (sym h.1) tt

-- ---- graphs

-- an edge of a path with numbers is an edge of the graph
numbered_at : (graph : Graph) (numbers : List ℕ) (path : List Edge) → AreNumbers graph numbers path → (t : ℕ) (edge : Edge) → slice_get path t ≡ Some edge → (n : ℕ) × (slice_get graph.edges n ≡ Some edge)
numbered_at graph [] [] are t edge here = absurd (cc here)
numbered_at graph [] (first ∷ path) are t edge here = absurd are
numbered_at graph (n ∷ numbers) [] are t edge here = absurd are
numbered_at graph (n ∷ numbers) (first ∷ path) are zero edge here = let same : first ≡ edge = cc here in (n, are.0 ∙ ap Some same)
numbered_at graph (n ∷ numbers) (first ∷ path) are (suc t) edge here = numbered_at graph numbers path are.1 t edge here

graph_place_in : (Finds : List Bool → Type 0) (Fails : (ℕ → BitSet) → Cut → Type 0) (net : RawNet) (vars n : ℕ) (graph : Graph) (least : Option (List Bool)) (numbers : List ℕ) (fails : Option (NodeId × ℕ)) → All (λ edge. AreBindsIn n edge.con) graph.edges →
    IsGraphShown Finds Fails net vars graph least numbers fails → IfSome fails (λ (place : NodeId × ℕ). place.0.0 < n)
graph_place_in Finds Fails net vars n graph least numbers fails con h =
    let at = h.is_place in
    let p = at.is_place in
    let edge = numbered_at graph numbers at.path at.are h.place.1 p.edge p.last in
    let binds : AreBindsIn n p.edge.con = all_at (λ (e : Edge). AreBindsIn n e.con) graph.edges edge.0 p.edge con edge.1 in
    let low : p.first.cut.node < n = all_at (λ (cut : Cut). cut.node < n) (bind_cuts p.edge.con h.bits) at.number p.first.cut (of_cuts (λ (id : ℕ). id < n) h.bits p.edge.con binds) p.first.here in
    subst (λ (f : Option (NodeId × ℕ)). IfSome f (λ (place : NodeId × ℕ). place.0.0 < n)) (sym h.fails_is) (subst (λ (id : ℕ). id < n) (sym at.node) low)

graph_fails_in : (net : RawNet) (vars n : ℕ) (graph : Graph) (verdict : Verdict) (least : Option (List Bool)) (numbers : List ℕ) (fails : Option (NodeId × ℕ)) → All (λ edge. AreBindsIn n edge.con) graph.edges → GraphShows net vars graph verdict least numbers fails →
    IfSome fails (λ (place : NodeId × ℕ). place.0.0 < n)
graph_fails_in net vars n graph verdict least numbers fails con (inl h) = graph_place_in (IsGraphStrong net graph) FailsStrongly net vars n graph least numbers fails con h.1
graph_fails_in net vars n graph verdict least numbers fails con (inr (inl h)) = graph_place_in (IsGraphWeak net graph) FailsWeakly net vars n graph least numbers fails con h.1
graph_fails_in net vars n graph verdict least numbers fails con (inr (inr h)) = subst (λ (f : Option (NodeId × ℕ)). IfSome f (λ (place : NodeId × ℕ). place.0.0 < n)) (sym h.4) tt

graph_rows_in : (net : RawNet) (n : ℕ) (graph : Graph) (verdict : Verdict) (least : Option (List Bool)) (numbers : List ℕ) (run : Option Run) → net.nets ≡ n → GraphPrints net graph verdict least numbers run → IfSome run (λ (r : Run). length r.rows ≤ n)
graph_rows_in net n graph verdict least numbers run e (inl h) =
    let tall = h.1.rows.tall in
    let low : length h.1.told.rows ≤ n = omega (arith, tall, e) in
    subst (λ (o : Option Run). IfSome o (λ (r : Run). length r.rows ≤ n)) (sym h.1.run_is) low
graph_rows_in net n graph verdict least numbers run e (inr h) = subst (λ (o : Option Run). IfSome o (λ (r : Run). length r.rows ≤ n)) (sym h.1) tt

-- ---- tasks

one_fits : (net : RawNet) (vars steps cubes n : ℕ) (task : Task) (report : Report) → net.nets ≡ n → IsCheckable net.nets vars task → IsToldOf Sets net vars steps cubes task report → Fits n report
one_fits net vars steps cubes n (Gste graph) report e checkable (inr over) = subst (λ (r : Report). Fits n r) (sym over.0) (tt, tt)
one_fits net vars steps cubes n (Gste graph) report e checkable (inl told) =
    let con = subst (λ (k : ℕ). All (λ (edge : Edge). AreBindsIn k edge.con) graph.edges) e (cons_in net.nets vars graph checkable) in (
      graph_fails_in net vars n graph report.verdict report.least report.path report.fails con told.shown,
      graph_rows_in net n graph report.verdict report.least report.path report.run e told.run,
    )
one_fits net vars steps cubes n (Ste task) report e checkable (inr over) = subst (λ (r : Report). Fits n r) (sym over.0) (tt, tt)
one_fits net vars steps cubes n (Ste task) report e checkable (inl told) =
    let con = subst (λ (k : ℕ). All (λ (quint : Quint). quint.node.0 < k) task.con) e (checkable_con net.nets vars task checkable) in (
      fails_in net vars n task report.verdict report.least report.fails con told.shown,
      rows_in net n task report.verdict report.least report.run e told.run,
    )

pub all_fit : (net : RawNet) (vars steps cubes n : ℕ) (tasks : List Task) (reports : List Report) → net.nets ≡ n → All (IsCheckable net.nets vars) tasks → AllZip (IsToldOf Sets net vars steps cubes) tasks reports → All (Fits n) reports
all_fit net vars steps cubes n [] [] e checkable told = λ k d l. absurd (omega (arith, l))
all_fit net vars steps cubes n [] (r ∷ reports) e checkable told = absurd told
all_fit net vars steps cubes n (t ∷ tasks) [] e checkable told = absurd told
all_fit net vars steps cubes n (t ∷ tasks) (r ∷ reports) e checkable told =
    All-cons (Fits n) r reports (one_fits net vars steps cubes n t r e (checkable 0 t (omega arith)) told.0)
    (all_fit net vars steps cubes n tasks reports e (λ j d l. checkable (suc j) d (omega (arith, l))) told.1)

-- the parts of what fits
pub fails_fit : (n : ℕ) (reports : List Report) → All (Fits n) reports → All (λ report. IfSome report.fails (λ (place : NodeId × ℕ). place.0.0 < n)) reports
fails_fit n reports all k d l = (all k d l).0

pub rows_fit : (n : ℕ) (reports : List Report) → All (Fits n) reports → All (λ report. IfSome report.run (λ (run : Run). length run.rows ≤ n)) reports
rows_fit n reports all k d l = (all k d l).1
