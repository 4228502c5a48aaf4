-- The run with what a path of bindable edges asks is the printed run along the path.
use Rattle.std.proofs.Common.{◌≡◌, ◌≢◌, ℕ, zero, suc, ◌+◌, ◌<◌, ◌≤◌, Bool, false, List, [], ◌∷◌, map, length, get_or, arith, sym, ap, refl, subst, ◌∙◌, inl, inr}
use Rattle.std.specs.Prelude.{All, IsTrue, Some, slice_get}
use Rattle.std.specs.List.{AllZip}
use Rattle.std.proofs.lemmas.Bool.{cases_lt}
use Rattle.std.proofs.lemmas.List.Elements.{All-map}
use Rattle.std.proofs.lemmas.Option.{get_or_from_slice_get, slice_get_within}
use Rattle.net_core.specs.declared.raw.RawNet.{RawNet}
use Rattle.net_core.specs.Flat.{IsInRange}
use Rattle.net_core.specs.Run.{IsUndriven, MayStart}
use Rattle.net_core.specs.OneRun.{IsGivenRun}
use Rattle.net_core.specs.Possible.{IsLeft}
use Rattle.ste_model.specs.declared.task.Bind.{Bind}
use Rattle.ste_model.specs.declared.task.Edge.{Edge}
use Rattle.ste_model.specs.declared.task.Graph.{Graph}
use Rattle.ste_model.specs.declared.task.Task.TheVariants.{Gste}
use Rattle.ste_model.specs.Edges.{AreNumbers, bind_at, bind_cuts}
use Rattle.ste_model.specs.GraphShown.{IsPrintedAlong}
use Rattle.ste_model.specs.Shown.{IsBindable, IsOpen}
use Rattle.counter_run.specs.Along.{DoAgree}
use Rattle.counter_run.specs.private.Asking.{IsAskedOr, start_bit}
use Rattle.counter_run.specs.private.Matrix.{cell}
use Rattle.counter_run.proofs.Askings.{left_agreed, left_open, open_by}
use Rattle.counter_run.proofs.Printing.{start_may, start_open, starts_at}

-- ---- a path and its numbers

-- an edge of the path is the edge of the number at its place
pub numbered : (edges : List Edge) (numbers : List ℕ) (path : List Edge) → AllZip (λ number edge. slice_get edges number ≡ Some edge) numbers path → (i : ℕ) (edge : Edge) → slice_get path i ≡ Some edge → (i < length numbers) × (slice_get edges (get_or numbers i 0) ≡ Some edge)
numbered edges [] [] are i edge here = absurd (cc here)
numbered edges [] (first ∷ path) are i edge here = absurd are
numbered edges (number ∷ numbers) [] are i edge here = absurd are
numbered edges (number ∷ numbers) (first ∷ path) are zero edge here = (omega arith, are.0 ∙ here)
numbered edges (number ∷ numbers) (first ∷ path) are (suc i) edge here =
    let rest = numbered edges numbers path are.1 i edge here in
    let l = rest.0 in
    (omega arith, rest.1)

-- the numbers are of edges that there are
pub numbers_within : (edges : List Edge) (numbers : List ℕ) (path : List Edge) → AllZip (λ number edge. slice_get edges number ≡ Some edge) numbers path → All (λ number. number < length edges) numbers
numbers_within edges [] path are k d l = absurd (omega arith)
numbers_within edges (number ∷ numbers) [] are k d l = absurd are
numbers_within edges (number ∷ numbers) (first ∷ path) are zero d l = slice_get_within edges number first are.0
numbers_within edges (number ∷ numbers) (first ∷ path) are (suc k) d l = numbers_within edges numbers path are.1 k d (omega arith)

-- there are as many
pub as_many : (edges : List Edge) (numbers : List ℕ) (path : List Edge) → AllZip (λ number edge. slice_get edges number ≡ Some edge) numbers path → length numbers ≡ length path
as_many edges [] [] are = refl
as_many edges [] (first ∷ path) are = absurd are
as_many edges (number ∷ numbers) [] are = absurd are
as_many edges (number ∷ numbers) (first ∷ path) are = ap suc (as_many edges numbers path are.1)

-- numbers are those of one path
pub one_path : (edges : List Edge) (numbers : List ℕ) (one other : List Edge) → AllZip (λ number edge. slice_get edges number ≡ Some edge) numbers one → AllZip (λ number edge. slice_get edges number ≡ Some edge) numbers other → one ≡ other
one_path edges [] [] [] a b = refl
one_path edges [] (x ∷ one) other a b = absurd a
one_path edges [] [] (y ∷ other) a b = absurd b
one_path edges (number ∷ numbers) [] other a b = absurd a
one_path edges (number ∷ numbers) (x ∷ one) [] a b = absurd b
one_path edges (number ∷ numbers) (x ∷ one) (y ∷ other) a b =
    let here : x ≡ y = cc (a.0, b.0) in
    let rest = one_path edges numbers one other a.1 b.1 in
    cc (here, rest)

first_edge : (path : List Edge) → 0 < length path → (edge : Edge) × (slice_get path 0 ≡ Some edge)
first_edge [] l = absurd (omega arith)
first_edge (edge ∷ path) l = (edge, refl)

-- ---- the turns of a loop

-- one more edge
pub edge_turn : (edges : List Edge) (bits : List Bool) (numbers : List ℕ) (old rows new : List (List Bool)) (n : ℕ) (x : Edge) (ant : List Bind) → x ≡ get_or edges (get_or numbers n 0) x → ant ≡ x.ant
    → ((id : ℕ) → IsAskedOr (bind_cuts ant bits) id (cell rows n id) (cell new n id)) → ((s id : ℕ) → s ≢ n → cell new s id ≡ cell rows s id)
    → ((i : ℕ) (edge : Edge) (id : ℕ) → i < n → slice_get edges (get_or numbers i 0) ≡ Some edge → IsAskedOr (bind_cuts edge.ant bits) id (cell old i id) (cell rows i id))
    → ((s id : ℕ) → n ≤ s → cell rows s id ≡ cell old s id)
    → ((i : ℕ) (edge : Edge) (id : ℕ) → i < n + 1 → slice_get edges (get_or numbers i 0) ≡ Some edge → IsAskedOr (bind_cuts edge.ant bits) id (cell old i id) (cell new i id))
    × ((s id : ℕ) → n + 1 ≤ s → cell new s id ≡ cell old s id)
edge_turn edges bits numbers old rows new n x ant is ant_is here others each later = (
  (λ i edge id l at. elim (cases_lt i n) [
    | inl early ↦ subst (λ (b : Bool). IsAskedOr (bind_cuts edge.ant bits) id (cell old i id) b) (sym (others i id (λ e. absurd (omega arith)))) (each i edge id early at)
    | inr now ↦
        let same : n ≡ i = omega arith in
        subst (λ (k : ℕ). IsAskedOr (bind_cuts edge.ant bits) id (cell old k id) (cell new k id)) same
        (subst (λ (b : Bool). IsAskedOr (bind_cuts edge.ant bits) id b (cell new n id)) (later n id (omega arith))
        (subst (λ (binds : List Bind). IsAskedOr (bind_cuts binds bits) id (cell rows n id) (cell new n id)) (ant_is ∙ ap (λ (e : Edge). e.ant) (is ∙ ap (λ (k : ℕ). get_or edges (get_or numbers k 0) x) same ∙ get_or_from_slice_get edges (get_or numbers i 0) edge x at)) (here id)))
  ]),
  λ s id l. others s id (λ e. absurd (omega arith)) ∙ later s id (omega arith),
)

-- ---- the run

module _ (net : RawNet) (graph : Graph) (bits : List Bool) (range : IsInRange net) (bindable : IsBindable net (Gste graph))
    (numbers : List ℕ) (path : List Edge) (are : AreNumbers graph numbers path) (agree : All (λ edge. DoAgree (bind_cuts edge.ant bits)) path)
    (before given : List (List Bool))
    (starts : 0 < length path → All (λ latch. cell before 0 latch.output.0 ≡ start_bit graph.reset latch.init) net.latches)
    (others : (t id : ℕ) → All (λ latch. latch.output.0 ≢ id) net.latches → cell before t id ≡ false)
    (each : (i : ℕ) (edge : Edge) (id : ℕ) → slice_get path i ≡ Some edge → IsAskedOr (bind_cuts edge.ant bits) id (cell before i id) (cell given i id)) where
  -- the bindings of an edge of the path ask of inputs and free nets
  free_at : (i : ℕ) (edge : Edge) → slice_get path i ≡ Some edge → All (λ bind. IsUndriven net bind.node.0) edge.ant
  free_at i edge here =
      let at = numbered graph.edges numbers path are i edge here in
      subst (λ (e : Edge). All (λ bind. IsUndriven net bind.node.0) e.ant) (get_or_from_slice_get graph.edges (get_or numbers i 0) edge edge at.1)
      (bindable (get_or numbers i 0) edge (slice_get_within graph.edges (get_or numbers i 0) edge at.1))

  -- so nothing is asked of a latch output
  latch_open : (i : ℕ) (edge : Edge) → slice_get path i ≡ Some edge → All (λ latch. IsOpen (bind_cuts edge.ant bits) latch.output.0) net.latches
  latch_open i edge here k d l =
      All-map (λ cut. IsTrue cut.on → cut.node ≢ (get_or net.latches k d).output.0) (bind_at bits) edge.ant (λ j e m on at. (free_at i edge here j e m).by_latch k d l (sym at))

  agree_at : (i : ℕ) (edge : Edge) → slice_get path i ≡ Some edge → DoAgree (bind_cuts edge.ant bits)
  agree_at i edge here =
      subst (λ (e : Edge). DoAgree (bind_cuts e.ant bits)) (get_or_from_slice_get path i edge edge here) (agree i edge (slice_get_within path i edge here))

  -- the first bits of latches are those that were there
  first_is : (edge : Edge) → slice_get path 0 ≡ Some edge → All (λ latch. cell given 0 latch.output.0 ≡ start_bit graph.reset latch.init) net.latches
  first_is edge here k d l =
      let id = (get_or net.latches k d).output.0 in
      open_by (bind_cuts edge.ant bits) id (cell before 0 id) (cell given 0 id) (latch_open 0 edge here k d l) (each 0 edge id here) ∙ starts (slice_get_within path 0 edge here) k d l

  pub printed_along : (run : ℕ → ℕ → Bool) → IsGivenRun net (cell given) (map (λ latch. cell given 0 latch.output.0) net.latches) (length path) run → IsPrintedAlong net graph bits path run
  printed_along run h =
      let first : 0 < length path → All (λ latch. run 0 latch.output.0 ≡ start_bit graph.reset latch.init) net.latches = λ l k d m.
      let edge = first_edge path l in
      starts_at (run 0) (cell given 0) net.latches (h.starts l) k d m ∙ first_is edge.0 edge.1 k d m in
      record {
        is_run = record {
          is_run = h.is_run;
          starts = λ l k d m. subst (MayStart graph.reset (get_or net.latches k d)) (sym (first l k d m)) (start_may graph.reset (get_or net.latches k d));
        };
        sources = λ i edge id here m none.
            let l = slice_get_within path i edge here in
            let is = h.sources i id l m none in
            record {
              asked = subst (IsLeft (bind_cuts edge.ant bits) id) (sym is) (left_agreed (bind_cuts edge.ant bits) id (cell before i id) (cell given i id) (agree_at i edge here) (each i edge id here));
              rest = λ open_cuts. is ∙ open_by (bind_cuts edge.ant bits) id (cell before i id) (cell given i id) open_cuts (each i edge id here) ∙ others i id none.by_latch;
            };
        starts = λ edge here k d m.
            let latch = get_or net.latches k d in
            record {
              asked = left_open (bind_cuts edge.ant bits) latch.output.0 (run 0 latch.output.0) (latch_open 0 edge here k d m);
              rest = λ open_cuts either. first (slice_get_within path 0 edge here) k d m ∙ start_open graph.reset latch either;
            };
      }

-- the same of what the code holds: the rows behind the edges, and what the run is made from
pub printed_as : (net : RawNet) (graph : Graph) (bits : List Bool) → IsInRange net → IsBindable net (Gste graph)
    → (numbers : List ℕ) (path : List Edge) → AreNumbers graph numbers path → All (λ edge. DoAgree (bind_cuts edge.ant bits)) path
    → (start old asked given : List (List Bool)) (edges : List Edge) (run : ℕ → ℕ → Bool) → old ≡ start → given ≡ asked → edges ≡ graph.edges
    → (0 < length numbers → All (λ latch. cell start 0 latch.output.0 ≡ start_bit graph.reset latch.init) net.latches)
    → ((t id : ℕ) → All (λ latch. latch.output.0 ≢ id) net.latches → cell start t id ≡ false)
    → ((i : ℕ) (edge : Edge) (id : ℕ) → i < length numbers → slice_get edges (get_or numbers i 0) ≡ Some edge → IsAskedOr (bind_cuts edge.ant bits) id (cell old i id) (cell asked i id))
    → IsGivenRun net (cell given) (map (λ latch. cell given 0 latch.output.0) net.latches) (length numbers) run → IsPrintedAlong net graph bits path run
printed_as net graph bits range bindable numbers path are agree start old asked given edges run old_is given_is edges_are starts others each h =
    let size = as_many graph.edges numbers path are in
    printed_along net graph bits range bindable numbers path are agree start given (λ l. starts (omega arith)) others
    (λ i edge id here.
    let at = numbered graph.edges numbers path are i edge here in
    subst (λ (rows : List (List Bool)). IsAskedOr (bind_cuts edge.ant bits) id (cell rows i id) (cell given i id)) old_is
    (subst (λ (rows : List (List Bool)). IsAskedOr (bind_cuts edge.ant bits) id (cell old i id) (cell rows i id)) (sym given_is)
    (each i edge id at.0 (subst (λ (es : List Edge). slice_get es (get_or numbers i 0) ≡ Some edge) (sym edges_are) at.1))))
    run (subst (λ (n : ℕ). IsGivenRun net (cell given) (map (λ latch. cell given 0 latch.output.0) net.latches) n run) size h)
