-- What is found and shown of a graph under an assignment depends on the variables that it reads alone.
use Rattle.std.proofs.Common.{◌≡◌, ℕ, zero, suc, ◌<◌, ◌≤◌, Bool, false, List, [], ◌∷◌, length, take, get_or, refl, sym, ap, subst, Option, Some, inl, inr}
use Rattle.std.specs.Prelude.{Any, Contains, IsTrue, ◌&&◌, slice_get, slice_index_or}
use Rattle.std.proofs.lemmas.Bool.{and_parts}
use Rattle.std.proofs.lemmas.List.{get_or-take}
use Rattle.std.proofs.lemmas.List.Elements.{All-contains, All-head, All-tail, Contains-get_or}
use Rattle.std.proofs.lemmas.Option.{get_or_from_slice_get, slice_get-get_or, slice_get_within}
use Rattle.ste_base.specs.declared.id.NodeId.{NodeId}
use Rattle.net_core.specs.declared.bit_set.BitSet.{BitSet}
use Rattle.net_core.specs.declared.raw.RawNet.{RawNet}
use Rattle.net_core.specs.Possible.{ArePossible, Asked}
use Rattle.net_core.specs.Run.{Cut}
use Rattle.ste_model.specs.declared.cubes.CubeList.{CubeList}
use Rattle.ste_model.specs.declared.report.Report.{Report}
use Rattle.ste_model.specs.declared.run.Run.{Run}
use Rattle.ste_model.specs.declared.task.Bind.{Bind}
use Rattle.ste_model.specs.declared.task.Edge.{Edge}
use Rattle.ste_model.specs.declared.task.Graph.{Graph}
use Rattle.ste_model.specs.declared.verdict.Verdict.{Verdict}
use Rattle.ste_model.specs.declared.verdict.Verdict.TheVariants.{Pass, Weak, Strong, Vacuous, Budget}
use Rattle.ste_model.specs.Edges.{AreNumbers, bind_cuts, weakened_on}
use Rattle.ste_model.specs.Expressions.{reads}
use Rattle.ste_model.specs.Found.{FailsStrongly, FailsWeakly}
use Rattle.ste_model.specs.GraphFound.{FailsOn, IsGraphContradictory, IsGraphFound, IsGraphStrong, IsGraphVerdict, IsGraphWeak}
use Rattle.ste_model.specs.GraphNeed.{BindsReadBelow, GraphReadsBelow}
use Rattle.ste_model.specs.GraphReport.{GraphPrints, GraphShows, IsGraphPlace, IsGraphReportOf, IsGraphShown}
use Rattle.ste_model.specs.GraphShown.{IsCandidate, IsPrintedAlong, IsShownPath}
use Rattle.ste_model.specs.GraphTable.{IsFeasible, IsLeastClosed, Takes, VertexState}
use Rattle.ste_model.specs.Report.{AreCubes}
use Rattle.ste_model.specs.Shown.{IsFilled, IsFirstBit}
use Rattle.ste_model.proofs.DueAlong.{on_path}
use Rattle.exact_model.specs.WiderGraphs.{first_bits, with_first_bits}
use Rattle.exact_model.proofs.FirstBits.{each_down, each_up, least_down, some_down, some_up}
use Rattle.exact_model.proofs.Readings.{value_kept}
use Rattle.exact_model.proofs.WiderCubes.{are_cubes}

-- an element by its number
contained : (edges : List Edge) (n : ℕ) (edge : Edge) → slice_get edges n ≡ Some edge → Contains edges edge
contained edges n edge here = (n, slice_get_within edges n edge here, get_or_from_slice_get edges n edge edge here)

-- the edges of a path by numbers are those of the graph
numbered : (graph : Graph) (numbers : List ℕ) (path : List Edge) → AreNumbers graph numbers path → (i : ℕ) (edge : Edge) → slice_get path i ≡ Some edge → Contains graph.edges edge
numbered graph numbers [] are i edge here = absurd (cc here)
numbered graph [] (e ∷ path) are i edge here = absurd are
numbered graph (n ∷ numbers) (e ∷ path) are zero edge here =
    let same : e ≡ edge = cc here in subst (Contains graph.edges) same (contained graph.edges n e are.0)
numbered graph (n ∷ numbers) (e ∷ path) are (suc i) edge here = numbered graph numbers path are.1 i edge here

abbrev asked_by : Edge → List Cut → Asked
asked_by edge cuts = record { cuts = cuts; weak = weakened_on edge }

-- both assignments ask the same on an edge
pub record AskAlike (one other : List Bool) (edge : Edge) : Type 0 where
  pub ant : bind_cuts edge.ant one ≡ bind_cuts edge.ant other
  pub con : bind_cuts edge.con one ≡ bind_cuts edge.con other

module _ (net : RawNet) (graph : Graph) where
  abbrev pub Alike : List Bool → List Bool → Type 0
  Alike one other = (edge : Edge) → Contains graph.edges edge → AskAlike one other edge

  feasible_on : (one other : List Bool) (edge : Edge) → AskAlike one other edge → (table : ℕ → VertexState) (sets : ℕ → BitSet) → IsFeasible net one table edge sets → IsFeasible net other table edge sets
  feasible_on one other edge alike table sets f = record {
    reached = f.reached;
    possible = subst (λ (cuts : List Cut). ArePossible net (table edge.from).latches (asked_by edge cuts) sets) alike.ant f.possible;
    full = f.full;
  }

  pub takes_on : (one other : List Bool) → Alike other one → (now next : ℕ → VertexState) → Takes net graph one now next → Takes net graph other now next
  takes_on one other back now next t = record {
    long = t.long;
    start = t.start;
    edges = λ k d l sets f. let edge = get_or graph.edges k d in t.edges k d l sets (feasible_on other one edge (back edge (Contains-get_or graph.edges k d l)) now sets f);
  }

  module _ (one other : List Bool) (there : Alike one other) (back : Alike other one) where
    closed_on : (table : ℕ → VertexState) → IsLeastClosed net graph one table → IsLeastClosed net graph other table
    closed_on table h = record {
      closed = takes_on one other back table table h.closed;
      least = λ next closed. h.least next (takes_on other one there next next closed);
    }

    fails_on : (Fails : (ℕ → BitSet) → Cut → Type 0) (table : ℕ → VertexState) (edge : Edge) → Contains graph.edges edge → FailsOn Fails net one table edge → FailsOn Fails net other table edge
    fails_on Fails table edge at f =
        let alike = there edge at in
        (f.0, feasible_on one other edge alike table f.0 f.1, subst (λ (cuts : List Cut). Any (Fails f.0) cuts) alike.con f.2)

    found_on : (Fails : (ℕ → BitSet) → Cut → Type 0) → IsGraphFound Fails net graph one → IsGraphFound Fails net graph other
    found_on Fails (table, closed, any) = (table, closed_on table closed, (any.0, any.1, any.2, any.3, fails_on Fails table any.1 (any.0, any.2, any.3) any.4))

    contradictory_on : IsGraphContradictory net graph one → IsGraphContradictory net graph other
    contradictory_on (table, closed, all) = (
      table,
      closed_on table closed,
      λ k d l sets f.
          let edge = get_or graph.edges k d in all k d l sets (feasible_on other one edge (back edge (Contains-get_or graph.edges k d l)) table sets f),
    )

    candidate_on : (Fails : (ℕ → BitSet) → Cut → Type 0) (path : List Edge) → IsCandidate Fails net graph one path → IsCandidate Fails net graph other path
    candidate_on Fails path c = record {
      table = c.table;
      is_table = closed_on c.table c.is_table;
      is_path = c.is_path;
      feasible = λ k d l.
          let f = c.feasible k d l in
          let edge = get_or path k d in
          (f.0, feasible_on one other edge (there edge (on_path graph.edges 0 path c.is_path k edge (slice_get-get_or path k d l))) c.table f.0 f.1);
      edge = c.edge;
      last = c.last;
      fails = fails_on Fails c.table c.edge (on_path graph.edges 0 path c.is_path c.last.number c.edge c.last.here) c.fails;
    }

    place_on : (Fails : (ℕ → BitSet) → Cut → Type 0) (numbers : List ℕ) (place : NodeId × ℕ) → IsGraphPlace Fails net graph one numbers place → IsGraphPlace Fails net graph other numbers place
    place_on Fails numbers place p =
        let q = p.is_place in
        let alike = there q.edge (numbered graph numbers p.path p.are place.1 q.edge q.last) in
        record {
          path = p.path;
          are = p.are;
          number = p.number;
          is_place = record {
            table = q.table;
            is_table = closed_on q.table q.is_table;
            edge = q.edge;
            time = q.time;
            last = q.last;
            sets = q.sets;
            feasible = feasible_on one other q.edge alike q.table q.sets q.feasible;
            first = record {
              cut = q.first.cut;
              here = subst (λ (cuts : List Cut). slice_get cuts p.number ≡ Some q.first.cut) alike.con q.first.here;
              fails = q.first.fails;
              first = λ j cut l h. q.first.first j cut l (subst (λ (cuts : List Cut). slice_get cuts j ≡ Some cut) (sym alike.con) h);
            };
          };
          node = p.node;
        }

    printed_on : (numbers : List ℕ) (path : List Edge) (run : ℕ → ℕ → Bool) → AreNumbers graph numbers path → IsPrintedAlong net graph one path run → IsPrintedAlong net graph other path run
    printed_on numbers path run are p = record {
      is_run = p.is_run;
      sources = λ i edge id here l u.
          let alike = there edge (numbered graph numbers path are i edge here) in
          subst (λ (cuts : List Cut). IsFilled cuts id (run i id)) alike.ant (p.sources i edge id here l u);
      starts = λ edge here k d l.
          let alike = there edge (numbered graph numbers path are 0 edge here) in
          let latch = get_or net.latches k d in
          subst (λ (cuts : List Cut). IsFirstBit graph.reset latch cuts (run 0 latch.output.0)) alike.ant (p.starts edge here k d l);
    }

  weak_on : (one other : List Bool) → Alike one other → Alike other one → IsGraphWeak net graph one → IsGraphWeak net graph other
  weak_on one other there back w = (λ strong. w.0 (found_on other one back there FailsStrongly strong), found_on one other there back FailsWeakly w.1)

  path_on : (one other : List Bool) → Alike one other → Alike other one → (Fails : (ℕ → BitSet) → Cut → Type 0) (numbers : List ℕ) → IsShownPath Fails net graph one numbers → IsShownPath Fails net graph other numbers
  path_on one other there back Fails numbers h = record {
    path = h.path;
    are = h.are;
    candidate = candidate_on one other there back Fails h.path h.candidate;
    least = λ others next are c. h.least others next are (candidate_on other one back there Fails next c);
  }

cut_of : ℕ → Bool → Bool → Cut
cut_of node on value = record { node = node; on = on; value = value }

binds_alike : (vars : ℕ) (one other : List Bool) → ((k : ℕ) → k < vars → slice_index_or one k false ≡ slice_index_or other k false) → (binds : List Bind) → BindsReadBelow vars binds → bind_cuts binds one ≡ bind_cuts binds other
unfolding cut_of
binds_alike vars one other same [] below = refl
binds_alike vars one other same (bind ∷ binds) below =
    let p = and_parts (reads vars bind.guard) (reads vars bind.value) (All-head (λ (b : Bind). IsTrue (reads vars b.guard && reads vars b.value)) bind binds below) in
    let on = value_kept vars one other same bind.guard p.0 in
    let value = value_kept vars one other same bind.value p.1 in
    let rest = binds_alike vars one other same binds (All-tail (λ (b : Bind). IsTrue (reads vars b.guard && reads vars b.value)) bind binds below) in
    λ i. cut_of bind.node.0 (on i) (value i) ∷ rest i

pub alike : (vars : ℕ) (graph : Graph) (one other : List Bool) → GraphReadsBelow vars graph → ((k : ℕ) → k < vars → slice_index_or one k false ≡ slice_index_or other k false) → (edge : Edge) → Contains graph.edges edge → AskAlike one other edge
alike vars graph one other below same edge at =
    let p = All-contains (λ (e : Edge). BindsReadBelow vars e.ant × BindsReadBelow vars e.con) graph.edges edge below at in
    record { ant = binds_alike vars one other same edge.ant p.0; con = binds_alike vars one other same edge.con p.1 }

pub take_same : (vars : ℕ) (bits : List Bool) (k : ℕ) → k < vars → slice_index_or bits k false ≡ slice_index_or (take vars bits) k false
take_same vars bits k l = sym (get_or-take vars bits k false l)

module _ (net : RawNet) (vars total : ℕ) (graph : Graph) (wide : vars ≤ total) (below : GraphReadsBelow vars graph) where
  there : (bits : List Bool) → Alike net graph bits (take vars bits)
  there bits = alike vars graph bits (take vars bits) below (take_same vars bits)

  back : (bits : List Bool) → Alike net graph (take vars bits) bits
  back bits = alike vars graph (take vars bits) bits below (λ k l. sym (take_same vars bits k l))

  abbrev Down : (List Bool → Type 0) → Type 0
  Down P = (bits : List Bool) → length bits ≡ total → P bits → P (take vars bits)

  abbrev Up : (List Bool → Type 0) → Type 0
  Up P = (bits : List Bool) → length bits ≡ total → P (take vars bits) → P bits

  found_down : (Fails : (ℕ → BitSet) → Cut → Type 0) → Down (IsGraphFound Fails net graph)
  found_down Fails bits long f = found_on net graph bits (take vars bits) (there bits) (back bits) Fails f

  found_up : (Fails : (ℕ → BitSet) → Cut → Type 0) → Up (IsGraphFound Fails net graph)
  found_up Fails bits long f = found_on net graph (take vars bits) bits (back bits) (there bits) Fails f

  weak_down : Down (IsGraphWeak net graph)
  weak_down bits long w = weak_on net graph bits (take vars bits) (there bits) (back bits) w

  weak_up : Up (IsGraphWeak net graph)
  weak_up bits long w = weak_on net graph (take vars bits) bits (back bits) (there bits) w

  contradictory_down : Down (IsGraphContradictory net graph)
  contradictory_down bits long c = contradictory_on net graph bits (take vars bits) (there bits) (back bits) c

  contradictory_up : Up (IsGraphContradictory net graph)
  contradictory_up bits long c = contradictory_on net graph (take vars bits) bits (back bits) (there bits) c

  cubes_down : (P : List Bool → Type 0) → Down P → Up P → (cubes : ℕ) (list : CubeList) → AreCubes cubes total P list → AreCubes cubes vars P list
  cubes_down P down up cubes list (set, tells, is) =
      are_cubes cubes vars total set P list wide (λ bits long. let t = tells bits long in ((λ h. down bits long (t.0 h)), (λ h. t.1 (up bits long h)))) is

  verdict_down : (verdict : Verdict) → IsGraphVerdict net total graph verdict → IsGraphVerdict net vars graph verdict
  verdict_down Strong v = some_down vars total wide (IsGraphStrong net graph) (found_down FailsStrongly) (found_up FailsStrongly) v
  verdict_down Weak v = (
    λ s. v.0 (some_up vars total wide (IsGraphStrong net graph) (found_down FailsStrongly) (found_up FailsStrongly) s),
    some_down vars total wide (IsGraphWeak net graph) weak_down weak_up v.1,
  )
  verdict_down Vacuous v = (
    λ s. v.0 (some_up vars total wide (IsGraphStrong net graph) (found_down FailsStrongly) (found_up FailsStrongly) s),
    λ w. v.1 (some_up vars total wide (IsGraphWeak net graph) weak_down weak_up w),
    each_down vars total wide (IsGraphContradictory net graph) contradictory_down contradictory_up v.2,
  )
  verdict_down Pass v = (
    λ s. v.0 (some_up vars total wide (IsGraphStrong net graph) (found_down FailsStrongly) (found_up FailsStrongly) s),
    λ w. v.1 (some_up vars total wide (IsGraphWeak net graph) weak_down weak_up w),
    λ e. v.2 (each_up vars total wide (IsGraphContradictory net graph) contradictory_down contradictory_up e),
  )
  verdict_down Budget v = v

  shown_down : (Finds : List Bool → Type 0) → Down Finds → Up Finds → (Fails : (ℕ → BitSet) → Cut → Type 0) (least : Option (List Bool)) (numbers : List ℕ) (fails : Option (NodeId × ℕ)) → IsGraphShown Finds Fails net total graph least numbers fails → IsGraphShown Finds Fails net vars graph (first_bits vars least) numbers fails
  shown_down Finds down up Fails least numbers fails h = record {
    bits = take vars h.bits;
    least_is = ap (first_bits vars) h.least_is;
    is_least = least_down vars total wide Finds down up h.bits h.is_least;
    is_path = path_on net graph h.bits (take vars h.bits) (there h.bits) (back h.bits) Fails numbers h.is_path;
    place = h.place;
    fails_is = h.fails_is;
    is_place = place_on net graph h.bits (take vars h.bits) (there h.bits) (back h.bits) Fails numbers h.place h.is_place;
  }

  shows_down : (verdict : Verdict) (least : Option (List Bool)) (numbers : List ℕ) (fails : Option (NodeId × ℕ)) → GraphShows net total graph verdict least numbers fails → GraphShows net vars graph verdict (first_bits vars least) numbers fails
  shows_down verdict least numbers fails (inl h) = inl (h.0, shown_down (IsGraphStrong net graph) (found_down FailsStrongly) (found_up FailsStrongly) FailsStrongly least numbers fails h.1)
  shows_down verdict least numbers fails (inr (inl h)) = inr (inl (h.0, shown_down (IsGraphWeak net graph) weak_down weak_up FailsWeakly least numbers fails h.1))
  shows_down verdict least numbers fails (inr (inr h)) = inr (inr (h.0, h.1, ap (first_bits vars) h.2, h.3, h.4))

  prints_down : (verdict : Verdict) (least : Option (List Bool)) (numbers : List ℕ) (run : Option Run) → GraphPrints net graph verdict least numbers run → GraphPrints net graph verdict (first_bits vars least) numbers run
  prints_down verdict least numbers run (inl h) =
      let p = h.1 in
      inl (
        h.0,
        record {
          bits = take vars p.bits;
          least_is = ap (first_bits vars) p.least_is;
          told = p.told;
          run_is = p.run_is;
          path = p.path;
          are = p.are;
          rows = p.rows;
          printed = printed_on net graph p.bits (take vars p.bits) (there p.bits) (back p.bits) numbers p.path _ p.are p.printed;
        },
      )
  prints_down verdict least numbers run (inr h) = inr h

  pub report_down : (cubes : ℕ) (report : Report) → IsGraphReportOf net total cubes graph report → IsGraphReportOf net vars cubes graph (with_first_bits vars report)
  report_down cubes report h = record {
    named = h.named;
    judged = verdict_down report.verdict h.judged;
    strong = cubes_down (IsGraphStrong net graph) (found_down FailsStrongly) (found_up FailsStrongly) cubes report.guards.strong h.strong;
    weak = cubes_down (IsGraphWeak net graph) weak_down weak_up cubes report.guards.weak h.weak;
    contradictory = cubes_down (IsGraphContradictory net graph) contradictory_down contradictory_up cubes report.guards.contradictory h.contradictory;
    shown = shows_down report.verdict report.least report.path report.fails h.shown;
    run = prints_down report.verdict report.least report.path report.run h.run;
  }
