-- Flat nets of one hierarchy and graphs that say the same have the same reports.
use Rattle.std.proofs.Common.{◌≡◌, ◌<◌, ℕ, zero, suc, Bool, List, [], ◌∷◌, length, map, Some, refl, ap, sym, ◌∙◌, subst, inl, inr, arith}
use Rattle.std.specs.Prelude.{◌||◌, All, Any, Contains, IsTrue, nat_eq, slice_get}
use Rattle.std.specs.List.{AllZip, list_any}
use Rattle.std.proofs.lemmas.List.Elements.{All-cons}
use Rattle.std.proofs.lemmas.Option.{get_or_from_slice_get, slice_get_within}
use Rattle.ste_base.specs.declared.id.NodeId.{NodeId}
use Rattle.bool_expr.specs.Value.{value_of}
use Rattle.bool_expr.proofs.Values.{one_tree_has_one_value}
use Rattle.net_core.specs.declared.bit_set.BitSet.{BitSet}
use Rattle.net_core.specs.declared.raw.Latch.{Latch}
use Rattle.net_core.specs.declared.raw.RawNet.{RawNet}
use Rattle.net_core.specs.Possible.{ArePossible}
use Rattle.net_core.specs.Run.{Cut, IsUndriven, MayStart}
use Rattle.net_core.specs.Sets.{first_set, first_sets, next_sets}
use Rattle.ste_model.specs.declared.report.Report.{Report}
use Rattle.ste_model.specs.declared.task.Bind.{Bind}
use Rattle.ste_model.specs.declared.task.Edge.{Edge}
use Rattle.ste_model.specs.declared.task.Graph.{Graph}
use Rattle.ste_model.specs.declared.task.Task.TheVariants.{Gste}
use Rattle.ste_model.specs.Edges.{AreNumbers, IsPathFrom, asked_on, bind_at, bind_cuts, weakened_on}
use Rattle.ste_model.specs.Found.{FailsStrongly, FailsWeakly}
use Rattle.ste_model.specs.GraphFound.{FailsOn, IsGraphContradictory, IsGraphFound, IsGraphStrong, IsGraphWeak}
use Rattle.ste_model.specs.GraphReport.{GraphPrints, GraphShows, IsGraphPlace, IsGraphReportOf, IsGraphShown, IsPrintedOnPath}
use Rattle.ste_model.specs.GraphShown.{IsCandidate, IsPrintedAlong, IsShownPath}
use Rattle.ste_model.specs.GraphTable.{IsFeasible, IsLeastClosed, IsReachedWith, Takes, VertexState}
use Rattle.ste_model.specs.Holds.{IsTaskRun}
use Rattle.ste_model.specs.Runs.{HasRows, run_of}
use Rattle.ste_model.specs.Shown.{IsBindable, IsFilled, IsFirstBit}
use Rattle.ste_model.specs.Trees.{BindTree, EdgeTree, bind_tree, edge_tree, task_tree}
use Rattle.report_text.specs.Text.{names_net}
use Rattle.report_laws.proofs.SameRuns.{run_moved, undriven_moved}
use Rattle.report_laws.proofs.SameMoved.{cubes_moved, least_moved}
use Rattle.ste_program.proofs.SameNets.{AreSame}
use Rattle.report_laws.proofs.SameVerdicts.{possible_moved, verdict_alike}

-- ---- edges that say the same

bind_same : (one twin : Bind) (bits : List Bool) → bind_tree one ≡ bind_tree twin → bind_at bits one ≡ bind_at bits twin
bind_same one twin bits e =
    let node = ap (λ (b : BindTree). b.node) e in
    let guard = one_tree_has_one_value one.guard twin.guard bits (ap (λ (b : BindTree). b.guard) e) in
    let value = one_tree_has_one_value one.value twin.value bits (ap (λ (b : BindTree). b.value) e) in
    ap (λ n. cut_of n (value_of one.guard bits) (value_of one.value bits)) node
    ∙ (ap (λ b. cut_of twin.node.0 b (value_of one.value bits)) guard
    ∙ ap (λ b. cut_of twin.node.0 (value_of twin.guard bits) b) value)
  where
    cut_of : ℕ → Bool → Bool → Cut
    cut_of node on value = record { node = node; on = on; value = value }

binds_same : (ones twins : List Bind) (bits : List Bool) → map bind_tree ones ≡ map bind_tree twins → bind_cuts ones bits ≡ bind_cuts twins bits
binds_same [] [] bits e = refl
binds_same [] (q ∷ twins) bits e = absurd (cc e)
binds_same (p ∷ ones) [] bits e = absurd (cc e)
binds_same (p ∷ ones) (q ∷ twins) bits e =
    let first : bind_tree p ≡ bind_tree q = cc e in
    let rest : map bind_tree ones ≡ map bind_tree twins = cc e in
    ap (λ (c : Cut). c ∷ bind_cuts ones bits) (bind_same p q bits first) ∙ ap (λ (l : List Cut). bind_at bits q ∷ l) (binds_same ones twins bits rest)

pub record AreEdgesSame (one twin : Edge) : Type 0 where
  pub from : one.from ≡ twin.from
  pub to : one.to ≡ twin.to
  pub ants : map bind_tree one.ant ≡ map bind_tree twin.ant
  pub cons : map bind_tree one.con ≡ map bind_tree twin.con
  pub given : (bits : List Bool) → bind_cuts one.ant bits ≡ bind_cuts twin.ant bits
  pub asked : (bits : List Bool) → bind_cuts one.con bits ≡ bind_cuts twin.con bits
  pub weak : weakened_on one ≡ weakened_on twin

edge_same : (one twin : Edge) → edge_tree one ≡ edge_tree twin → AreEdgesSame one twin
edge_same one twin e =
    let ants = ap (λ (t : EdgeTree). t.ant) e in
    let cons = ap (λ (t : EdgeTree). t.con) e in
    record {
      from = ap (λ (t : EdgeTree). t.from) e;
      to = ap (λ (t : EdgeTree). t.to) e;
      ants = ants;
      cons = cons;
      given = λ bits. binds_same one.ant twin.ant bits ants;
      asked = λ bits. binds_same one.con twin.con bits cons;
      weak = ap (λ (t : EdgeTree). t.weak) e;
    }

edge_back : (one twin : Edge) → AreEdgesSame one twin → AreEdgesSame twin one
edge_back one twin h = record {
  from = sym h.from;
  to = sym h.to;
  ants = sym h.ants;
  cons = sym h.cons;
  given = λ bits. sym (h.given bits);
  asked = λ bits. sym (h.asked bits);
  weak = sym h.weak;
}

edges_same : (ones twins : List Edge) → map edge_tree ones ≡ map edge_tree twins → AllZip AreEdgesSame ones twins
edges_same [] [] e = tt
edges_same [] (q ∷ twins) e = absurd (cc e)
edges_same (p ∷ ones) [] e = absurd (cc e)
edges_same (p ∷ ones) (q ∷ twins) e =
    let first : edge_tree p ≡ edge_tree q = cc e in
    let rest : map edge_tree ones ≡ map edge_tree twins = cc e in
    (edge_same p q first, edges_same ones twins rest)

edges_back : (ones twins : List Edge) → AllZip AreEdgesSame ones twins → AllZip AreEdgesSame twins ones
edges_back [] [] h = tt
edges_back [] (q ∷ twins) h = absurd h
edges_back (p ∷ ones) [] h = absurd h
edges_back (p ∷ ones) (q ∷ twins) h = (edge_back p q h.0, edges_back ones twins h.1)

-- the edge in the place of another
partner : (ones twins : List Edge) → AllZip AreEdgesSame ones twins → (n : ℕ) (edge : Edge) → slice_get ones n ≡ Some edge → (twin : Edge) × (slice_get twins n ≡ Some twin) × AreEdgesSame edge twin
partner [] twins h n edge here = absurd (cc here)
partner (p ∷ ones) [] h n edge here = absurd h
partner (p ∷ ones) (q ∷ twins) h zero edge here = let same : p ≡ edge = cc here in (q, refl, subst (λ (e : Edge). AreEdgesSame e q) same h.0)
partner (p ∷ ones) (q ∷ twins) h (suc n) edge here = partner ones twins h.1 n edge here

as_long : (ones twins : List Edge) → AllZip AreEdgesSame ones twins → length ones ≡ length twins
as_long [] [] h = refl
as_long [] (q ∷ twins) h = absurd h
as_long (p ∷ ones) [] h = absurd h
as_long (p ∷ ones) (q ∷ twins) h = ap suc (as_long ones twins h.1)

all_moved : (P Q : Edge → Type 0) → ((one twin : Edge) → AreEdgesSame one twin → P one → Q twin) → (ones twins : List Edge) → AllZip AreEdgesSame ones twins → All P ones → All Q twins
all_moved P Q move [] [] h all = λ k d l. absurd (omega (arith, l))
all_moved P Q move [] (q ∷ twins) h all = absurd h
all_moved P Q move (p ∷ ones) [] h all = absurd h
all_moved P Q move (p ∷ ones) (q ∷ twins) h all =
    All-cons Q q twins (move p q h.0 (all 0 p (omega arith))) (all_moved P Q move ones twins h.1 (λ j d m. all (suc j) d (omega (arith, m))))

any_moved : (P Q : Edge → Type 0) → ((one twin : Edge) → AreEdgesSame one twin → P one → Q twin) → (ones twins : List Edge) → AllZip AreEdgesSame ones twins → Any P ones → Any Q twins
any_moved P Q move [] twins h (k, edge, l, is, p) = absurd (omega (arith, l))
any_moved P Q move (first ∷ ones) [] h any = absurd h
any_moved P Q move (first ∷ ones) (q ∷ twins) h (zero, edge, l, is, p) = (0, q, omega arith, refl, move first q h.0 (subst P (sym is) p))
any_moved P Q move (first ∷ ones) (q ∷ twins) h (suc k, edge, l, is, p) =
    let rest = any_moved P Q move ones twins h.1 (k, edge, omega (arith, l), is, p) in (suc rest.0, rest.1, (let m = rest.2 in omega arith), rest.3, rest.4)

-- two graphs say the same
pub record GraphSaysSame (one twin : Graph) : Type 0 where
  pub name : one.name ≡ twin.name
  pub reset : one.reset ≡ twin.reset
  pub trees : map edge_tree one.edges ≡ map edge_tree twin.edges
  pub edges : AllZip AreEdgesSame one.edges twin.edges

pub graph_says_same : (one twin : Graph) → task_tree (Gste one) ≡ task_tree (Gste twin) → GraphSaysSame one twin
graph_says_same one twin e =
    let name : one.name ≡ twin.name = cc e in
    let reset : one.reset ≡ twin.reset = cc e in
    let trees : map edge_tree one.edges ≡ map edge_tree twin.edges = cc e in
    record { name = name; reset = reset; trees = trees; edges = edges_same one.edges twin.edges trees }

pub graph_back : (one twin : Graph) → GraphSaysSame one twin → GraphSaysSame twin one
graph_back one twin h = record { name = sym h.name; reset = sym h.reset; trees = sym h.trees; edges = edges_back one.edges twin.edges h.edges }

-- ---- tables

module _ (net other : RawNet) (same : AreSame net other) (back : AreSame other net) (bits : List Bool) where
  feasible_moved : (table : ℕ → VertexState) (sets : ℕ → BitSet) (one twin : Edge) → AreEdgesSame one twin → IsFeasible net bits table one sets → IsFeasible other bits table twin sets
  feasible_moved table sets one twin edge h = record {
    reached = subst (λ (v : ℕ). IsTrue (table v).reached) edge.from h.reached;
    possible = subst (λ (weak : List ℕ). ArePossible other (table twin.from).latches (record { cuts = bind_cuts twin.ant bits; weak = weak }) sets) edge.weak
        (subst (λ (cuts : List Cut). ArePossible other (table twin.from).latches (record { cuts = cuts; weak = weakened_on one }) sets) (edge.given bits)
        (subst (λ (v : ℕ). ArePossible other (table v).latches (asked_on one bits) sets) edge.from (possible_moved net other (table one.from).latches (asked_on one bits) sets same back h.possible)));
    full = λ empty. h.full (empty.0, subst (λ n. empty.0 < n) (sym same.nets) empty.1, empty.2);
  }

  fails_moved : (Fails : (ℕ → BitSet) → Cut → Type 0) (table : ℕ → VertexState) (one twin : Edge) → AreEdgesSame one twin → FailsOn Fails net bits table one → FailsOn Fails other bits table twin
  fails_moved Fails table one twin edge h = (h.0, feasible_moved table h.0 one twin edge h.1, subst (λ (cuts : List Cut). Any (Fails h.0) cuts) (edge.asked bits) h.2)

first_same : (net other : RawNet) (reset again : Bool) → AreSame net other → reset ≡ again → first_sets net reset ≡ first_sets other again
first_same net other reset again same e = ap (λ (ls : List Latch). map (first_set reset) ls) same.latches ∙ ap (λ (r : Bool). map (first_set r) other.latches) e

next_same : (net other : RawNet) (sets : ℕ → BitSet) → AreSame net other → next_sets net sets ≡ next_sets other sets
next_same net other sets same = ap (λ (ls : List Latch). map (λ (latch : Latch). sets latch.input.0) ls) same.latches

pub takes_moved : (net other : RawNet) (one twin : Graph) (bits : List Bool) (now next : ℕ → VertexState) → AreSame net other → AreSame other net → GraphSaysSame one twin → Takes net one bits now next → Takes other twin bits now next
takes_moved net other one twin bits now next same back says h = record {
  long = λ vertex. h.long vertex ∙ ap length same.latches;
  start = subst (λ (sets : List BitSet). IsReachedWith sets (next 0)) (first_same net other one.reset twin.reset same says.reset) h.start;
  edges = all_moved (λ edge. (sets : ℕ → BitSet) → IsFeasible net bits now edge sets → IsReachedWith (next_sets net sets) (next edge.to)) (λ edge. (sets : ℕ → BitSet) → IsFeasible other bits now edge sets → IsReachedWith (next_sets other sets) (next edge.to))
      (λ p q edge given sets feasible.
      subst (λ (v : ℕ). IsReachedWith (next_sets other sets) (next v)) edge.to
      (subst (λ (ss : List BitSet). IsReachedWith ss (next p.to)) (next_same net other sets same)
      (given sets (feasible_moved other net back same bits now sets q p (edge_back p q edge) feasible))))
      one.edges twin.edges says.edges h.edges;
}

least_closed_moved : (net other : RawNet) (one twin : Graph) (bits : List Bool) (table : ℕ → VertexState) → AreSame net other → AreSame other net → GraphSaysSame one twin → IsLeastClosed net one bits table → IsLeastClosed other twin bits table
least_closed_moved net other one twin bits table same back says h = record {
  closed = takes_moved net other one twin bits table table same back says h.closed;
  least = λ more closed. h.least more (takes_moved other net twin one bits more more back same (graph_back one twin says) closed);
}

-- ---- findings

module _ (net other : RawNet) (one twin : Graph) (same : AreSame net other) (back : AreSame other net) (says : GraphSaysSame one twin) where
  found_moved : (Fails : (ℕ → BitSet) → Cut → Type 0) (bits : List Bool) → IsGraphFound Fails net one bits → IsGraphFound Fails other twin bits
  found_moved Fails bits h = (
    h.0,
    least_closed_moved net other one twin bits h.0 same back says h.1,
    any_moved (FailsOn Fails net bits h.0) (FailsOn Fails other bits h.0) (fails_moved net other same back bits Fails h.0) one.edges twin.edges says.edges h.2,
  )

  contradictory_moved : (bits : List Bool) → IsGraphContradictory net one bits → IsGraphContradictory other twin bits
  contradictory_moved bits h = (
    h.0,
    least_closed_moved net other one twin bits h.0 same back says h.1,
    all_moved (λ edge. (sets : ℕ → BitSet) → ¬ IsFeasible net bits h.0 edge sets) (λ edge. (sets : ℕ → BitSet) → ¬ IsFeasible other bits h.0 edge sets)
        (λ p q edge none sets feasible. none sets (feasible_moved other net back same bits h.0 sets q p (edge_back p q edge) feasible)) one.edges twin.edges says.edges h.2,
  )

weak_moved : (net other : RawNet) (one twin : Graph) → AreSame net other → AreSame other net → GraphSaysSame one twin → (bits : List Bool) → IsGraphWeak net one bits → IsGraphWeak other twin bits
weak_moved net other one twin same back says bits h = (
  (λ strong. h.0 (found_moved other net twin one back same (graph_back one twin says) FailsStrongly bits strong)),
  found_moved net other one twin same back says FailsWeakly bits h.1,
)

-- ---- paths

contains_at : (edges : List Edge) (n : ℕ) (edge : Edge) → slice_get edges n ≡ Some edge → Contains edges edge
contains_at edges n edge here = (n, slice_get_within edges n edge here, get_or_from_slice_get edges n edge edge here)

-- the path with the same numbers
path_twin : (one twin : Graph) → AllZip AreEdgesSame one.edges twin.edges → (numbers : List ℕ) (path : List Edge) → AreNumbers one numbers path → (other : List Edge) × AreNumbers twin numbers other × AllZip AreEdgesSame path other
path_twin one twin says [] [] are = ([], tt, tt)
path_twin one twin says [] (edge ∷ path) are = absurd are
path_twin one twin says (n ∷ numbers) [] are = absurd are
path_twin one twin says (n ∷ numbers) (edge ∷ path) are =
    let here = partner one.edges twin.edges says n edge are.0 in
    let rest = path_twin one twin says numbers path are.1 in
    (here.0 ∷ rest.0, (here.1, rest.1), (here.2, rest.2))

is_path_moved : (ones : List Edge) (twin : Graph) (vertex more : ℕ) (numbers : List ℕ) (path other : List Edge) → AreNumbers twin numbers other → AllZip AreEdgesSame path other → vertex ≡ more → IsPathFrom ones vertex path → IsPathFrom twin.edges more other
is_path_moved ones twin vertex more numbers [] [] are says e h = tt
is_path_moved ones twin vertex more numbers [] (q ∷ other) are says e h = absurd says
is_path_moved ones twin vertex more numbers (p ∷ path) [] are says e h = absurd says
is_path_moved ones twin vertex more [] (p ∷ path) (q ∷ other) are says e h = absurd are
is_path_moved ones twin vertex more (n ∷ numbers) (p ∷ path) (q ∷ other) are says e h =
    (contains_at twin.edges n q are.0, sym says.0.from ∙ h.1 ∙ e, is_path_moved ones twin p.to q.to numbers path other are.1 says.1 says.0.to h.2)

module _ (net other : RawNet) (one twin : Graph) (same : AreSame net other) (back : AreSame other net) (says : GraphSaysSame one twin) (Fails : (ℕ → BitSet) → Cut → Type 0) (bits : List Bool) where
  candidate_moved : (numbers : List ℕ) (path more : List Edge) → AreNumbers twin numbers more → AllZip AreEdgesSame path more → IsCandidate Fails net one bits path → IsCandidate Fails other twin bits more
  candidate_moved numbers path more are alike h =
      let last = partner path more alike h.last.number h.edge h.last.here in
      record {
        table = h.table;
        is_table = least_closed_moved net other one twin bits h.table same back says h.is_table;
        is_path = is_path_moved one.edges twin 0 0 numbers path more are alike refl h.is_path;
        feasible = all_moved (λ edge. (sets : ℕ → BitSet) × IsFeasible net bits h.table edge sets) (λ edge. (sets : ℕ → BitSet) × IsFeasible other bits h.table edge sets)
            (λ p q edge f. (f.0, feasible_moved net other same back bits h.table f.0 p q edge f.1)) path more alike h.feasible;
        edge = last.0;
        last = record { number = h.last.number; last = h.last.last ∙ as_long path more alike; here = last.1 };
        fails = fails_moved net other same back bits Fails h.table h.edge last.0 last.2 h.fails;
      }

  place_moved : (numbers : List ℕ) (place : NodeId × ℕ) → IsGraphPlace Fails net one bits numbers place → IsGraphPlace Fails other twin bits numbers place
  place_moved numbers place h =
      let twins = path_twin one twin says.edges numbers h.path h.are in
      let p = h.is_place in
      let edge = partner h.path twins.0 twins.2 place.1 p.edge p.last in
      record {
        path = twins.0;
        are = twins.1;
        number = h.number;
        is_place = record {
          table = p.table;
          is_table = least_closed_moved net other one twin bits p.table same back says p.is_table;
          edge = edge.0;
          time = p.time ∙ as_long h.path twins.0 twins.2;
          last = edge.1;
          sets = p.sets;
          feasible = feasible_moved net other same back bits p.table p.sets p.edge edge.0 edge.2 p.feasible;
          first = record {
            cut = p.first.cut;
            here = subst (λ (cuts : List Cut). slice_get cuts h.number ≡ Some p.first.cut) (edge.2.asked bits) p.first.here;
            fails = p.first.fails;
            first = subst (λ (cuts : List Cut). (j : ℕ) (c : Cut) → j < h.number → slice_get cuts j ≡ Some c → ¬ Fails p.sets c) (edge.2.asked bits) p.first.first;
          };
        };
        node = h.node;
      }

shown_path_moved : (net other : RawNet) (one twin : Graph) → AreSame net other → AreSame other net → GraphSaysSame one twin → (Fails : (ℕ → BitSet) → Cut → Type 0) (bits : List Bool) (numbers : List ℕ) → IsShownPath Fails net one bits numbers → IsShownPath Fails other twin bits numbers
shown_path_moved net other one twin same back says Fails bits numbers h =
    let twins = path_twin one twin says.edges numbers h.path h.are in
    let returned = graph_back one twin says in
    record {
      path = twins.0;
      are = twins.1;
      candidate = candidate_moved net other one twin same back says Fails bits numbers h.path twins.0 twins.1 twins.2 h.candidate;
      least = λ others more are candidate.
          let first = path_twin twin one returned.edges others more are in
          h.least others first.0 first.1 (candidate_moved other net twin one back same returned Fails bits others more first.0 first.1 first.2 candidate);
    }

-- ---- the run

binds_free : (net other : RawNet) → AreSame net other → (ones twins : List Bind) → map bind_tree ones ≡ map bind_tree twins → All (λ bind. IsUndriven net bind.node.0) ones → All (λ bind. IsUndriven other bind.node.0) twins
binds_free net other same [] [] e all = λ k d l. absurd (omega (arith, l))
binds_free net other same [] (q ∷ twins) e all = absurd (cc e)
binds_free net other same (p ∷ ones) [] e all = absurd (cc e)
binds_free net other same (p ∷ ones) (q ∷ twins) e all =
    let first : bind_tree p ≡ bind_tree q = cc e in
    let rest : map bind_tree ones ≡ map bind_tree twins = cc e in
    All-cons (λ (bind : Bind). IsUndriven other bind.node.0) q twins
    (undriven_moved net other q.node.0 same (subst (λ (id : ℕ). IsUndriven net id) (ap (λ (t : BindTree). t.node) first) (all 0 p (omega arith))))
    (binds_free net other same ones twins rest (λ j d m. all (suc j) d (omega (arith, m))))

bindable_moved : (net other : RawNet) (one twin : Graph) → AreSame net other → GraphSaysSame one twin → IsBindable net (Gste one) → IsBindable other (Gste twin)
bindable_moved net other one twin same says h =
    all_moved (λ edge. All (λ bind. IsUndriven net bind.node.0) edge.ant) (λ edge. All (λ bind. IsUndriven other bind.node.0) edge.ant)
    (λ p q edge free. binds_free net other same p.ant q.ant edge.ants free) one.edges twin.edges says.edges h

module _ (net other : RawNet) (one twin : Graph) (same : AreSame net other) (back : AreSame other net) (says : GraphSaysSame one twin) (bits : List Bool) where
  along_moved : (path more : List Edge) (run : ℕ → ℕ → Bool) → AllZip AreEdgesSame path more → IsPrintedAlong net one bits path run → IsPrintedAlong other twin bits more run
  along_moved path more run alike h =
      let returned = edges_back path more alike in
      record {
        is_run = subst (λ (n : ℕ). IsTaskRun other twin.reset n run) (as_long path more alike) (subst (λ reset. IsTaskRun other reset (length path) run) says.reset (record {
          is_run = run_moved net other (length path) run same h.is_run.is_run;
          starts = λ l. subst (λ (latches : List Latch). All (λ (latch : Latch). MayStart one.reset latch (run 0 latch.output.0)) latches) same.latches (h.is_run.starts l);
        }));
        sources = λ i edge id here l none.
            let first = partner more path returned i edge here in
            subst (λ (cuts : List Cut). IsFilled cuts id (run i id)) (sym (first.2.given bits))
            (h.sources i first.0 id first.1 (subst (λ (n : ℕ). id < n) (sym same.nets) l) (undriven_moved other net id back none));
        starts = λ edge here.
            let first = partner more path returned 0 edge here in
            subst (λ reset. All (λ (latch : Latch). IsFirstBit reset latch (bind_cuts edge.ant bits) (run 0 latch.output.0)) other.latches) says.reset
            (subst (λ (cuts : List Cut). All (λ (latch : Latch). IsFirstBit one.reset latch cuts (run 0 latch.output.0)) other.latches) (sym (first.2.given bits))
            (subst (λ (latches : List Latch). All (λ (latch : Latch). IsFirstBit one.reset latch (bind_cuts first.0.ant bits) (run 0 latch.output.0)) latches) same.latches (h.starts first.0 first.1)));
      }

on_path_moved : (net other : RawNet) (one twin : Graph) → AreSame net other → AreSame other net → GraphSaysSame one twin → (report : Report) → IsPrintedOnPath net one report.least report.path report.run → IsPrintedOnPath other twin report.least report.path report.run
on_path_moved net other one twin same back says report h =
    let twins = path_twin one twin says.edges report.path h.path h.are in
    record {
      bits = h.bits;
      least_is = h.least_is;
      told = h.told;
      run_is = h.run_is;
      path = twins.0;
      are = twins.1;
      rows = subst (λ (n : ℕ). HasRows other.nets n h.told) (as_long h.path twins.0 twins.2) (subst (λ (n : ℕ). HasRows n (length h.path) h.told) same.nets h.rows);
      printed = along_moved net other one twin same back says h.bits h.path twins.0 (run_of h.told) twins.2 h.printed;
    }

-- ---- the report

module _ (net other : RawNet) (one twin : Graph) (same : AreSame net other) (back : AreSame other net) (says : GraphSaysSame one twin) where
  returned : GraphSaysSame twin one
  returned = graph_back one twin says

  prints_moved : (report : Report) → GraphPrints net one report.verdict report.least report.path report.run → GraphPrints other twin report.verdict report.least report.path report.run
  prints_moved report (inl h) = inl ((h.0.0, bindable_moved net other one twin same says h.0.1), on_path_moved net other one twin same back says report h.1)
  prints_moved report (inr h) = inr ((λ due. h.0 (due.0, bindable_moved other net twin one back returned due.1)), h.1)

  strong_to : (bits : List Bool) → IsGraphStrong net one bits → IsGraphStrong other twin bits
  strong_to = found_moved net other one twin same back says FailsStrongly

  strong_from : (bits : List Bool) → IsGraphStrong other twin bits → IsGraphStrong net one bits
  strong_from = found_moved other net twin one back same returned FailsStrongly

  weak_to : (bits : List Bool) → IsGraphWeak net one bits → IsGraphWeak other twin bits
  weak_to = weak_moved net other one twin same back says

  weak_from : (bits : List Bool) → IsGraphWeak other twin bits → IsGraphWeak net one bits
  weak_from = weak_moved other net twin one back same returned

  contradictory_to : (bits : List Bool) → IsGraphContradictory net one bits → IsGraphContradictory other twin bits
  contradictory_to = contradictory_moved net other one twin same back says

  contradictory_from : (bits : List Bool) → IsGraphContradictory other twin bits → IsGraphContradictory net one bits
  contradictory_from = contradictory_moved other net twin one back same returned

  shown_moved : (vars : ℕ) (P Q : List Bool → Type 0) (Fails : (ℕ → BitSet) → Cut → Type 0) (report : Report) → ((bits : List Bool) → P bits → Q bits) → ((bits : List Bool) → Q bits → P bits) →
      IsGraphShown P Fails net vars one report.least report.path report.fails → IsGraphShown Q Fails other vars twin report.least report.path report.fails
  shown_moved vars P Q Fails report to from h = record {
    bits = h.bits;
    least_is = h.least_is;
    is_least = least_moved vars P Q h.bits to from h.is_least;
    is_path = shown_path_moved net other one twin same back says Fails h.bits report.path h.is_path;
    place = h.place;
    fails_is = h.fails_is;
    is_place = place_moved net other one twin same back says Fails h.bits report.path h.place h.is_place;
  }

  shows_moved : (vars : ℕ) (report : Report) → GraphShows net vars one report.verdict report.least report.path report.fails → GraphShows other vars twin report.verdict report.least report.path report.fails
  shows_moved vars report (inl h) = inl (h.0, shown_moved vars (IsGraphStrong net one) (IsGraphStrong other twin) FailsStrongly report strong_to strong_from h.1)
  shows_moved vars report (inr (inl h)) = inr (inl (h.0, shown_moved vars (IsGraphWeak net one) (IsGraphWeak other twin) FailsWeakly report weak_to weak_from h.1))
  shows_moved vars report (inr (inr h)) = inr (inr h)

  pub graph_report_moved : (vars cubes : ℕ) (report : Report) → IsGraphReportOf net vars cubes one report → IsGraphReportOf other vars cubes twin report
  graph_report_moved vars cubes report h = record {
    named = h.named ∙ says.name;
    judged = verdict_alike vars (IsGraphStrong net one) (IsGraphWeak net one) (IsGraphContradictory net one) (IsGraphStrong other twin) (IsGraphWeak other twin) (IsGraphContradictory other twin) report.verdict
        strong_to strong_from weak_to weak_from contradictory_to contradictory_from h.judged;
    strong = cubes_moved cubes vars (IsGraphStrong net one) (IsGraphStrong other twin) report.guards.strong strong_to strong_from h.strong;
    weak = cubes_moved cubes vars (IsGraphWeak net one) (IsGraphWeak other twin) report.guards.weak weak_to weak_from h.weak;
    contradictory = cubes_moved cubes vars (IsGraphContradictory net one) (IsGraphContradictory other twin) report.guards.contradictory contradictory_to contradictory_from h.contradictory;
    shown = shows_moved vars report h.shown;
    run = prints_moved report h.run;
  }

-- ---- the nets that a graph names

binds_alike : (id : ℕ) (ones twins : List Bind) → map bind_tree ones ≡ map bind_tree twins → list_any (λ (bind : Bind). nat_eq bind.node.0 id) ones ≡ list_any (λ (bind : Bind). nat_eq bind.node.0 id) twins
binds_alike id [] [] e = refl
binds_alike id [] (q ∷ twins) e = absurd (cc e)
binds_alike id (p ∷ ones) [] e = absurd (cc e)
binds_alike id (p ∷ ones) (q ∷ twins) e =
    let first : bind_tree p ≡ bind_tree q = cc e in
    let rest : map bind_tree ones ≡ map bind_tree twins = cc e in
    ap (λ (n : ℕ). nat_eq n id || list_any (λ (bind : Bind). nat_eq bind.node.0 id) ones) (ap (λ (t : BindTree). t.node) first)
    ∙ ap (λ b. nat_eq q.node.0 id || b) (binds_alike id ones twins rest)

-- an edge names the net
abbrev names_on : ℕ → Edge → Bool
names_on id edge = list_any (λ (bind : Bind). nat_eq bind.node.0 id) edge.ant || list_any (λ (bind : Bind). nat_eq bind.node.0 id) edge.con

edges_alike : (id : ℕ) (ones twins : List Edge) → AllZip AreEdgesSame ones twins → list_any (names_on id) ones ≡ list_any (names_on id) twins
edges_alike id [] [] h = refl
edges_alike id [] (q ∷ twins) h = absurd h
edges_alike id (p ∷ ones) [] h = absurd h
edges_alike id (p ∷ ones) (q ∷ twins) h =
    let here : names_on id p ≡ names_on id q = ap (λ b. b || list_any (λ (bind : Bind). nat_eq bind.node.0 id) p.con) (binds_alike id p.ant q.ant h.0.ants)
    ∙ ap (λ b. list_any (λ (bind : Bind). nat_eq bind.node.0 id) q.ant || b) (binds_alike id p.con q.con h.0.cons) in
    ap (λ b. b || list_any (names_on id) ones) here ∙ ap (λ b. names_on id q || b) (edges_alike id ones twins h.1)

pub graph_named_alike : (one twin : Graph) → GraphSaysSame one twin → names_net (Gste one) ≡ names_net (Gste twin)
graph_named_alike one twin says = λ i id. edges_alike id one.edges twin.edges says.edges i
