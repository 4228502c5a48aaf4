-- The work functions of a graph read the variables of the graph alone, so it needs as many steps over more.
use Rattle.std.proofs.Common.{◌≡◌, ℕ, zero, suc, ◌+◌, ◌-◌, ◌≤◌, Bool, true, false, not, List, [], ◌∷◌, ◌++◌, map, take, filter, length, get_or, Option, None, Some, arith, refl, sym, ◌∙◌, ap, subst}
use Rattle.std.specs.Prelude.{◌==◌, ◌||◌, All, IsTrue, ◌&&◌, if◌then◌else◌, slice_get, slice_index_or}
use Rattle.std.specs.List.{flat_map}
use Rattle.std.proofs.lemmas.Bool.{and_parts}
use Rattle.std.proofs.lemmas.List.{length-take}
use Rattle.std.proofs.lemmas.List.Elements.{All-cons, All-head, All-nil, All-tail, Contains-get_or}
use Rattle.dd_nodes.specs.Functions.{node_count}
use Rattle.ste_base.specs.declared.id.NodeId.{NodeId}
use Rattle.net_core.specs.declared.bit_set.BitSet.{BitSet}
use Rattle.net_core.specs.declared.cover.Cover.{Cover}
use Rattle.net_core.specs.declared.cover.Lit.{Lit}
use Rattle.net_core.specs.declared.cover.Lit.TheVariants as lit
use Rattle.net_core.specs.declared.raw.Gate.{Gate}
use Rattle.net_core.specs.declared.raw.Latch.{Latch}
use Rattle.net_core.specs.declared.raw.RawNet.{RawNet}
use Rattle.net_core.specs.declared.source.Source.{Source}
use Rattle.net_core.specs.declared.source.Source.TheVariants as source
use Rattle.net_core.specs.Cases.{on_rows, off_rows}
use Rattle.net_core.specs.Possible.{ArePossible, is_weakened}
use Rattle.net_core.specs.Run.{Cut, IsSettled}
use Rattle.net_core.specs.Source.{source_of}
use Rattle.ste_base.specs.Functions.{Function}
use Rattle.net_core.specs.Work.{SymbolicAsked, SymbolicCut, SymbolicSet, after_cut, by_gate, by_source, chain, conjunction, cover_set, cover_work, cut_set, cut_work, cuts_work, disjunction, everything, factor, factors, gates_work, negation, never, no_bit, one_gate_work, row_products, rows_chains, rows_work, set_at, set_before_cuts, sets_below, some_bit, some_empty, sum, time_work, unless_weakened, whole}
use Rattle.ste_model.specs.declared.task.Bind.{Bind}
use Rattle.ste_model.specs.declared.task.Edge.{Edge}
use Rattle.ste_model.specs.declared.task.Graph.{Graph}
use Rattle.ste_model.specs.Edges.{asked_on, weakened_on}
use Rattle.ste_model.specs.Expressions.{reads, symbolic_value}
use Rattle.ste_model.specs.GraphNeed.{AreWholeRounds, BindsReadBelow, GraphReadsBelow, IsGraphNeed}
use Rattle.ste_model.specs.GraphTable.{AreRounds, VertexState, enough}
use Rattle.ste_model.specs.GraphWork.{SymbolicState, arrivals, binds_work, edge_time_work, feasible_where, found_work, gated_set, given_by, graph_feasible, graph_strong, graph_weak, graph_work, latch_in, ones_of, reached_in, results_work, round_work, sets_functions, start_state, state_at, strong_on, symbolic_asked_on, symbolic_binds, vertex_work, weak_on, where_feasible, zeros_of}
use Rattle.ste_model.specs.Work.{both_bits, consequent_work, consequents_work, constant_set, only_one, only_zero, over_times, refutes, strong_findings, weak_findings}
use Rattle.ste_model.proofs.GraphNeeds.{one_graph_need}
use Rattle.exact_model.specs.Wider.{IsOfFirst}
use Rattle.exact_model.specs.WiderGraphs.{WiderGraphs}
use Rattle.exact_model.proofs.GraphBits.{Alike, alike, report_down, take_same, takes_on}
use Rattle.exact_model.proofs.MoreVariables.{take_take, wider_has_as_many_nodes}
use Rattle.exact_model.proofs.WiderNeeds.{expr_first, value_first}

-- ---- functions of the first n variables

record First (n : ℕ) (f : Function) : Type 0 where
  at : IsOfFirst n f

data AreFirst (n : ℕ) : List Function → Type 0 where
  none : AreFirst n []
  more : {f : Function} {fs : List Function} → First n f → AreFirst n fs → AreFirst n (f ∷ fs)

record FirstSet (n : ℕ) (w : SymbolicSet) : Type 0 where
  zero : First n w.zero
  one : First n w.one

data FirstSets (n : ℕ) : List SymbolicSet → Type 0 where
  none : FirstSets n []
  more : {w : SymbolicSet} {ws : List SymbolicSet} → FirstSet n w → FirstSets n ws → FirstSets n (w ∷ ws)

record FirstCut (n : ℕ) (d : SymbolicCut) : Type 0 where
  guard : First n d.guard
  value : First n d.value

data FirstCuts (n : ℕ) : List SymbolicCut → Type 0 where
  none : FirstCuts n []
  more : {d : SymbolicCut} {ds : List SymbolicCut} → FirstCut n d → FirstCuts n ds → FirstCuts n (d ∷ ds)

first_not : {n : ℕ} {f : Function} → First n f → First n (negation f)
first_not p = record { at = λ bits l. ap not (p.at bits l) }

first_and : {n : ℕ} {f g : Function} → First n f → First n g → First n (conjunction f g)
first_and {n} {f} {g} p q = record { at = λ bits l. ap (λ x. x && g bits) (p.at bits l) ∙ ap (λ x. f (take n bits) && x) (q.at bits l) }

first_or : {n : ℕ} {f g : Function} → First n f → First n g → First n (disjunction f g)
first_or {n} {f} {g} p q = record { at = λ bits l. ap (λ x. x || g bits) (p.at bits l) ∙ ap (λ x. f (take n bits) || x) (q.at bits l) }

first_constant : {n : ℕ} (b : Bool) → First n (λ bits. b)
first_constant b = record { at = λ bits l. refl }

append : {n : ℕ} {fs gs : List Function} → AreFirst n fs → AreFirst n gs → AreFirst n (fs ++ gs)
append AreFirst.none q = q
append (AreFirst.more p ps) q = AreFirst.more p (append ps q)

all_of : {n : ℕ} (fs : List Function) → AreFirst n fs → All (IsOfFirst n) fs
all_of {n} [] AreFirst.none = All-nil (IsOfFirst n)
all_of {n} (f ∷ fs) (AreFirst.more p ps) = All-cons (IsOfFirst n) f fs p.at (all_of fs ps)

from_all : {n : ℕ} (fs : List Function) → All (IsOfFirst n) fs → AreFirst n fs
from_all [] all = AreFirst.none
from_all {n} (f ∷ fs) all = AreFirst.more (record { at = All-head (IsOfFirst n) f fs all }) (from_all fs (All-tail (IsOfFirst n) f fs all))

abbrev Keeps : ℕ → (Function → Function → Function) → Type 0
Keeps n join = (f g : Function) → First n f → First n g → First n (join f g)

chains : {n : ℕ} (join : Function → Function → Function) → Keeps n join → {f : Function} {fs : List Function} → First n f → AreFirst n fs → AreFirst n (chain join f fs)
chains join keeps p AreFirst.none = AreFirst.none
chains join keeps {f = f} p (AreFirst.more {f = g} q qs) = AreFirst.more (keeps f g p q) (chains join keeps (keeps f g p q) qs)

wholes : {n : ℕ} (join : Function → Function → Function) → Keeps n join → {f : Function} {fs : List Function} → First n f → AreFirst n fs → First n (whole join f fs)
wholes join keeps p AreFirst.none = p
wholes join keeps {f = f} p (AreFirst.more {f = g} q qs) = wholes join keeps (keeps f g p q) qs

and_keeps : (n : ℕ) → Keeps n conjunction
and_keeps n f g p q = first_and p q

or_keeps : (n : ℕ) → Keeps n disjunction
or_keeps n f g p q = first_or p q

sums_first : {n : ℕ} {fs : List Function} → AreFirst n fs → AreFirst n (chain disjunction never fs)
sums_first p = chains disjunction (or_keeps _) (first_constant false) p

sum_first : {n : ℕ} {fs : List Function} → AreFirst n fs → First n (sum fs)
sum_first p = wholes disjunction (or_keeps _) (first_constant false) p

-- ---- gates

some_first : {n : ℕ} {w : SymbolicSet} → FirstSet n w → First n (some_bit w)
some_first p = first_or p.zero p.one

no_first : {n : ℕ} {w : SymbolicSet} → FirstSet n w → First n (no_bit w)
no_first p = first_not (some_first p)

for_each : {n : ℕ} {ws : List SymbolicSet} (F : SymbolicSet → Function) → ((w : SymbolicSet) → FirstSet n w → First n (F w)) → FirstSets n ws → AreFirst n (map F ws)
for_each F each FirstSets.none = AreFirst.none
for_each F each (FirstSets.more {w = w} p ps) = AreFirst.more (each w p) (for_each F each ps)

factor_first : {n : ℕ} {w : SymbolicSet} (l : Lit) → FirstSet n w → First n (factor l w)
factor_first lit.Zero p = p.zero
factor_first lit.One p = p.one
factor_first lit.Any p = some_first p

factors_first : {n : ℕ} {ws : List SymbolicSet} (row : List Lit) → FirstSets n ws → AreFirst n (factors row ws)
factors_first [] p = AreFirst.none
factors_first (l ∷ row) FirstSets.none = AreFirst.none
factors_first (l ∷ row) (FirstSets.more p ps) = AreFirst.more (factor_first l p) (factors_first row ps)

products_first : {n : ℕ} {ws : List SymbolicSet} (rows : List (List Lit)) → FirstSets n ws → AreFirst n (row_products rows ws)
products_first [] p = AreFirst.none
products_first (row ∷ rows) p = AreFirst.more (wholes conjunction (and_keeps _) (first_constant true) (factors_first row p)) (products_first rows p)

rows_first : {n : ℕ} {ws : List SymbolicSet} (rows : List (List Lit)) → FirstSets n ws → AreFirst n (rows_chains rows ws)
rows_first [] p = AreFirst.none
rows_first (row ∷ rows) p = append (chains conjunction (and_keeps _) (first_constant true) (factors_first row p)) (rows_first rows p)

rows_works : {n : ℕ} {ws : List SymbolicSet} (rows : List (List Lit)) → FirstSets n ws → AreFirst n (rows_work rows ws)
rows_works rows p = append (for_each some_bit (λ w. some_first) p) (append (rows_first rows p) (sums_first (products_first rows p)))

cover_works : {n : ℕ} {ws : List SymbolicSet} (cover : Option Cover) → FirstSets n ws → AreFirst n (cover_work cover ws)
cover_works None p = AreFirst.none
cover_works (Some cover) p = append (rows_works (on_rows cover) p) (rows_works (off_rows cover) p)

cover_sets : {n : ℕ} {ws : List SymbolicSet} (cover : Option Cover) → FirstSets n ws → FirstSet n (cover_set cover ws)
cover_sets None p = record { zero = first_constant true; one = first_constant false }
cover_sets (Some cover) p = record { zero = sum_first (products_first (off_rows cover) p); one = sum_first (products_first (on_rows cover) p) }

-- ---- one time

abbrev FirstFamily : ℕ → (ℕ → SymbolicSet) → Type 0
FirstFamily n sets = (id : ℕ) → FirstSet n (sets id)

everything_first : {n : ℕ} → FirstSet n everything
everything_first = record { zero = first_constant true; one = first_constant true }

indexed : {n : ℕ} {ws : List SymbolicSet} (l : ℕ) → FirstSets n ws → FirstSet n (slice_index_or ws l everything)
indexed l FirstSets.none = everything_first
indexed zero (FirstSets.more p ps) = p
indexed (suc l) (FirstSets.more p ps) = indexed l ps

cut_first : {n : ℕ} {w : SymbolicSet} {g x : Function} → First n g → First n x → FirstSet n w → FirstSet n (cut_set w g x)
cut_first g x p = record { zero = first_and p.zero (first_not (first_and g x)); one = first_and p.one (first_not (first_and g (first_not x))) }

cut_works : {n : ℕ} {w : SymbolicSet} {g x : Function} → First n g → First n x → FirstSet n w → AreFirst n (cut_work w g x)
cut_works g x p =
    AreFirst.more (first_not x) (AreFirst.more (first_and g x) (AreFirst.more (first_and g (first_not x))
    (AreFirst.more (first_not (first_and g x)) (AreFirst.more (first_not (first_and g (first_not x)))
    (AreFirst.more (cut_first g x p).zero (AreFirst.more (cut_first g x p).one AreFirst.none))))))

after_first : {n : ℕ} (d : SymbolicCut) (sets : ℕ → SymbolicSet) → FirstCut n d → FirstFamily n sets → FirstFamily n (after_cut d sets)
after_first {n} d sets cut all id = by (d.node == id)
  where
    by : (b : Bool) → FirstSet n (if b then cut_set (sets id) d.guard d.value else sets id)
    by true = cut_first cut.guard cut.value (all id)
    by false = all id

cuts_first : {n : ℕ} {cuts : List SymbolicCut} (sets : ℕ → SymbolicSet) → FirstCuts n cuts → FirstFamily n sets → AreFirst n (cuts_work cuts sets)
cuts_first sets FirstCuts.none all = AreFirst.none
cuts_first sets (FirstCuts.more {d = d} cut cuts) all = append (cut_works cut.guard cut.value (all d.node)) (cuts_first (after_cut d sets) cuts (after_first d sets cut all))

unless_first : {n : ℕ} {w : SymbolicSet} (is_weak : Bool) → FirstSet n w → FirstSet n (unless_weakened is_weak w)
unless_first true p = everything_first
unless_first false p = p

module _ (n : ℕ) (net : RawNet) (sets : ℕ → SymbolicSet) (all : FirstFamily n sets) where
  inputs_first : (inputs : List NodeId) → FirstSets n (map (λ input. sets input.0) inputs)
  inputs_first [] = FirstSets.none
  inputs_first (input ∷ inputs) = FirstSets.more (all input.0) (inputs_first inputs)

  below_first : (k : ℕ) → FirstSets n (sets_below sets k)
  below_first zero = FirstSets.none
  below_first (suc k) = put (below_first k)
    where
      put : {ws : List SymbolicSet} → FirstSets n ws → FirstSets n (ws ++ sets k ∷ [])
      put FirstSets.none = FirstSets.more (all k) FirstSets.none
      put (FirstSets.more p ps) = FirstSets.more p (put ps)

  one_gate_first : (is_weak : Bool) (gate : Gate) → AreFirst n (one_gate_work is_weak net sets gate)
  one_gate_first true gate = AreFirst.none
  one_gate_first false gate = cover_works (slice_get net.covers gate.cover) (inputs_first gate.inputs)

  gates_first : (weak : List ℕ) (gates : List Gate) → AreFirst n (gates_work net weak sets gates)
  gates_first weak [] = AreFirst.none
  gates_first weak (gate ∷ gates) = append (one_gate_first (is_weakened weak gate.output.0) gate) (gates_first weak gates)

  gate_first : (gate : Option Gate) → FirstSet n (by_gate net sets gate)
  gate_first None = everything_first
  gate_first (Some gate) = cover_sets (slice_get net.covers gate.cover) (inputs_first gate.inputs)

  source_first : {ls : List SymbolicSet} → FirstSets n ls → (s : Source) → FirstSet n (by_source net ls sets s)
  source_first p source.Input = everything_first
  source_first p source.Free = everything_first
  source_first p (source.Gate g) = gate_first (slice_get net.gates g)
  source_first p (source.Latch l) = indexed l p

  time_first : {ls : List SymbolicSet} (asked : SymbolicAsked) → FirstCuts n asked.cuts → FirstSets n ls → AreFirst n (time_work net ls asked sets)
  time_first {ls} asked cuts p =
      let below = below_first net.nets in
      append (cuts_first (set_before_cuts net asked.weak ls sets) cuts (λ id. unless_first (is_weakened asked.weak id) (source_first p (source_of net id))))
      (append (gates_first asked.weak net.gates)
      (append (for_each some_bit (λ w. some_first) below) (append (for_each no_bit (λ w. no_first) below) (sums_first (for_each no_bit (λ w. no_first) below)))))

  empty_first : First n (some_empty net sets)
  empty_first = sum_first (for_each no_bit (λ w. no_first) (below_first net.nets))

  -- ---- consequents

  both_first : {w : SymbolicSet} → FirstSet n w → First n (both_bits w)
  both_first p = first_and p.zero p.one

  zero_first : {w : SymbolicSet} → FirstSet n w → First n (only_zero w)
  zero_first p = first_and p.zero (first_not p.one)

  one_first : {w : SymbolicSet} → FirstSet n w → First n (only_one w)
  one_first p = first_and p.one (first_not p.zero)

  refutes_first : {w : SymbolicSet} {x : Function} → First n x → FirstSet n w → First n (refutes w x)
  refutes_first x p = first_or (first_and x (zero_first p)) (first_and (first_not x) (one_first p))

  consequent_first : {w : SymbolicSet} {g x : Function} → First n g → First n x → FirstSet n w → AreFirst n (consequent_work w g x)
  consequent_first g x p =
      AreFirst.more (both_first p) (AreFirst.more (first_and g (both_first p))
      (AreFirst.more (first_not p.zero) (AreFirst.more (first_not p.one) (AreFirst.more (first_not x)
      (AreFirst.more (zero_first p) (AreFirst.more (one_first p) (AreFirst.more (first_and x (zero_first p)) (AreFirst.more (first_and (first_not x) (one_first p))
      (AreFirst.more (refutes_first x p) (AreFirst.more (first_and g (refutes_first x p)) AreFirst.none))))))))))

  consequents_first : {cuts : List SymbolicCut} → FirstCuts n cuts → AreFirst n (consequents_work sets cuts)
  consequents_first FirstCuts.none = AreFirst.none
  consequents_first (FirstCuts.more {d = d} cut cuts) = append (consequent_first cut.guard cut.value (all d.node)) (consequents_first cuts)

  strongs_first : {cuts : List SymbolicCut} → FirstCuts n cuts → AreFirst n (strong_findings sets cuts)
  strongs_first FirstCuts.none = AreFirst.none
  strongs_first (FirstCuts.more {d = d} cut cuts) = AreFirst.more (first_and cut.guard (refutes_first cut.value (all d.node))) (strongs_first cuts)

  weaks_first : {cuts : List SymbolicCut} → FirstCuts n cuts → AreFirst n (weak_findings sets cuts)
  weaks_first FirstCuts.none = AreFirst.none
  weaks_first (FirstCuts.more {d = d} cut cuts) = AreFirst.more (first_and cut.guard (both_first (all d.node))) (weaks_first cuts)

-- ---- states

record FirstState (n : ℕ) (s : SymbolicState) : Type 0 where
  reached : First n s.reached
  latches : FirstSets n s.latches

data FirstStates (n : ℕ) : List SymbolicState → Type 0 where
  none : FirstStates n []
  more : {s : SymbolicState} {ss : List SymbolicState} → FirstState n s → FirstStates n ss → FirstStates n (s ∷ ss)

gated_first : {n : ℕ} {w : SymbolicSet} {f : Function} → FirstSet n w → First n f → FirstSet n (gated_set w f)
gated_first p q = record { zero = first_and p.zero q; one = first_and p.one q }

functions_first : {n : ℕ} {ws : List SymbolicSet} → FirstSets n ws → AreFirst n (sets_functions ws)
functions_first FirstSets.none = AreFirst.none
functions_first (FirstSets.more p ps) = AreFirst.more p.zero (AreFirst.more p.one (functions_first ps))

times_first : {n : ℕ} (F : ℕ → List Function) (k : ℕ) → ((t : ℕ) → AreFirst n (F t)) → AreFirst n (over_times F k)
times_first F zero each = AreFirst.none
times_first F (suc k) each = append (times_first F k each) (each k)

parts_first : {n : ℕ} (F : Edge → List Function) (edges : List Edge) → All (λ edge. AreFirst n (F edge)) edges → AreFirst n (flat_map F edges)
parts_first F [] each = AreFirst.none
parts_first {n} F (edge ∷ edges) each =
    append (All-head (λ e. AreFirst n (F e)) edge edges each) (parts_first F edges (All-tail (λ e. AreFirst n (F e)) edge edges each))

each_first : {n : ℕ} (F : Edge → Function) (edges : List Edge) → ((edge : Edge) → First n (F edge)) → AreFirst n (map F edges)
each_first F [] each = AreFirst.none
each_first F (edge ∷ edges) each = AreFirst.more (each edge) (each_first F edges each)

-- ---- one edge

module _ (n : ℕ) (net : RawNet) (s : SymbolicState) (sets : ℕ → SymbolicSet) (state : FirstState n s) (all : FirstFamily n sets) where
  feasible_first : First n (feasible_where net s sets)
  feasible_first = first_and state.reached (first_not (empty_first n net sets all))

  given_latches : (latches : List Latch) → FirstSets n (map (λ latch. gated_set (sets latch.input.0) (feasible_where net s sets)) latches)
  given_latches [] = FirstSets.none
  given_latches (latch ∷ latches) = FirstSets.more (gated_first (all latch.input.0) feasible_first) (given_latches latches)

  given_first : FirstState n (given_by net s sets)
  given_first = record { reached = feasible_first; latches = given_latches net.latches }

  edge_first : (edge : Edge) → FirstCuts n (symbolic_binds edge.ant) → AreFirst n (edge_time_work net edge s sets)
  edge_first edge cuts =
      append (time_first n net sets all (symbolic_asked_on edge) cuts state.latches)
      (AreFirst.more (first_not (empty_first n net sets all)) (AreFirst.more feasible_first (functions_first (given_latches net.latches))))

  where_first : {fs : List Function} → AreFirst n fs → AreFirst n (where_feasible net s sets fs)
  where_first AreFirst.none = AreFirst.none
  where_first (AreFirst.more p ps) = AreFirst.more (first_and p feasible_first) (where_first ps)

  strong_first : (edge : Edge) → FirstCuts n (symbolic_binds edge.con) → AreFirst n (strong_on net edge s sets)
  strong_first edge cuts = where_first (strongs_first n net sets all cuts)

  weak_first : (edge : Edge) → FirstCuts n (symbolic_binds edge.con) → AreFirst n (weak_on net edge s sets)
  weak_first edge cuts = where_first (weaks_first n net sets all cuts)

  found_first : (edge : Edge) → FirstCuts n (symbolic_binds edge.con) → AreFirst n (found_work net edge s sets)
  found_first edge cuts = append (consequents_first n net sets all cuts) (append (weak_first edge cuts) (strong_first edge cuts))

-- ---- one vertex

constants_first : {n : ℕ} (F : Latch → BitSet) (latches : List Latch) → FirstSets n (map (λ latch. constant_set (F latch)) latches)
constants_first F [] = FirstSets.none
constants_first F (latch ∷ latches) = FirstSets.more (record { zero = first_constant (F latch).zero; one = first_constant (F latch).one }) (constants_first F latches)

reached_first : {n : ℕ} {ss : List SymbolicState} → FirstStates n ss → AreFirst n (reached_in ss)
reached_first FirstStates.none = AreFirst.none
reached_first (FirstStates.more p ps) = AreFirst.more p.reached (reached_first ps)

at_latch : {n : ℕ} {ws : List SymbolicSet} (l : ℕ) → FirstSets n ws → FirstSet n (slice_index_or ws l (record { zero = never; one = never }))
at_latch l FirstSets.none = record { zero = first_constant false; one = first_constant false }
at_latch zero (FirstSets.more p ps) = p
at_latch (suc l) (FirstSets.more p ps) = at_latch l ps

latch_first : {n : ℕ} {ss : List SymbolicState} (l : ℕ) → FirstStates n ss → FirstSets n (latch_in l ss)
latch_first l FirstStates.none = FirstSets.none
latch_first l (FirstStates.more p ps) = FirstSets.more (at_latch l p.latches) (latch_first l ps)

vertex_first : {n : ℕ} {ss : List SymbolicState} (net : RawNet) → FirstStates n ss → AreFirst n (vertex_work net ss)
vertex_first {n} {ss} net p = append (sums_first (reached_first p)) (times_first at (length net.latches) (λ l.
    append (sums_first (for_each (λ w. w.zero) (λ w q. q.zero) (latch_first l p))) (sums_first (for_each (λ w. w.one) (λ w q. q.one) (latch_first l p)))))
  where
    at : ℕ → List Function
    at l = chain disjunction never (zeros_of (latch_in l ss)) ++ chain disjunction never (ones_of (latch_in l ss))

-- ---- expressions

module _ (vars : ℕ) where
  binds_first : (binds : List Bind) → BindsReadBelow vars binds → FirstCuts vars (symbolic_binds binds)
  binds_first [] below = FirstCuts.none
  binds_first (bind ∷ binds) below =
      let p = and_parts (reads vars bind.guard) (reads vars bind.value) (All-head (λ (b : Bind). IsTrue (reads vars b.guard && reads vars b.value)) bind binds below) in
      FirstCuts.more (record {
        guard = record { at = value_first vars vars (omega arith) bind.guard p.0 };
        value = record { at = value_first vars vars (omega arith) bind.value p.1 };
      }) (binds_first binds (All-tail (λ (b : Bind). IsTrue (reads vars b.guard && reads vars b.value)) bind binds below))

  binds_works : (binds : List Bind) → BindsReadBelow vars binds → AreFirst vars (binds_work binds)
  binds_works [] below = AreFirst.none
  binds_works (bind ∷ binds) below =
      let p = and_parts (reads vars bind.guard) (reads vars bind.value) (All-head (λ (b : Bind). IsTrue (reads vars b.guard && reads vars b.value)) bind binds below) in
      append (from_all (symbolic_value bind.guard).work (expr_first vars vars (omega arith) bind.guard p.0).1)
      (append (from_all (symbolic_value bind.value).work (expr_first vars vars (omega arith) bind.value p.1).1)
      (binds_works binds (All-tail (λ (b : Bind). IsTrue (reads vars b.guard && reads vars b.value)) bind binds below)))

  -- ---- one round

  module _ (net : RawNet) (graph : Graph) (below : GraphReadsBelow vars graph) where
    module _ (table : ℕ → SymbolicState) (sets : Edge → ℕ → SymbolicSet) (states : (vertex : ℕ) → FirstState vars (table vertex)) (families : (edge : Edge) → FirstFamily vars (sets edge)) where
      given_all : (edges : List Edge) → FirstStates vars (map (λ (edge : Edge). given_by net (table edge.from) (sets edge)) edges)
      given_all [] = FirstStates.none
      given_all (edge ∷ edges) = FirstStates.more (given_first vars net (table edge.from) (sets edge) (states edge.from) (families edge)) (given_all edges)

      arrivals_first : (vertex : ℕ) → FirstStates vars (arrivals net graph table sets vertex)
      arrivals_first vertex = by (vertex == 0)
        where
          others : List Edge
          others = filter (λ (edge : Edge). edge.to == vertex) graph.edges

          by : (b : Bool) → FirstStates vars ((if b then start_state net graph.reset ∷ [] else []) ++ map (λ (edge : Edge). given_by net (table edge.from) (sets edge)) (filter (λ (edge : Edge). edge.to == vertex) graph.edges))
          by true = FirstStates.more (record { reached = first_constant true; latches = constants_first _ net.latches }) (given_all (filter (λ (edge : Edge). edge.to == vertex) graph.edges))
          by false = given_all (filter (λ (edge : Edge). edge.to == vertex) graph.edges)

      round_first : AreFirst vars (round_work net graph table sets)
      round_first = append
          (parts_first (λ (e : Edge). edge_time_work net e (table e.from) (sets e)) graph.edges
          (λ k d l. let e = get_or graph.edges k d in edge_first vars net (table e.from) (sets e) (states e.from) (families e) e (binds_first e.ant (below k d l).0)))
          (times_first (λ vertex. vertex_work net (arrivals net graph table sets vertex)) (length graph.vertices) (λ vertex. vertex_first net (arrivals_first vertex)))

      strongs : AreFirst vars (graph_strong net graph table sets)
      strongs = parts_first (λ (e : Edge). strong_on net e (table e.from) (sets e)) graph.edges
          (λ k d l. let e = get_or graph.edges k d in strong_first vars net (table e.from) (sets e) (states e.from) (families e) e (binds_first e.con (below k d l).1))

      weaks : AreFirst vars (graph_weak net graph table sets)
      weaks = parts_first (λ (e : Edge). weak_on net e (table e.from) (sets e)) graph.edges
          (λ k d l. let e = get_or graph.edges k d in weak_first vars net (table e.from) (sets e) (states e.from) (families e) e (binds_first e.con (below k d l).1))

      feasibles : AreFirst vars (graph_feasible net graph table sets)
      feasibles = each_first (λ (e : Edge). feasible_where net (table e.from) (sets e)) graph.edges (λ e. feasible_first vars net (table e.from) (sets e) (states e.from) (families e))

      results_first : AreFirst vars (results_work net graph table sets)
      results_first = append
          (parts_first (λ (e : Edge). found_work net e (table e.from) (sets e)) graph.edges
          (λ k d l. let e = get_or graph.edges k d in found_first vars net (table e.from) (sets e) (states e.from) (families e) e (binds_first e.con (below k d l).1)))
          (append (sums_first strongs) (append (sums_first weaks)
          (AreFirst.more (first_not (sum_first strongs)) (AreFirst.more (first_and (sum_first weaks) (first_not (sum_first strongs)))
          (append (sums_first feasibles) (AreFirst.more (first_not (sum_first feasibles)) AreFirst.none))))))

    -- ---- all rounds

    work_first : (tables : ℕ → ℕ → SymbolicState) (sets : ℕ → Edge → ℕ → SymbolicSet) → ((k vertex : ℕ) → FirstState vars (tables k vertex)) → ((k : ℕ) (edge : Edge) → FirstFamily vars (sets k edge)) → AreFirst vars (graph_work net graph tables sets)
    work_first tables sets states families = append
        (parts_first (λ (e : Edge). binds_work e.ant ++ binds_work e.con) graph.edges (λ k d l. let e = get_or graph.edges k d in append (binds_works e.ant (below k d l).0) (binds_works e.con (below k d l).1)))
        (append (times_first (λ k. round_work net graph (tables k) (sets k)) (suc (enough net graph)) (λ k. round_first (tables k) (sets k) (states k) (families k)))
        (results_first (tables (enough net graph)) (sets (enough net graph)) (states (enough net graph)) (families (enough net graph))))

-- ---- tables and sets over more variables

module _ (vars : ℕ) where
  abbrev set_over : SymbolicSet → SymbolicSet
  set_over w = record { zero = λ bits. w.zero (take vars bits); one = λ bits. w.one (take vars bits) }

  abbrev state_over : SymbolicState → SymbolicState
  state_over s = record { reached = λ bits. s.reached (take vars bits); latches = map set_over s.latches }

  set_first : (w : SymbolicSet) → FirstSet vars (set_over w)
  set_first w = record {
    zero = record { at = λ bits l. ap w.zero (sym (take_take vars vars bits (omega arith))) };
    one = record { at = λ bits l. ap w.one (sym (take_take vars vars bits (omega arith))) };
  }

  sets_first : (ws : List SymbolicSet) → FirstSets vars (map set_over ws)
  sets_first [] = FirstSets.none
  sets_first (w ∷ ws) = FirstSets.more (set_first w) (sets_first ws)

  state_first : (s : SymbolicState) → FirstState vars (state_over s)
  state_first s = record { reached = record { at = λ bits l. ap s.reached (sym (take_take vars vars bits (omega arith))) }; latches = sets_first s.latches }

  sets_at : (bits : List Bool) (ws : List SymbolicSet) → map (set_at bits) (map set_over ws) ≡ map (set_at (take vars bits)) ws
  sets_at bits [] = refl
  sets_at bits (w ∷ ws) = ap (λ (sets : List BitSet). set_at (take vars bits) w ∷ sets) (sets_at bits ws)

  over_at : (bits : List Bool) (s : SymbolicState) → state_at bits (state_over s) ≡ state_at (take vars bits) s
  over_at bits s = ap (λ (sets : List BitSet). the_state (s.reached (take vars bits)) sets) (sets_at bits s.latches)
    where
      the_state : Bool → List BitSet → VertexState
      the_state reached latches = record { reached = reached; latches = latches }

module _ (net : RawNet) (vars : ℕ) (graph : Graph) (below : GraphReadsBelow vars graph) (tables : ℕ → ℕ → SymbolicState) (sets : ℕ → Edge → ℕ → SymbolicSet) (whole_rounds : AreWholeRounds net vars graph tables sets) where
  abbrev tables_over : ℕ → ℕ → SymbolicState
  tables_over k vertex = state_over vars (tables k vertex)

  abbrev sets_over : ℕ → Edge → ℕ → SymbolicSet
  sets_over k edge id = set_over vars (sets k edge id)

  there : (bits : List Bool) → Alike net graph bits (take vars bits)
  there bits = alike vars graph bits (take vars bits) below (take_same vars bits)

  back : (bits : List Bool) → Alike net graph (take vars bits) bits
  back bits = alike vars graph (take vars bits) bits below (λ k l. sym (take_same vars bits k l))

  rounds_on : (bits : List Bool) (rounds : ℕ → ℕ → VertexState) → AreRounds net graph (take vars bits) rounds → AreRounds net graph bits rounds
  rounds_on bits rounds r = record {
    start = r.start;
    next = λ k. record {
      takes = takes_on net graph (take vars bits) bits (there bits) (rounds k) (rounds (suc k)) (r.next k).takes;
      least = λ other t. (r.next k).least other (takes_on net graph bits (take vars bits) (back bits) (rounds k) other t);
    };
  }

  rounds_over : (total : ℕ) → vars ≤ total → AreWholeRounds net total graph tables_over sets_over
  rounds_over total wide = record {
    rounds = λ bits long.
        let short : length (take vars bits) ≡ vars = simp (length-take) (omega (arith, long, wide)) in
        rounds_on bits (λ k vertex. state_at bits (tables_over k vertex))
        (subst (AreRounds net graph (take vars bits)) (λ i k vertex. sym (over_at vars bits (tables k vertex)) i) (whole_rounds.rounds (take vars bits) short));
    possible = λ bits long k j d l.
        let short : length (take vars bits) ≡ vars = simp (length-take) (omega (arith, long, wide)) in
        let edge = get_or graph.edges j d in
        let same = (back bits edge (Contains-get_or graph.edges j d l)).ant in
        subst (λ (state : VertexState). ArePossible net state.latches (asked_on edge bits) (λ id. set_at bits (sets_over k edge id))) (sym (over_at vars bits (tables k edge.from)))
        (subst (λ (cuts : List Cut). ArePossible net (state_at (take vars bits) (tables k edge.from)).latches (record { cuts = cuts; weak = weakened_on edge }) (λ id. set_at (take vars bits) (sets k edge id))) same
        (whole_rounds.possible (take vars bits) short k j d l));
  }

  as_many : (total : ℕ) → vars ≤ total → node_count total (graph_work net graph tables_over sets_over) ≡ node_count vars (graph_work net graph tables_over sets_over)
  as_many total wide =
      let work = graph_work net graph tables_over sets_over in
      let first : AreFirst vars work = work_first vars net graph below tables_over sets_over (λ k vertex. state_first vars (tables k vertex)) (λ k edge id. set_first vars (sets k edge id)) in
      let more : ℕ = total - vars in
      let split : total ≡ vars + more = omega (arith, wide) in
      ap (λ (v : ℕ). node_count v work) split ∙ wider_has_as_many_nodes vars more work (all_of work first)

  need_over : IsSettled net → (total need : ℕ) → vars ≤ total → need ≡ node_count vars (graph_work net graph tables sets) → IsGraphNeed net total graph need
  need_over settled total need wide is = (
    tables_over,
    sets_over,
    rounds_over total wide,
    one_graph_need.same net vars graph need (node_count vars (graph_work net graph tables_over sets_over)) settled (tables, sets, whole_rounds, is) (tables_over, sets_over, rounds_over vars (omega arith), refl)
        ∙ sym (as_many total wide),
  )

pub wider_graphs : WiderGraphs
wider_graphs = record {
  report = λ net vars total cubes graph report wide below h. report_down net vars total graph wide below cubes report h;
  need = λ net vars total graph need settled wide below (tables, sets, whole_rounds, is). need_over net vars graph below tables sets whole_rounds settled total need wide is;
}
