-- Flat nets of one hierarchy have the same work functions, so a task needs as many steps over the one as over the other, and what is
-- reported for it over the one is so over the other, budgets too.
use Rattle.std.proofs.Common.{◌≡◌, ℕ, zero, suc, Bool, true, false, List, [], ◌∷◌, ◌++◌, length, map, get_or, Option, refl, ap, sym, ◌∙◌, inl, inr}
use Rattle.std.specs.Prelude.{slice_get}
use Rattle.std.specs.List.{AllZip, flat_map}
use Rattle.ste_base.specs.declared.id.NodeId.{NodeId}
use Rattle.blif_syntax.specs.declared.models.Model.{Model}
use Rattle.dd_nodes.specs.Functions.{node_count}
use Rattle.flat_net.specs.Flat.{IsFlat, IsGateOf}
use Rattle.hierarchy.specs.Lines.{GateLine}
use Rattle.hierarchy.specs.Nets.{gates}
use Rattle.net_core.specs.declared.cover.Cover.{Cover}
use Rattle.net_core.specs.declared.raw.Gate.{Gate}
use Rattle.net_core.specs.declared.raw.Latch.{Latch}
use Rattle.net_core.specs.declared.raw.RawNet.{RawNet}
use Rattle.net_core.specs.declared.source.Source.{Source}
use Rattle.net_core.specs.declared.source.Source.TheVariants.{Input, Free, Gate as OfGate, Latch as OfLatch}
use Rattle.net_core.specs.Source.{source_of}
use Rattle.ste_base.specs.Functions.{Function}
use Rattle.net_core.specs.Work.{SymbolicAsked, SymbolicSet, by_gate, by_source, cover_set, cover_work, cuts_work, sets_below, gates_work, input_sets, negation, no_bit, one_gate_work, set_at, some_bit, some_empty, sums, time_work, set_before_cuts, unless_weakened}
use Rattle.net_core.specs.Possible.{is_weakened}
use Rattle.ste_model.specs.declared.report.Report.{Report}
use Rattle.ste_model.specs.declared.task.Assertion.{Assertion}
use Rattle.ste_model.specs.declared.task.Edge.{Edge}
use Rattle.ste_model.specs.declared.task.Graph.{Graph}
use Rattle.ste_model.specs.declared.task.Task.{Task}
use Rattle.ste_model.specs.declared.task.Task.TheVariants.{Ste, Gste}
use Rattle.ste_model.specs.Asked.{depth}
use Rattle.ste_model.specs.Edges.{asked_on}
use Rattle.ste_model.specs.GraphNeed.{AreWholeRounds, IsGraphNeed}
use Rattle.ste_model.specs.GraphTable.{AreRounds, VertexState, enough}
use Rattle.ste_model.specs.GraphWork.{SymbolicState, arrivals, feasible_where, given_by, graph_work, guards_work, results_work, sets_functions, state_at, symbolic_asked_on, vertex_work}
use Rattle.ste_model.specs.Need.{IsNeed}
use Rattle.ste_model.specs.Work.{all_empty, all_strong, all_weak, consequents_work, contradictory_where, latches_at, over_times, quints_work, strong_where, symbolic_asked_at, symbolic_cuts_at, task_work, unsure_where, weak_where}
use Rattle.work_pool.specs.declared.mode.Mode.TheVariants.{Sets}
use Rattle.work_pool.specs.Told.{IsToldOf}
use Rattle.ste_program.proofs.SameNets.{AreSame, flats_same, sources_same}
use Rattle.report_laws.proofs.SameGraphs.{graph_back, graph_report_moved, graph_says_same, takes_moved}
use Rattle.report_laws.proofs.SameReports.{report_moved}
use Rattle.report_laws.proofs.SameVerdicts.{of_table, possible_moved, says_same}

-- the number of a net
abbrev number : NodeId → ℕ
number id = id.0

-- the sets of nets, by the nets' numbers
by_numbers : (sets : ℕ → SymbolicSet) (ids : List NodeId) → map (λ (input : NodeId). sets input.0) ids ≡ map sets (map number ids)
by_numbers sets [] = refl
by_numbers sets (id ∷ ids) = ap (λ (l : List SymbolicSet). sets id.0 ∷ l) (by_numbers sets ids)

-- two gates have inputs and outputs of the same numbers, and the same cover
pub record AreCoveredAlike (net other : RawNet) (one twin : Gate) : Type 0 where
  pub inputs : map number one.inputs ≡ map number twin.inputs
  pub output : one.output.0 ≡ twin.output.0
  pub cover : slice_get net.covers one.cover ≡ slice_get other.covers twin.cover

covers_alike : (models : List Model) (net other : RawNet) (ones others : List Gate) (lines : List (List ℕ × GateLine)) → AllZip (IsGateOf models net) ones lines → AllZip (IsGateOf models other) others lines → AllZip (AreCoveredAlike net other) ones others
covers_alike models net other [] [] [] f g = tt
covers_alike models net other [] (b ∷ others) [] f g = absurd g
covers_alike models net other (a ∷ ones) others [] f g = absurd f
covers_alike models net other [] others (line ∷ lines) f g = absurd f
covers_alike models net other (a ∷ ones) [] (line ∷ lines) f g = absurd g
covers_alike models net other (a ∷ ones) (b ∷ others) (line ∷ lines) f g = (
  record { inputs = f.0.inputs ∙ sym g.0.inputs; output = f.0.output ∙ sym g.0.output; cover = f.0.cover ∙ sym g.0.cover },
  covers_alike models net other ones others lines f.1 g.1,
)

-- two nets are the same, and gate by gate their covers
pub record AreTwins (net other : RawNet) : Type 0 where
  pub same : AreSame net other
  pub back : AreSame other net
  pub covers : AllZip (AreCoveredAlike net other) net.gates other.gates

pub twins_of : (models : List Model) (net other : RawNet) → IsFlat models net → IsFlat models other → AreTwins net other
twins_of models net other f g = record {
  same = flats_same models net other f g;
  back = flats_same models other net g f;
  covers = covers_alike models net other net.gates other.gates (gates models) f.gates g.gates;
}

-- ---- one time

inputs_same : (net other : RawNet) (sets : ℕ → SymbolicSet) (one twin : Gate) → AreCoveredAlike net other one twin → input_sets sets one ≡ input_sets sets twin
inputs_same net other sets one twin h = by_numbers sets one.inputs ∙ (ap (map sets) h.inputs ∙ sym (by_numbers sets twin.inputs))

one_gate_same : (is_weak : Bool) (net other : RawNet) (sets : ℕ → SymbolicSet) (one twin : Gate) → AreCoveredAlike net other one twin → one_gate_work is_weak net sets one ≡ one_gate_work is_weak other sets twin
one_gate_same true net other sets one twin h = refl
one_gate_same false net other sets one twin h = ap (λ (c : Option Cover). cover_work c (input_sets sets one)) h.cover ∙ ap (cover_work (slice_get other.covers twin.cover)) (inputs_same net other sets one twin h)

gates_work_same : (net other : RawNet) (weak : List ℕ) (sets : ℕ → SymbolicSet) (ones others : List Gate) → AllZip (AreCoveredAlike net other) ones others → gates_work net weak sets ones ≡ gates_work other weak sets others
gates_work_same net other weak sets [] [] h = refl
gates_work_same net other weak sets [] (b ∷ others) h = absurd h
gates_work_same net other weak sets (a ∷ ones) [] h = absurd h
gates_work_same net other weak sets (a ∷ ones) (b ∷ others) h =
    ap (λ (id : ℕ). one_gate_work (is_weakened weak id) net sets a ++ gates_work net weak sets ones) h.0.output
    ∙ (ap (λ (fs : List Function). fs ++ gates_work net weak sets ones) (one_gate_same (is_weakened weak b.output.0) net other sets a b h.0)
    ∙ ap (λ (fs : List Function). one_gate_work (is_weakened weak b.output.0) other sets b ++ fs) (gates_work_same net other weak sets ones others h.1))

by_gate_same : (net other : RawNet) (sets : ℕ → SymbolicSet) (ones others : List Gate) (g : ℕ) → AllZip (AreCoveredAlike net other) ones others → by_gate net sets (slice_get ones g) ≡ by_gate other sets (slice_get others g)
by_gate_same net other sets [] [] g h = refl
by_gate_same net other sets [] (b ∷ others) g h = absurd h
by_gate_same net other sets (a ∷ ones) [] g h = absurd h
by_gate_same net other sets (a ∷ ones) (b ∷ others) zero h =
    ap (λ (c : Option Cover). cover_set c (input_sets sets a)) h.0.cover
    ∙ ap (cover_set (slice_get other.covers b.cover)) (inputs_same net other sets a b h.0)
by_gate_same net other sets (a ∷ ones) (b ∷ others) (suc g) h = by_gate_same net other sets ones others g h.1

module _ (net other : RawNet) (twins : AreTwins net other) where
  by_source_same : (latches : List SymbolicSet) (sets : ℕ → SymbolicSet) (s : Source) → by_source net latches sets s ≡ by_source other latches sets s
  by_source_same latches sets Input = refl
  by_source_same latches sets Free = refl
  by_source_same latches sets (OfGate g) = by_gate_same net other sets net.gates other.gates g twins.covers
  by_source_same latches sets (OfLatch l) = refl

  uncut_same : (weak : List ℕ) (latches : List SymbolicSet) (sets : ℕ → SymbolicSet) (id : ℕ) → set_before_cuts net weak latches sets id ≡ set_before_cuts other weak latches sets id
  uncut_same weak latches sets id = ap (unless_weakened (is_weakened weak id)) (ap (by_source net latches sets) (sources_same net other twins.same id) ∙ by_source_same latches sets (source_of other id))

-- the functions of one time, by the number of nets, their sets before the cuts, and the functions for the gates
abbrev time_by : ℕ → (ℕ → SymbolicSet) → List Function → SymbolicAsked → (ℕ → SymbolicSet) → List Function
time_by n before gate_functions asked sets =
    let all = sets_below sets n in
    cuts_work asked.cuts before
    ++ (gate_functions
    ++ (map some_bit all ++ (map no_bit all ++ sums (map no_bit all))))

-- what gives the functions of one time
abbrev Time : Type 0
Time = List SymbolicSet → SymbolicAsked → (ℕ → SymbolicSet) → List Function

time_same : (net other : RawNet) → AreTwins net other → time_work net ≡ time_work other
time_same net other twins = λ i latches asked sets. (
    ap (λ (n : ℕ). time_by n (set_before_cuts net asked.weak latches sets) (gates_work net asked.weak sets net.gates) asked sets) twins.same.nets
    ∙ (ap (λ (before : ℕ → SymbolicSet). time_by other.nets before (gates_work net asked.weak sets net.gates) asked sets) (λ j id. uncut_same net other twins asked.weak latches sets id j)
    ∙ ap (λ (fs : List Function). time_by other.nets (set_before_cuts other asked.weak latches sets) fs asked sets) (gates_work_same net other asked.weak sets net.gates other.gates twins.covers))) i

-- the net with these nets and latches
abbrev with_parts : RawNet → ℕ → List Latch → RawNet
with_parts net n latches = record net { nets = n; latches = latches }

-- ---- assertions

-- the work functions, by those of one time
abbrev task_work_by : Time → RawNet → Assertion → (ℕ → ℕ → SymbolicSet) → List Function
task_work_by time net task table =
    quints_work task.ant ++ (quints_work task.con
    ++ (over_times (λ t. time (latches_at net task table t) (symbolic_asked_at task t) (table t) ++ consequents_work (table t) (symbolic_cuts_at task.con t)) (depth task)
    ++ (sums (all_empty net task table) ++ (negation (contradictory_where net task table)
    ∷ (sums (all_strong task table) ++ (sums (all_weak task table)
    ++ (strong_where net task table ∷ negation (strong_where net task table)
    ∷ unsure_where net task table ∷ weak_where net task table ∷ [])))))))

task_work_same : (net other : RawNet) → AreTwins net other → (task : Assertion) (table : ℕ → ℕ → SymbolicSet) → task_work net task table ≡ task_work other task table
task_work_same net other twins task table =
    ap (λ (time : Time). task_work_by time net task table) (time_same net other twins)
    ∙ (ap (λ (n : ℕ). task_work_by (time_work other) (with_parts other n net.latches) task table) twins.same.nets
    ∙ ap (λ (latches : List Latch). task_work_by (time_work other) (with_parts other other.nets latches) task table) twins.same.latches)

need_moved : (net other : RawNet) → AreTwins net other → (vars : ℕ) (task : Assertion) (need : ℕ) → IsNeed net vars task need → IsNeed other vars task need
need_moved net other twins vars task need h = (
  h.0,
  (λ bits l. of_table net other task task twins.same twins.back (says_same task task refl) bits (λ t id. set_at bits (h.0 t id)) (h.1 bits l)),
  h.2 ∙ ap (node_count vars) (task_work_same net other twins task h.0),
)

-- ---- graphs

-- the functions for an edge on a table, for a round, and for all, by those of one time
abbrev edge_time_by : Time → RawNet → Edge → SymbolicState → (ℕ → SymbolicSet) → List Function
edge_time_by time net edge source sets =
    time source.latches (symbolic_asked_on edge) sets
    ++ (negation (some_empty net sets) ∷ feasible_where net source sets
    ∷ sets_functions (given_by net source sets).latches)

abbrev round_by : Time → RawNet → Graph → (ℕ → SymbolicState) → (Edge → ℕ → SymbolicSet) → List Function
round_by time net graph table sets =
    flat_map (λ (edge : Edge). edge_time_by time net edge (table edge.from) (sets edge)) graph.edges
    ++ over_times (λ vertex. vertex_work net (arrivals net graph table sets vertex)) (length graph.vertices)

abbrev graph_work_by : Time → RawNet → Graph → (ℕ → ℕ → SymbolicState) → (ℕ → Edge → ℕ → SymbolicSet) → List Function
graph_work_by time net graph tables sets =
    guards_work graph
    ++ (over_times (λ n. round_by time net graph (tables n) (sets n)) (suc (enough net graph))
    ++ results_work net graph (tables (enough net graph)) (sets (enough net graph)))

graph_work_same : (net other : RawNet) → AreTwins net other → (graph : Graph) (tables : ℕ → ℕ → SymbolicState) (sets : ℕ → Edge → ℕ → SymbolicSet) → graph_work net graph tables sets ≡ graph_work other graph tables sets
graph_work_same net other twins graph tables sets =
    ap (λ (time : Time). graph_work_by time net graph tables sets) (time_same net other twins)
    ∙ (ap (λ (n : ℕ). graph_work_by (time_work other) (with_parts other n net.latches) graph tables sets) twins.same.nets
    ∙ ap (λ (latches : List Latch). graph_work_by (time_work other) (with_parts other other.nets latches) graph tables sets) twins.same.latches)

rounds_moved : (net other : RawNet) → AreTwins net other → (graph : Graph) (bits : List Bool) (rounds : ℕ → ℕ → VertexState) → AreRounds net graph bits rounds → AreRounds other graph bits rounds
rounds_moved net other twins graph bits rounds h =
    let says = graph_says_same graph graph refl in record {
      start = λ vertex. record {
        long = (h.start vertex).long ∙ ap length twins.same.latches;
        reached = (h.start vertex).reached;
        empty = (h.start vertex).empty;
      };
      next = λ n. record {
        takes = takes_moved net other graph graph bits (rounds n) (rounds (suc n)) twins.same twins.back says (h.next n).takes;
        least = λ more given. (h.next n).least more (takes_moved other net graph graph bits (rounds n) more twins.back twins.same (graph_back graph graph says) given);
      };
    }

whole_rounds_moved : (net other : RawNet) → AreTwins net other → (vars : ℕ) (graph : Graph) (tables : ℕ → ℕ → SymbolicState) (sets : ℕ → Edge → ℕ → SymbolicSet) → AreWholeRounds net vars graph tables sets → AreWholeRounds other vars graph tables sets
whole_rounds_moved net other twins vars graph tables sets h = record {
  rounds = λ bits l. rounds_moved net other twins graph bits (λ n vertex. state_at bits (tables n vertex)) (h.rounds bits l);
  possible = λ bits l n k d m.
      possible_moved net other (state_at bits (tables n (get_or graph.edges k d).from)).latches (asked_on (get_or graph.edges k d) bits)
      (λ id. set_at bits (sets n (get_or graph.edges k d) id)) twins.same twins.back (h.possible bits l n k d m);
}

graph_need_moved : (net other : RawNet) → AreTwins net other → (vars : ℕ) (graph : Graph) (need : ℕ) → IsGraphNeed net vars graph need → IsGraphNeed other vars graph need
graph_need_moved net other twins vars graph need h = (
  h.0,
  h.1,
  whole_rounds_moved net other twins vars graph h.0 h.1 h.2,
  h.3 ∙ ap (node_count vars) (graph_work_same net other twins graph h.0 h.1),
)

-- ---- what is reported

told_moved : (net other : RawNet) → AreTwins net other → AreTwins other net → (vars steps cubes : ℕ) (task : Task) (report : Report) → IsToldOf Sets net vars steps cubes task report → IsToldOf Sets other vars steps cubes task report
told_moved net other twins back vars steps cubes (Ste t) report (inl h) = inl (report_moved net other t t twins.same twins.back (says_same t t refl) vars cubes report h)
told_moved net other twins back vars steps cubes (Ste t) report (inr h) = inr (h.0, (λ need is. h.1 need (need_moved other net back vars t need is)))
told_moved net other twins back vars steps cubes (Gste t) report (inl h) = inl (graph_report_moved net other t t twins.same twins.back (graph_says_same t t refl) vars cubes report h)
told_moved net other twins back vars steps cubes (Gste t) report (inr h) = inr (h.0, (λ need is. h.1 need (graph_need_moved other net back vars t need is)))

pub all_told_moved : (net other : RawNet) → AreTwins net other → AreTwins other net → (vars steps cubes : ℕ) (tasks : List Task) (reports : List Report) → AllZip (IsToldOf Sets net vars steps cubes) tasks reports → AllZip (IsToldOf Sets other vars steps cubes) tasks reports
all_told_moved net other twins back vars steps cubes [] [] h = tt
all_told_moved net other twins back vars steps cubes [] (r ∷ reports) h = absurd h
all_told_moved net other twins back vars steps cubes (t ∷ tasks) [] h = absurd h
all_told_moved net other twins back vars steps cubes (t ∷ tasks) (r ∷ reports) h =
    (told_moved net other twins back vars steps cubes t r h.0, all_told_moved net other twins back vars steps cubes tasks reports h.1)
