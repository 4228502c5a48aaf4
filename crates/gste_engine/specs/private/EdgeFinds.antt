-- For private functions. What is found on the edges of a graph, one after another, each where the
-- edge is feasible.
use Rattle.std.specs.Prelude.{ℕ, List, [], ◌∷◌, ◌++◌, Contains, map}
use Rattle.std.specs.List.{AllZip, flat_map}
use Rattle.dd_nodes.specs.declared.node.Ref.{Ref}
use Rattle.ste_base.specs.Functions.{Function}
use Rattle.dd_nodes.specs.Stores.{Store, IsRef, Means}
use Rattle.net_core.specs.declared.raw.RawNet.{RawNet}
use Rattle.net_core.specs.Work.{SymbolicCut, SymbolicSet, chain, conjunction, disjunction, negation, sum, sums, whole}
use Rattle.sym_step.specs.declared.cut.Cut.{Cut}
use Rattle.sym_step.specs.Step.{IsCutBy}
use Rattle.engine_parts.specs.declared.results.Results.{Results}
use Rattle.engine_parts.specs.Refuting.{except, refutes_work}
use Rattle.ste_model.specs.declared.task.Edge.{Edge}
use Rattle.ste_model.specs.GraphNeed.{bind_functions}
use Rattle.ste_model.specs.GraphWork.{SymbolicState, binds_work, edge_work, feasible_where, found_work, strong_on, symbolic_binds, weak_on}
use Rattle.ste_model.specs.Need.{set_functions}
use Rattle.ste_model.specs.Work.{both_bits, consequents_work, refutes, strong_findings, weak_findings}
use Rattle.gste_engine.specs.declared.found.Findings.{Findings}

-- the references have these functions
pub record AreFindings (f h e : Function) (t : Store) (r : Findings) : Type 0 where
  pub strong : Means t f r.strong
  pub weak : Means t h r.weak
  pub feasible : Means t e r.feasible

-- they are constants, or held
pub record AreFindingsRefs (t : Store) (r : Findings) : Type 0 where
  pub strong : IsRef t r.strong
  pub weak : IsRef t r.weak
  pub feasible : IsRef t r.feasible

-- each of these functions has a reference
abbrev pub HaveRefs : Store → List Function → Type 0
HaveRefs t fs = (f : Function) → Contains fs f → (x : Ref) × Means t f x

-- ---- one consequent

-- (g & y) & z: where the guard g is 1 and y is found, on an edge that is feasible where z is 1
abbrev pub gated_finding : Function → Function → Function → Function
gated_finding g y z = conjunction (conjunction g y) z

-- the functions for it, and for one more of them in a sum
abbrev pub gated_add_work : Function → Function → Function → Function → List Function
gated_add_work f g y z =
    conjunction g y ∷ gated_finding g y z ∷ disjunction f (gated_finding g y z) ∷ []

abbrev pub gated_strong_work : Function → SymbolicSet → Function → Function → Function →
    List Function
gated_strong_work f w g x z = refutes_work w x ++ gated_add_work f g (refutes w x) z

abbrev pub gated_weak_work : Function → SymbolicSet → Function → Function → List Function
gated_weak_work f w g z = both_bits w ∷ gated_add_work f g (both_bits w) z

-- the functions for one more consequent
abbrev pub gated_find_work : Function → Function → SymbolicSet → Function → Function → Function →
    List Function
gated_find_work f h w g x z = gated_strong_work f w g x z ++ gated_weak_work h w g z

-- ---- one edge

-- each function where z is 1
abbrev pub gated_by : Function → List Function → List Function
gated_by z fs = map (λ f. conjunction f z) fs

-- the sums with what is found of all consequents of an edge that is feasible where z is 1, and the
-- functions for them
abbrev pub more_gated_strong : (ℕ → SymbolicSet) → List SymbolicCut → Function → Function → Function
more_gated_strong sets cuts z f = whole disjunction f (gated_by z (strong_findings sets cuts))

abbrev pub more_gated_weak : (ℕ → SymbolicSet) → List SymbolicCut → Function → Function → Function
more_gated_weak sets cuts z h = whole disjunction h (gated_by z (weak_findings sets cuts))

abbrev pub gated_finds_work : (ℕ → SymbolicSet) → List SymbolicCut → Function → Function →
    Function → List Function
gated_finds_work sets cuts z f h =
    (consequents_work sets cuts ++ (gated_by z (weak_findings sets cuts) ++
    gated_by z (strong_findings sets cuts)))
    ++ (chain disjunction f (gated_by z (strong_findings sets cuts)) ++
    chain disjunction h (gated_by z (weak_findings sets cuts)))

-- the same with the sum of where an edge is feasible
abbrev pub with_found_work : (ℕ → SymbolicSet) → List SymbolicCut → Function → Function → Function →
    Function → List Function
with_found_work sets cuts z f h e = gated_finds_work sets cuts z f h ++ disjunction e z ∷ []

-- what an edge asks for is held: the references of its consequents, and some for each guard and
-- value of its antecedent
pub record IsAsked (edge : Edge) (t : Store) (cuts : List Cut) : Type 0 where
  pub wanted : AllZip (IsCutBy t) (symbolic_binds edge.con) cuts
  pub given : HaveRefs t (bind_functions edge.ant)

-- the functions for the guards and values of an edge
abbrev pub asked_work : Edge → List Function
asked_work edge = binds_work edge.ant ++ binds_work edge.con

-- the functions for one more edge, with the sums so far
abbrev pub with_edge_work : RawNet → Edge → SymbolicState → (ℕ → SymbolicSet) → Function →
    Function → Function → List Function
with_edge_work net edge source sets f h e =
    asked_work edge ++ (edge_work net edge source sets
    ++ with_found_work sets (symbolic_binds edge.con) (feasible_where net source sets) f h e)

-- the functions of an edge that are kept: those of every guard and value, and z and o of every net
abbrev pub edge_kept : RawNet → Edge → (ℕ → SymbolicSet) → List Function
edge_kept net edge sets =
    bind_functions edge.ant ++ (bind_functions edge.con ++ set_functions sets net.nets)

-- one more edge has been dealt with
pub record IsWithEdge (net : RawNet) (edge : Edge) (source : SymbolicState) (sets : ℕ → SymbolicSet)
    (f h e : Function) (t : Store) (r : Findings) : Type 0 where
  pub found : AreFindings (whole disjunction f (strong_on net edge source sets))
      (whole disjunction h (weak_on net edge source sets))
      (disjunction e (feasible_where net source sets)) t r
  pub kept : HaveRefs t (edge_kept net edge sets)

-- ---- all edges

-- where a consequent of some edges is found strong, and found weak; and where each edge is feasible
abbrev pub strong_of : RawNet → (ℕ → SymbolicState) → (Edge → ℕ → SymbolicSet) → List Edge →
    List Function
strong_of net states sets edges =
    flat_map (λ (edge : Edge). strong_on net edge (states edge.from) (sets edge)) edges

abbrev pub weak_of : RawNet → (ℕ → SymbolicState) → (Edge → ℕ → SymbolicSet) → List Edge →
    List Function
weak_of net states sets edges =
    flat_map (λ (edge : Edge). weak_on net edge (states edge.from) (sets edge)) edges

abbrev pub feasible_of : RawNet → (ℕ → SymbolicState) → (Edge → ℕ → SymbolicSet) → List Edge →
    List Function
feasible_of net states sets edges =
    map (λ (edge : Edge). feasible_where net (states edge.from) (sets edge)) edges

-- the functions for some edges but for the sums, and those for the sums
abbrev pub parts_of : RawNet → (ℕ → SymbolicState) → (Edge → ℕ → SymbolicSet) → List Edge →
    List Function
parts_of net states sets edges =
    flat_map (λ (edge : Edge). asked_work edge ++ (edge_work net edge (states edge.from) (sets edge)
    ++ found_work net edge (states edge.from) (sets edge))) edges

abbrev pub all_found_work : RawNet → (ℕ → SymbolicState) → (Edge → ℕ → SymbolicSet) → List Edge →
    List Function
all_found_work net states sets edges =
    parts_of net states sets edges
    ++ (sums (strong_of net states sets edges) ++
    (sums (weak_of net states sets edges) ++ sums (feasible_of net states sets edges)))

-- the kept functions of some edges
abbrev pub kept_of : RawNet → (Edge → ℕ → SymbolicSet) → List Edge → List Function
kept_of net sets edges = flat_map (λ (edge : Edge). edge_kept net edge (sets edge)) edges

-- what is found on some edges
pub record AreAllFound (net : RawNet) (states : ℕ → SymbolicState) (sets : Edge → ℕ → SymbolicSet)
    (edges : List Edge) (t : Store) (r : Findings) : Type 0 where
  pub found : AreFindings (sum (strong_of net states sets edges))
      (sum (weak_of net states sets edges)) (sum (feasible_of net states sets edges)) t r
  pub kept : HaveRefs t (kept_of net sets edges)

-- ---- the end

-- the results, from the sums f, h and e, and the functions for them
abbrev pub ending_work : Function → Function → Function → List Function
ending_work f h e = negation f ∷ except h f ∷ negation e ∷ []

pub record AreEndings (f h e : Function) (t : Store) (r : Results) : Type 0 where
  pub strong : Means t f r.strong
  pub weak : Means t (except h f) r.weak
  pub contradictory : Means t (negation e) r.contradictory
