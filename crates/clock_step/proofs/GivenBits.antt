-- A run on given inputs has at each node the bit that is given.
use Rattle.std.proofs.Common.{◌≡◌, ◌≢◌, ℕ, zero, suc, List, [], ◌∷◌, get_or, Bool, true, false, Some, arith, refl, sym, ap, subst, ◌∙◌, eq-eqb, ne_eqb, ltb-true}
use Rattle.std.specs.Prelude.{AllPairs, IsTrue, slice_get, nat_lt, ◌&&◌}
use Rattle.ste_base.specs.declared.id.NodeId.{NodeId}
use Rattle.net_core.specs.declared.raw.RawNet.{RawNet}
use Rattle.net_core.specs.declared.source.Source.{Source}
use Rattle.net_core.specs.declared.source.Source.TheVariants.{Input, Free, Gate, Latch}
use Rattle.net_core.specs.Run.{IsUndriven}
use Rattle.net_core.specs.Source.{source_of}
use Rattle.net_core.proofs.Among.{get_same, get_within}
use Rattle.net_core.proofs.OneTime.{Facts, facts}
use Rattle.clock_step.specs.Order.{is_undriven, is_undriven_source}
use Rattle.clock_step.specs.Simulation.{bit_in}
use Rattle.clock_step.specs.Laws.{NodesAreGiven}

-- an input or free net is a net that nothing drives
undriven_by : (net : RawNet) (id : ℕ) (source : Source) → IsTrue (is_undriven_source source) → Facts net id source → IsUndriven net id
undriven_by net id Input h f = record { by_gate = f.0; by_latch = f.1 }
undriven_by net id Free h f = record { by_gate = f.0; by_latch = f.1 }
undriven_by net id (Gate number) h f = absurd (cc h)
undriven_by net id (Latch number) h f = absurd (cc h)

both_parts : (below undriven : Bool) → IsTrue (below && undriven) → (below ≡ true) × (undriven ≡ true)
both_parts true true h = (refl, refl)
both_parts true false h = absurd (cc h)
both_parts false undriven h = absurd (cc h)

-- the bit of the node at place k
bit_of_node : (nodes : List NodeId) (row : List Bool) (k : ℕ) (node : NodeId) (bit : Bool) → AllPairs (λ one other. one.0 ≢ other.0) nodes → slice_get nodes k ≡ Some node → slice_get row k ≡ Some bit → bit_in nodes row node.0 ≡ bit
bit_of_node [] row k node bit apart e f = absurd (cc e)
bit_of_node (first ∷ nodes) [] k node bit apart e f = absurd (cc f)
bit_of_node (first ∷ nodes) (b ∷ row) zero node bit apart e f =
    let here : first ≡ node = (cc e) in
    let same : b ≡ bit = (cc f) in
    rw (eq-eqb first.0 node.0 (ap (λ (n : NodeId). n.0) here)) same
bit_of_node (first ∷ nodes) (b ∷ row) (suc k) node bit apart e f =
    let inside = get_within nodes k node e in
    let at : get_or nodes k node ≡ node = get_same nodes k node node e in
    let other = ne_eqb first.0 node.0 (λ same. apart 0 (suc k) node (omega arith) (omega arith) (same ∙ ap (λ (n : NodeId). n.0) (sym at))) in
    rw other (bit_of_node nodes row k node bit (λ i j d l m. apart (suc i) (suc j) d (omega arith) (omega arith)) e f)

pub nodes_are_given : NodesAreGiven
nodes_are_given net inputs run one undriven simulates t k node row bit at_t at_k at_bit =
    let within = get_within inputs.rows t row at_t in
    let here : get_or inputs.nodes k node ≡ node = get_same inputs.nodes k node node at_k in
    let named : IsTrue (is_undriven net node.0) = subst (λ (n : NodeId). IsTrue (is_undriven net n.0)) here (undriven k node (get_within inputs.nodes k node at_k)) in
    let parts = both_parts (nat_lt node.0 net.nets) (is_undriven_source (source_of net node.0)) named in
    let row_at : get_or inputs.rows t [] ≡ row = get_same inputs.rows t row [] at_t in
    simulates.sources t node.0 within (ltb-true node.0 net.nets parts.0) (undriven_by net node.0 (source_of net node.0) parts.1 (facts net one node.0))
    ∙ ap (λ (r : List Bool). bit_in inputs.nodes r node.0) row_at ∙ bit_of_node inputs.nodes row k node bit inputs.different at_k at_bit
