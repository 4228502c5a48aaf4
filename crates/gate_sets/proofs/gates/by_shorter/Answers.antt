use Rattle.std.proofs.Common.{All, ◌≡◌, true, not, Bool, ℕ, List, length, sym, ◌∙◌, ap, subst, arith, Ok, Err}
use Rattle.std.proofs.lemmas.List.{length-map}
use Rattle.std.proofs.Math.Bool.{not-not}
use Rattle.ste_base.specs.declared.id.NodeId.{NodeId}
use Rattle.ste_base.specs.Functions.{Function}
use Rattle.dd_nodes.specs.Stores.{Store}
use Rattle.net_core.specs.declared.cover.Lit.{Lit}
use Rattle.net_core.specs.Cover.{some_matches}
use Rattle.net_core.specs.Work.{AreWide, SymbolicSet, gate_set, gate_work, row_products, sum}
use Rattle.dual_rail.specs.declared.rails.Rails.{Rails}
use Rattle.dual_rail.specs.Rail.{HasSet}
use Rattle.dual_rail.proofs.Works.{So-start, Built-made, first, pass}
use Rattle.gate_sets.specs.declared.net_rails.NetRails.{NetRails}
use Rattle.gate_sets.specs.NetSets.{HaveInputs, net_at, sets_at}
use Rattle.gate_sets.proofs.Known.{OpposedSet, has_row, list_off, list_on, opposite_sums}
use Rattle.gate_sets.proofs.Placed.{known_inputs}
use Rattle.gate_sets.proofs.gates.by_shorter.Goals as goal

-- the rows that stand against the off-rows
against_off : (on off : List (List Lit)) (n : ℕ) → ((bs : List Bool) → length bs ≡ n → some_matches off bs ≡ not (some_matches on bs)) → (bs : List Bool) → length bs ≡ n → some_matches on bs ≡ not (some_matches off bs)
against_off on off n apart bs l = sym (ap not (apart bs l) ∙ not-not (some_matches on bs))

opposed : (on off : List (List Lit)) (sets : ℕ → SymbolicSet) (nets : List NetRails) (inputs : List NodeId) (s : Store) → AreWide on (length inputs) → AreWide off (length inputs)
    → ((bs : List Bool) → length bs ≡ length inputs → some_matches off bs ≡ not (some_matches on bs)) → All (λ input. (net_at nets input.0).known ≡ true) inputs → HaveInputs s sets nets inputs
    → (bits : List Bool) → length bits ≡ s.vars → sum (row_products off (sets_at sets inputs)) bits ≡ not (sum (row_products on (sets_at sets inputs)) bits)
opposed on off sets nets inputs s wide_on wide_off apart known have bits l =
    let long : length (sets_at sets inputs) ≡ length inputs = length-map inputs (λ (input : NodeId). sets input.0) in
    opposite_sums on off (sets_at sets inputs) bits (subst (AreWide on) (sym long) wide_on) (subst (AreWide off) (sym long) wide_off) (λ bs e. apart bs (e ∙ long)) (known_inputs sets nets inputs s known have bits l)

pub returns-then-size-clause-built : goal.returns-then-size-clause-built
returns-then-size-clause-built g c = λ sets have.
    let s : Store = g.N.Nodes.store c.args.nodes.now in
    let t : Store = g.N.Nodes.store c.by_list.new.nodes in
    let inputs : List NodeId = c.args.inputs.now in
    let on = c.args.rows.now.on.list in
    let off = c.args.rows.now.off.list in
    list_on on off (sets_at sets inputs) s t c.by_list.result
    (has_row on off (length inputs) c.size.result c.size-2.result c.requires.apart c.size.ensures.0 c.size-2.ensures.1 c.if-size.true)
    (opposed on off sets c.args.nets.now inputs s c.requires.wide_on c.requires.wide_off c.requires.apart c.requires.known have) (c.by_list.ensures.built sets have)

pub returns-in_err-opposed-clause-built : goal.returns-in_err-opposed-clause-built
returns-in_err-opposed-clause-built g c = λ sets have.
    let s : Store = g.N.Nodes.store c.args.nodes.now in
    let t : Store = g.N.Nodes.store c.by_list-2.new.nodes in
    let inputs : List NodeId = c.args.inputs.now in
    let on = c.args.rows.now.on.list in
    let off = c.args.rows.now.off.list in
    let ws : List SymbolicSet = sets_at sets inputs in
    let work : List Function = gate_work on off ws in
    let fault = c.in_err-opposed.field-0.0 in
    pass work (OpposedSet on off ws s t (Err fault)) (HasSet (gate_set on off ws)) s s t fault c.from_residual.result (g.met.N.Nodes.diagram c.args.nodes.now) (g.met.N.Nodes.diagram c.by_list-2.new.nodes) (So-start work s)
    (list_off on off ws s t (Err fault)
    (has_row off on (length inputs) c.size-2.result c.size.result (against_off on off (length inputs) c.requires.apart) c.size-2.ensures.0 c.size.ensures.1 (omega (arith, c.if-size.false)))
    (opposed on off sets c.args.nets.now inputs s c.requires.wide_on c.requires.wide_off c.requires.apart c.requires.known have) (c.in_err-opposed.ensures.built sets have)) c.from_residual.ensures.1

pub returns-clause-built : goal.returns-clause-built
returns-clause-built g c = λ sets have.
    let s : Store = g.N.Nodes.store c.args.nodes.now in
    let t : Store = g.N.Nodes.store c.by_list-2.new.nodes in
    let inputs : List NodeId = c.args.inputs.now in
    let on = c.args.rows.now.on.list in
    let off = c.args.rows.now.off.list in
    let ws : List SymbolicSet = sets_at sets inputs in
    let work : List Function = gate_work on off ws in
    let swapped = c.in_ok-opposed.opposed in
    let rails : Rails = record { can0 = swapped.can1; can1 = swapped.can0 } in
    let b = list_off on off ws s t (Ok swapped)
    (has_row off on (length inputs) c.size-2.result c.size.result (against_off on off (length inputs) c.requires.apart) c.size-2.ensures.0 c.size.ensures.1 (omega (arith, c.if-size.false)))
    (opposed on off sets c.args.nets.now inputs s c.requires.wide_on c.requires.wide_off c.requires.apart c.requires.known have) (c.in_ok-opposed.ensures.built sets have) in
    Built-made work (HasSet (gate_set on off ws)) s t rails (first work (OpposedSet on off ws s t (Ok swapped)) s t (Ok swapped) b) b.ok
