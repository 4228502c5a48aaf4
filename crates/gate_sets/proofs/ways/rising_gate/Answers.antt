use Rattle.std.proofs.Common.{◌≡◌, List, length, sym, ◌∙◌, ap, subst, Ok, Err}
use Rattle.std.proofs.lemmas.List.{length-map}
use Rattle.ste_base.specs.declared.id.NodeId.{NodeId}
use Rattle.ste_base.specs.Functions.{Function}
use Rattle.dd_nodes.specs.Stores.{Store}
use Rattle.net_core.specs.declared.cover.Cover.{Cover}
use Rattle.net_core.specs.declared.cover.Lit.{Lit}
use Rattle.net_core.specs.Cases.{on_rows, off_rows}
use Rattle.net_core.specs.Work.{SymbolicSet, gate_set, gate_work}
use Rattle.dual_rail.specs.declared.rails.Rails.{Rails}
use Rattle.dual_rail.specs.Rail.{HasSet}
use Rattle.dual_rail.proofs.Works.{So-start, Built-made, first, pass}
use Rattle.gate_sets.specs.declared.rows.CoverRows.{CoverRows}
use Rattle.gate_sets.specs.NetSets.{sets_at}
use Rattle.gate_sets.proofs.Refusals.{ByRow, SwappedRow, full_inputs, rising_off, rising_on}
use Rattle.gate_sets.proofs.ways.rising_gate.Goals as goal

pub returns-then-cover-clause-built : goal.returns-then-cover-clause-built
returns-then-cover-clause-built g c = λ sets have.
    let s : Store = g.N.Nodes.store c.args.nodes.now in
    let t : Store = g.N.Nodes.store c.by_row.new.nodes in
    let gs = g.met.N.Nodes.diagram c.args.nodes.now in
    let inputs : List NodeId = c.args.inputs.now in
    let cover : Cover = c.args.cover.now in
    let row : List Lit = c.args.row.now in
    let ws : List SymbolicSet = sets_at sets inputs in
    let long : length ws ≡ cover.inputs = length-map inputs (λ (input : NodeId). sets input.0) ∙ sym c.requires.width in
    let full = full_inputs sets c.args.nets.now inputs s gs c.requires.full have in
    rising_on cover row ws s t c.requires.sound c.requires.row long c.requires.rises full c.by_row.result c.if-cover.true
    (subst (ByRow cover row ws s t c.requires.sound c.requires.row long c.requires.rises full c.by_row.result) (ap (λ (r : CoverRows). r.on.list) c.requires.rows) (c.by_row.ensures.built sets have))

pub returns-in_err-swapped-clause-built : goal.returns-in_err-swapped-clause-built
returns-in_err-swapped-clause-built g c = λ sets have.
    let s : Store = g.N.Nodes.store c.args.nodes.now in
    let t : Store = g.N.Nodes.store c.by_row-2.new.nodes in
    let gs = g.met.N.Nodes.diagram c.args.nodes.now in
    let gt = g.met.N.Nodes.diagram c.by_row-2.new.nodes in
    let inputs : List NodeId = c.args.inputs.now in
    let cover : Cover = c.args.cover.now in
    let row : List Lit = c.args.row.now in
    let ws : List SymbolicSet = sets_at sets inputs in
    let long : length ws ≡ cover.inputs = length-map inputs (λ (input : NodeId). sets input.0) ∙ sym c.requires.width in
    let full = full_inputs sets c.args.nets.now inputs s gs c.requires.full have in
    let work : List Function = gate_work (on_rows cover) (off_rows cover) ws in
    let fault = c.in_err-swapped.field-0.0 in
    let b = rising_off cover row ws s t c.requires.sound c.requires.row long c.requires.rises full (Err fault) c.if-cover.false
    (subst (ByRow cover row ws s t c.requires.sound c.requires.row long c.requires.rises full (Err fault)) (ap (λ (r : CoverRows). r.off.list) c.requires.rows) (c.in_err-swapped.ensures.built sets have)) in
    pass work (SwappedRow cover row ws s t c.requires.sound c.requires.row long c.requires.rises full) (HasSet (gate_set (on_rows cover) (off_rows cover) ws)) s s t fault c.from_residual.result gs gt (So-start work s) b c.from_residual.ensures.1

pub returns-clause-built : goal.returns-clause-built
returns-clause-built g c = λ sets have.
    let s : Store = g.N.Nodes.store c.args.nodes.now in
    let t : Store = g.N.Nodes.store c.by_row-2.new.nodes in
    let gs = g.met.N.Nodes.diagram c.args.nodes.now in
    let inputs : List NodeId = c.args.inputs.now in
    let cover : Cover = c.args.cover.now in
    let row : List Lit = c.args.row.now in
    let ws : List SymbolicSet = sets_at sets inputs in
    let long : length ws ≡ cover.inputs = length-map inputs (λ (input : NodeId). sets input.0) ∙ sym c.requires.width in
    let full = full_inputs sets c.args.nets.now inputs s gs c.requires.full have in
    let work : List Function = gate_work (on_rows cover) (off_rows cover) ws in
    let swapped = c.in_ok-swapped.swapped in
    let rails : Rails = record { can0 = swapped.can1; can1 = swapped.can0 } in
    let b = rising_off cover row ws s t c.requires.sound c.requires.row long c.requires.rises full (Ok swapped) c.if-cover.false
    (subst (ByRow cover row ws s t c.requires.sound c.requires.row long c.requires.rises full (Ok swapped)) (ap (λ (r : CoverRows). r.off.list) c.requires.rows) (c.in_ok-swapped.ensures.built sets have)) in
    Built-made work (HasSet (gate_set (on_rows cover) (off_rows cover) ws)) s t rails
    (first work (SwappedRow cover row ws s t c.requires.sound c.requires.row long c.requires.rises full) s t (Ok swapped) b) b.ok
