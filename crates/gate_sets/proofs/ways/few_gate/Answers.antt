use Rattle.std.proofs.Common.{List, length, Option, Ok, Err, subst}
use Rattle.std.proofs.lemmas.List.{length-map}
use Rattle.ste_base.specs.declared.id.NodeId.{NodeId}
use Rattle.dd_nodes.specs.Stores.{Store}
use Rattle.dd_ops.specs.declared.fault.OpFault.{OpFault}
use Rattle.net_core.specs.declared.cover.Lit.{Lit}
use Rattle.net_core.specs.Work.{SymbolicSet, gate_set, gate_work}
use Rattle.dual_rail.specs.declared.rails.Rails.{Rails}
use Rattle.dual_rail.specs.Rail.{HasSet}
use Rattle.dual_rail.proofs.Works.{So-start, Built-made, first, last, pass}
use Rattle.gate_sets.specs.NetSets.{sets_at}
use Rattle.gate_sets.specs.private.TruthTables.{HasSetOrNot}
use Rattle.gate_sets.proofs.FewGates.{by_tables}
use Rattle.gate_sets.proofs.NetRefs.{All-net-refs-keep, Inputs-keep}
use Rattle.gate_sets.proofs.ways.few_gate.Goals as goal

pub by_sums-requires-clause-refs : goal.by_sums-requires-clause-refs
by_sums-requires-clause-refs g c =
    let good = g.met.N.Nodes.diagram in
    All-net-refs-keep (g.N.Nodes.store c.args.nodes.now) (g.N.Nodes.store c.by_table.new.nodes) c.args.nets.now (good c.args.nodes.now) (good c.by_table.new.nodes) c.in_ok-found.ensures.keeps c.requires.refs

pub returns-in_err-found-clause-built : goal.returns-in_err-found-clause-built
returns-in_err-found-clause-built g c = λ sets have.
    let good = g.met.N.Nodes.diagram in
    let s : Store = g.N.Nodes.store c.args.nodes.now in
    let t : Store = g.N.Nodes.store c.by_table.new.nodes in
    let on : List (List Lit) = c.args.rows.now.on.list in
    let off : List (List Lit) = c.args.rows.now.off.list in
    let inputs : List NodeId = c.args.inputs.now in
    let ws : List SymbolicSet = sets_at sets inputs in
    let fault : OpFault = c.in_err-found.field-0.0 in
    let told = by_tables on off ws (length inputs) c.args.tables (length-map inputs (λ (input : NodeId). sets input.0)) c.requires.wide_on c.requires.wide_off c.requires.tables
    s t (Err fault) c.requires.some_on c.requires.some_off (c.in_err-found.ensures.built sets have) in
    pass (gate_work on off ws) (HasSetOrNot (gate_set on off ws)) (HasSet (gate_set on off ws)) s s t fault c.from_residual.result (good c.args.nodes.now) (good c.by_table.new.nodes)
    (So-start (gate_work on off ws) s) told c.from_residual.ensures.1

pub returns-in-Some-clause-built : goal.returns-in-Some-clause-built
returns-in-Some-clause-built g c = λ sets have.
    let s : Store = g.N.Nodes.store c.args.nodes.now in
    let t : Store = g.N.Nodes.store c.by_table.new.nodes in
    let on : List (List Lit) = c.args.rows.now.on.list in
    let off : List (List Lit) = c.args.rows.now.off.list in
    let inputs : List NodeId = c.args.inputs.now in
    let ws : List SymbolicSet = sets_at sets inputs in
    let rails : Rails = c.in-Some.rails in
    let told = by_tables on off ws (length inputs) c.args.tables (length-map inputs (λ (input : NodeId). sets input.0)) c.requires.wide_on c.requires.wide_off c.requires.tables
    s t (Ok c.in_ok-found.found) c.requires.some_on c.requires.some_off (c.in_ok-found.ensures.built sets have) in
    Built-made (gate_work on off ws) (HasSet (gate_set on off ws)) s t rails (first (gate_work on off ws) (HasSetOrNot (gate_set on off ws)) s t (Ok c.in_ok-found.found) told)
    (subst (λ (found : Option Rails). HasSetOrNot (gate_set on off ws) t found) c.in-Some.is told.ok)

pub returns-in-None-clause-built : goal.returns-in-None-clause-built
returns-in-None-clause-built g c = λ sets have.
    let good = g.met.N.Nodes.diagram in
    let s : Store = g.N.Nodes.store c.args.nodes.now in
    let t : Store = g.N.Nodes.store c.by_table.new.nodes in
    let u : Store = g.N.Nodes.store c.by_sums.new.nodes in
    let on : List (List Lit) = c.args.rows.now.on.list in
    let off : List (List Lit) = c.args.rows.now.off.list in
    let inputs : List NodeId = c.args.inputs.now in
    let ws : List SymbolicSet = sets_at sets inputs in
    let told = by_tables on off ws (length inputs) c.args.tables (length-map inputs (λ (input : NodeId). sets input.0)) c.requires.wide_on c.requires.wide_off c.requires.tables
    s t (Ok c.in_ok-found.found) c.requires.some_on c.requires.some_off (c.in_ok-found.ensures.built sets have) in
    last (gate_work on off ws) (HasSet (gate_set on off ws)) s t u c.by_sums.result (good c.by_table.new.nodes) (good c.by_sums.new.nodes)
    (first (gate_work on off ws) (HasSetOrNot (gate_set on off ws)) s t (Ok c.in_ok-found.found) told)
    (c.by_sums.ensures.built sets (Inputs-keep s t sets c.args.nets.now inputs (good c.args.nodes.now) (good c.by_table.new.nodes) c.in_ok-found.ensures.keeps have))
