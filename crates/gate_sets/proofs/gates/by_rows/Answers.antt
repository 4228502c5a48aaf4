use Rattle.std.proofs.Common.{List, Ok, Err}
use Rattle.std.proofs.lemmas.List.Elements.{Contains-append_left, Contains-append_right}
use Rattle.ste_base.specs.Functions.{Function}
use Rattle.dd_nodes.specs.Stores.{Store}
use Rattle.dd_nodes.proofs.Stores.{Means-keeps}
use Rattle.net_core.specs.Work.{SymbolicSet, gate_set, gate_work, row_products, rows_work, sum}
use Rattle.dual_rail.specs.declared.rails.Rails.{Rails}
use Rattle.dual_rail.specs.Rail.{Built, HasFunction, HasSet}
use Rattle.dual_rail.proofs.Works.{So-start, Built-made, Built-wider, first, more, pass}
use Rattle.gate_sets.specs.NetSets.{net_at, sets_at, own_where}
use Rattle.gate_sets.proofs.NetRefs.{own_inputs, Inputs-keep, All-net-refs-keep}
use Rattle.gate_sets.proofs.gates.by_rows.Goals as goal

pub rows_sum-requires-2-clause-refs : goal.rows_sum-requires-2-clause-refs
rows_sum-requires-2-clause-refs g c =
    let s : Store = g.N.Nodes.store c.args.nodes.now in
    let t : Store = g.N.Nodes.store c.rows_sum.new.nodes in
    All-net-refs-keep s t c.args.nets.now (g.met.N.Nodes.diagram c.args.nodes.now) (g.met.N.Nodes.diagram c.rows_sum.new.nodes)
    (c.in_ok-can1.ensures.built (λ id. own_where s (net_at c.args.nets.now id)) (own_inputs s c.args.nets.now c.args.inputs.now c.requires.inside c.requires.refs)).spends.keeps c.requires.refs

pub returns-in_err-can1-clause-built : goal.returns-in_err-can1-clause-built
returns-in_err-can1-clause-built g c = λ sets have.
    let s : Store = g.N.Nodes.store c.args.nodes.now in
    let t : Store = g.N.Nodes.store c.rows_sum.new.nodes in
    let on = c.args.rows.now.on.list in
    let off = c.args.rows.now.off.list in
    let ws : List SymbolicSet = sets_at sets c.args.inputs.now in
    let work : List Function = gate_work on off ws in
    let one : Function = sum (row_products on ws) in
    let fault = c.in_err-can1.field-0.0 in
    pass work (HasFunction one) (HasSet (gate_set on off ws)) s s t fault c.from_residual.result (g.met.N.Nodes.diagram c.args.nodes.now) (g.met.N.Nodes.diagram c.rows_sum.new.nodes) (So-start work s)
    (Built-wider work (rows_work on ws) (HasFunction one) s t (Err fault) (Contains-append_left (rows_work on ws) (rows_work off ws)) (c.in_err-can1.ensures.built sets have)) c.from_residual.ensures.1

pub returns-in_err-can0-clause-built : goal.returns-in_err-can0-clause-built
returns-in_err-can0-clause-built g c = λ sets have.
    let s : Store = g.N.Nodes.store c.args.nodes.now in
    let t : Store = g.N.Nodes.store c.rows_sum.new.nodes in
    let u : Store = g.N.Nodes.store c.rows_sum-2.new.nodes in
    let ds = g.met.N.Nodes.diagram c.args.nodes.now in
    let dt = g.met.N.Nodes.diagram c.rows_sum.new.nodes in
    let on = c.args.rows.now.on.list in
    let off = c.args.rows.now.off.list in
    let ws : List SymbolicSet = sets_at sets c.args.inputs.now in
    let work : List Function = gate_work on off ws in
    let one : Function = sum (row_products on ws) in
    let zero : Function = sum (row_products off ws) in
    let fault = c.in_err-can0.field-0.0 in
    let made : Built work (HasFunction one) s t (Ok c.in_ok-can1.can1) = Built-wider work (rows_work on ws) (HasFunction one) s t (Ok c.in_ok-can1.can1) (Contains-append_left (rows_work on ws) (rows_work off ws)) (c.in_ok-can1.ensures.built sets have) in
    pass work (HasFunction zero) (HasSet (gate_set on off ws)) s t u fault c.from_residual-in_err-can0.result dt (g.met.N.Nodes.diagram c.rows_sum-2.new.nodes) (first work (HasFunction one) s t (Ok c.in_ok-can1.can1) made)
    (Built-wider work (rows_work off ws) (HasFunction zero) t u (Err fault) (Contains-append_right (rows_work on ws) (rows_work off ws))
    (c.in_err-can0.ensures.built sets (Inputs-keep s t sets c.args.nets.now c.args.inputs.now ds dt made.spends.keeps have))) c.from_residual-in_err-can0.ensures.1

pub returns-clause-built : goal.returns-clause-built
returns-clause-built g c = λ sets have.
    let s : Store = g.N.Nodes.store c.args.nodes.now in
    let t : Store = g.N.Nodes.store c.rows_sum.new.nodes in
    let u : Store = g.N.Nodes.store c.rows_sum-2.new.nodes in
    let ds = g.met.N.Nodes.diagram c.args.nodes.now in
    let dt = g.met.N.Nodes.diagram c.rows_sum.new.nodes in
    let du = g.met.N.Nodes.diagram c.rows_sum-2.new.nodes in
    let on = c.args.rows.now.on.list in
    let off = c.args.rows.now.off.list in
    let ws : List SymbolicSet = sets_at sets c.args.inputs.now in
    let work : List Function = gate_work on off ws in
    let one : Function = sum (row_products on ws) in
    let zero : Function = sum (row_products off ws) in
    let can1 = c.in_ok-can1.can1 in
    let can0 = c.in_ok-can0.can0 in
    let rails : Rails = record { can0 = can0; can1 = can1 } in
    let a : Built work (HasFunction one) s t (Ok can1) = Built-wider work (rows_work on ws) (HasFunction one) s t (Ok can1) (Contains-append_left (rows_work on ws) (rows_work off ws)) (c.in_ok-can1.ensures.built sets have) in
    let b : Built work (HasFunction zero) t u (Ok can0) = Built-wider work (rows_work off ws) (HasFunction zero) t u (Ok can0) (Contains-append_right (rows_work on ws) (rows_work off ws))
    (c.in_ok-can0.ensures.built sets (Inputs-keep s t sets c.args.nets.now c.args.inputs.now ds dt a.spends.keeps have)) in
    Built-made work (HasSet (gate_set on off ws)) s u rails (more work (HasFunction zero) s t u (Ok can0) dt du (first work (HasFunction one) s t (Ok can1) a) b)
    (record { zero = b.ok; one = Means-keeps t u one can1 dt du b.spends.keeps a.ok })
